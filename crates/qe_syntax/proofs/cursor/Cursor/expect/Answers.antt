use Rattle.std.proofs.Common.{rules, ◌≡◌, ◌∷◌, List, [], Some, refl}
use Rattle.qe_token.specs.declared.token.Token.{Token}
use Rattle.qe_token.specs.declared.token.Located.{Located}
use Rattle.qe_syntax.specs.Grammar.{with_end}
use Rattle.qe_syntax.specs.Faults.{Tok, head}
use Rattle.qe_syntax.proofs.cursor.Cursor.expect.Goals as goal

other_first : (ts : List Located) (t u : Token) → Some u ≡ head ts → (u ≡ t → ⊥) → (us : List Tok) → with_end ts ≡ Some t ∷ us → ⊥
other_first [] t u h n us e = absurd cc
other_first (l ∷ ls) t u h n us e = n (cc)

pub returns : goal.returns
returns c = (refl, other_first c.args.self.now c.args.token c.in-Some.next c.in-Some.ensures (search rules))
