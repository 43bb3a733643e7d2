-- The law that the text of a formula stands for the formula again, stated.
use Rattle.std.specs.Prelude.{ℕ, ◌<◌, ◌≡◌, false, List, [], ◌∷◌, length}
use Rattle.std.specs.List.{Contains}
use Rattle.qe_token.specs.declared.token.Located.{Located}
use Rattle.qe_token.specs.Tokens.{AreTokens}
use Rattle.qe_syntax.specs.Grammar.{Occurrence, input, tokens_of, with_end}
use Rattle.qe_syntax.specs.Grammar as grammar
use Rattle.qe_syntax.specs.Faults.{is_deep}
use Rattle.qe_form.specs.Formula.{Formula}
use Rattle.qe_form.specs.Measures.{Has}
use Rattle.qe_read.specs.Names.{Letters}
use Rattle.qe_read.specs.Numbered.{binders}
use Rattle.qe_read.specs.Input.{IsInput}
use Rattle.qe_print.specs.Formula.{formula_text}

-- each name that no quantifier binds is that of a variable in a polynomial
abbrev pub FreeNamesOccur : Formula → List Letters → Type 0
FreeNamesOccur f names = (x : ℕ) → x < length names → (Contains (binders f) x → ⊥) → Has x f

-- none of the tokens opens a level while 256 are open
abbrev pub AreShallow : List Occurrence → Type 0
AreShallow [] = Unit {0}
AreShallow (m ∷ ms) = (is_deep m.opens ≡ false) × AreShallow ms

-- the tokens of the bytes, as the grammar derives them, open at most 256 levels
abbrev pub OpensFewLevels : List ℕ → Type 0
OpensFewLevels bytes = (tokens : List Located) (derived : grammar.Formula) → AreTokens 0 bytes tokens → tokens_of (input derived) ≡ with_end tokens → AreShallow (input derived)

-- Where bytes stand for a formula with names, so does the text of the formula, for the same formula with the same names.
-- The text is to open few levels, and each free name is to occur in it.
abbrev pub ReadsAgain : Type 0
ReadsAgain = (bytes : List ℕ) (f : Formula) (names : List Letters) → IsInput bytes f names → FreeNamesOccur f names → OpensFewLevels (formula_text names f) → IsInput (formula_text names f) f names
