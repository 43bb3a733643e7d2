-- What the walk of the code found makes the prenex form.
use Rattle.std.proofs.Common.{ℕ, ◌<◌, ◌≤◌, min, ◌≡◌, ◌∙◌, sym, ap, List, arith}
use Rattle.qe_form.specs.Formula.{Formula}
use Rattle.qe_form.specs.Tree.{tree}
use Rattle.qe_norm.specs.declared.blocks.Prenex.{Prenex}
use Rattle.qe_norm.specs.declared.polarity.Polarity.TheVariants.{Positive}
use Rattle.qe_norm.specs.Blocks.{grouped}
use Rattle.qe_norm.specs.Walk.{size_of, WalkState, begun, opened}
use Rattle.qe_norm.specs.Prenex.{IsPrenexOf, prenex_size}
use Rattle.qe_norm.proofs.Mirrors.{finds, count_normal}

-- from the start s of the walk to its end t
pub assembled : (f : Formula) (names : List (List ℕ)) (p : Prenex) (s t : WalkState) → s ≡ begun names → t ≡ (opened Positive f s).1
    → p.blocks.items ≡ grouped t.prefix → tree p.matrix ≡ (opened Positive f s).0 → p.names ≡ t.walked.names → IsPrenexOf f names p
assembled f names p s t start walked blocks matrix named =
    let found = finds Positive f (begun names) in
    let end : t ≡ (opened Positive f (begun names)).1 = walked ∙ ap (λ u. (opened Positive f u).1) start in
    record {
      blocks = blocks ∙ ap (λ u. grouped u.prefix) end ∙ ap grouped (sym found.prefix);
      matrix = matrix ∙ ap (λ u. (opened Positive f u).0) start ∙ sym found.matrix;
      names = named ∙ ap (λ u. u.walked.names) end ∙ ap (λ w. w.names) (sym found.walked);
    }

-- the count that the code stops at
pub too_large : (f : Formula) (n : ℕ) → n ≡ min 65537 (size_of f) → n ≡ 65537 → 65536 < prenex_size f
too_large f n counted stopped = (let e : prenex_size f ≡ size_of f = count_normal Positive f in omega arith)

pub small_enough : (f : Formula) (n : ℕ) → n ≡ min 65537 (size_of f) → (n ≡ 65537 → ⊥) → prenex_size f ≤ 65536
small_enough f n counted other = (let e : prenex_size f ≡ size_of f = count_normal Positive f in omega arith)
