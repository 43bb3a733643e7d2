-- One turn of the loop over the parts of a formula.
use Rattle.std.proofs.Common.{ℕ, ◌+◌, ◌<◌, ◌≡◌, ◌∙◌, sym, ap, List, length, get_or, drop}
use Rattle.qe_form.specs.declared.form.Form.{Form}
use Rattle.qe_form.specs.Formula.{Formulas, more}
use Rattle.qe_form.specs.Tree.{tree, trees}
use Rattle.qe_form.proofs.Trees.{left_at}
use Rattle.qe_norm.specs.declared.polarity.Polarity.{Polarity}
use Rattle.qe_norm.specs.Walk.{WalkState, opened, opened_each}

module _ (items : List Form) (i : ℕ) (f : Form) (less : i < length items) (is : f ≡ get_or items i f)
    (b : Polarity) (s t : WalkState) (made : t ≡ (opened b (tree f) s).1) where
  -- the parts that are left after the turn
  abbrev after : Formulas
  after = trees (drop (i + 1) items)

  pub state_turn : (opened_each b after t).1 ≡ (opened_each b (trees (drop i items)) s).1
  state_turn = ap (λ u. (opened_each b after u).1) made ∙ ap (λ fs. (opened_each b fs s).1) (sym (left_at items i f less is))

  pub matrix_turn : (opened_each b (trees (drop i items)) s).0 ≡ more (opened b (tree f) s).0 (opened_each b after t).0
  matrix_turn = ap (λ fs. (opened_each b fs s).0) (left_at items i f less is) ∙ ap (λ u. more (opened b (tree f) s).0 (opened_each b after u).0) (sym made)
