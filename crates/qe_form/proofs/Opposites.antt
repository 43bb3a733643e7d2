-- The negation is true where the formula is false, and false where it is true.
use Rattle.std.proofs.Common.{◌≡◌, ◌∙◌, refl, sym, ap, subst, Bool, true, false, not, ◌↔◌, inl, inr, List, [], ◌∷◌, ◌++◌}
use Rattle.qe_ring.specs.Sign.{Sign, Minus, Zero, Plus}
use Rattle.qe_tower.specs.Number.{sign_of}
use Rattle.qe_tower.specs.Point.{Point}
use Rattle.qe_form.specs.declared.signs.Signs.{Signs}
use Rattle.qe_form.specs.Signs.{complement}
use Rattle.qe_form.specs.Formula.{Formula, Formulas, True, False, Atom, And, Or, Not, Implies, Iff, Ex, All, no_more, more}
use Rattle.qe_form.specs.Value.{value}
use Rattle.qe_form.specs.Truth.{has_sign, Is, EachIs, SomeIs}
use Rattle.qe_form.specs.Negation.{negated, negated_each, Opposite}
use Rattle.qe_form.specs.declared.form.Form.{Form}
use Rattle.qe_form.specs.Tree.{tree, trees}
use Rattle.qe_form.proofs.Trees.{appended, trees_push}

pub complement_has : (s : Signs) (t : Sign) → has_sign (complement s) t ≡ not (has_sign s t)
complement_has s Minus = refl
complement_has s Zero = refl
complement_has s Plus = refl

pub not_moved : (a b : Bool) → (not a ≡ b) ↔ (a ≡ not b)
not_moved true true = ((λ e. sym e), (λ e. sym e))
not_moved true false = ((λ e. refl), (λ e. refl))
not_moved false true = ((λ e. refl), (λ e. refl))
not_moved false false = ((λ e. sym e), (λ e. sym e))

atom_opposite : (s : Signs) (t : Sign) (b : Bool) → (has_sign (complement s) t ≡ b) ↔ (has_sign s t ≡ not b)
atom_opposite s t b = (λ e. (not_moved (has_sign s t) b).0 (sym (complement_has s t) ∙ e), λ e. complement_has s t ∙ (not_moved (has_sign s t) b).1 e)

-- a formula under Not
under_not : (f : Formula) (p : Point) (b : Bool) → Is (Not f) b p ↔ Is f (not b) p
under_not f p b = ((λ h. h), (λ h. h))

mutual
  pub negated_opposite : (f : Formula) (p : Point) (b : Bool) → Is (negated f) b p ↔ Is f (not b) p
  negated_opposite True p true = ((λ e. sym e), (λ e. sym e))
  negated_opposite True p false = ((λ e. refl), (λ e. refl))
  negated_opposite False p true = ((λ e. refl), (λ e. refl))
  negated_opposite False p false = ((λ e. sym e), (λ e. sym e))
  negated_opposite (Atom a) p b = atom_opposite a.signs (sign_of (value a.poly p)) b
  negated_opposite (And fs) p true = some_opposite fs p true
  negated_opposite (And fs) p false = each_opposite fs p false
  negated_opposite (Or fs) p true = each_opposite fs p true
  negated_opposite (Or fs) p false = some_opposite fs p false
  negated_opposite (Not f) p b = under_not (Not f) p b
  negated_opposite (Implies f g) p b = under_not (Implies f g) p b
  negated_opposite (Iff f g) p b = under_not (Iff f g) p b
  negated_opposite (Ex x f) p b = under_not (Ex x f) p b
  negated_opposite (All x f) p b = under_not (All x f) p b

  each_opposite : (fs : Formulas) (p : Point) (b : Bool) → EachIs (negated_each fs) b p ↔ EachIs fs (not b) p
  each_opposite no_more p b = ((λ h. h), (λ h. h))
  each_opposite (more f fs) p b =
      let first = negated_opposite f p b in
      let rest = each_opposite fs p b in
      ((λ h. (first.0 h.0, rest.0 h.1)), (λ h. (first.1 h.0, rest.1 h.1)))

  some_opposite : (fs : Formulas) (p : Point) (b : Bool) → SomeIs (negated_each fs) b p ↔ SomeIs fs (not b) p
  some_opposite no_more p b = ((λ h. h), (λ h. h))
  some_opposite (more f fs) p b =
      let first = negated_opposite f p b in
      let rest = some_opposite fs p b in (
        λ h. elim h [ inl x ↦ inl (first.0 x) | inr y ↦ inr (rest.0 y) ],
        λ h. elim h [ inl x ↦ inl (first.1 x) | inr y ↦ inr (rest.1 y) ],
      )

pub opposite_from : (f g : Formula) → g ≡ negated f → Opposite f g
opposite_from f g same = subst (Opposite f) (sym same) (negated_opposite f)

-- ---- lists of negations

negated_push : (ts : Formulas) (t : Formula) → negated_each (appended ts t) ≡ appended (negated_each ts) (negated t)
negated_push no_more t = refl
negated_push (more u ts) t = ap (more (negated u)) (negated_push ts t)

-- one more formula and its negation
pub negated_more : (out new done : List Form) (f n : Form) → new ≡ out ++ n ∷ [] → tree n ≡ negated (tree f) → trees out ≡ negated_each (trees done) → trees new ≡ negated_each (trees (done ++ f ∷ []))
negated_more out new done f n is made before =
    ap trees is ∙ (trees_push out n ∙ ((λ i. appended (before i) (made i)) ∙ (sym (negated_push (trees done) (tree f)) ∙ ap negated_each (sym (trees_push done f)))))
