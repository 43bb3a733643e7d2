-- Without quantifiers truth depends on the numbers of the variables that occur, and on nothing else.
use Rattle.std.proofs.Common.{ℕ, ◌≡◌, ◌∙◌, sym, ap, ap₂, refl, inl, inr, Bool, true, false, not, [], ◌∷◌}
use Rattle.qe_tower.specs.Number.{add, mul, whole_number, number_operations, sign_of}
use Rattle.qe_tower.specs.Point.{Point, number_at}
use Rattle.qe_poly.specs.Monomial.{Monomial}
use Rattle.qe_poly.specs.Polynomial.{Polynomial}
use Rattle.qe_poly.specs.Value as ring
use Rattle.qe_form.specs.Formula.{Formula, Formulas, True, False, Atom, And, Or, Not, Implies, Iff, Ex, All, no_more, more}
use Rattle.qe_form.specs.Value.{value}
use Rattle.qe_form.specs.Truth.{has_sign, Is, EachIs, SomeIs}
use Rattle.qe_form.specs.Same.{HasNoQuantifier, HaveNoQuantifier}
use Rattle.qe_poly.specs.Occurs.{OccursIn, OccursInSome}
use Rattle.qe_form.specs.Measures.{Has, SomeHas}

-- both points give these variables the same numbers
abbrev pub SameOn : (ℕ → Type 0) → Point → Point → Type 0
SameOn Z p q = (x : ℕ) → Z x → number_at p x ≡ number_at q x

monomial_same : (m : Monomial) (p q : Point) → SameOn (λ x. OccursIn x m) p q → ring.monomial_value number_operations (number_at p) m ≡ ring.monomial_value number_operations (number_at q) m
monomial_same [] p q same = refl
monomial_same (a ∷ m) p q same = ap₂ mul (ap (λ v. ring.power_of number_operations v a.exponent) (same a.var.0 (inl refl))) (monomial_same m p q (λ x o. same x (inr o)))

value_same : (r : Polynomial) (p q : Point) → SameOn (λ x. OccursInSome x r) p q → value r p ≡ value r q
value_same [] p q same = refl
value_same (t ∷ ts) p q same = ap₂ add (ap (mul (whole_number t.1)) (monomial_same t.0 p q (λ x o. same x (inl o)))) (value_same ts p q (λ x o. same x (inr o)))

mutual
  -- truth carries over to a point that gives the variables of the formula the same numbers
  pub moved : (f : Formula) → HasNoQuantifier f → (b : Bool) (p q : Point) → SameOn (λ x. Has x f) p q → Is f b p → Is f b q
  moved True none b p q same t = t
  moved False none b p q same t = t
  moved (Atom a) none b p q same t = ap (λ v. has_sign a.signs (sign_of v)) (sym (value_same a.poly p q same)) ∙ t
  moved (And fs) none true p q same t = moved_each fs none true p q same t
  moved (And fs) none false p q same t = moved_some fs none false p q same t
  moved (Or fs) none true p q same t = moved_some fs none true p q same t
  moved (Or fs) none false p q same t = moved_each fs none false p q same t
  moved (Not f) none b p q same t = moved f none (not b) p q same t
  moved (Implies f g) none true p q same t =
      elim t [ inl x ↦ inl (moved f none.0 false p q (λ x o. same x (inl o)) x) | inr y ↦ inr (moved g none.1 true p q (λ x o. same x (inr o)) y) ]
  moved (Implies f g) none false p q same t = (moved f none.0 true p q (λ x o. same x (inl o)) t.0, moved g none.1 false p q (λ x o. same x (inr o)) t.1)
  moved (Iff f g) none true p q same t =
      elim t [
        | inl x ↦ inl (moved f none.0 true p q (λ x o. same x (inl o)) x.0, moved g none.1 true p q (λ x o. same x (inr o)) x.1)
        | inr y ↦ inr (moved f none.0 false p q (λ x o. same x (inl o)) y.0, moved g none.1 false p q (λ x o. same x (inr o)) y.1)
      ]
  moved (Iff f g) none false p q same t =
      elim t [
        | inl x ↦ inl (moved f none.0 true p q (λ x o. same x (inl o)) x.0, moved g none.1 false p q (λ x o. same x (inr o)) x.1)
        | inr y ↦ inr (moved f none.0 false p q (λ x o. same x (inl o)) y.0, moved g none.1 true p q (λ x o. same x (inr o)) y.1)
      ]
  moved (Ex x f) none b p q same t = absurd none
  moved (All x f) none b p q same t = absurd none

  moved_each : (fs : Formulas) → HaveNoQuantifier fs → (b : Bool) (p q : Point) → SameOn (λ x. SomeHas x fs) p q → EachIs fs b p → EachIs fs b q
  moved_each no_more none b p q same t = t
  moved_each (more f fs) none b p q same t = (moved f none.0 b p q (λ x o. same x (inl o)) t.0, moved_each fs none.1 b p q (λ x o. same x (inr o)) t.1)

  moved_some : (fs : Formulas) → HaveNoQuantifier fs → (b : Bool) (p q : Point) → SameOn (λ x. SomeHas x fs) p q → SomeIs fs b p → SomeIs fs b q
  moved_some no_more none b p q same t = t
  moved_some (more f fs) none b p q same t = elim t [ inl x ↦ inl (moved f none.0 b p q (λ x o. same x (inl o)) x) | inr y ↦ inr (moved_some fs none.1 b p q (λ x o. same x (inr o)) y) ]
