-- Truth at a point depends on what the free variables count as there, and on nothing else.
use Rattle.std.proofs.Common.{ℕ, Bool, true, false, not, ◌≡◌, ◌≢◌, ◌∙◌, inl, inr, refl, sym, ap, ap₂, eqb, [], ◌∷◌, Some, if◌then◌else◌, arith}
use Rattle.std.proofs.lemmas.Bool.Decides.{nat_tests}
use Rattle.qe_tower.specs.Number.{Number, add, mul, whole_number, sign_of}
use Rattle.qe_tower.specs.Point.{Point, look_up, or_zero, number_at}
use Rattle.qe_poly.specs.Monomial.{Monomial}
use Rattle.qe_poly.specs.Polynomial.{Polynomial}
use Rattle.qe_form.specs.Formula.{Formula, Formulas, True, False, Atom, And, Or, Not, Implies, Iff, Ex, All, no_more, more}
use Rattle.qe_form.specs.Value.{power, monomial_value, value}
use Rattle.qe_form.specs.Truth.{has_sign, Is, EachIs, SomeIs}
use Rattle.qe_form.specs.Same.{IsFree, IsFreeInSome}
use Rattle.qe_poly.specs.Occurs.{OccursIn, OccursInSome}

apart_from : (x y : ℕ) → eqb x y ≡ false → x ≢ y
apart_from x y test same = grind (arith, nat_tests)

-- x counts as the same number at both points
abbrev pub Alike : Point → Point → ℕ → Type 0
Alike p q x = number_at p x ≡ number_at q x

monomial_reads : (m : Monomial) (p q : Point) → ((x : ℕ) → OccursIn x m → Alike p q x) → monomial_value m p ≡ monomial_value m q
monomial_reads [] p q h = refl
monomial_reads (a ∷ m) p q h = ap₂ mul (ap (λ v. power v a.exponent) (h a.var.0 (inl refl))) (monomial_reads m p q (λ x o. h x (inr o)))

pub value_reads : (f : Polynomial) (p q : Point) → ((x : ℕ) → OccursInSome x f → Alike p q x) → value f p ≡ value f q
value_reads [] p q h = refl
value_reads (t ∷ ts) p q h = ap₂ add (ap (mul (whole_number t.1)) (monomial_reads t.0 p q (λ x o. h x (inl o)))) (value_reads ts p q (λ x o. h x (inr o)))

-- one more variable, with one number
pub alike_more : (x : ℕ) (f : Formula) (p q : Point) (v : Number) → ((y : ℕ) → (y ≡ x → ⊥) × IsFree y f → Alike p q y) → (y : ℕ) → IsFree y f → Alike ((x, v) ∷ p) ((x, v) ∷ q) y
alike_more x f p q v h y o = by_test (eqb x y) refl
  where
    by_test : (b : Bool) → eqb x y ≡ b → or_zero (if b then Some v else look_up p y) ≡ or_zero (if b then Some v else look_up q y)
    by_test true same = refl
    by_test false apart = h y ((λ e. apart_from x y apart (sym e)), o)

mutual
  pub truth_reads : (f : Formula) (b : Bool) (p q : Point) → ((x : ℕ) → IsFree x f → Alike p q x) → Is f b p → Is f b q
  truth_reads True b p q h t = t
  truth_reads False b p q h t = t
  truth_reads (Atom a) b p q h t = sym (ap (λ v. has_sign a.signs (sign_of v)) (value_reads a.poly p q h)) ∙ t
  truth_reads (And fs) true p q h t = each_reads fs true p q h t
  truth_reads (And fs) false p q h t = some_reads fs false p q h t
  truth_reads (Or fs) true p q h t = some_reads fs true p q h t
  truth_reads (Or fs) false p q h t = each_reads fs false p q h t
  truth_reads (Not f) b p q h t = truth_reads f (not b) p q h t
  truth_reads (Implies f g) true p q h t =
      elim t [ inl a ↦ inl (truth_reads f false p q (λ x o. h x (inl o)) a) | inr a ↦ inr (truth_reads g true p q (λ x o. h x (inr o)) a) ]
  truth_reads (Implies f g) false p q h t =
      (truth_reads f true p q (λ x o. h x (inl o)) t.0, truth_reads g false p q (λ x o. h x (inr o)) t.1)
  truth_reads (Iff f g) true p q h t =
      elim t [
        | inl a ↦ inl (truth_reads f true p q (λ x o. h x (inl o)) a.0, truth_reads g true p q (λ x o. h x (inr o)) a.1)
        | inr a ↦ inr (truth_reads f false p q (λ x o. h x (inl o)) a.0, truth_reads g false p q (λ x o. h x (inr o)) a.1)
      ]
  truth_reads (Iff f g) false p q h t =
      elim t [
        | inl a ↦ inl (truth_reads f true p q (λ x o. h x (inl o)) a.0, truth_reads g false p q (λ x o. h x (inr o)) a.1)
        | inr a ↦ inr (truth_reads f false p q (λ x o. h x (inl o)) a.0, truth_reads g true p q (λ x o. h x (inr o)) a.1)
      ]
  truth_reads (Ex x f) true p q h t = (t.0, t.1, truth_reads f true _ _ (alike_more x f p q t.0 h) t.2)
  truth_reads (Ex x f) false p q h t = λ v k. truth_reads f false _ _ (alike_more x f p q v h) (t v k)
  truth_reads (All x f) true p q h t = λ v k. truth_reads f true _ _ (alike_more x f p q v h) (t v k)
  truth_reads (All x f) false p q h t = (t.0, t.1, truth_reads f false _ _ (alike_more x f p q t.0 h) t.2)

  pub each_reads : (fs : Formulas) (b : Bool) (p q : Point) → ((x : ℕ) → IsFreeInSome x fs → Alike p q x) → EachIs fs b p → EachIs fs b q
  each_reads no_more b p q h t = t
  each_reads (more f fs) b p q h t = (truth_reads f b p q (λ x o. h x (inl o)) t.0, each_reads fs b p q (λ x o. h x (inr o)) t.1)

  pub some_reads : (fs : Formulas) (b : Bool) (p q : Point) → ((x : ℕ) → IsFreeInSome x fs → Alike p q x) → SomeIs fs b p → SomeIs fs b q
  some_reads no_more b p q h t = t
  some_reads (more f fs) b p q h t =
      elim t [ inl a ↦ inl (truth_reads f b p q (λ x o. h x (inl o)) a) | inr a ↦ inr (some_reads fs b p q (λ x o. h x (inr o)) a) ]
