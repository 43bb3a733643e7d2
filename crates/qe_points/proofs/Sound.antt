-- Where the guard of a candidate is true its point exists, and only variables of its polynomial other than x occur in both.
use Rattle.std.proofs.Common.{ℕ, ◌≡◌, ◌≢◌, ◌≤◌, inl, inr, sym, subst, Bool, true, false, cond, eqb, pos, negsuc, Some, None, Option, Result, Ok, Err, IsErr, IsErrAnd, IfSome, arith}
use Rattle.qe_tower.specs.Point as assignment
use Rattle.qe_tower.specs.Number.{ValidNumber}
use Rattle.qe_line.specs.Place.{Place, below, at, above}
use Rattle.qe_poly.specs.Polynomial.{Polynomial, IsPolynomial, constant, negative, product}
use Rattle.qe_poly.specs.Coefficients.{degree_in, coefficient_in}
use Rattle.qe_poly.specs.Value.{scaled}
use Rattle.qe_poly.specs.declared.limit.PolyLimit.{PolyLimit}
use Rattle.qe_halt.specs.declared.halt.Halt.{Halt}
use Rattle.qe_halt.specs.Outcome.{IsStop, IsOutcome}
use Rattle.qe_form.specs.Formula.{Formula}
use Rattle.qe_form.specs.Plain.{IsPlain}
use Rattle.qe_form.specs.Same.{IsFree}
use Rattle.qe_poly.specs.Occurs.{OccursInSome}
use Rattle.qe_form.specs.Tree.{tree}
use Rattle.qe_form.specs.Truth.{Is}
use Rattle.qe_simp.specs.Meaning.{Keeps}
use Rattle.qe_simp.specs.Shape.{IsSimplified}
use Rattle.qe_simp.proofs.Shapes.{simplified_is_proper}
use Rattle.qe_root.specs.declared.point.RootPoint.{RootPoint}
use Rattle.qe_root.specs.declared.point.Point.{Point}
use Rattle.qe_root.specs.declared.point.Point.TheVariants as point
use Rattle.qe_root.specs.Holds.{StandsAt, OwnIsZero}
use Rattle.qe_root.specs.Occurs.{OccursInRoot, OccursInPoint}
use Rattle.qe_root.specs.Value.{IsValue}
use Rattle.qe_form.specs.Making.{atomic, both}
use Rattle.qe_form.specs.Signs.{equal, not_equal}
use Rattle.qe_poly.specs.Numbers.{is_negative}
use Rattle.qe_points.specs.declared.candidate.Which.{Which}
use Rattle.qe_points.specs.declared.candidate.Which.TheVariants.{Linear, Upper, Lower}
use Rattle.qe_points.specs.declared.candidate.Candidate.{Candidate}
use Rattle.qe_points.specs.declared.candidate.Candidate.TheVariants.{Root}
use Rattle.qe_points.specs.declared.guard.GuardedPoint.{GuardedPoint}
use Rattle.qe_points.specs.declared.guard.RootWithGuard.{RootWithGuard}
use Rattle.qe_points.specs.Guard.{discriminant, root_guard, turned, quadratic_root, root_of_kind, at_or_above}
use Rattle.qe_points.specs.Guarded.{HasKind, HasRoot, IsMade, IsGuardedBy, IsThere, IsSound}
use Rattle.qe_poly.proofs.Occurring.{occurs_coefficient, occurs_negative, occurs_scaled, occurs_difference, occurs_product}
use Rattle.qe_root.proofs.RootValue.{to_value, of_value}
use Rattle.qe_points.proofs.Roots.{turned_value, of_turned, to_root, of_root, guard_flat, root_exists, zero_there}

-- ---- which variables occur

module _ (x : ℕ) (f : Polynomial) (canonical : IsPolynomial f) (y : ℕ) where
  -- another variable, which the polynomial has
  abbrev IsOther : Type 0
  IsOther = (y ≢ x) × OccursInSome y f

  of_coefficient : (k : ℕ) → OccursInSome y (coefficient_in x k f) → IsOther
  of_coefficient k h = occurs_coefficient x y k f canonical h

  of_discriminant : OccursInSome y (discriminant x f) → IsOther
  of_discriminant h = elim (occurs_difference y (product b b) (scaled (pos 4) (product a c)) h) [
    | inl k ↦ elim (occurs_product y b b k) [ inl m ↦ of_coefficient 1 m | inr m ↦ of_coefficient 1 m ]
    | inr k ↦ elim (occurs_product y a c (occurs_scaled y (pos 4) (product a c) k)) [ inl m ↦ of_coefficient 2 m | inr m ↦ of_coefficient 0 m ]
  ]
    where
      a : Polynomial
      a = coefficient_in x 2 f

      b : Polynomial
      b = coefficient_in x 1 f

      c : Polynomial
      c = coefficient_in x 0 f

  of_guard : (which : Which) → IsFree y (root_guard x f which) → IsOther
  of_guard Linear h = by (eqb (degree_in x f) 2) h
    where
      by : (b : Bool) → IsFree y (cond b (both (atomic (coefficient_in x 2 f) equal) (atomic (coefficient_in x 1 f) not_equal)) (atomic (coefficient_in x 1 f) not_equal)) → IsOther
      by true (inl k) = of_coefficient 2 k
      by true (inr (inl k)) = of_coefficient 1 k
      by true (inr (inr k)) = absurd k
      by false k = of_coefficient 1 k
  of_guard Upper (inl k) = of_coefficient 2 k
  of_guard Upper (inr (inl k)) = of_discriminant k
  of_guard Upper (inr (inr k)) = absurd k
  of_guard Lower (inl k) = of_coefficient 2 k
  of_guard Lower (inr (inl k)) = of_discriminant k
  of_guard Lower (inr (inr k)) = absurd k

  of_quadratic_root : (q : Polynomial) → (OccursInSome y q → IsOther) → OccursInRoot y (quadratic_root x f q) → IsOther
  of_quadratic_root q none (inl h) = of_coefficient 1 (occurs_negative y (coefficient_in x 1 f) h)
  of_quadratic_root q none (inr (inl h)) = none h
  of_quadratic_root q none (inr (inr (inl h))) = of_discriminant h
  of_quadratic_root q none (inr (inr (inr h))) = of_coefficient 2 (occurs_scaled y (pos 2) (coefficient_in x 2 f) h)

  of_parts : (which : Which) → OccursInRoot y (root_of_kind x f which) → IsOther
  of_parts Linear (inl h) = of_coefficient 0 (occurs_negative y (coefficient_in x 0 f) h)
  of_parts Linear (inr (inl h)) = absurd h
  of_parts Linear (inr (inr (inl h))) = absurd h
  of_parts Linear (inr (inr (inr h))) = of_coefficient 1 h
  of_parts Upper h = of_quadratic_root (constant (pos 1)) (λ k. elim k [ inl m ↦ absurd m | inr m ↦ absurd m ]) h
  of_parts Lower h = of_quadratic_root (constant (negsuc 0)) (λ k. elim k [ inl m ↦ absurd m | inr m ↦ absurd m ]) h

  turned_has : (k : RootPoint) → OccursInRoot y (turned k) → OccursInRoot y k
  turned_has k = by (is_negative k.s)
    where
      by : (b : Bool) → OccursInRoot y (cond b (record { p = negative k.p; q = negative k.q; r = k.r; s = negative k.s }) k) → OccursInRoot y k
      by true (inl h) = inl (occurs_negative y k.p h)
      by true (inr (inl h)) = inr (inl (occurs_negative y k.q h))
      by true (inr (inr (inl h))) = inr (inr (inl h))
      by true (inr (inr (inr h))) = inr (inr (inr (occurs_negative y k.s h)))
      by false h = h

  of_point : (plus : Bool) (which : Which) → OccursInPoint y (at_or_above plus (turned (root_of_kind x f which))) → IsOther
  of_point true which h = of_parts which (turned_has (root_of_kind x f which) h)
  of_point false which h = of_parts which (turned_has (root_of_kind x f which) h)

-- ---- the point is there

module _ (x : ℕ) (f : Polynomial) (n : ℕ) (which : Which) (canonical : IsPolynomial f) (fits : HasKind x f which) where
  low : degree_in x f ≤ 2
  low = by which fits
    where
      by : (which : Which) → HasKind x f which → degree_in x f ≤ 2
      by Linear fits = fits.1
      by Upper fits = omega arith
      by Lower fits = omega arith

  module _ (p : assignment.Point) (valid : assignment.IsPoint p) (g : Is (root_guard x f which) true p) where
    exists : (v : ValidNumber) × IsValue (turned (root_of_kind x f which)) p v.0
    exists =
        let v = root_exists p valid x f which fits g in
        (v.0, to_value p valid (turned (root_of_kind x f which)) v.0 (turned_value p valid (root_of_kind x f which) v.0 (to_root p valid x f which v.0 v.1)))

    vanishes : (v : ValidNumber) → IsValue (turned (root_of_kind x f which)) p v.0 → OwnIsZero x (Some f) p (at v)
    vanishes v h = zero_there p valid x f which v canonical low
        (of_root p valid x f which v (guard_flat p valid x f which fits g) (of_turned p valid (root_of_kind x f which) v (of_value p valid (turned (root_of_kind x f which)) v h)))

    is_there : (plus : Bool) → IsThere x (Root f n which plus) (at_or_above plus (turned (root_of_kind x f which))) p
    is_there true = record { place = let v = exists in (above v.0, v.1); zero = zero }
      where
        zero : (k : Place ValidNumber) → StandsAt (point.RootPlus (turned (root_of_kind x f which))) p k → OwnIsZero x (Some f) p k
        zero below h = absurd h
        zero (at v) h = absurd h
        zero (above v) h = vanishes v h
    is_there false = record { place = let v = exists in (at v.0, v.1); zero = zero }
      where
        zero : (k : Place ValidNumber) → StandsAt (point.Root (turned (root_of_kind x f which))) p k → OwnIsZero x (Some f) p k
        zero below h = absurd h
        zero (at v) h = vanishes v h
        zero (above v) h = absurd h

  sound_root : (plus : Bool) (g : Formula) → Keeps (root_guard x f which) g → IsSimplified g → IsSound x (Root f n which plus) g (at_or_above plus (turned (root_of_kind x f which)))
  sound_root plus g kept simple = record {
    plain = simplified_is_proper g simple;
    there = λ p valid t. is_there p valid ((kept.agree p valid true).1 t) plus;
    guard-free = λ y h. of_guard x f canonical y which (kept.free y h);
    point-free = λ y h. of_point x f canonical y plus which h;
  }

plain_guard : (x : ℕ) (f : Polynomial) (which : Which) → IsPlain (root_guard x f which)
plain_guard x f Linear = by (eqb (degree_in x f) 2)
  where
    by : (b : Bool) → IsPlain (cond b (both (atomic (coefficient_in x 2 f) equal) (atomic (coefficient_in x 1 f) not_equal)) (atomic (coefficient_in x 1 f) not_equal))
    by true = (tt, (tt, tt))
    by false = tt
plain_guard x f Upper = (tt, (tt, tt))
plain_guard x f Lower = (tt, (tt, tt))

-- what is made is sound
pub made_sound : (x : ℕ) (f : Polynomial) (n : ℕ) (which : Which) (plus : Bool) (guard g : Formula) (p : Point) (k : RootPoint) → IsPolynomial f → HasKind x f which
    → guard ≡ root_guard x f which → k ≡ root_of_kind x f which → p ≡ at_or_above plus (turned k) → Keeps guard g → (IsPlain guard → IsSimplified g) → IsSound x (Root f n which plus) g p
made_sound x f n which plus guard g p k canonical fits guard_is root_is point_is kept simple =
    subst (λ z. IsSound x (Root f n which plus) g z) (sym (subst (λ z. p ≡ at_or_above plus (turned z)) root_is point_is))
    (sound_root x f n which canonical fits plus g (subst (λ z. Keeps z g) guard_is kept) (simple (subst IsPlain (sym guard_is) (plain_guard x f which))))

pub answer_sound : (x : ℕ) (c : Candidate) (f : Polynomial) (n : ℕ) (which : Which) (plus : Bool) (found : RootWithGuard) (o : Option GuardedPoint) → c ≡ Root f n which plus
    → IsPolynomial f → IsMade (root_guard x f which) (root_of_kind x f which) found → IsGuardedBy (tree found.guard) (at_or_above plus (turned found.root)) o
    → IfSome o (λ g. Keeps (tree found.guard) (tree g.guard)) → IfSome o (λ g. IsPlain (tree found.guard) → IsSimplified (tree g.guard))
    → HasRoot x c → IfSome o (λ g. IsSound x c (tree g.guard) g.point)
answer_sound x c f n which plus found None is canonical made guarded kept simple fits = tt
answer_sound x c f n which plus found (Some g) is canonical made guarded kept simple fits =
    subst (λ z. IsSound x z (tree g.guard) g.point) (sym is)
    (made_sound x f n which plus (tree found.guard) (tree g.guard) g.point found.root canonical (subst (λ z. HasRoot x z) is fits) made.0 made.1 guarded.1.1 kept simple)

-- ---- a refusal that is handed on

pub handed_on : {A : Type 0} (met limit : Option PolyLimit) (P : A → Type 0) (result : Result A (Halt PolyLimit)) (stop : Halt PolyLimit) → IsErr result → IsErrAnd result (λ e. e ≡ stop)
    → met ≡ limit → IsStop met stop → IsOutcome limit P result
handed_on met limit P (Ok a) stop failed same is is_stop = absurd (cc)
handed_on met limit P (Err e) stop failed same is is_stop = subst (λ l. IsStop l e) is (subst (λ s. IsStop met s) (sym same) is_stop)
