-- The values of a candidate's root are the roots of its polynomial, and its guard states that there is one.
use Rattle.std.proofs.Common.{ℕ, zero as nought, suc, ◌≡◌, ◌∙◌, ◌≤◌, ◌<◌, refl, sym, ap, subst, Bool, true, false, cond, eqb, pos, negsuc, [], ◌∷◌, arith}
use Rattle.std.proofs.lemmas.Bool.Decides.{nat_tests}
use Rattle.qe_ring.specs.Ring.{IsRing}
use Rattle.qe_ring.specs.Expression.{of_int, var, unit, ⊖◌}
use Rattle.qe_ring.specs.Sign.{Sign, Minus, Zero, Plus, IsNotMinus, IsNotZero, ◌·◌}
use Rattle.qe_ring.proofs.Hypotheses.{fact}
use Rattle.qe_tower.specs.Number.{whole_number, sign_of, ValidNumber}
use Rattle.qe_tower.specs.Point.{Point, IsPoint}
use Rattle.qe_tower.proofs.ValidNumbers.{valid_operations, valid_sign, ValidEqual, valid_ordered}
use Rattle.qe_line.specs.Quadratic.{Kind, linear, upper, lower, IsRootValue, IsRootOfKind}
use Rattle.qe_line.specs.Quadratic as line
use Rattle.qe_line.specs.Numbers.{numbers}
use Rattle.qe_line.proofs.AtRoot.{zero_at_root}
use Rattle.qe_line.proofs.Equal.{value_same}
use Rattle.qe_line.proofs.Field.{equal_by, two_plus}
use Rattle.qe_line.proofs.Values.{has_value, value_turned}
use Rattle.qe_poly.specs.Polynomial.{Polynomial, IsPolynomial, constant, negative, product}
use Rattle.qe_poly.specs.Coefficients.{degree_in, coefficient_in}
use Rattle.qe_poly.specs.Value.{scaled}
use Rattle.qe_form.specs.Value.{value}
use Rattle.qe_form.specs.Truth.{has_sign, Is}
use Rattle.qe_form.proofs.Values.{value_valid, value_of_sum, value_of_negative, value_of_product, value_of_multiple}
use Rattle.qe_root.specs.declared.point.RootPoint.{RootPoint}
use Rattle.qe_form.specs.Making.{atomic, both}
use Rattle.qe_form.specs.Signs.{equal, not_equal, greater_or_equal}
use Rattle.qe_root.proofs.RootValue.{IsValidRoot}
use Rattle.qe_points.specs.declared.candidate.Which.{Which}
use Rattle.qe_points.specs.declared.candidate.Which.TheVariants.{Linear, Upper, Lower}
use Rattle.qe_points.specs.Guard.{discriminant_by, discriminant, linear_guard, quadratic_guard, root_guard, turned, quadratic_root, root_of_kind}
use Rattle.qe_points.specs.Guarded.{HasKind}
use Rattle.qe_poly.specs.Numbers.{is_negative}
use Rattle.qe_root.proofs.OnLine.{sign_with, no_coefficient}

-- ---- signs

equal_sign : (s : Sign) → has_sign equal s ≡ true → s ≡ Zero
equal_sign Minus h = absurd (cc)
equal_sign Zero h = refl
equal_sign Plus h = absurd (cc)

of_equal_sign : (s : Sign) → s ≡ Zero → has_sign equal s ≡ true
of_equal_sign s h = ap (has_sign equal) h

not_equal_sign : (s : Sign) → has_sign not_equal s ≡ true → IsNotZero s
not_equal_sign Minus h = tt
not_equal_sign Zero h = absurd (cc)
not_equal_sign Plus h = tt

of_not_equal_sign : (s : Sign) → IsNotZero s → has_sign not_equal s ≡ true
of_not_equal_sign Minus h = refl
of_not_equal_sign Zero h = absurd h
of_not_equal_sign Plus h = refl

at_least_sign : (s : Sign) → has_sign greater_or_equal s ≡ true → IsNotMinus s
at_least_sign Minus h = absurd (cc)
at_least_sign Zero h = tt
at_least_sign Plus h = tt

of_at_least_sign : (s : Sign) → IsNotMinus s → has_sign greater_or_equal s ≡ true
of_at_least_sign Minus h = absurd h
of_at_least_sign Zero h = refl
of_at_least_sign Plus h = refl

-- ---- numbers

abbrev R : IsRing valid_operations ValidEqual
R = valid_ordered.ring

open valid_operations use {zero, one, add, neg, mul}

-- the negative of what equals the negative
neg_back : (a b : ValidNumber) → ValidEqual b (neg a) → ValidEqual (neg b) a
neg_back a b h = equal_by numbers (a ∷ b ∷ []) (fact (⊖ unit) (var 1) (⊖ var 0) ∷ []) (⊖ var 1) (var 0) (h, tt) refl

-- twice a number has its sign
twice_sign : (a : ValidNumber) → valid_sign (mul (of_int valid_operations (pos 2)) a) ≡ valid_sign a
twice_sign a = valid_ordered.sign-mul (of_int valid_operations (pos 2)) a ∙ ap (λ t. t · valid_sign a) (two_plus numbers)

-- the kind of a root on the line
abbrev pub kind_of : Which → Kind
kind_of Linear = linear
kind_of Upper = upper
kind_of Lower = lower

module _ (p : Point) (valid : IsPoint p) where
  abbrev pub val : Polynomial → ValidNumber
  val f = (value f p, value_valid p valid f)

  -- ---- a divisor that is a negative number is negated

  negated_is : (f : Polynomial) → ValidEqual (val (negative f)) (neg (val f))
  negated_is f = value_of_negative f p valid

  pub turned_value : (k : RootPoint) (v : ValidNumber) → IsValidRoot p valid k v → IsValidRoot p valid (turned k) v
  turned_value k v h = by (is_negative k.s)
    where
      back : (f : Polynomial) → ValidEqual (neg (val f)) (val (negative f))
      back f = R.back (val (negative f)) (neg (val f)) (negated_is f)

      by : (b : Bool) → IsValidRoot p valid (cond b (record { p = negative k.p; q = negative k.q; r = k.r; s = negative k.s }) k) v
      by true = value_same numbers (neg (val k.p)) (neg (val k.q)) (val k.r) (neg (val k.s)) v (val (negative k.p)) (val (negative k.q)) (val k.r) (val (negative k.s)) v
          (back k.p) (back k.q) (R.same (val k.r)) (back k.s) (R.same v) (value_turned numbers (val k.p) (val k.q) (val k.r) (val k.s) v h)
      by false = h

  pub of_turned : (k : RootPoint) (v : ValidNumber) → IsValidRoot p valid (turned k) v → IsValidRoot p valid k v
  of_turned k v = by (is_negative k.s)
    where
      back : (f : Polynomial) → ValidEqual (neg (val (negative f))) (val f)
      back f = neg_back (val f) (val (negative f)) (negated_is f)

      by : (b : Bool) → IsValidRoot p valid (cond b (record { p = negative k.p; q = negative k.q; r = k.r; s = negative k.s }) k) v → IsValidRoot p valid k v
      by true h = value_same numbers (neg (val (negative k.p))) (neg (val (negative k.q))) (val k.r) (neg (val (negative k.s))) v (val k.p) (val k.q) (val k.r) (val k.s) v
          (back k.p) (back k.q) (R.same (val k.r)) (back k.s) (R.same v)
          (value_turned numbers (val (negative k.p)) (val (negative k.q)) (val k.r) (val (negative k.s)) v h)
      by false h = h

  -- ---- the parts of the roots have the values that they have on the line

  two : ValidNumber
  two = of_int valid_operations (pos 2)

  four : ValidNumber
  four = of_int valid_operations (pos 4)

  double_is : (a : Polynomial) → ValidEqual (val (scaled (pos 2) a)) (mul (of_int valid_operations (pos 2)) (val a))
  double_is a = R.then (val (scaled (pos 2) a)) (mul (whole_number (pos 2), tt) (val a)) (mul (of_int valid_operations (pos 2)) (val a)) (value_of_multiple (pos 2) a p valid)
      (R.mul-same (whole_number (pos 2), tt) (of_int valid_operations (pos 2)) (val a) (val a) refl (R.same (val a)))

  fourfold_is : (a c : Polynomial) → ValidEqual (val (scaled (pos 4) (product a c))) (mul (of_int valid_operations (pos 4)) (mul (val a) (val c)))
  fourfold_is a c = R.then (val (scaled (pos 4) (product a c))) (mul (whole_number (pos 4), tt) (val (product a c))) (mul (of_int valid_operations (pos 4)) (mul (val a) (val c)))
      (value_of_multiple (pos 4) (product a c) p valid)
      (R.mul-same (whole_number (pos 4), tt) (of_int valid_operations (pos 4)) (val (product a c)) (mul (val a) (val c)) refl (value_of_product a c p valid))

  discriminant_is : (a b c : Polynomial) → ValidEqual (val (discriminant_by a b c)) (line.discriminant valid_operations (val a) (val b) (val c))
  discriminant_is a b c =
      R.then (val (discriminant_by a b c)) (add (val (product b b)) (val (negative four_ac))) (add (mul (val b) (val b)) (neg (mul (of_int valid_operations (pos 4)) (mul (val a) (val c)))))
      (value_of_sum (product b b) (negative four_ac) p valid)
      (R.add-same (val (product b b)) (mul (val b) (val b)) (val (negative four_ac)) (neg (mul (of_int valid_operations (pos 4)) (mul (val a) (val c)))) (value_of_product b b p valid)
      (R.then (val (negative four_ac)) (neg (val four_ac)) (neg (mul (of_int valid_operations (pos 4)) (mul (val a) (val c)))) (negated_is four_ac)
      (R.neg-same (val four_ac) (mul (of_int valid_operations (pos 4)) (mul (val a) (val c))) (fourfold_is a c))))
    where
      four_ac : Polynomial
      four_ac = scaled (pos 4) (product a c)

  module _ (x : ℕ) (f : Polynomial) where
    abbrev A : ValidNumber
    A = val (coefficient_in x 2 f)

    abbrev B : ValidNumber
    B = val (coefficient_in x 1 f)

    abbrev C : ValidNumber
    C = val (coefficient_in x 0 f)

    -- v is the root of that kind of the polynomial in x that f is at the point
    abbrev pub IsRootAt : Which → ValidNumber → Type 0
    IsRootAt which v = IsRootOfKind valid_operations valid_sign (kind_of which) A B C v

    to_quadratic : (q : ValidNumber) (g : Polynomial) (v : ValidNumber) → ValidEqual q (val g)
        → IsRootValue valid_operations valid_sign (neg B) q (line.discriminant valid_operations A B C) (mul (of_int valid_operations (pos 2)) A) v → IsValidRoot p valid (quadratic_root x f g) v
    to_quadratic q g v same h = value_same numbers (neg B) q (line.discriminant valid_operations A B C) (mul (of_int valid_operations (pos 2)) A) v
        (val (negative (coefficient_in x 1 f))) (val g) (val (discriminant x f)) (val (scaled (pos 2) (coefficient_in x 2 f))) v
        (R.back (val (negative (coefficient_in x 1 f))) (neg B) (negated_is (coefficient_in x 1 f))) same
        (R.back (val (discriminant x f)) (line.discriminant valid_operations A B C) (discriminant_is (coefficient_in x 2 f) (coefficient_in x 1 f) (coefficient_in x 0 f)))
        (R.back (val (scaled (pos 2) (coefficient_in x 2 f))) (mul (of_int valid_operations (pos 2)) A) (double_is (coefficient_in x 2 f))) (R.same v) h

    of_quadratic : (q : ValidNumber) (g : Polynomial) (v : ValidNumber) → ValidEqual (val g) q
        → IsValidRoot p valid (quadratic_root x f g) v → IsRootValue valid_operations valid_sign (neg B) q (line.discriminant valid_operations A B C) (mul (of_int valid_operations (pos 2)) A) v
    of_quadratic q g v same h = value_same numbers
        (val (negative (coefficient_in x 1 f))) (val g) (val (discriminant x f)) (val (scaled (pos 2) (coefficient_in x 2 f))) v
        (neg B) q (line.discriminant valid_operations A B C) (mul (of_int valid_operations (pos 2)) A) v
        (negated_is (coefficient_in x 1 f)) same (discriminant_is (coefficient_in x 2 f) (coefficient_in x 1 f) (coefficient_in x 0 f)) (double_is (coefficient_in x 2 f)) (R.same v) h

    -- so it is a value of the candidate's root
    pub to_root : (which : Which) (v : ValidNumber) → IsRootAt which v → IsValidRoot p valid (root_of_kind x f which) v
    to_root Linear v h = value_same numbers (neg C) zero zero B v (val (negative (coefficient_in x 0 f))) (val []) (val []) B v
        (R.back (val (negative (coefficient_in x 0 f))) (neg C) (negated_is (coefficient_in x 0 f))) refl refl (R.same B) (R.same v) h.1
    to_root Upper v h = to_quadratic one (constant (pos 1)) v refl h
    to_root Lower v h = to_quadratic (neg one) (constant (negsuc 0)) v refl h

    -- where a is zero if the kind is linear
    abbrev pub IsFlat : Which → Type 0
    IsFlat Linear = valid_sign A ≡ Zero
    IsFlat Upper = Unit {0}
    IsFlat Lower = Unit {0}

    -- and the other way
    pub of_root : (which : Which) (v : ValidNumber) → IsFlat which → IsValidRoot p valid (root_of_kind x f which) v → IsRootAt which v
    of_root Linear v flat h = (
      flat,
      value_same numbers (val (negative (coefficient_in x 0 f))) (val []) (val []) B v (neg C) zero zero B v
          (negated_is (coefficient_in x 0 f)) refl refl (R.same B) (R.same v) h,
    )
    of_root Upper v flat h = of_quadratic one (constant (pos 1)) v refl h
    of_root Lower v flat h = of_quadratic (neg one) (constant (negsuc 0)) v refl h

    -- ---- the guard

    half : (a : ValidNumber) → IsNotZero (valid_sign (mul (of_int valid_operations (pos 2)) a)) → IsNotZero (valid_sign a)
    half a h = subst (λ s. IsNotZero s) (twice_sign a) h

    double : (a : ValidNumber) → IsNotZero (valid_sign a) → IsNotZero (valid_sign (mul (of_int valid_operations (pos 2)) a))
    double a h = subst (λ s. IsNotZero s) (sym (twice_sign a)) h

    radicand_is : valid_sign (val (discriminant x f)) ≡ valid_sign (line.discriminant valid_operations A B C)
    radicand_is = valid_ordered.sign-same (val (discriminant x f)) (line.discriminant valid_operations A B C)
        (discriminant_is (coefficient_in x 2 f) (coefficient_in x 1 f) (coefficient_in x 0 f))

    clash : {P : Type 0} (s : Sign) → IsNotZero s → s ≡ Zero → P
    clash s h e = absurd (subst (λ t. IsNotZero t) e h)

    degree_two : degree_in x f ≤ 2 → IsNotZero (valid_sign A) → degree_in x f ≡ 2
    degree_two low a = by (degree_in x f) refl low
      where
        by : (n : ℕ) → degree_in x f ≡ n → n ≤ 2 → degree_in x f ≡ 2
        by nought e l = clash (valid_sign A) a (no_coefficient x p valid 2 f (omega arith))
        by (suc nought) e l = clash (valid_sign A) a (no_coefficient x p valid 2 f (omega arith))
        by (suc (suc nought)) e l = e
        by (suc (suc (suc n))) e l = absurd (omega arith)

    -- a polynomial with such a root has the degree of its kind
    pub has_degree : (which : Which) (v : ValidNumber) → degree_in x f ≤ 2 → IsRootAt which v → HasKind x f which
    has_degree Linear v low h = (positive (degree_in x f) refl, low)
      where
        positive : (n : ℕ) → degree_in x f ≡ n → 0 < n
        positive nought none = clash (valid_sign B) h.1.divisor (no_coefficient x p valid 1 f (omega arith))
        positive (suc n) some = omega arith
    has_degree Upper v low h = degree_two low (half A h.divisor)
    has_degree Lower v low h = degree_two low (half A h.divisor)

    -- where there is such a root the guard is true
    pub guard_true : (which : Which) (v : ValidNumber) → IsRootAt which v → Is (root_guard x f which) true p
    guard_true Linear v h = by (eqb (degree_in x f) 2)
      where
        leading : has_sign not_equal (valid_sign B) ≡ true
        leading = of_not_equal_sign (valid_sign B) h.1.divisor

        by : (b : Bool) → Is (cond b (both (atomic (coefficient_in x 2 f) equal) (atomic (coefficient_in x 1 f) not_equal)) (atomic (coefficient_in x 1 f) not_equal)) true p
        by true = (of_equal_sign (valid_sign A) h.0, (leading, tt))
        by false = leading
    guard_true Upper v h =
        (of_not_equal_sign (valid_sign A) (half A h.divisor), (of_at_least_sign (valid_sign (val (discriminant x f))) (subst (λ s. IsNotMinus s) (sym radicand_is) h.radicand), tt))
    guard_true Lower v h =
        (of_not_equal_sign (valid_sign A) (half A h.divisor), (of_at_least_sign (valid_sign (val (discriminant x f))) (subst (λ s. IsNotMinus s) (sym radicand_is) h.radicand), tt))

    -- what a true guard of a linear root says
    linear_says : degree_in x f ≤ 2 → Is (linear_guard x f) true p → (valid_sign A ≡ Zero) × IsNotZero (valid_sign B)
    linear_says low g = by (eqb (degree_in x f) 2) refl g
      where
        below_two : (n : ℕ) → n ≤ 2 → eqb n 2 ≡ false → n < 2
        below_two n l test = grind (arith, nat_tests)

        by : (b : Bool) → eqb (degree_in x f) 2 ≡ b
            → Is (cond b (both (atomic (coefficient_in x 2 f) equal) (atomic (coefficient_in x 1 f) not_equal)) (atomic (coefficient_in x 1 f) not_equal)) true p
            → (valid_sign A ≡ Zero) × IsNotZero (valid_sign B)
        by true test h = (equal_sign (valid_sign A) h.0, not_equal_sign (valid_sign B) h.1.0)
        by false test h = (no_coefficient x p valid 2 f (below_two (degree_in x f) low test), not_equal_sign (valid_sign B) h)

    quadratic_says : Is (quadratic_guard x f) true p → IsNotZero (valid_sign A) × IsNotMinus (valid_sign (line.discriminant valid_operations A B C))
    quadratic_says g = (not_equal_sign (valid_sign A) g.0, subst (λ s. IsNotMinus s) radicand_is (at_least_sign (valid_sign (val (discriminant x f))) g.1.0))

    at_most_two : (which : Which) → HasKind x f which → degree_in x f ≤ 2
    at_most_two Linear fits = fits.1
    at_most_two Upper fits = omega arith
    at_most_two Lower fits = omega arith

    pub guard_flat : (which : Which) → HasKind x f which → Is (root_guard x f which) true p → IsFlat which
    guard_flat Linear fits g = (linear_says fits.1 g).0
    guard_flat Upper fits g = tt
    guard_flat Lower fits g = tt

    -- so where it is true there is such a root
    pub root_exists : (which : Which) → HasKind x f which → Is (root_guard x f which) true p → (v : ValidNumber) × IsRootAt which v
    root_exists Linear fits g =
        let says = linear_says fits.1 g in
        let found = has_value numbers (neg C) zero zero B says.1 tt in (found.0, (says.0, found.1))
    root_exists Upper fits g = let says = quadratic_says g in has_value numbers (neg B) one (line.discriminant valid_operations A B C) (mul (of_int valid_operations (pos 2)) A) (double A says.0) says.1
    root_exists Lower fits g = let says = quadratic_says g in has_value numbers (neg B) (neg one) (line.discriminant valid_operations A B C) (mul (of_int valid_operations (pos 2)) A) (double A says.0) says.1

    -- the polynomial is zero at its roots
    pub zero_there : (which : Which) (v : ValidNumber) → IsPolynomial f → degree_in x f ≤ 2 → IsRootAt which v → sign_of (value f ((x, v.0) ∷ p)) ≡ Zero
    zero_there which v canonical low h = sign_with x p valid f canonical low v ∙ zero_at_root numbers A B C v (kind_of which, h)
