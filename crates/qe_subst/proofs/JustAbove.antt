-- What is substituted just above a root reads the sign that the polynomial has there.
use Rattle.std.proofs.Common.{ℕ, zero, suc, ◌≡◌, ◌∙◌, ◌≤◌, ◌<◌, refl, sym, ap, ap₂, subst, ◌&&◌, ◌||◌, pos, Option, [], ◌∷◌, arith}
use Rattle.qe_ring.specs.Expression.{var, nought, unit, constant, of_int, ◌⊕◌, ◌⊗◌}
use Rattle.qe_ring.specs.Ring.{IsRing}
use Rattle.qe_ring.specs.Sign.{Sign, Zero}
use Rattle.qe_ring.proofs.Hypotheses.{fact}
use Rattle.qe_tower.specs.Number.{sign_of, whole_number, Equal, ValidNumber}
use Rattle.qe_tower.specs.Point.{Point, IsPoint}
use Rattle.qe_tower.proofs.ValidNumbers.{ValidEqual, valid_operations, valid_sign, valid_ordered}
use Rattle.qe_line.specs.Place as line
use Rattle.qe_line.specs.Quadratic.{first_sign, slope, sign_at}
use Rattle.qe_line.specs.Numbers.{numbers}
use Rattle.qe_line.proofs.Equal.{quadratic_same}
use Rattle.qe_line.proofs.Field.{same_by, equals_zero, sign_of_zero}
use Rattle.qe_line.proofs.Letters.{A, B, X, Slope}
use Rattle.qe_line.proofs.SignAt.{first_sign-zero, by_derivative}
use Rattle.qe_poly.specs.Polynomial.{Polynomial, IsPolynomial}
use Rattle.qe_poly.specs.Coefficients.{degree_in, coefficient_in, derivative}
use Rattle.qe_poly.specs.Value.{scaled}
use Rattle.qe_poly.proofs.Derivatives.{IsPolynomial-derivative}
use Rattle.qe_form.specs.Making.{both}
use Rattle.qe_form.specs.declared.signs.Signs.{Signs}
use Rattle.qe_form.specs.Signs.{IsProper, equal, strict}
use Rattle.qe_form.specs.Value.{value}
use Rattle.qe_form.specs.Truth.{has_sign}
use Rattle.qe_form.proofs.Values.{value_valid, value_of_multiple}
use Rattle.qe_root.specs.declared.point.RootPoint.{RootPoint}
use Rattle.qe_root.specs.Value.{IsValue}
use Rattle.qe_root.specs.Holds.{OwnIsZero}
use Rattle.qe_subst.specs.Substituted.{at_root, near}
use Rattle.qe_subst.proofs.Derivatives.{degree_of_derivative, coefficient_of_derivative}
use Rattle.qe_subst.proofs.ProperSigns.{equal_proper}
use Rattle.qe_subst.proofs.SignTests.{near_test}
use Rattle.qe_root.proofs.TestFormulas.{Reads, rereads, reads_atom, reads_both, reads_either}
use Rattle.qe_root.proofs.OnLine.{at_number, coefficient, sign_with, no_coefficient}
use Rattle.qe_subst.proofs.OnLine.{sign_at_place, sign_stays}
use Rattle.qe_subst.proofs.AtRoot.{at_root_reads}

abbrev R : IsRing valid_operations ValidEqual
R = valid_ordered.ring

-- equal coefficients give one sign just above a number
above_same : (a b c a' b' c' v : ValidNumber) → ValidEqual a a' → ValidEqual b b' → ValidEqual c c'
    → sign_at valid_operations valid_sign (line.above v) a b c ≡ sign_at valid_operations valid_sign (line.above v) a' b' c'
above_same a b c a' b' c' v same_a same_b same_c =
    ap₂ first_sign (quadratic_same numbers a b c v a' b' c' v same_a same_b same_c (R.same v)) (ap₂ first_sign slope_same (valid_ordered.sign-same a a' same_a))
  where
    slope_same : valid_sign (slope valid_operations a b v) ≡ valid_sign (slope valid_operations a' b' v)
    slope_same = same_by numbers (a ∷ b ∷ v ∷ a' ∷ b' ∷ []) (fact (constant (pos 2) ⊗ var 2) (var 0) (var 3) ∷ fact unit (var 1) (var 4) ∷ [])
        (constant (pos 2) ⊗ var 0 ⊗ var 2 ⊕ var 1) (constant (pos 2) ⊗ var 3 ⊗ var 2 ⊕ var 4) (same_a, (same_b, tt)) refl

module _ (x : ℕ) (p : Point) (valid : IsPoint p) (v : ValidNumber) where
  -- the coefficients of the derivative
  no_quadratic : (f : Polynomial) → IsPolynomial f → degree_in x f ≤ 2 → ValidEqual (coefficient x p valid 2 (derivative x f)) valid_operations.zero
  no_quadratic f canonical low = equals_zero numbers (coefficient x p valid 2 (derivative x f))
      (no_coefficient x p valid 2 (derivative x f) (let d = degree_of_derivative x f canonical in omega (arith, d)))

  twice : (f : Polynomial) → IsPolynomial f → ValidEqual (coefficient x p valid 1 (derivative x f)) (valid_operations.mul (of_int valid_operations (pos 2)) (coefficient x p valid 2 f))
  twice f canonical =
      subst (λ g. Equal (value g p) (valid_operations.mul (of_int valid_operations (pos 2)) (coefficient x p valid 2 f)).0) (sym (coefficient_of_derivative x 1 f canonical))
      (R.then doubled (valid_operations.mul two (coefficient x p valid 2 f)) (valid_operations.mul (of_int valid_operations (pos 2)) (coefficient x p valid 2 f))
      (value_of_multiple (pos 2) (coefficient_in x 2 f) p valid)
      (R.mul-same two (of_int valid_operations (pos 2)) (coefficient x p valid 2 f) (coefficient x p valid 2 f) two_is (R.same (coefficient x p valid 2 f))))
    where
      doubled : ValidNumber
      doubled = (value (scaled (pos 2) (coefficient_in x 2 f)) p, value_valid p valid (scaled (pos 2) (coefficient_in x 2 f)))

      two : ValidNumber
      two = (whole_number (pos 2), tt)

      two_is : ValidEqual two (of_int valid_operations (pos 2))
      two_is = refl

  once : (f : Polynomial) → IsPolynomial f → ValidEqual (coefficient x p valid 0 (derivative x f)) (coefficient x p valid 1 f)
  once f canonical =
      subst (λ g. Equal (value g p) (value (coefficient_in x 1 f) p)) (sym (coefficient_of_derivative x 0 f canonical))
      (R.then (coefficient_scaled) (valid_operations.mul valid_operations.one (coefficient x p valid 1 f)) (coefficient x p valid 1 f)
      (value_of_multiple (pos 1) (coefficient_in x 1 f) p valid)
      (R.then (valid_operations.mul valid_operations.one (coefficient x p valid 1 f)) (valid_operations.mul (coefficient x p valid 1 f) valid_operations.one) (coefficient x p valid 1 f)
      (R.mul-comm valid_operations.one (coefficient x p valid 1 f)) (R.mul-one (coefficient x p valid 1 f))))
    where
      coefficient_scaled : ValidNumber
      coefficient_scaled = (value (scaled (pos 1) (coefficient_in x 1 f)) p, value_valid p valid (scaled (pos 1) (coefficient_in x 1 f)))

  -- without x: the sign of the polynomial
  above_free : (f : Polynomial) → IsPolynomial f → degree_in x f < 1 → sign_at_place x p valid (line.above v) f ≡ sign_of (value f p)
  above_free f canonical low = ap₂ first_sign (sign_stays x p valid f canonical low v) (ap₂ first_sign level (no_coefficient x p valid 2 f (omega arith))) ∙ first_sign-zero (sign_of (value f p))
    where
      a : ValidNumber
      a = coefficient x p valid 2 f

      b : ValidNumber
      b = coefficient x p valid 1 f

      level : valid_sign (slope valid_operations a b v) ≡ Zero
      level = same_by numbers (a ∷ b ∷ v ∷ v ∷ []) (fact (constant (pos 2) ⊗ X) A nought ∷ fact unit B nought ∷ []) Slope nought
          (equals_zero numbers a (no_coefficient x p valid 2 f (omega arith)), (equals_zero numbers b (no_coefficient x p valid 1 f low), tt)) refl
          ∙ sign_of_zero numbers

  -- else the sign at the number, and then that of the derivative just above it
  through_derivative : (f : Polynomial) → IsPolynomial f → degree_in x f ≤ 2
      → sign_at_place x p valid (line.above v) f ≡ first_sign (sign_of (value f (at_number x p valid v))) (sign_at_place x p valid (line.above v) (derivative x f))
  through_derivative f canonical low =
      by_derivative numbers (coefficient x p valid 2 f) (coefficient x p valid 1 f) (coefficient x p valid 0 f) v
      ∙ ap₂ first_sign (sym (sign_with x p valid f canonical low v))
      (sym (above_same (coefficient x p valid 2 (derivative x f)) (coefficient x p valid 1 (derivative x f)) (coefficient x p valid 0 (derivative x f))
      valid_operations.zero (valid_operations.mul (of_int valid_operations (pos 2)) (coefficient x p valid 2 f)) (coefficient x p valid 1 f) v
      (no_quadratic f canonical low) (twice f canonical) (once f canonical)))

  module _ (k : RootPoint) (root : IsValue k p v.0) (own : Option Polynomial) (own_zero : OwnIsZero x own p (line.at v)) (s : Signs) (proper : IsProper (strict s)) where
    pub near_reads : (n : ℕ) (f : Polynomial) → IsPolynomial f → degree_in x f ≡ n → n ≤ 2
        → Reads p (has_sign s (sign_at_place x p valid (line.above v) f)) (near x own k n f s)
    near_reads zero f canonical degree low = reads_atom p f s (sign_at_place x p valid (line.above v) f) (sym (above_free f canonical (omega (arith, degree))))
    near_reads (suc n) f canonical degree low =
        let small : degree_in x f ≤ 2 = omega (arith, degree) in
        let less : degree_in x (derivative x f) ≡ n = (let d = degree_of_derivative x f canonical in omega (arith, d, degree)) in
        let rest = near_reads n (derivative x f) (IsPolynomial-derivative x f canonical) less (omega arith) in
        let here : Sign = sign_of (value f (at_number x p valid v)) in
        let above : Sign = sign_at_place x p valid (line.above v) (derivative x f) in
        rereads p (has_sign (strict s) here || (has_sign equal here && has_sign s above)) (has_sign s (sign_at_place x p valid (line.above v) f))
        (near x own k (suc n) f s) (near_test s here above ∙ ap (has_sign s) (sym (through_derivative f canonical small)))
        (reads_either p (has_sign (strict s) here) (has_sign equal here && has_sign s above) (at_root x own k f (strict s)) (both (at_root x own k f equal) (near x own k n (derivative x f) s))
        (at_root_reads x p valid k v root own own_zero f canonical small (strict s) proper)
        (reads_both p (has_sign equal here) (has_sign s above) (at_root x own k f equal) (near x own k n (derivative x f) s)
        (at_root_reads x p valid k v root own own_zero f canonical small equal equal_proper) rest))
