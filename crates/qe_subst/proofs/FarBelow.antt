-- What is substituted below all numbers, and where a polynomial is zero only if it is zero everywhere, reads the sign there.
use Rattle.std.proofs.Common.{ℕ, zero, suc, ◌≡◌, ◌∙◌, ◌≤◌, ◌<◌, refl, sym, ap, Bool, true, false, cond, eqb, ◌&&◌, ◌||◌, arith}
use Rattle.std.proofs.lemmas.Bool.{eqb-true}
use Rattle.qe_ring.specs.Sign.{Sign, Zero, is, opposite}
use Rattle.qe_tower.specs.Point.{Point, IsPoint}
use Rattle.qe_tower.proofs.ValidNumbers.{valid_sign}
use Rattle.qe_line.specs.Place as line
use Rattle.qe_line.specs.Quadratic.{first_sign}
use Rattle.qe_poly.specs.Polynomial.{Polynomial}
use Rattle.qe_poly.specs.Coefficients.{degree_in, coefficient_in}
use Rattle.qe_form.specs.Making.{atomic, both}
use Rattle.qe_form.specs.declared.signs.Signs.{Signs}
use Rattle.qe_form.specs.Signs.{IsProper, mirror, equal, is_even, not_equal, strict}
use Rattle.qe_form.specs.Formula.{And, Or, no_more, more}
use Rattle.qe_form.specs.Truth.{has_sign}
use Rattle.qe_subst.specs.Substituted.{each_coefficient, everywhere, line_below, constant_below, quadratic_below, at_minus_infinity}
use Rattle.qe_subst.proofs.SignTests.{line_test, quadratic_test, each_zero, some_not_zero, zero_below}
use Rattle.qe_root.proofs.TestFormulas.{Reads, rereads, reads_atom, and_more, or_more, reads_both, reads_either}
use Rattle.qe_root.proofs.OnLine.{coefficient, no_coefficient}
use Rattle.qe_subst.proofs.OnLine.{sign_at_place}

-- of the sets that are neither empty nor full
even_sets : (P : Signs → Type 0) → P equal → P not_equal → (s : Signs) → IsProper s → is_even s ≡ true → P s
even_sets P one other s proper even = by_sets s.minus s.zero s.plus proper even
  where
    by_sets : (minus none plus : Bool) → IsProper (record { minus = minus; zero = none; plus = plus }) → is_even (record { minus = minus; zero = none; plus = plus }) ≡ true
        → P (record { minus = minus; zero = none; plus = plus })
    by_sets true true true proper even = absurd (omega arith)
    by_sets true false true proper even = other
    by_sets false true false proper even = one
    by_sets false false false proper even = absurd (omega arith)
    by_sets true none false proper even = absurd (cc)
    by_sets false none true proper even = absurd (cc)

module _ (x : ℕ) (p : Point) (valid : IsPoint p) (f : Polynomial) where
  abbrev sign : ℕ → Sign
  sign i = valid_sign (coefficient x p valid i f)

  coefficient_reads : (i : ℕ) (s : Signs) → Reads p (has_sign s (sign i)) (atomic (coefficient_in x i f) s)
  coefficient_reads i s = reads_atom p (coefficient_in x i f) s (sign i) refl

  -- ---- by the coefficients, whichever sign t it is that is zero only where they all are

  module _ (t : Sign) (same : is t Zero ≡ (is (sign 2) Zero && (is (sign 1) Zero && is (sign 0) Zero))) where
    -- of degree one
    flat : sign 2 ≡ Zero → is t Zero ≡ (is Zero Zero && (is (sign 1) Zero && is (sign 0) Zero))
    flat none = same ∙ ap (λ y. is y Zero && (is (sign 1) Zero && is (sign 0) Zero)) none

    each_is_zero : (n : ℕ) → degree_in x f ≡ n → 0 < n → n ≤ 2 → Reads p (has_sign equal t) (And (each_coefficient x n f equal))
    each_is_zero zero degree positive low = absurd (omega arith)
    each_is_zero (suc zero) degree positive low =
        rereads p (has_sign equal (sign 1) && has_sign equal (sign 0)) (has_sign equal t) (And (each_coefficient x 1 f equal))
        (each_zero t Zero (sign 1) (sign 0) (flat (no_coefficient x p valid 2 f (omega (arith, degree)))))
        (reads_both p (has_sign equal (sign 1)) (has_sign equal (sign 0)) (atomic (coefficient_in x 1 f) equal) (atomic (coefficient_in x 0 f) equal) (coefficient_reads 1 equal) (coefficient_reads 0 equal))
    each_is_zero (suc (suc zero)) degree positive low =
        rereads p (has_sign equal (sign 2) && (has_sign equal (sign 1) && has_sign equal (sign 0))) (has_sign equal t) (And (each_coefficient x 2 f equal))
        (each_zero t (sign 2) (sign 1) (sign 0) same)
        (and_more p (has_sign equal (sign 2)) (has_sign equal (sign 1) && has_sign equal (sign 0)) (atomic (coefficient_in x 2 f) equal) (each_coefficient x 1 f equal) (coefficient_reads 2 equal)
        (reads_both p (has_sign equal (sign 1)) (has_sign equal (sign 0)) (atomic (coefficient_in x 1 f) equal) (atomic (coefficient_in x 0 f) equal) (coefficient_reads 1 equal) (coefficient_reads 0 equal)))
    each_is_zero (suc (suc (suc n))) degree positive low = absurd (omega arith)

    some_is_not : (n : ℕ) → degree_in x f ≡ n → 0 < n → n ≤ 2 → Reads p (has_sign not_equal t) (Or (each_coefficient x n f not_equal))
    some_is_not zero degree positive low = absurd (omega arith)
    some_is_not (suc zero) degree positive low =
        rereads p (has_sign not_equal (sign 1) || has_sign not_equal (sign 0)) (has_sign not_equal t) (Or (each_coefficient x 1 f not_equal))
        (some_not_zero t Zero (sign 1) (sign 0) (flat (no_coefficient x p valid 2 f (omega (arith, degree)))))
        (reads_either p (has_sign not_equal (sign 1)) (has_sign not_equal (sign 0)) (atomic (coefficient_in x 1 f) not_equal) (atomic (coefficient_in x 0 f) not_equal) (coefficient_reads 1 not_equal) (coefficient_reads 0 not_equal))
    some_is_not (suc (suc zero)) degree positive low =
        rereads p (has_sign not_equal (sign 2) || (has_sign not_equal (sign 1) || has_sign not_equal (sign 0))) (has_sign not_equal t) (Or (each_coefficient x 2 f not_equal))
        (some_not_zero t (sign 2) (sign 1) (sign 0) same)
        (or_more p (has_sign not_equal (sign 2)) (has_sign not_equal (sign 1) || has_sign not_equal (sign 0)) (atomic (coefficient_in x 2 f) not_equal) (each_coefficient x 1 f not_equal) (coefficient_reads 2 not_equal)
        (reads_either p (has_sign not_equal (sign 1)) (has_sign not_equal (sign 0)) (atomic (coefficient_in x 1 f) not_equal) (atomic (coefficient_in x 0 f) not_equal) (coefficient_reads 1 not_equal) (coefficient_reads 0 not_equal)))
    some_is_not (suc (suc (suc n))) degree positive low = absurd (omega arith)

    pub everywhere_reads : (s : Signs) → IsProper s → is_even s ≡ true → 0 < degree_in x f → degree_in x f ≤ 2 → Reads p (has_sign s t) (everywhere x f s)
    everywhere_reads s proper even positive low =
        even_sets (λ s. Reads p (has_sign s t) (everywhere x f s)) (each_is_zero (degree_in x f) refl positive low) (some_is_not (degree_in x f) refl positive low) s proper even

  -- ---- below all numbers

  line_reads : (s : Signs) → sign 2 ≡ Zero → Reads p (has_sign s (sign_at_place x p valid line.below f)) (line_below x f s)
  line_reads s none =
      rereads p (has_sign (mirror (strict s)) (sign 1) || (has_sign equal (sign 1) && has_sign s (sign 0))) (has_sign s (sign_at_place x p valid line.below f)) (line_below x f s)
      (line_test s (sign 1) (sign 0) ∙ ap (λ y. has_sign s (first_sign y (first_sign (opposite (sign 1)) (sign 0)))) (sym none))
      (reads_either p (has_sign (mirror (strict s)) (sign 1)) (has_sign equal (sign 1) && has_sign s (sign 0))
      (atomic (coefficient_in x 1 f) (mirror (strict s))) (both (atomic (coefficient_in x 1 f) equal) (atomic (coefficient_in x 0 f) s)) (coefficient_reads 1 (mirror (strict s)))
      (reads_both p (has_sign equal (sign 1)) (has_sign s (sign 0)) (atomic (coefficient_in x 1 f) equal) (atomic (coefficient_in x 0 f) s) (coefficient_reads 1 equal) (coefficient_reads 0 s)))

  quadratic_reads : (s : Signs) → Reads p (has_sign s (sign_at_place x p valid line.below f)) (quadratic_below x f s)
  quadratic_reads s =
      rereads p
      (has_sign (strict s) (sign 2) || ((has_sign equal (sign 2) && has_sign (mirror (strict s)) (sign 1)) || (has_sign equal (sign 2) && (has_sign equal (sign 1) && has_sign s (sign 0)))))
      (has_sign s (sign_at_place x p valid line.below f)) (quadratic_below x f s) (quadratic_test s (sign 2) (sign 1) (sign 0))
      (or_more p (has_sign (strict s) (sign 2)) ((has_sign equal (sign 2) && has_sign (mirror (strict s)) (sign 1)) || (has_sign equal (sign 2) && (has_sign equal (sign 1) && has_sign s (sign 0))))
      (atomic (coefficient_in x 2 f) (strict s)) (more (both (atomic (coefficient_in x 2 f) equal) (atomic (coefficient_in x 1 f) (mirror (strict s)))) (more (constant_below x f s) no_more)) (coefficient_reads 2 (strict s))
      (reads_either p (has_sign equal (sign 2) && has_sign (mirror (strict s)) (sign 1)) (has_sign equal (sign 2) && (has_sign equal (sign 1) && has_sign s (sign 0)))
      (both (atomic (coefficient_in x 2 f) equal) (atomic (coefficient_in x 1 f) (mirror (strict s)))) (constant_below x f s)
      (reads_both p (has_sign equal (sign 2)) (has_sign (mirror (strict s)) (sign 1)) (atomic (coefficient_in x 2 f) equal) (atomic (coefficient_in x 1 f) (mirror (strict s))) (coefficient_reads 2 equal) (coefficient_reads 1 (mirror (strict s))))
      (and_more p (has_sign equal (sign 2)) (has_sign equal (sign 1) && has_sign s (sign 0)) (atomic (coefficient_in x 2 f) equal) (more (atomic (coefficient_in x 1 f) equal) (more (atomic (coefficient_in x 0 f) s) no_more)) (coefficient_reads 2 equal)
      (reads_both p (has_sign equal (sign 1)) (has_sign s (sign 0)) (atomic (coefficient_in x 1 f) equal) (atomic (coefficient_in x 0 f) s) (coefficient_reads 1 equal) (coefficient_reads 0 s)))))

  pub below_reads : (s : Signs) → IsProper s → 0 < degree_in x f → degree_in x f ≤ 2 → Reads p (has_sign s (sign_at_place x p valid line.below f)) (at_minus_infinity x f s)
  below_reads s proper positive low =
      elim (is_even s) as (λ b. is_even s ≡ b → Reads p (has_sign s (sign_at_place x p valid line.below f)) (cond b (everywhere x f s) (cond (eqb (degree_in x f) 1) (line_below x f s) (quadratic_below x f s)))) [
        | true ↦ λ even. everywhere_reads (sign_at_place x p valid line.below f) (zero_below (sign 2) (sign 1) (sign 0)) s proper even positive low
        | false ↦ λ uneven. elim (eqb (degree_in x f) 1) as (λ b. eqb (degree_in x f) 1 ≡ b → Reads p (has_sign s (sign_at_place x p valid line.below f)) (cond b (line_below x f s) (quadratic_below x f s))) [
          | true ↦ λ one. line_reads s (no_coefficient x p valid 2 f (let d = eqb-true (degree_in x f) 1 one in omega (arith, d)))
          | false ↦ λ other. quadratic_reads s
        ] refl
      ] refl
