-- A quotient of a multiple.
use Rattle.std.proofs.Common.{ℕ, zero, suc, ◌≡◌, ◌≢◌, ◌<◌, ◌≤◌, ◌*◌, ◌%◌, ◌∙◌, sym, ap, refl, ℤ, pos, negsuc, neg_ℤ, ◌+ℤ◌, ◌*ℤ◌, unsigned_abs, to_z, of_z, arith}
use Rattle.std.proofs.Math.IntN.{+ℤ_idr}
use Rattle.std.proofs.lemmas.Int.{to_z-of_z, quot-rem, quot_is, unsigned_abs-mul, fits_signed_from_abs}
use Rattle.std.specs.Int.{w128}
use Rattle.std.specs.Int.RustNames.{int_div, int_rem}
use Rattle.std.proofs.Math.Nat.{mul-mod_left}
use Rattle.qe_coef.specs.Range.{IsInRange, Divides}

-- the magnitude of a number other than 0 is positive
pub abs_positive : (d : ℤ) → d ≢ pos 0 → 0 < unsigned_abs d
abs_positive (pos zero) h = absurd (h refl)
abs_positive (pos (suc n)) h = omega arith
abs_positive (negsuc n) h = omega arith

int_rem_zero : (a d : ℤ) → unsigned_abs a % unsigned_abs d ≡ 0 → int_rem a d ≡ pos 0
int_rem_zero (pos a) d h = ap pos h
int_rem_zero (negsuc a) d h = ap (λ n. neg_ℤ (pos n)) h

rem_of_multiple : (a d : ℤ) → Divides d a → int_rem a d ≡ pos 0
rem_of_multiple a d h =
    int_rem_zero a d (ap (λ z. unsigned_abs z % unsigned_abs d) h.1 ∙ (ap (λ n. n % unsigned_abs d) (unsigned_abs-mul h.0 d) ∙ mul-mod_left (unsigned_abs h.0) (unsigned_abs d)))

pub exact_quotient : (a d : ℤ) → Divides d a → a ≡ int_div a d *ℤ d
exact_quotient a d h = sym (quot-rem a d) ∙ (ap (λ r. int_div a d *ℤ d +ℤ r) (rem_of_multiple a d h) ∙ +ℤ_idr (int_div a d *ℤ d))

quotient_at_most : (q d a : ℕ) → 0 < d → a ≡ q * d → q ≤ a
quotient_at_most q zero a h e = elim h [ ]
quotient_at_most q (suc d) a h e = omega arith

pub quotient_in_range : (a d : ℤ) → IsInRange a → d ≢ pos 0 → Divides d a → IsInRange (int_div a d)
quotient_in_range a d f n h =
    let e : unsigned_abs a ≡ unsigned_abs (int_div a d) * unsigned_abs d = ap unsigned_abs (exact_quotient a d h) ∙ unsigned_abs-mul (int_div a d) d in
    let l : unsigned_abs (int_div a d) ≤ unsigned_abs a = quotient_at_most (unsigned_abs (int_div a d)) (unsigned_abs d) (unsigned_abs a) (abs_positive d n) e in
    omega arith

-- what the code's `/` gives
pub code_quotient : (a d : ℤ) → IsInRange a → IsInRange d → d ≢ pos 0 → Divides d a → to_z w128 (of_z w128 (int_div (to_z w128 (of_z w128 a)) (to_z w128 (of_z w128 d)))) ≡ int_div a d
code_quotient a d f g n h = quot_is w128 a d (fits_signed_from_abs w128 a f) (fits_signed_from_abs w128 d g) (fits_signed_from_abs w128 (int_div a d) (quotient_in_range a d f n h))

pub as_kept : (z : ℤ) → IsInRange z → to_z w128 (of_z w128 z) ≡ z
as_kept z f = to_z-of_z w128 z (fits_signed_from_abs w128 z f)

abbrev pub code_div : ℤ → ℤ → ℤ
code_div a d = to_z w128 (of_z w128 (int_div (to_z w128 (of_z w128 a)) (to_z w128 (of_z w128 d))))

pub divided : (a d a' d' : ℤ) → a ≡ a' → d ≡ d' → IsInRange a → IsInRange d → d' ≢ pos 0 → Divides d' a' → a' ≡ code_div a d *ℤ d'
divided a d a' d' e f i j n h =
    let n' : d ≢ pos 0 = λ k. n (sym f ∙ k) in
    let h' : Divides d a = (h.0, e ∙ (h.1 ∙ ap (λ x. h.0 *ℤ x) (sym f))) in
    sym e ∙ (exact_quotient a d h' ∙ (ap (λ x. x *ℤ d) (sym (code_quotient a d i j n' h')) ∙ ap (λ x. code_div a d *ℤ x) f))
