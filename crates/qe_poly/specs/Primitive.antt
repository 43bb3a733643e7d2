-- The primitive polynomial: the coefficients divided by their greatest common divisor, with a positive leading one.
use Rattle.std.specs.Prelude.{ℕ, zero, suc, ◌<◌, ◌%◌, eqb, ℤ, pos, neg_ℤ, unsigned_abs, Bool, true, false, cond, [], ◌∷◌, map, ◌≡◌, ◌↔◌}
use Rattle.std.specs.List.{list_all}
use Rattle.std.specs.Int.{◌∣◌}
use Rattle.std.specs.Int.RustNames.{int_div, int_lt}
use Rattle.qe_poly.specs.Polynomial.{Polynomial}
use Rattle.qe_poly.specs.Value.{scaled}

-- the number divides each coefficient
abbrev pub divides_each : ℕ → Polynomial → Bool
divides_each d p = list_all (λ t. eqb (unsigned_abs t.1 % d) 0) p

-- the greatest number, at most n, that divides each coefficient
abbrev pub greatest_divisor : ℕ → Polynomial → ℕ
greatest_divisor zero p = 0
greatest_divisor (suc n) p = cond (divides_each (suc n) p) (suc n) (greatest_divisor n p)

-- the greatest common divisor of the coefficients, 0 where there is none
abbrev pub content : Polynomial → ℕ
content [] = 0
content (t ∷ ts) = greatest_divisor (unsigned_abs t.1) (t ∷ ts)

-- the leading coefficient is negative
abbrev pub leads_negative : Polynomial → Bool
leads_negative [] = false
leads_negative (t ∷ ts) = int_lt t.1 (pos 0)

-- the number, negated where it is told so
abbrev pub negated_if : Bool → ℕ → ℤ
negated_if true n = neg_ℤ (pos n)
negated_if false n = pos n

-- each coefficient divided by a number
abbrev pub divided : ℤ → Polynomial → Polynomial
divided d p = map (λ t. (t.0, int_div t.1 d)) p

-- each coefficient divided by the content, with the sign of the leading one
abbrev pub primitive : Polynomial → Polynomial
primitive p = divided (negated_if (leads_negative p) (content p)) p

-- p is q times a positive number, or a negative one where it is told so
abbrev pub IsMultiple : Polynomial → Polynomial → Bool → Type 0
IsMultiple p q negated = (k : ℕ) × (0 < k) × (p ≡ scaled (negated_if negated k) q)

-- ---- what the code keeps

-- the number divides each coefficient
abbrev pub DividesEach : ℕ → Polynomial → Type 0
DividesEach d [] = Unit {0}
DividesEach d (t ∷ ts) = (d ∣ unsigned_abs t.1) × DividesEach d ts

-- the divisors of g are the numbers that divide each coefficient
abbrev pub IsContent : ℕ → Polynomial → Type 0
IsContent g p = (d : ℕ) → (d ∣ g) ↔ DividesEach d p

-- it is its own primitive polynomial
abbrev pub IsOwnPrimitive : Polynomial → Type 0
IsOwnPrimitive p = (primitive p ≡ p) × (leads_negative p ≡ false) × IsMultiple p p false
