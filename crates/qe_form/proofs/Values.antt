-- The laws of values at points of numbers, from those of values in a ring.
use Rattle.std.proofs.Common.{◌≡◌, refl, ap, ap₂, subst, ℕ, zero, suc, ◌≤◌, true, false, cond, eqb, List, [], ◌∷◌, Some, if◌then◌else◌, ℤ}
use Rattle.qe_ring.specs.Ring.{IsRing}
use Rattle.qe_tower.specs.Number.{Number, IsNumber, add, mul, neg, whole_number, number_operations, Equal, ValidNumber}
use Rattle.qe_tower.specs.Point.{Point, IsPoint, look_up, or_zero, number_at}
use Rattle.qe_tower.proofs.ValidNumbers.{valid_operations, ValidEqual, valid_ordered}
use Rattle.qe_tower.proofs.WholeNumbers.{whole_sum, whole_product, whole_negative}
use Rattle.qe_poly.specs.Monomial.{Monomial}
use Rattle.qe_poly.specs.Polynomial.{Term, Polynomial, IsPolynomial, sum, negative, product}
use Rattle.qe_poly.specs.Coefficients.{degree_in, coefficient_in}
use Rattle.qe_poly.specs.Value.{IsWhole, updated, quadratic, scaled}
use Rattle.qe_poly.specs.Value as ring
use Rattle.qe_poly.proofs.Values.{sum-value, negative-value, scaled-value, value-same}
use Rattle.qe_poly.proofs.ProductValues.{product-value}
use Rattle.qe_poly.proofs.QuadraticValues.{quadratic-updated}
use Rattle.qe_form.specs.Value.{value}
use Rattle.qe_form.specs.Laws.{ValueOfSum, ValueOfNegative, ValueOfProduct, ValueOfMultiple}

-- the whole numbers are numbers
abbrev pub valid_whole : ℤ → ValidNumber
valid_whole z = (whole_number z, tt)

pub whole_numbers : IsWhole valid_operations ValidEqual valid_whole
whole_numbers = record { zero = refl; one = refl; add = whole_sum; neg = whole_negative; mul = whole_product }

abbrev R : IsRing valid_operations ValidEqual
R = valid_ordered.ring

-- ---- a point of numbers

pub number_at_valid : (p : Point) → IsPoint p → (x : ℕ) → IsNumber (number_at p x)
number_at_valid [] valid x = tt
number_at_valid (e ∷ p) valid x = elim (eqb e.0 x) as (λ b. IsNumber (or_zero (if b then Some e.1 else look_up p x))) [ true ↦ valid.0 | false ↦ number_at_valid p valid.1 x ]

module _ (p : Point) (valid : IsPoint p) where
  -- the point with the proofs that its numbers are some
  abbrev pub valid_point : ℕ → ValidNumber
  valid_point x = (number_at p x, number_at_valid p valid x)

  abbrev pub valid_value : List Term → ValidNumber
  valid_value ts = ring.value valid_operations valid_whole valid_point ts

  power-number : (x n : ℕ) → (ring.power_of valid_operations (valid_point x) n).0 ≡ ring.power_of number_operations (number_at p x) n
  power-number x zero = refl
  power-number x (suc n) = ap (mul (number_at p x)) (power-number x n)

  monomial_value-number : (m : Monomial) → (ring.monomial_value valid_operations valid_point m).0 ≡ ring.monomial_value number_operations (number_at p) m
  monomial_value-number [] = refl
  monomial_value-number (a ∷ m) = ap₂ mul (power-number a.var.0 a.exponent) (monomial_value-number m)

  pub value-number : (ts : List Term) → (valid_value ts).0 ≡ value ts p
  value-number [] = refl
  value-number (t ∷ ts) = ap₂ add (ap (mul (whole_number t.1)) (monomial_value-number t.0)) (value-number ts)

  pub value_valid : (ts : List Term) → IsNumber (value ts p)
  value_valid ts = subst IsNumber (value-number ts) (valid_value ts).1

-- the same numbers, written otherwise
pub rewritten : {a b c d : Number} → a ≡ b → c ≡ d → Equal a c → Equal b d
rewritten {a} {b} {c} {d} p q equal = subst (λ z. Equal z d) p (subst (λ z. Equal a z) q equal)

-- ---- the operations

pub value_of_sum : ValueOfSum
value_of_sum q r p valid = rewritten (value-number p valid (sum q r)) (ap₂ add (value-number p valid q) (value-number p valid r))
    (sum-value valid_operations ValidEqual R valid_whole whole_numbers (valid_point p valid) q r)

pub value_of_negative : ValueOfNegative
value_of_negative q p valid = rewritten (value-number p valid (negative q)) (ap neg (value-number p valid q))
    (negative-value valid_operations ValidEqual R valid_whole whole_numbers (valid_point p valid) q)

pub value_of_product : ValueOfProduct
value_of_product q r p valid = rewritten (value-number p valid (product q r)) (ap₂ mul (value-number p valid q) (value-number p valid r))
    (product-value valid_operations ValidEqual R (valid_point p valid) valid_whole whole_numbers q r)

pub value_of_multiple : ValueOfMultiple
value_of_multiple c q p valid = rewritten (value-number p valid (scaled c q)) (ap (mul (whole_number c)) (value-number p valid q))
    (scaled-value valid_operations ValidEqual R valid_whole whole_numbers (valid_point p valid) c q)

-- ---- where one variable has another number

module _ (p : Point) (valid : IsPoint p) (x : ℕ) (v : Number) (valid_v : IsNumber v) where
  -- the point with this number for x
  abbrev pub new : ℕ → ValidNumber
  new = updated (valid_point p valid) x (v, valid_v)

  pub with_number : (y : ℕ) → ValidEqual (valid_point ((x, v) ∷ p) (valid_v, valid) y) (new y)
  with_number y = elim (eqb x y) as (λ b. Equal (or_zero (if b then Some v else look_up p y)) (cond b (v, valid_v) (valid_point p valid y)).0) [ true ↦ R.same (v, valid_v) | false ↦ R.same (valid_point p valid y) ]

  pub value_of_quadratic : (q : Polynomial) → IsPolynomial q → degree_in x q ≤ 2
      → Equal (value q ((x, v) ∷ p)) (quadratic number_operations v (value (coefficient_in x 2 q) p) (value (coefficient_in x 1 q) p) (value (coefficient_in x 0 q) p))
  value_of_quadratic q canonical low = rewritten
      (value-number ((x, v) ∷ p) (valid_v, valid) q)
      (λ i. quadratic number_operations v (value-number p valid (coefficient_in x 2 q) i) (value-number p valid (coefficient_in x 1 q) i) (value-number p valid (coefficient_in x 0 q) i))
      (R.then (valid_value ((x, v) ∷ p) (valid_v, valid) q) (ring.value valid_operations valid_whole new q) (quadratic valid_operations (v, valid_v) (at 2) (at 1) (at 0))
      (value-same valid_operations ValidEqual R (valid_point ((x, v) ∷ p) (valid_v, valid)) new with_number valid_whole q)
      (quadratic-updated valid_operations ValidEqual R valid_whole (valid_point p valid) x (v, valid_v) q canonical low))
    where
      at : ℕ → ValidNumber
      at k = valid_value p valid (coefficient_in x k q)
