-- A polynomial of degree two at most in one variable, as that variable goes along the line of the numbers.
use Rattle.std.proofs.Common.{ℕ, ◌≡◌, ◌≤◌, ◌<◌, ap, ◌∷◌}
use Rattle.qe_ring.specs.Sign.{Sign, Zero}
use Rattle.qe_tower.specs.Number.{sign_of, ValidNumber}
use Rattle.qe_tower.specs.Point.{Point, IsPoint}
use Rattle.qe_tower.proofs.ValidNumbers.{valid_operations, valid_sign, valid_ordered}
use Rattle.qe_line.specs.Quadratic.{quadratic}
use Rattle.qe_poly.specs.Polynomial.{Polynomial, IsPolynomial}
use Rattle.qe_poly.specs.Coefficients.{degree_in, coefficient_in}
use Rattle.qe_poly.proofs.Occurring.{coefficient_past}
use Rattle.qe_form.specs.Value.{value}
use Rattle.qe_form.proofs.Values.{value_of_quadratic}
use Rattle.qe_root.proofs.Values.{valid_value}

module _ (x : ℕ) (p : Point) (valid : IsPoint p) where
  -- the point with x given a number
  abbrev pub at_number : ValidNumber → Point
  at_number u = (x, u.0) ∷ p

  -- the value of the coefficient of a power of x at the point
  abbrev pub coefficient : ℕ → Polynomial → ValidNumber
  coefficient k q = valid_value p valid (coefficient_in x k q)

  -- the sign of the quadratic with these coefficients at a number
  abbrev pub sign_on : Polynomial → ValidNumber → Sign
  sign_on q v = valid_sign (quadratic valid_operations (coefficient 2 q) (coefficient 1 q) (coefficient 0 q) v)

  -- where x has a number, the polynomial has the sign of that quadratic
  pub sign_with : (q : Polynomial) → IsPolynomial q → degree_in x q ≤ 2 → (u : ValidNumber) → sign_of (value q (at_number u)) ≡ sign_on q u
  sign_with q canonical low u = valid_ordered.sign-same (valid_value (at_number u) (u.1, valid) q)
      (quadratic valid_operations (coefficient 2 q) (coefficient 1 q) (coefficient 0 q) u) (value_of_quadratic p valid x u.0 u.1 q canonical low)

  -- past the degree the coefficients are zero
  pub no_coefficient : (k : ℕ) (q : Polynomial) → degree_in x q < k → valid_sign (coefficient k q) ≡ Zero
  no_coefficient k q low = ap (λ c. sign_of (value c p)) (coefficient_past x k q low)
