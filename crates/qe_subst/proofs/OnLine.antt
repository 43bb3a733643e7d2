-- A polynomial of degree two at most in one variable, as that variable goes along the line of the numbers.
use Rattle.std.proofs.Common.{ℕ, ◌≡◌, ◌∙◌, ◌≤◌, ◌<◌, refl, ap, [], ◌∷◌, arith}
use Rattle.qe_ring.specs.Expression.{nought, ◌⊗◌}
use Rattle.qe_ring.specs.Sign.{Sign}
use Rattle.qe_ring.proofs.Hypotheses.{fact}
use Rattle.qe_tower.specs.Number.{sign_of, ValidNumber}
use Rattle.qe_tower.specs.Point.{Point, IsPoint}
use Rattle.qe_tower.proofs.ValidNumbers.{valid_operations, valid_sign}
use Rattle.qe_line.specs.Place.{Place}
use Rattle.qe_line.specs.Quadratic.{sign_at}
use Rattle.qe_line.specs.Numbers.{numbers}
use Rattle.qe_line.proofs.Field.{same_by, equals_zero}
use Rattle.qe_line.proofs.Letters.{A, B, C₀, X, Polynomial as Quadratic}
use Rattle.qe_line.proofs.Places.{There, then}
use Rattle.qe_line.proofs.SignAt.{sign_is}
use Rattle.qe_poly.specs.Polynomial.{Polynomial, IsPolynomial}
use Rattle.qe_poly.specs.Coefficients.{degree_in}
use Rattle.qe_form.specs.Value.{value}
use Rattle.qe_root.proofs.OnLine.{at_number, coefficient, sign_on, sign_with, no_coefficient}
use Rattle.qe_subst.proofs.Degrees.{coefficient_whole}

module _ (x : ℕ) (p : Point) (valid : IsPoint p) where
  -- it holds at the place
  abbrev pub HoldsThere : Place ValidNumber → (ValidNumber → Type 0) → Type 0
  HoldsThere k P = There valid_operations valid_sign k P

  -- the sign at a place of the quadratic with its coefficients
  abbrev pub sign_at_place : Place ValidNumber → Polynomial → Sign
  sign_at_place k q = sign_at valid_operations valid_sign k (coefficient x p valid 2 q) (coefficient x p valid 1 q) (coefficient x p valid 0 q)

  -- and at a place the sign that it has there
  pub sign_there : (q : Polynomial) → IsPolynomial q → degree_in x q ≤ 2 → (k : Place ValidNumber) → HoldsThere k (λ u. sign_of (value q (at_number x p valid u)) ≡ sign_at_place k q)
  sign_there q canonical low k = then numbers (sign_is numbers k (coefficient x p valid 2 q) (coefficient x p valid 1 q) (coefficient x p valid 0 q)) (λ u h. sign_with x p valid q canonical low u ∙ h)

  -- a polynomial without x has one sign
  pub sign_stays : (q : Polynomial) → IsPolynomial q → degree_in x q < 1 → (u : ValidNumber) → sign_on x p valid q u ≡ sign_of (value q p)
  sign_stays q canonical low u =
      same_by numbers (coefficient x p valid 2 q ∷ coefficient x p valid 1 q ∷ coefficient x p valid 0 q ∷ u ∷ []) (fact (X ⊗ X) A nought ∷ fact X B nought ∷ []) Quadratic C₀
      (equals_zero numbers (coefficient x p valid 2 q) (no_coefficient x p valid 2 q (omega arith)), (equals_zero numbers (coefficient x p valid 1 q) (no_coefficient x p valid 1 q low), tt)) refl
      ∙ ap (λ c. sign_of (value c p)) (coefficient_whole x q canonical low)
