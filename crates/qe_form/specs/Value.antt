-- The value of a polynomial at a point: its value in the ring of the numbers.
use Rattle.std.specs.Prelude.{ℕ}
use Rattle.qe_tower.specs.Number.{Number, whole_number, number_operations}
use Rattle.qe_tower.specs.Point.{Point, number_at}
use Rattle.qe_poly.specs.Monomial.{Monomial}
use Rattle.qe_poly.specs.Polynomial.{Polynomial}
use Rattle.qe_poly.specs.Value as ring

abbrev pub power : Number → ℕ → Number
power v n = ring.power_of number_operations v n

-- the product of the powers of the variables' numbers
abbrev pub monomial_value : Monomial → Point → Number
monomial_value m p = ring.monomial_value number_operations (number_at p) m

-- the sum, over the terms, of the coefficient times the monomial's value
abbrev pub value : Polynomial → Point → Number
value q p = ring.value number_operations whole_number (number_at p) q
