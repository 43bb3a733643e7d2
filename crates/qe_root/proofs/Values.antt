-- The values of polynomials at a point are numbers, and the operations on polynomials are those on the values.
use Rattle.std.proofs.Common.{refl, pos, []}
use Rattle.qe_ring.specs.Ring.{Operations}
use Rattle.qe_ring.specs.Expression.{of_int}
use Rattle.qe_tower.specs.Number.{whole_number, ValidNumber}
use Rattle.qe_tower.specs.Point.{Point, IsPoint}
use Rattle.qe_tower.proofs.ValidNumbers.{valid_operations, ValidEqual}
use Rattle.qe_line.proofs.Meaning.{Means}
use Rattle.qe_poly.specs.Polynomial.{Polynomial, constant, negative, sum, product}
use Rattle.qe_form.specs.Value.{value}
use Rattle.qe_form.proofs.Values.{value_valid, value_of_sum, value_of_negative, value_of_product}

abbrev pub polynomial_operations : Operations Polynomial
polynomial_operations = record { zero = []; one = constant (pos 1); add = sum; neg = negative; mul = product }

-- the value at a point, with the proof that it is a number
abbrev pub valid_value : (at : Point) → IsPoint at → Polynomial → ValidNumber
valid_value at valid f = (value f at, value_valid at valid f)

pub value_means : (at : Point) (valid : IsPoint at) → Means polynomial_operations valid_operations ValidEqual (valid_value at valid)
value_means at valid = record {
  zero = refl;
  one = refl;
  add = λ f g. value_of_sum f g at valid;
  neg = λ f. value_of_negative f at valid;
  mul = λ f g. value_of_product f g at valid;
}

-- 2 counts as one and one
pub two_is : ValidEqual (whole_number (pos 2), tt) (of_int valid_operations (pos 2))
two_is = refl
