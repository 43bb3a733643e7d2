-- Multiples are polynomials.
use Rattle.std.proofs.Common.{ℤ, ◌*ℤ◌}
use Rattle.qe_poly.specs.Monomial.{IsMonomial}
use Rattle.qe_poly.specs.Polynomial.{Term, Polynomial, IsPolynomial}
use Rattle.qe_poly.specs.Value.{scaled}
use Rattle.qe_poly.proofs.Sorted.{under_keys, is_sorted-under_keys, Each-under_keys}
use Rattle.qe_poly.proofs.Canonical.{sorted_from, Each-monomial, IsPolynomial-nonzero}

pub IsPolynomial-scaled : (c : ℤ) (p : Polynomial) → IsPolynomial p → IsPolynomial (scaled c p)
IsPolynomial-scaled c p poly =
    let times_c : Term → ℤ = λ t. t.1 *ℤ c in
    IsPolynomial-nonzero (under_keys times_c p) (is_sorted-under_keys times_c p (sorted_from p poly)) (Each-under_keys times_c IsMonomial p (Each-monomial p poly))
