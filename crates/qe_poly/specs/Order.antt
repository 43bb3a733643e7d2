-- The order of polynomials: term by term, the greater monomial first, then the smaller coefficient.
use Rattle.std.specs.Prelude.{◌≡◌}
use Rattle.std.proofs.Common.{◌∙◌}
use Rattle.std.specs.declared.cmp.Ordering.{Ordering}
use Rattle.std.specs.Ordering.{nat_cmp, int_cmp, int_eq, on, then_cmp, eq_by_cmp}
use Rattle.std.specs.Cmp.{IsTotalOrder, nat_cmp_total, int_cmp_total, on_total, then_total, back_total, unsigned_ties, both_tied, nat_eq_equiv}
use Rattle.std.specs.Cmp.Lexicographic.{slice_cmp, lists_total, lists_ties}
use Rattle.qe_poly.specs.declared.monomial.Power.{Power}
use Rattle.qe_poly.specs.Monomial.{power_cmp, monomial_cmp, in_turn}
use Rattle.qe_poly.specs.Polynomial.{Term, Polynomial}
use Rattle.qe_poly.specs.Equal.{power_eq, monomial_eq_equiv, term_eq, poly_eq}

-- the greater monomial comes first, and with one monomial the smaller coefficient
abbrev pub term_cmp : Term → Term → Ordering
term_cmp = then_cmp (on (λ t. t.0) in_turn) (on (λ t. t.1) int_cmp)

-- the first term that differs decides; a polynomial that ends comes before those that go on
abbrev pub poly_cmp : Polynomial → Polynomial → Ordering
poly_cmp = slice_cmp term_cmp

-- ---- it is total, and ties where polynomials are equal

monomial_total : IsTotalOrder monomial_cmp
monomial_total = lists_total (then_total (on_total (λ a. a.var.0) (back_total nat_cmp_total)) (on_total (λ a. a.exponent) nat_cmp_total))

pub term_total : IsTotalOrder term_cmp
term_total = then_total (on_total (λ t. t.0) (back_total monomial_total)) (on_total (λ t. t.1) int_cmp_total)

pub poly_total : IsTotalOrder poly_cmp
poly_total = lists_total term_total

power_ties : (a b : Power) → power_eq a b ≡ eq_by_cmp power_cmp a b
power_ties a b =
    both_tied _ _ (nat_cmp b.var.0 a.var.0) (nat_cmp a.exponent b.exponent) (nat_eq_equiv.symm a.var.0 b.var.0 ∙ unsigned_ties b.var.0 a.var.0) (unsigned_ties a.exponent b.exponent)

pub term_ties : (t u : Term) → term_eq t u ≡ eq_by_cmp term_cmp t u
term_ties t u =
    both_tied _ _ (in_turn t.0 u.0) (int_cmp t.1 u.1) (monomial_eq_equiv.symm t.0 u.0 ∙ lists_ties power_cmp power_ties u.0 t.0) (λ i. int_eq t.1 u.1)

pub poly_ties : (p q : Polynomial) → poly_eq p q ≡ eq_by_cmp poly_cmp p q
poly_ties = lists_ties term_cmp term_ties
