-- The order of monomials is total, and only equal monomials tie.
use Rattle.std.proofs.Common.{◌≡◌, sym}
use Rattle.std.specs.declared.cmp.Ordering.TheVariants.{Equal}
use Rattle.std.specs.Ordering.{nat_cmp}
use Rattle.std.specs.Cmp.{IsTotalOrder, nat_cmp_total, on_total, then_total, back_total}
use Rattle.std.specs.FinMap.{nat_cmp-IsAntisymmetric, slice_cmp-IsAntisymmetric}
use Rattle.std.proofs.lemmas.Cmp.{lists_total}
use Rattle.qe_ring.proofs.Ties.{both_tie}
use Rattle.qe_poly.specs.declared.monomial.Power.{Power}
use Rattle.qe_poly.specs.Monomial.{Monomial, power_cmp, in_turn}

pub power_total : IsTotalOrder power_cmp
power_total = then_total (on_total (λ a. a.var.0) (back_total nat_cmp_total)) (on_total (λ a. a.exponent) nat_cmp_total)

pub turn_total : IsTotalOrder in_turn
turn_total = back_total (lists_total power_total)

power_same : (a b : Power) → power_cmp a b ≡ Equal → a ≡ b
power_same a b tie =
    let ties = both_tie (nat_cmp b.var.0 a.var.0) (nat_cmp a.exponent b.exponent) tie in
    let var : a.var.0 ≡ b.var.0 = sym (nat_cmp-IsAntisymmetric b.var.0 a.var.0 ties.0) in
    let exponent : a.exponent ≡ b.exponent = nat_cmp-IsAntisymmetric a.exponent b.exponent ties.1 in
    λ i. record { var = record { 0 = var i }; exponent = exponent i }

pub turn_same : (m n : Monomial) → in_turn m n ≡ Equal → m ≡ n
turn_same m n tie = sym (slice_cmp-IsAntisymmetric power_same n m tie)
