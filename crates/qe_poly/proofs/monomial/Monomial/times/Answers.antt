use Rattle.std.proofs.Common.{◌≡◌, MatchOption, subst, true, false}
use Rattle.qe_poly.specs.Monomial.{times, is_high}
use Rattle.qe_poly.proofs.Products.{powers_are}
use Rattle.qe_poly.proofs.monomial.Monomial.times.Goals as goal

pub invariant_of-result : goal.invariant_of-result
invariant_of-result c =
    let product = times c.deref.result.now c.deref-2.result.now in
    let made = subst (λ o. MatchOption o (is_high product ≡ true) (λ v. (v.items ≡ product) × (is_high product ≡ false))) c.in-Some.is c.in_ok-powers.ensures in
    powers_are c.deref.result.now c.self.inside.powers.items c.deref-2.result.now c.other.inside.powers.items c.in-Some.powers.items
    c.deref.ensures.value c.deref-2.ensures.value c.self.invariant.0 c.other.invariant.0 made
