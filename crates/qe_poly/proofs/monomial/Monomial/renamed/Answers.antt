use Rattle.std.proofs.Common.{◌≡◌, ◌∙◌, MatchOption, subst, true, false}
use Rattle.qe_poly.specs.Monomial.{times, is_high}
use Rattle.qe_poly.proofs.RenamedMonomials.{exponent_low_from, never_high, made_is}
use Rattle.qe_poly.proofs.monomial.Monomial.renamed.Goals as goal

pub power-requires : goal.power-requires
power-requires c = exponent_low_from c.args.from c.args.to c.args.self.now c.exponent_of.result c.exponent_of.ensures.canonical.1 c.exponent_of.ensures.exponent

pub unreachable-requires : goal.unreachable-requires
unreachable-requires c =
    never_high c.args.from c.args.to c.args.self.now c.in_ok-power.power c.in_ok-without.field-0 c.exponent_of.result c.exponent_of.ensures.canonical.0 c.exponent_of.ensures.canonical.1 c.exponent_of.ensures.exponent
    c.in_ok-power.ensures c.in_ok-without.ensures c.requires
    (subst (λ o. MatchOption o (is_high (times c.in_ok-power.power c.in_ok-without.field-0) ≡ true) (λ m. (m ≡ times c.in_ok-power.power c.in_ok-without.field-0) × (is_high (times c.in_ok-power.power c.in_ok-without.field-0) ≡ false))) c.in-None.is c.in_ok-monomial.ensures)

pub returns : goal.returns
returns c =
    (subst (λ o. MatchOption o (is_high (times c.in_ok-power.power c.in_ok-without.field-0) ≡ true) (λ m. (m ≡ times c.in_ok-power.power c.in_ok-without.field-0) × (is_high (times c.in_ok-power.power c.in_ok-without.field-0) ≡ false))) c.in-Some.is c.in_ok-monomial.ensures).0
    ∙ made_is c.args.from c.args.to c.args.self.now c.in_ok-power.power c.in_ok-without.field-0 c.exponent_of.result c.exponent_of.ensures.canonical.0 c.exponent_of.ensures.canonical.1 c.exponent_of.ensures.exponent
    c.in_ok-power.ensures c.in_ok-without.ensures c.requires
