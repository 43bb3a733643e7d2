use Rattle.std.proofs.Common.{◌∙◌, ap, sym, subst, map, unsigned_abs, vec_len}
use Rattle.qe_poly.specs.Polynomial.{IsPolynomial}
use Rattle.qe_poly.specs.Primitive.{leads_negative, negated_if, divided, primitive, IsContent, DividesEach}
use Rattle.qe_poly.specs.Rows.{shown}
use Rattle.qe_poly.proofs.Divisors.{Divided, divided_by_content, as_negated, multiple_moved}
use Rattle.qe_poly.proofs.KeptTerms.{not_empty}
use Rattle.qe_poly.proofs.poly.Poly.primitive.Goals as goal
use Rattle.qe_poly.proofs.poly.Poly.primitive.Goals.{After-negated_if-divisor}

facts : (c : After-negated_if-divisor) → Divided (map shown c.self.inside.terms.items) c.negated_if-divisor.result
facts c =
    let leads = c.leads_negative-is_negative.ensures ∙ ap (λ ts. leads_negative (map shown ts)) c.deref.ensures.value in
    divided_by_content (map shown c.self.inside.terms.items) c.self.invariant (not_empty c.deref.result.now c.self.inside.terms.items (vec_len c.self.inside.terms) c.if-is_empty.ensures c.deref.ensures.len c.deref.ensures.value) c.negated_if-divisor.result (unsigned_abs c.content.result)
    (subst (λ ts. IsContent (unsigned_abs c.content.result) (map shown ts)) c.deref-2.ensures.value c.content.ensures.content)
    (c.negated_if-divisor.ensures ∙ (as_negated c.leads_negative-is_negative.result c.content.result c.content.ensures.sign ∙ ap (λ b. negated_if b (unsigned_abs c.content.result)) leads))

pub quotients-requires-clause-nonzero : goal.quotients-requires-clause-nonzero
quotients-requires-clause-nonzero c = (facts (goal.at.quotients-requires-clause-nonzero c).After-negated_if-divisor).nonzero

pub quotients-requires-clause-divides : goal.quotients-requires-clause-divides
quotients-requires-clause-divides c =
    subst (λ ts. DividesEach (unsigned_abs c.negated_if-divisor.result) (map shown ts)) (sym c.deref-3.ensures.value) (facts (goal.at.quotients-requires-clause-divides c).After-negated_if-divisor).divides

pub invariant_of-result-2 : goal.invariant_of-result-2
invariant_of-result-2 c =
    let same = c.in_ok-terms.ensures ∙ ap (λ ts. divided c.negated_if-divisor.result (map shown ts)) c.deref-3.ensures.value in
    subst (λ p. IsPolynomial p) (sym same) (facts (goal.at.invariant_of-result-2 c).After-negated_if-divisor).is_polynomial

pub returns-clause-exact : goal.returns-clause-exact
returns-clause-exact c =
    let same = c.in_ok-terms.ensures ∙ ap (λ ts. divided c.negated_if-divisor.result (map shown ts)) c.deref-3.ensures.value in (
      same ∙ ((facts (goal.at.returns-clause-exact c).After-negated_if-divisor).is_primitive ∙ ap primitive c.self.view_is),
      c.leads_negative-is_negative.ensures ∙ (ap (λ ts. leads_negative (map shown ts)) c.deref.ensures.value ∙ ap leads_negative c.self.view_is),
    )

pub returns-clause-multiple : goal.returns-clause-multiple
returns-clause-multiple c =
    let same = c.in_ok-terms.ensures ∙ ap (λ ts. divided c.negated_if-divisor.result (map shown ts)) c.deref-3.ensures.value in
    let leads = c.leads_negative-is_negative.ensures ∙ ap (λ ts. leads_negative (map shown ts)) c.deref.ensures.value in
    multiple_moved (map shown c.self.inside.terms.items) c.args.self.now (divided c.negated_if-divisor.result (map shown c.self.inside.terms.items)) (map shown c.in_ok-terms.terms.items)
    (leads_negative (map shown c.self.inside.terms.items)) c.leads_negative-is_negative.result c.self.view_is (sym same) (sym leads)
    (facts (goal.at.returns-clause-multiple c).After-negated_if-divisor).is_multiple
