use Rattle.std.proofs.Common.{◌∙◌, sym, subst, map}
use Rattle.qe_poly.specs.Polynomial.{IsPolynomial, product}
use Rattle.qe_poly.specs.Limits.{product_limit}
use Rattle.qe_halt.specs.Outcome.{IsStop}
use Rattle.qe_poly.specs.Rows.{shown}
use Rattle.qe_poly.proofs.CollectedProduct.{Multiplied, multiplied_is}
use Rattle.qe_halt.proofs.Handed.{handed_on}
use Rattle.qe_poly.proofs.poly.Poly.mul.Goals as goal
use Rattle.qe_poly.proofs.poly.Poly.mul.Goals.{After-multiply}

facts : (c : After-multiply) → Multiplied (map shown c.deref.result.now) (map shown c.deref-2.result.now) (product_limit c.args.self.now c.args.other.now) (product c.args.self.now c.args.other.now)
facts c = multiplied_is c.deref.result.now c.self.inside.terms.items c.deref-2.result.now c.other.inside.terms.items c.args.self.now c.args.other.now
    c.deref.ensures.value c.deref-2.ensures.value c.self.view_is c.other.view_is c.self.invariant c.other.invariant

pub invariant_of-result : goal.invariant_of-result
invariant_of-result c =
    let product_facts = facts (goal.at.invariant_of-result c).After-multiply in
    subst (λ p. IsPolynomial p) (sym (c.in_ok-terms.ensures.1 ∙ product_facts.result_is (sym product_facts.limit_is ∙ c.in_ok-terms.ensures.0))) product_facts.is_polynomial

pub returns : goal.returns
returns c =
    let product_facts = facts (goal.at.returns c).After-multiply in
    let none = sym product_facts.limit_is ∙ c.in_ok-terms.ensures.0 in (none, c.in_ok-terms.ensures.1 ∙ product_facts.result_is none)

pub returns-in_err-terms : goal.returns-in_err-terms
returns-in_err-terms c = handed_on (product_limit c.args.self.now c.args.other.now) (product c.args.self.now c.args.other.now) c.from_residual.result c.in_err-terms.field-0.0 c.from_residual.ensures.0 c.from_residual.ensures.1
    (subst (λ limit. IsStop limit c.in_err-terms.field-0.0) (facts (goal.at.returns-in_err-terms c).After-multiply).limit_is c.in_err-terms.ensures)
