use Rattle.std.proofs.Common.{◌∙◌, sym, subst, map}
use Rattle.qe_coef.specs.declared.Op.TheVariants.{Add}
use Rattle.qe_poly.specs.Polynomial.{IsPolynomial, sum}
use Rattle.qe_poly.specs.Limits.{sum_limit}
use Rattle.qe_halt.specs.Outcome.{IsStop}
use Rattle.qe_poly.specs.Rows.{shown}
use Rattle.qe_poly.proofs.MergedSums.{Combined, combined_is, results-sum}
use Rattle.qe_halt.proofs.Handed.{handed_on}
use Rattle.qe_poly.proofs.poly.Poly.add.Goals as goal
use Rattle.qe_poly.proofs.poly.Poly.add.Goals.{After-combine}

facts : (c : After-combine) → Combined Add (map shown c.deref.result.now) (map shown c.deref-2.result.now) (sum_limit Add c.args.self.now c.args.other.now) (sum c.args.self.now c.args.other.now)
facts c = combined_is Add sum results-sum c.deref.result.now c.self.inside.terms.items c.deref-2.result.now c.other.inside.terms.items c.args.self.now c.args.other.now
    c.deref.ensures.value c.deref-2.ensures.value c.self.view_is c.other.view_is c.self.invariant c.other.invariant

pub invariant_of-result : goal.invariant_of-result
invariant_of-result c = subst (λ p. IsPolynomial p) (sym c.in_ok-terms.ensures.1) (facts (goal.at.invariant_of-result c).After-combine).is_polynomial

pub returns : goal.returns
returns c = let merging = facts (goal.at.returns c).After-combine in (sym merging.limit_is ∙ c.in_ok-terms.ensures.0, c.in_ok-terms.ensures.1 ∙ merging.result_is)

pub returns-in_err-terms : goal.returns-in_err-terms
returns-in_err-terms c = handed_on (sum_limit Add c.args.self.now c.args.other.now) (sum c.args.self.now c.args.other.now) c.from_residual.result c.in_err-terms.field-0.0 c.from_residual.ensures.0 c.from_residual.ensures.1
    (subst (λ limit. IsStop limit c.in_err-terms.field-0.0) (facts (goal.at.returns-in_err-terms c).After-combine).limit_is c.in_err-terms.ensures)
