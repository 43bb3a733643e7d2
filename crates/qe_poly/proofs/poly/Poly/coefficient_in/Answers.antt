use Rattle.std.proofs.Common.{◌∙◌, sym, ap, subst, map}
use Rattle.qe_poly.specs.Polynomial.{IsPolynomial}
use Rattle.qe_poly.specs.Rows.{shown}
use Rattle.qe_poly.specs.Coefficients.{coefficient_in}
use Rattle.qe_poly.proofs.Parts.{IsPolynomial-coefficient_in}
use Rattle.qe_poly.proofs.poly.Poly.coefficient_in.Goals as goal

pub invariant_of-result : goal.invariant_of-result
invariant_of-result c =
    let same = c.in_ok-terms.ensures ∙ ap (λ terms. coefficient_in c.args.var.0 c.args.exponent (map shown terms)) c.deref.ensures.value in
    subst (λ p. IsPolynomial p) (sym same) (IsPolynomial-coefficient_in c.args.var.0 c.args.exponent (map shown c.self.inside.terms.items) c.self.invariant)
