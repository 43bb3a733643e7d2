use Rattle.std.proofs.Common.{◌∙◌, sym, ap, subst, map}
use Rattle.qe_poly.specs.Polynomial.{IsPolynomial}
use Rattle.qe_poly.specs.Rows.{shown}
use Rattle.qe_poly.specs.Coefficients.{derivative}
use Rattle.qe_poly.proofs.Derivatives.{IsPolynomial-derivative}
use Rattle.qe_poly.proofs.poly.Poly.derivative.Goals as goal

pub invariant_of-result : goal.invariant_of-result
invariant_of-result c =
    let same = c.in_ok-terms.ensures.1 ∙ ap (λ terms. derivative c.args.var.0 (map shown terms)) c.deref.ensures.value in
    subst (λ p. IsPolynomial p) (sym same) (IsPolynomial-derivative c.args.var.0 (map shown c.self.inside.terms.items) c.self.invariant)
