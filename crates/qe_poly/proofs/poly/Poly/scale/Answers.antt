use Rattle.std.proofs.Common.{◌∙◌, sym, ap, subst, map}
use Rattle.qe_poly.specs.Polynomial.{IsPolynomial}
use Rattle.qe_poly.specs.Rows.{shown}
use Rattle.qe_poly.specs.Value.{scaled}
use Rattle.qe_poly.proofs.Multiples.{IsPolynomial-scaled}
use Rattle.qe_poly.proofs.poly.Poly.scale.Goals as goal

pub invariant_of-result : goal.invariant_of-result
invariant_of-result c =
    let same = c.in_ok-terms.ensures.1 ∙ ap (λ terms. scaled c.args.by (map shown terms)) c.deref.ensures.value in
    subst (λ p. IsPolynomial p) (sym same) (IsPolynomial-scaled c.args.by (map shown c.self.inside.terms.items) c.self.invariant)
