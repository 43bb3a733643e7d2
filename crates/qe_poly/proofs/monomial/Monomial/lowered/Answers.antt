use Rattle.std.proofs.Common.{◌∙◌, sym, ap, subst}
use Rattle.qe_poly.specs.Monomial.{IsMonomial, is_high}
use Rattle.qe_poly.specs.Coefficients.{lowered}
use Rattle.qe_poly.proofs.Derivatives.{IsMonomial-lowered, is_high-lowered}
use Rattle.qe_poly.proofs.monomial.Monomial.lowered.Goals as goal

pub invariant_of-result : goal.invariant_of-result
invariant_of-result c =
    let same = c.in_ok-powers.ensures ∙ ap (lowered c.args.var.0) c.deref.ensures.value in (
      subst (λ m. IsMonomial m) (sym same) (IsMonomial-lowered c.args.var.0 c.self.inside.powers.items c.self.invariant.0),
      ap is_high same ∙ is_high-lowered c.args.var.0 c.self.inside.powers.items c.self.invariant.1,
    )
