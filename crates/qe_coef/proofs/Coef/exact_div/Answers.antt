use Rattle.qe_coef.proofs.Quotient.{divided}
use Rattle.qe_coef.proofs.Coef.exact_div.Goals as goal

pub returns : goal.returns
returns c =
    divided c.self.inside.value c.by.inside.value c.args.self c.args.by c.self.view_is c.by.view_is c.self.invariant c.by.invariant c.requires.nonzero c.requires.divides
