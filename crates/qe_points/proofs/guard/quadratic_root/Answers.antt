use Rattle.qe_points.specs.Guard.{quadratic_limit_by}
use Rattle.qe_points.proofs.Sound.{handed_on}
use Rattle.qe_points.proofs.guard.quadratic_root.Goals as goal

pub returns-in_err-r-clause-exact : goal.returns-in_err-r-clause-exact
returns-in_err-r-clause-exact c = handed_on (quadratic_limit_by c.in_ok-a.a c.in_ok-b.b c.in_ok-c.c) _ _ _ _ c.from_residual-in_err-r.ensures.0 c.from_residual-in_err-r.ensures.1
    (λ i. quadratic_limit_by (c.in_ok-a.ensures.part i) (c.in_ok-b.ensures.part i) (c.in_ok-c.ensures.part i)) c.in_err-r.ensures
