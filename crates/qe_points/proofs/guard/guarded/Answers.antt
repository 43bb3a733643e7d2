use Rattle.std.proofs.Common.{subst}
use Rattle.qe_form.specs.Tree.{tree}
use Rattle.qe_points.specs.Guard.{at_or_above, turned}
use Rattle.qe_points.specs.Guarded.{IsGuardedBy}
use Rattle.qe_points.proofs.Sound.{answer_sound}
use Rattle.qe_points.proofs.guard.guarded.Goals as goal

pub returns-in_ok-guarded_root-in-Ok-clause-sound :
    goal.returns-in_ok-guarded_root-in-Ok-clause-sound
returns-in_ok-guarded_root-in-Ok-clause-sound c =
    answer_sound c.args.x.0 c.args.candidate.now c.in-Root.poly c.in-Root.atom c.in-Root.which c.in-Root.plus c.in-Ok.found c.in_ok-guarded_root-in-Ok.field-0
    c.in-Root.is c.in-Ok.ensures.canonical c.in-Ok.ensures.exact.1
    (subst (λ b. IsGuardedBy (tree c.in-Ok.found.guard) (at_or_above b (turned c.in-Ok.found.root)) c.in_ok-guarded_root-in-Ok.field-0) c.of.ensures c.in_ok-guarded_root-in-Ok.ensures.exact)
    c.in_ok-guarded_root-in-Ok.ensures.kept c.in_ok-guarded_root-in-Ok.ensures.plain c.requires
