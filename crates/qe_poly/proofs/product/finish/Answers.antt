use Rattle.std.proofs.lemmas.Grind.{common_steps}
use Rattle.std.proofs.Common.{arith}
use Rattle.qe_poly.proofs.product.finish.Goals as goal

pub loop-group-preserved : goal.loop-group-preserved
loop-group-preserved c = grind (arith, common_steps)

pub loop-group-preserved-in-Continue-branch-2 : goal.loop-group-preserved-in-Continue-branch-2
loop-group-preserved-in-Continue-branch-2 c = grind (arith, common_steps)
