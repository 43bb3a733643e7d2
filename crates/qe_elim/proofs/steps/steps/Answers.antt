use Rattle.std.proofs.Common.{◌++◌}
use Rattle.qe_elim.specs.Search.{steps_of}
use Rattle.qe_elim.specs.Steps.{steps_along}
use Rattle.qe_elim.proofs.Bridge.{same_node}
use Rattle.qe_elim.proofs.steps.steps.Goals as goal

pub loop-point-init : goal.loop-point-init
loop-point-init c = λ i. steps_of (c.new-list.ensures.items i) ++ steps_along c.args.path.now (same_node c.in_ok-node.node c.args.root.now c.in_ok-node.ensures i)
