use Rattle.std.proofs.Common.{◌≡◌, ◌++◌, drop}
use Rattle.qe_elim.specs.Search.{steps_of}
use Rattle.qe_elim.specs.Steps.{steps_along}
use Rattle.qe_elim.proofs.steps.steps.Given as goal

abbrev pub invariant-loop-point : goal.invariant-loop-point
invariant-loop-point l = steps_of l.list.items ++ steps_along (drop l.point-index l.path) l.node ≡ steps_along l.path l.fn.root
