use Rattle.std.proofs.Common.{◌≡◌, ◌++◌, drop}
use Rattle.qe_node.specs.Answer.{others}
use Rattle.qe_node.proofs.Remaining.{numbers}
use Rattle.qe_node.proofs.expansion.others.Given as goal

abbrev pub invariant-loop-var : goal.invariant-loop-var
invariant-loop-var l = numbers l.left ++ others l.x.0 (numbers (drop l.var-index l.vars)) ≡ others l.x.0 (numbers l.vars)
