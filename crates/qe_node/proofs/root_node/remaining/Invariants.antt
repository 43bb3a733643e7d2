use Rattle.std.proofs.Common.{◌≡◌, ◌++◌, drop}
use Rattle.qe_form.specs.Tree.{tree}
use Rattle.qe_tree.specs.Variables.{remaining}
use Rattle.qe_node.proofs.Remaining.{numbers}
use Rattle.qe_node.proofs.root_node.remaining.Given as goal

abbrev pub invariant-loop-var : goal.invariant-loop-var
invariant-loop-var l = numbers l.left ++ remaining (numbers (drop l.var-index l.vars)) (tree l.form) ≡ remaining (numbers l.vars) (tree l.form)
