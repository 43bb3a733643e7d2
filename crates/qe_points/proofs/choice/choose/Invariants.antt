use Rattle.std.proofs.Common.{◌≡◌, ◌≤◌, drop}
use Rattle.qe_form.specs.Tree.{tree}
use Rattle.qe_points.specs.Choice.{choice}
use Rattle.qe_points.proofs.Choosing.{going}
use Rattle.qe_points.proofs.choice.choose.Given as goal

abbrev pub invariant-loop-var : goal.invariant-loop-var
invariant-loop-var l = record {
  going : going (tree l.form) l.least l.chosen (drop l.var-index l.vars) ≡ choice (tree l.form) l.vars;
  small : l.least ≤ 3;
}
