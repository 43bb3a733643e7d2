use Rattle.std.proofs.Common.{arith}
use Rattle.qe_form.specs.Tree.{tree}
use Rattle.qe_points.proofs.Choosing.{going_first, turn_taken, turn_kept, all_gone, chosen_is, none_chosen}
use Rattle.qe_points.proofs.choice.choose.Goals.{then-degree-least, else-degree-least}
use Rattle.qe_points.proofs.choice.choose.Goals as goal

pub loop-var-init : goal.loop-var-init
loop-var-init c = record { going = going_first (tree c.args.form.now) c.args.vars.now; small = omega arith }

pub loop-var-preserved : goal.loop-var-preserved
loop-var-preserved c = elim c.if-degree-least.branch [
  | then-degree-least w ↦ record {
    going = turn_taken (tree c.args.form.now) c.args.vars.now c.loop-var.var-index c.loop-var.least c.loop-var.chosen _ c.loop-var-test.true c.loop-var.invariant.going
        _ _ _ c.degree_in-degree.ensures w.if-degree-least.true c.loop-var.invariant.small w.chosen-is w.least-is;
    small = omega arith;
  }
  | else-degree-least w ↦ record {
    going = turn_kept (tree c.args.form.now) c.args.vars.now c.loop-var.var-index c.loop-var.least c.loop-var.chosen _ c.loop-var-test.true c.loop-var.invariant.going
        _ _ _ c.degree_in-degree.ensures w.if-degree-least.false w.chosen-is w.least-is;
    small = omega arith;
  }
]

pub returns-clause-exact : goal.returns-clause-exact
returns-clause-exact c = all_gone (tree c.args.form.now) c.args.vars.now c.loop-var.var-index c.loop-var.least _ _ c.loop-var-test.false c.loop-var.invariant.going

pub returns-clause-chosen : goal.returns-clause-chosen
returns-clause-chosen c = chosen_is (tree c.args.form.now) c.args.vars.now c.loop-var.chosen (returns-clause-exact c)

pub returns-clause-none : goal.returns-clause-none
returns-clause-none c = none_chosen (tree c.args.form.now) c.args.vars.now c.loop-var.chosen (returns-clause-exact c)
