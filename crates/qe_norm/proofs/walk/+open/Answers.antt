use Rattle.std.proofs.Common.{◌∙◌, ap}
use Rattle.qe_form.proofs.Trees.{left_none, made_more, made_all}
use Rattle.qe_norm.specs.Walk.{opened_each}
use Rattle.qe_norm.proofs.Loops.{state_turn, matrix_turn}
use Rattle.qe_norm.proofs.walk.+open.Goals as goal

pub open_all-loop-form-preserved : goal.open_all-loop-form-preserved
open_all-loop-form-preserved t c =
    let items = c.items-form-items.result.now in
    let less = c.loop-form-test.true in
    record {
      state = state_turn items c.loop-form.form-index c.form-item.result less c.form-item.is c.args.polarity c.loop-form.walk c.open.new.walk c.in_ok-open.ensures.state
          ∙ c.loop-form.invariant.state;
      matrix = made_more c.loop-form.matrices c.push.new.self c.in_ok-open.field-0 _ _ _ _ c.in_ok-push.ensures.ok c.in_ok-open.ensures.matrix
          (matrix_turn items c.loop-form.form-index c.form-item.result less c.form-item.is c.args.polarity c.loop-form.walk c.open.new.walk c.in_ok-open.ensures.state)
          c.loop-form.invariant.matrix;
    }

pub open_all-returns-clause-matrix : goal.open_all-returns-clause-matrix
open_all-returns-clause-matrix t c =
    made_all c.loop-form.matrices _ _
    (ap (λ fs. (opened_each c.args.polarity fs c.loop-form.walk).0) (left_none c.items-form-items.result.now c.loop-form.form-index c.loop-form-test.false))
    c.loop-form.invariant.matrix
