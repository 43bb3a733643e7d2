use Rattle.qe_form.specs.Tree.{tree}
use Rattle.qe_form.proofs.Trees.{left_at, left_none, made_more, made_all}
use Rattle.qe_form.proofs.form.+copy.Goals as goal

pub copy_all-loop-form-preserved : goal.copy_all-loop-form-preserved
copy_all-loop-form-preserved t c =
    made_more c.loop-form.copies c.push.new.self c.in_ok-copy.field-0 (tree c.form-item.result) _ _ _ c.in_ok-push.ensures.ok c.in_ok-copy.ensures
    (left_at c.items-form-items.result.now c.loop-form.form-index c.form-item.result c.loop-form-test.true c.form-item.is) c.loop-form.invariant

pub copy_all-returns : goal.copy_all-returns
copy_all-returns t c =
    made_all c.loop-form.copies _ _ (left_none c.items-form-items.result.now c.loop-form.form-index c.loop-form-test.false) c.loop-form.invariant
