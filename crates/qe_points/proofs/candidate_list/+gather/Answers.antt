use Rattle.qe_form.proofs.Trees.{left_at, left_none}
use Rattle.qe_points.proofs.Gathering.{atoms_more, atoms_all}
use Rattle.qe_points.proofs.candidate_list.+gather.Goals as goal

pub gather_each-loop-part-preserved : goal.gather_each-loop-part-preserved
gather_each-loop-part-preserved t c = atoms_more _ _ _ _ _ _ (left_at c.items-part-items.result.now c.loop-part.part-index c.part-item.result c.loop-part-test.true c.part-item.is) c.in_ok-gather.ensures c.loop-part.invariant

pub gather_each-returns : goal.gather_each-returns
gather_each-returns t c = atoms_all _ _ _ (left_none c.items-part-items.result.now c.loop-part.part-index c.loop-part-test.false) c.loop-part.invariant
