use Rattle.std.proofs.Common.{◌≡◌, length}
use Rattle.std.specs.Vec.Iter.{into_iter_items, into_iter_len}
use Rattle.qe_node.specs.Answer.{numbered_nodes}
use Rattle.qe_elim.specs.Steps.{numbered}
use Rattle.qe_elim.proofs.steps.successor.Given as goal

abbrev pub invariant-loop-next : goal.invariant-loop-next
invariant-loop-next l = record {
  count : into_iter_len l.next-iterator ≡ length (into_iter_items l.next-iterator);
  found : numbered l.point (numbered_nodes (into_iter_items l.next-iterator)) ≡ numbered l.point (numbered_nodes l.fn.list.items);
}
