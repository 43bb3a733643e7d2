use Rattle.std.proofs.Common.{◌≡◌, ◌≤◌, ◌+◌, ◌++◌, map, reverse, length}
use Rattle.std.specs.Slice.Iter.{iter_rest}
use Rattle.std.specs.Iterator.Adapters.{rev_source}
use Rattle.std.specs.Vec.{vec_len, vec_capacity}
use Rattle.qe_board.specs.Visited.{upcoming}
use Rattle.qe_board.proofs.visits.look_ahead.Given as goal

abbrev pub invariant-loop-link : goal.invariant-loop-link
invariant-loop-link l = record {
  todo : l.todo.items ++ reverse (map (upcoming l.from) (iter_rest (rev_source l.link-iterator))) ≡ l.fn.todo.items ++ reverse (map (upcoming l.from) l.fn.links);
  room : vec_len l.todo + length (iter_rest (rev_source l.link-iterator)) ≤ vec_capacity l.todo;
}
