use Rattle.std.proofs.Common.{◌≡◌, length}
use Rattle.std.specs.Vec.Iter.{into_iter_items, into_iter_len}
use Rattle.qe_board.specs.Recorded.{spots}
use Rattle.qe_board.proofs.Gathered.{IsFound}
use Rattle.qe_board.proofs.visits.find.Given as goal

abbrev pub invariant-loop-place : goal.invariant-loop-place
invariant-loop-place g l = record {
  count : into_iter_len l.place-iterator ≡ length (into_iter_items l.place-iterator);
  found : IsFound l.entries (spots g.N.Piece.height l.entries) l.leaves.items l.failed (into_iter_items l.place-iterator);
}
