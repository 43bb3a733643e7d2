use Rattle.std.proofs.Common.{◌≡◌, map, length}
use Rattle.std.specs.Vec.Iter.{into_iter_items, into_iter_len}
use Rattle.qe_board.specs.Recorded.{spots, spot_at}
use Rattle.qe_board.specs.Visited.{spot_of}
use Rattle.qe_board.proofs.visits.find_path.Given as goal

abbrev pub invariant-loop-place : goal.invariant-loop-place
invariant-loop-place g l = record {
  count : into_iter_len l.place-iterator ≡ length (into_iter_items l.place-iterator);
  found : spot_at l.entry (map spot_of (into_iter_items l.place-iterator)) ≡ spot_at l.entry (spots g.N.Piece.height l.entries);
}
