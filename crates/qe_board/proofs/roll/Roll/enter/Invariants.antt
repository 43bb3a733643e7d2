use Rattle.std.proofs.Common.{◌≡◌, ◌≤◌, length}
use Rattle.std.specs.Vec.{vec_len, vec_capacity}
use Rattle.qe_board.proofs.Admitting.{EnteringAt}
use Rattle.qe_board.proofs.roll.Roll.enter.Given as goal

-- the first successors are entries, and there is room for the links to the others
abbrev pub invariant-loop-next : goal.invariant-loop-next
invariant-loop-next g l = record {
  entering : EnteringAt g.N.Piece.key l.limit l.fn.self l.successors l.self l.next-index l.links.items;
  len : vec_len l.links ≡ l.next-index;
  room : length l.successors ≤ vec_capacity l.links;
}
