use Rattle.std.proofs.Common.{map, ◌≡◌, length}
use Rattle.qe_piece.specs.Meaning.{child_of}
use Rattle.qe_board.specs.Admission.{settled, first_of}
use Rattle.qe_board.proofs.Opening.{SettlingAt}
use Rattle.qe_board.proofs.roll.Roll.settle.Given as goal

-- what is left to do leads to the promised state
abbrev pub invariant-loop-next : goal.invariant-loop-next
invariant-loop-next g l = record {
  rest : (goal.iterator-loop-next g).can_next l.next-iterator × (goal.iterator-loop-next g).is_finite l.next-iterator;
  whole : l.next-iterator.a.rest.len ≡ length l.next-iterator.a.rest.items;
  settling : SettlingAt g.N.Piece.key g.N.Piece.leaf (settled g.N.Piece.leaf (map (child_of g.N.Piece.key) l.fn.successors.items) (first_of l.fn.first l.fn.self)) l.self l.upcoming
      l.next-iterator.a.rest.items l.next-iterator.b.rest.now;
}
