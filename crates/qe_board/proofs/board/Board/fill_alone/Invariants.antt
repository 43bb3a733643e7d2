use Rattle.qe_board.proofs.PlainFilling.{Plainly, left_to_do}
use Rattle.qe_board.proofs.board.Board.fill_alone.Given as goal

abbrev pub invariant-loop-alloc : goal.invariant-loop-alloc
invariant-loop-alloc g l = Plainly g.N.Piece.meaning g.N.Piece.leaf g.N.Piece.truth l.initial.self l.self

abbrev pub decreases-loop-alloc : goal.decreases-loop-alloc
decreases-loop-alloc g l = left_to_do g.N.Piece.meaning g.N.Piece.leaf g.N.Piece.truth l.initial.self l.self
