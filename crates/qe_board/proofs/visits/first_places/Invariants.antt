use Rattle.qe_board.proofs.Finding.{IsFinding, left_to_find}
use Rattle.qe_board.proofs.visits.first_places.Given as goal

abbrev pub invariant-loop-visits : goal.invariant-loop-visits
invariant-loop-visits g l = IsFinding g.N.Piece.height l.entries l.visits

abbrev pub decreases-loop-visits : goal.decreases-loop-visits
decreases-loop-visits g l = left_to_find g.N.Piece.height l.entries l.visits
