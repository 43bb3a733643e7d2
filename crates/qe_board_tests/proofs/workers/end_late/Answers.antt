use Rattle.qe_board_tests.specs.Spots.{meaning_of, is_leaf_key, is_true_key}
use Rattle.qe_board_tests.proofs.Holding.{held_taken, two_workers}
use Rattle.qe_board_tests.proofs.workers.end_late.Goals as goal

pub settle-requires-clause-held : goal.settle-requires-clause-held
settle-requires-clause-held c = c.hand_back.ensures.others c.in-Piece.first
    (two_workers c.in-Piece.first.worker c.in-Piece-take.second.worker c.in-Piece.ensures.to c.in-Piece-take.ensures.to)
    (held_taken meaning_of is_leaf_key is_true_key c.take.new.self c.take-2.new.self 1 c.in-Piece-take.second c.in-Piece.first c.in-Piece-take.ensures c.in-Piece.ensures.held)

pub settle-requires-else-stopped-clause-held : goal.settle-requires-else-stopped-clause-held
settle-requires-else-stopped-clause-held c = c.hand_back.ensures.others c.in-Piece.first
    (two_workers c.in-Piece.first.worker c.in-Piece-take.second.worker c.in-Piece.ensures.to c.in-Piece-take.ensures.to)
    (held_taken meaning_of is_leaf_key is_true_key c.take.new.self c.take-2.new.self 1 c.in-Piece-take.second c.in-Piece.first c.in-Piece-take.ensures c.in-Piece.ensures.held)
