use Rattle.qe_board_tests.specs.Spots.{meaning_of, is_leaf_key, is_true_key}
use Rattle.qe_board_tests.proofs.Holding.{held_taken, two_workers}
use Rattle.qe_board_tests.proofs.workers.round.Goals as goal

pub hand_back-requires-then-reversed-2-clause-held :
    goal.hand_back-requires-then-reversed-2-clause-held
hand_back-requires-then-reversed-2-clause-held c = c.hand_back-then-reversed.ensures.others c.in-Piece.first
    (two_workers c.in-Piece.first.worker c.in-Piece-take.second.worker c.in-Piece.ensures.to c.in-Piece-take.ensures.to)
    (held_taken meaning_of is_leaf_key is_true_key c.take.new.self c.take-2.new.self 1 c.in-Piece-take.second c.in-Piece.first c.in-Piece-take.ensures c.in-Piece.ensures.held)

pub hand_back-requires-else-reversed-clause-held :
    goal.hand_back-requires-else-reversed-clause-held
hand_back-requires-else-reversed-clause-held c = held_taken meaning_of is_leaf_key is_true_key c.take.new.self c.take-2.new.self 1 c.in-Piece-take.second c.in-Piece.first c.in-Piece-take.ensures c.in-Piece.ensures.held
