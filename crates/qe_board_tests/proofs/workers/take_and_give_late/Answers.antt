use Rattle.qe_board_tests.specs.Spots.{meaning_of, is_leaf_key, is_true_key}
use Rattle.qe_board_tests.proofs.Holding.{held_starved}
use Rattle.qe_board_tests.proofs.workers.take_and_give_late.Goals as goal

pub hand_back-requires-clause-held : goal.hand_back-requires-clause-held
hand_back-requires-clause-held c = (held_starved meaning_of is_leaf_key is_true_key c.take.new.self c.starve.new.self 1 c.in-Piece.held c.starve.result c.if-not-starve.false c.starve.ensures.event c.in-Piece.ensures.held).0
