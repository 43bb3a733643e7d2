use Rattle.qe_board_tests.specs.Spots.{key_of, meaning_of, is_leaf_key, is_true_key}
use Rattle.qe_board_tests.proofs.Holding.{held_left}
use Rattle.qe_board_tests.proofs.workers.hand_back.Goals as goal

pub returns-clause-others : goal.returns-clause-others
returns-clause-others c = λ g other has. held_left meaning_of is_leaf_key is_true_key key_of c.args.board.now c.args.held g other c.requires.held has c.settle.new.self c.expand-made.result c.settle.result c.settle.ensures
