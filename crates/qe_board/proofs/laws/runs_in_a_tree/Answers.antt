use Rattle.qe_board.proofs.Verdicts.{tree_laws}
use Rattle.qe_board.proofs.laws.runs_in_a_tree.Goals as goal

pub returns : goal.returns
returns g c meaning is_leaf truth height limit = tree_laws meaning is_leaf truth height limit
