use Rattle.std.proofs.Common.{◌∙◌, sym}
use Rattle.qe_board.proofs.LettingGo.{true_is_over}
use Rattle.qe_board.proofs.board.Board.forsake.Goals as goal

pub cancel_and_drop-requires-clause-over : goal.cancel_and_drop-requires-clause-over
cancel_and_drop-requires-clause-over g c = true_is_over g.N.Piece.meaning g.N.Piece.leaf g.N.Piece.truth _ (sym c.has_true_leaf.ensures ∙ c.if-has_true_leaf.true)
