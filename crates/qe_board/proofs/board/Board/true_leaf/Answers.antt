use Rattle.std.proofs.Common.{◌∙◌, sym, ◌<◌, subst}
use Rattle.qe_board.specs.State.{keys}
use Rattle.qe_board.proofs.Counting.{length_keys}
use Rattle.qe_board.proofs.Histories.{number_fits}
use Rattle.qe_board.proofs.Going.{first_true_within}
use Rattle.qe_board.proofs.board.Board.true_leaf.Goals as goal

pub overflow_cast-result : goal.overflow_cast-result
overflow_cast-result g c =
    number_fits g.N.Piece.meaning g.N.Piece.leaf g.N.Piece.truth _ c.self.inside.roll _ c.self.invariant c.in-Some.entry
    (subst (λ k. c.in-Some.entry < k) (length_keys c.self.inside.roll.entries) (first_true_within g.N.Piece.truth (keys c.self.inside.roll) c.in-Some.entry (sym c.true_leaf.ensures ∙ c.in-Some.is)))
