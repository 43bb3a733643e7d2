use Rattle.std.proofs.Common.{◌∙◌, ap}
use Rattle.std.specs.Option.{is_some}
use Rattle.qe_board.specs.State.{has_true_leaf}
use Rattle.qe_board.proofs.Going.{first_true_there}
use Rattle.qe_board.proofs.roll.Roll.has_true_leaf.Goals as goal

pub returns : goal.returns
returns g c =
    c.is_some.ensures ∙ (ap is_some c.self.invariant.first ∙ (first_true_there g.N.Piece.truth c.self.inside.entries ∙ ap (has_true_leaf g.N.Piece.truth) c.self.view_is))
