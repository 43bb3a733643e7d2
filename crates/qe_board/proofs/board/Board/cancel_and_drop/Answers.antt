use Rattle.std.proofs.Common.{◌∙◌, ap, ◌∷◌, [], if◌then◌else◌}
use Rattle.qe_board.specs.declared.event.Event.TheVariants.{Cancel}
use Rattle.qe_board.specs.History.{grown}
use Rattle.qe_board.proofs.LettingGo.{cancel_lets}
use Rattle.qe_board.proofs.board.Board.cancel_and_drop.Goals as goal

pub drop_held-requires-clause-held : goal.drop_held-requires-clause-held
drop_held-requires-clause-held g c = (cancel_lets g.N.Piece.meaning g.N.Piece.leaf g.N.Piece.truth c.args.self.now c.cancel.new.self c.args.held _ c.requires.held c.requires.over c.cancel.result c.cancel.ensures.cancels c.cancel.ensures.event).held

pub drop_held-requires-clause-stopped : goal.drop_held-requires-clause-stopped
drop_held-requires-clause-stopped g c = (cancel_lets g.N.Piece.meaning g.N.Piece.leaf g.N.Piece.truth c.args.self.now c.cancel.new.self c.args.held _ c.requires.held c.requires.over c.cancel.result c.cancel.ensures.cancels c.cancel.ensures.event).stopped

pub returns : goal.returns
returns g c =
    (cancel_lets g.N.Piece.meaning g.N.Piece.leaf g.N.Piece.truth c.args.self.now c.cancel.new.self c.args.held c.args.held.worker c.requires.held c.requires.over c.cancel.result c.cancel.ensures.cancels (c.cancel.ensures.event ∙ ap (λ h. if c.cancel.result then grown c.args.self.now (Cancel h.worker ∷ []) else c.args.self.now) c.held.view_is)).lets c.drop_held.new.self c.drop_held.ensures
