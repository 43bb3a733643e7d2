use Rattle.std.proofs.Common.{◌∙◌, ap, ◌∷◌, [], if◌then◌else◌}
use Rattle.qe_board.specs.declared.event.Event.TheVariants.{Starve}
use Rattle.qe_board.specs.History.{grown}
use Rattle.qe_board.proofs.LettingGo.{starve_lets}
use Rattle.qe_board.proofs.board.Board.starve_and_drop.Goals as goal

pub drop_held-requires-clause-held : goal.drop_held-requires-clause-held
drop_held-requires-clause-held g c = (starve_lets g.N.Piece.meaning g.N.Piece.leaf g.N.Piece.truth c.args.self.now c.starve.new.self c.args.held _ c.requires.held c.requires.none c.starve.result c.starve.ensures.starves c.starve.ensures.event).held

pub drop_held-requires-clause-stopped : goal.drop_held-requires-clause-stopped
drop_held-requires-clause-stopped g c = (starve_lets g.N.Piece.meaning g.N.Piece.leaf g.N.Piece.truth c.args.self.now c.starve.new.self c.args.held _ c.requires.held c.requires.none c.starve.result c.starve.ensures.starves c.starve.ensures.event).stopped

pub returns : goal.returns
returns g c =
    (starve_lets g.N.Piece.meaning g.N.Piece.leaf g.N.Piece.truth c.args.self.now c.starve.new.self c.args.held c.args.held.worker c.requires.held c.requires.none c.starve.result c.starve.ensures.starves (c.starve.ensures.event ∙ ap (λ h. if c.starve.result then grown c.args.self.now (Starve h.worker ∷ []) else c.args.self.now) c.held.view_is)).lets c.drop_held.new.self c.drop_held.ensures
