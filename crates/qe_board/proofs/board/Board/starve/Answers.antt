use Rattle.std.proofs.Common.{◌∙◌, sym, subst}
use Rattle.qe_board.specs.State.{has_true_leaf, is_unset}
use Rattle.qe_board.specs.History.{IsKept}
use Rattle.qe_board.proofs.Histories.{history_of}
use Rattle.qe_board.proofs.Going.{neither, going, starve_kept}
use Rattle.qe_board.proofs.board.Board.starve.Goals as goal

pub invariant_of-self : goal.invariant_of-self
invariant_of-self g c =
    let open_parts = neither (has_true_leaf g.N.Piece.truth c.self.inside.roll) (is_unset c.self.inside.roll.stop)
    (going g.N.Piece.meaning g.N.Piece.leaf g.N.Piece.truth c.self.inside.roll c.self.inside.limit _ c.self.inside.journal.items c.args.self.now c.self.invariant c.self.view_is (sym c.is_over.ensures ∙ c.if-is_over.false)) in
    subst (IsKept g.N.Piece.meaning g.N.Piece.leaf g.N.Piece.truth (history_of c.stop.new.self c.self.inside.limit c.push_reserved.new.self.items) c.stop.new.self) (sym c.push_reserved.ensures.capacity)
    (starve_kept g.N.Piece.meaning g.N.Piece.leaf g.N.Piece.truth c.args.worker c.self.inside.limit _ c.self.inside.roll c.stop.new.self c.self.inside.journal.items c.push_reserved.new.self.items c.self.invariant open_parts.1 open_parts.0
    c.stop.ensures c.push_reserved.ensures.items)
