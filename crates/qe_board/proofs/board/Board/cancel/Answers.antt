use Rattle.std.proofs.Common.{◌∙◌, sym, subst}
use Rattle.qe_board.specs.History.{IsKept}
use Rattle.qe_board.proofs.Histories.{history_of}
use Rattle.qe_board.proofs.Going.{cancel_kept}
use Rattle.qe_board.proofs.board.Board.cancel.Goals as goal

pub invariant_of-self : goal.invariant_of-self
invariant_of-self g c =
    subst (IsKept g.N.Piece.meaning g.N.Piece.leaf g.N.Piece.truth (history_of c.stop.new.self c.self.inside.limit c.push_reserved.new.self.items) c.stop.new.self) (sym c.push_reserved.ensures.capacity)
    (cancel_kept g.N.Piece.meaning g.N.Piece.leaf g.N.Piece.truth c.args.worker c.self.inside.limit _ c.self.inside.roll c.stop.new.self c.self.inside.journal.items c.push_reserved.new.self.items c.self.invariant (sym c.is_unset.ensures ∙ c.if-not-is_unset.false) (sym c.has_true_leaf.ensures ∙ c.if-not-has_true_leaf.false)
    c.stop.ensures c.push_reserved.ensures.items)
