use Rattle.std.proofs.Common.{◌∙◌, sym, ap, subst}
use Rattle.qe_board.specs.declared.event.Stopping.TheVariants.{Limit}
use Rattle.qe_board.specs.State.{is_held_by}
use Rattle.qe_board.specs.Machine.{drop_waiting}
use Rattle.qe_board.specs.History.{IsKept}
use Rattle.qe_board.proofs.Histories.{history_of}
use Rattle.qe_board.proofs.Going.{held_here, passes_within}
use Rattle.qe_board.proofs.Giving.{cancelled_held, cancelled_stop, filled_kept}
use Rattle.qe_board.proofs.board.Board.fill.Goals as goal

pub drop_held-requires-clause-held : goal.drop_held-requires-clause-held
drop_held-requires-clause-held g c = cancelled_held g.N.Piece.meaning g.N.Piece.leaf g.N.Piece.truth c.args.self.now c.cancel.new.self _ c.args.held c.if-cancel.ensures.event c.requires.held

pub drop_held-requires-clause-stopped : goal.drop_held-requires-clause-stopped
drop_held-requires-clause-stopped g c = cancelled_stop g.N.Piece.meaning g.N.Piece.leaf g.N.Piece.truth c.args.self.now c.cancel.new.self _ c.if-cancel.ensures.event

pub set-requires-clause-within : goal.set-requires-clause-within
set-requires-clause-within g c =
    passes_within (is_held_by c.held.inside.worker) c.held.inside.entry c.self.inside.roll.entries
    (held_here g.N.Piece.meaning g.N.Piece.leaf g.N.Piece.truth c.self.inside.roll c.self.inside.limit _ c.self.inside.journal.items c.args.self.now (record { worker = c.held.inside.worker; entry = c.held.inside.entry; key = g.N.Piece.key c.held.inside.piece }) c.args.held c.self.invariant (c.self.view_is ∙ c.if-cancel.ensures.event) c.held.view_is c.requires.held).held

pub invariant_of-self : goal.invariant_of-self
invariant_of-self g c =
    subst (IsKept g.N.Piece.meaning g.N.Piece.leaf g.N.Piece.truth (history_of c.stop.new.self c.self.inside.limit c.push_reserved.new.self.items) c.stop.new.self) (sym c.push_reserved.ensures.capacity)
    (filled_kept g.N.Piece.meaning g.N.Piece.leaf g.N.Piece.truth (record { worker = c.held.inside.worker; entry = c.held.inside.entry; key = g.N.Piece.key c.held.inside.piece }) c.args.held c.self.inside.limit _ c.self.inside.roll c.stop.new.self c.self.inside.journal.items c.push_reserved.new.self.items c.args.self.now c.self.invariant (c.self.view_is ∙ c.if-cancel.ensures.event) c.held.view_is
    c.requires.held c.requires.unset c.requires.many (sym c.cancel.ensures.cancels ∙ c.if-cancel.false)
    (c.stop.ensures ∙ ap (λ s. record { entries = drop_waiting s.entries; stop = Limit }) c.set.ensures.changed) c.push_reserved.ensures.items)
