use Rattle.std.proofs.Common.{◌∙◌, sym, ap, subst, slice_get}
use Rattle.qe_board.specs.State.{is_waiting, held}
use Rattle.qe_board.specs.Machine.{put}
use Rattle.qe_board.specs.Shown.{conditions, IsCopyAt}
use Rattle.qe_board.specs.History.{IsKept}
use Rattle.qe_board.proofs.Conditions.{first_waits}
use Rattle.qe_board.proofs.Histories.{history_of, number_fits}
use Rattle.qe_board.proofs.Going.{key_copied, only_waiting, passes_condition, going, take_kept, take_taken, waiting_inner}
use Rattle.qe_board.proofs.board.Board.take.Goals as goal

pub unreachable-requires : goal.unreachable-requires
unreachable-requires g c = only_waiting c.set.result c.in_default-set.not-Waiting
    (passes_condition is_waiting c.in-Some.entry c.self.inside.roll.entries _ (first_waits c.in-Some.entry c.self.inside.roll.entries c.in-Some.ensures.first)
    (ap (λ s. slice_get (conditions s.entries) c.in-Some.entry) (sym c.first_waiting.ensures.kept) ∙ c.set.ensures.was))

pub overflow_cast-entry : goal.overflow_cast-entry
overflow_cast-entry g c = number_fits g.N.Piece.meaning g.N.Piece.leaf g.N.Piece.truth _ c.self.inside.roll _ c.self.invariant c.in-Some.entry c.in-Some.ensures.within

pub invariant_of-self-2 : goal.invariant_of-self-2
invariant_of-self-2 g c =
    subst (IsKept g.N.Piece.meaning g.N.Piece.leaf g.N.Piece.truth (history_of c.set.new.self c.self.inside.limit c.push_reserved.new.self.items) c.set.new.self) (sym c.push_reserved.ensures.capacity)
    (take_kept g.N.Piece.meaning g.N.Piece.leaf g.N.Piece.truth c.args.worker c.in-Some.entry c.self.inside.limit _ c.self.inside.roll c.set.new.self c.self.inside.journal.items c.push_reserved.new.self.items c.self.invariant
    (going g.N.Piece.meaning g.N.Piece.leaf g.N.Piece.truth c.self.inside.roll c.self.inside.limit _ c.self.inside.journal.items c.args.self.now c.self.invariant c.self.view_is (sym c.is_over.ensures ∙ c.if-is_over.false))
    c.in-Some.ensures.first (c.set.ensures.changed ∙ ap (λ s. record { entries = put c.in-Some.entry (held c.args.worker) s.entries; stop = s.stop }) c.first_waiting.ensures.kept) c.push_reserved.ensures.items)

pub returns : goal.returns
returns g c =
    take_taken g.N.Piece.meaning g.N.Piece.leaf g.N.Piece.truth c.args.worker c.in-Some.entry c.self.inside.limit _ c.self.inside.roll c.set.new.self c.self.inside.journal.items c.push_reserved.new.self.items c.self.invariant
    (going g.N.Piece.meaning g.N.Piece.leaf g.N.Piece.truth c.self.inside.roll c.self.inside.limit _ c.self.inside.journal.items c.args.self.now c.self.invariant c.self.view_is (sym c.is_over.ensures ∙ c.if-is_over.false))
    c.in-Some.ensures.first (c.set.ensures.changed ∙ ap (λ s. record { entries = put c.in-Some.entry (held c.args.worker) s.entries; stop = s.stop }) c.first_waiting.ensures.kept) c.push_reserved.ensures.items
    (g.N.Piece.key c.in-Waiting.piece)
    (key_copied g.N.Piece.key c.in-Some.entry c.self.inside.roll.entries c.in-Waiting.piece c.set.result c.in-Waiting.is (subst (λ s. IsCopyAt g.N.Piece.key c.in-Some.entry s.entries c.set.result) c.first_waiting.ensures.kept c.set.ensures.copy) c.in-Some.ensures.within)
    (waiting_inner g.N.Piece.meaning g.N.Piece.leaf g.N.Piece.truth g.N.Piece.height g.met.N.Piece.descends c.self.inside.roll _ _ c.self.invariant c.in-Some.entry _ c.in-Some.ensures.first (key_copied g.N.Piece.key c.in-Some.entry c.self.inside.roll.entries c.in-Waiting.piece c.set.result c.in-Waiting.is (subst (λ s. IsCopyAt g.N.Piece.key c.in-Some.entry s.entries c.set.result) c.first_waiting.ensures.kept c.set.ensures.copy) c.in-Some.ensures.within))
    c.args.self.now c.self.view_is
