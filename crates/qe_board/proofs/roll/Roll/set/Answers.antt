use Rattle.std.proofs.Common.{◌∙◌, refl, ap, cond}
use Rattle.qe_board.specs.State.{is_waiting, is_held}
use Rattle.qe_board.specs.Shown.{condition}
use Rattle.qe_board.proofs.Counting.{byte_is, one_more_fits, counted_set, counts_one}
use Rattle.qe_board.proofs.roll.Roll.set.Goals as goal
use Rattle.qe_board.proofs.roll.Roll.set.Goals.{After-from-4}

pub overflow_add-self : goal.overflow_add-self
overflow_add-self g c = one_more_fits is_waiting c.self.inside.entries c.replace-was.ensures.few c.self.inside.waiting c.self.invariant.waiting c.waits-waits.result c.from.result c.from.ensures

pub overflow_add-self-2 : goal.overflow_add-self-2
overflow_add-self-2 g c = one_more_fits is_held c.self.inside.entries c.replace-was.ensures.few c.self.inside.held c.self.invariant.held c.is_held-holds.result c.from-3.result c.from-3.ensures

pub overflow_sub-self : goal.overflow_sub-self
overflow_sub-self g c =
    (counts_one g.N.Piece.truth (record { entries = c.self.inside.entries; stop = c.self.inside.stopping }) c.self.inside.next c.self.inside.waiting c.self.inside.held c.self.inside.true_leaf c.self.invariant
    c.args.entry (condition c.args.progress) (condition c.replace-was.result) c.replace-was.ensures.was c.from.result _ c.from-2.result _
    (c.from.ensures ∙ (byte_is c.waits-waits.result ∙ ap (λ b. cond b 1 0) c.waits-waits.ensures)) refl
    (c.from-2.ensures ∙ (byte_is c.waits.result ∙ ap (λ b. cond b 1 0) c.waits.ensures)) refl).0

pub overflow_sub-self-2 : goal.overflow_sub-self-2
overflow_sub-self-2 g c =
    (counts_one g.N.Piece.truth (record { entries = c.self.inside.entries; stop = c.self.inside.stopping }) c.self.inside.next c.self.inside.waiting c.self.inside.held c.self.inside.true_leaf c.self.invariant
    c.args.entry (condition c.args.progress) (condition c.replace-was.result) c.replace-was.ensures.was _ c.from-3.result _ c.from-4.result
    refl (c.from-3.ensures ∙ (byte_is c.is_held-holds.result ∙ ap (λ b. cond b 1 0) c.is_held-holds.ensures))
    refl (c.from-4.ensures ∙ (byte_is c.is_held.result ∙ ap (λ b. cond b 1 0) c.is_held.ensures))).1

pub invariant_of-self : goal.invariant_of-self
invariant_of-self g c =
    counted_set g.N.Piece.truth (record { entries = c.self.inside.entries; stop = c.self.inside.stopping }) c.self.inside.next c.self.inside.waiting c.self.inside.held c.self.inside.true_leaf c.self.invariant
    c.args.entry (condition c.args.progress) (condition c.replace-was.result) c.replace-was.new.self c.replace-was.ensures.was c.replace-was.ensures.changed c.from.result c.from-3.result c.from-2.result c.from-4.result
    (c.from.ensures ∙ (byte_is c.waits-waits.result ∙ ap (λ b. cond b 1 0) c.waits-waits.ensures))
    (c.from-3.ensures ∙ (byte_is c.is_held-holds.result ∙ ap (λ b. cond b 1 0) c.is_held-holds.ensures))
    (c.from-2.ensures ∙ (byte_is c.waits.result ∙ ap (λ b. cond b 1 0) c.waits.ensures))
    (c.from-4.ensures ∙ (byte_is c.is_held.result ∙ ap (λ b. cond b 1 0) c.is_held.ensures))
    c.no_later-self-inside.result c.no_later-self-inside.ensures.next (λ h. c.no_later-self-inside.ensures.entry (c.waits-waits.ensures ∙ h))
