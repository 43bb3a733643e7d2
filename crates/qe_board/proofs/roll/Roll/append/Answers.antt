use Rattle.std.proofs.Common.{◌<◌, ◌^◌, ◌∙◌, cond, sym, ap, subst, length, ◌∷◌, [], ◌++◌}
use Rattle.qe_board.specs.State.{is_waiting, is_held, keys}
use Rattle.qe_board.specs.Shown.{condition}
use Rattle.qe_board.specs.Counted.{first_true}
use Rattle.qe_board.proofs.Counting.{byte_is, one_more_fits, counted_append}
use Rattle.qe_board.proofs.roll.Roll.append.Goals as goal

pub overflow_add-self : goal.overflow_add-self
overflow_add-self g c =
    one_more_fits is_waiting c.self.inside.entries (subst (λ s. length s.entries < 2 ^ 63) (sym c.self.view_is) c.true_leaf_with-true_leaf.ensures.few) c.self.inside.waiting c.self.invariant.waiting c.waits.result c.from-waits.result c.from-waits.ensures

pub overflow_add-self-2 : goal.overflow_add-self-2
overflow_add-self-2 g c =
    one_more_fits is_held c.self.inside.entries (subst (λ s. length s.entries < 2 ^ 63) (sym c.self.view_is) c.true_leaf_with-true_leaf.ensures.few) c.self.inside.held c.self.invariant.held c.is_held.result c.from-holds.result c.from-holds.ensures

pub invariant_of-self-2 : goal.invariant_of-self-2
invariant_of-self-2 g c =
    counted_append g.N.Piece.truth (record { entries = c.self.inside.entries; stop = c.self.inside.stopping }) c.self.inside.next c.self.inside.waiting c.self.inside.held c.self.inside.true_leaf c.self.invariant
    (g.N.Piece.key c.args.piece) (condition c.args.progress) c.append.new.self c.in_ok-append.ensures.ok c.from-waits.result c.from-holds.result
    (c.from-waits.ensures ∙ (byte_is c.waits.result ∙ ap (λ b. cond b 1 0) c.waits.ensures)) (c.from-holds.ensures ∙ (byte_is c.is_held.result ∙ ap (λ b. cond b 1 0) c.is_held.ensures))
    c.true_leaf_with-true_leaf.result (c.true_leaf_with-true_leaf.ensures.leaf ∙ ap (λ s. first_true g.N.Piece.truth (keys s ++ g.N.Piece.key c.args.piece ∷ [])) (sym c.self.view_is))
