use Rattle.std.proofs.Common.{◌∙◌, sym, ap, subst, true, false, map, arith, ◌++◌, ◌∷◌, []}
use Rattle.std.specs.Vec.{vec_capacity}
use Rattle.qe_board.specs.declared.event.Event.TheVariants.{Give}
use Rattle.qe_piece.specs.Meaning.{child_of}
use Rattle.qe_board.specs.Calls.{IsGiven}
use Rattle.qe_board.proofs.Histories.{history_of, few_kept}
use Rattle.qe_board.proofs.Going.{held_here}
use Rattle.qe_board.proofs.Giving.{given_kept, given_given}
use Rattle.qe_board.proofs.board.Board.give.Goals as goal

pub admit-requires-clause-few : goal.admit-requires-clause-few
admit-requires-clause-few g c = few_kept g.N.Piece.meaning g.N.Piece.leaf g.N.Piece.truth _ c.self.inside.roll _ c.self.invariant

pub invariant_of-self-then-has_true_leaf : goal.invariant_of-self-then-has_true_leaf
invariant_of-self-then-has_true_leaf g c =
    given_kept g.N.Piece.meaning g.N.Piece.leaf g.N.Piece.truth g.N.Piece.key c.args.successors.items (record { worker = c.held.inside.worker; entry = c.held.inside.entry; key = g.N.Piece.key c.held.inside.piece }) c.self.inside.limit _ c.self.inside.roll c.admit.new.self c.self.inside.journal.items c.push_reserved.new.self.items c.self.invariant
    (held_here g.N.Piece.meaning g.N.Piece.leaf g.N.Piece.truth c.self.inside.roll c.self.inside.limit _ c.self.inside.journal.items c.args.self.now (record { worker = c.held.inside.worker; entry = c.held.inside.entry; key = g.N.Piece.key c.held.inside.piece }) c.args.held c.self.invariant c.self.view_is c.held.view_is c.requires.held)
    (sym c.is_unset.ensures ∙ c.if-not-is_unset.false) (ap (λ h. g.N.Piece.meaning h.key) c.held.view_is ∙ c.requires.meaning) c.in-Entered.ensures.0 c.in-Entered.ensures.1
    (c.push_reserved.ensures.items ∙ ap (λ js. js ++ Give c.held.inside.worker c.held.inside.entry ∷ []) c.in-Ok.ensures.items) c.args.self.now c.self.view_is
    (vec_capacity c.push_reserved.new.self) _ c.self.inside.journal.ok.0 c.room_with-room.result c.len.result (c.len.ensures ∙ c.args.successors.ok.0) c.room_with-room.ensures
    (let ok = c.in-Ok.ensures.ok in let len = c.in-Ok.ensures.len in let capacity = c.push_reserved.ensures.capacity in omega (arith, ok, len, capacity))

pub returns-then-has_true_leaf : goal.returns-then-has_true_leaf
returns-then-has_true_leaf g c =
    subst (λ h. IsGiven g.N.Piece.meaning g.N.Piece.leaf g.N.Piece.truth c.args.self.now h (map (child_of g.N.Piece.key) c.args.successors.items) true (history_of c.admit.new.self c.self.inside.limit c.push_reserved.new.self.items)) c.held.view_is
    (given_given g.N.Piece.meaning g.N.Piece.leaf g.N.Piece.truth g.N.Piece.key c.args.successors.items (record { worker = c.held.inside.worker; entry = c.held.inside.entry; key = g.N.Piece.key c.held.inside.piece }) c.self.inside.limit _ c.self.inside.roll c.admit.new.self c.self.inside.journal.items c.push_reserved.new.self.items c.self.invariant
    (held_here g.N.Piece.meaning g.N.Piece.leaf g.N.Piece.truth c.self.inside.roll c.self.inside.limit _ c.self.inside.journal.items c.args.self.now (record { worker = c.held.inside.worker; entry = c.held.inside.entry; key = g.N.Piece.key c.held.inside.piece }) c.args.held c.self.invariant c.self.view_is c.held.view_is c.requires.held)
    (sym c.is_unset.ensures ∙ c.if-not-is_unset.false) (ap (λ h. g.N.Piece.meaning h.key) c.held.view_is ∙ c.requires.meaning) c.in-Entered.ensures.0 c.in-Entered.ensures.1
    (c.push_reserved.ensures.items ∙ ap (λ js. js ++ Give c.held.inside.worker c.held.inside.entry ∷ []) c.in-Ok.ensures.items) c.args.self.now c.self.view_is true (sym c.has_true_leaf.ensures ∙ c.if-has_true_leaf.true))

pub invariant_of-self-in-Entered : goal.invariant_of-self-in-Entered
invariant_of-self-in-Entered g c =
    given_kept g.N.Piece.meaning g.N.Piece.leaf g.N.Piece.truth g.N.Piece.key c.args.successors.items (record { worker = c.held.inside.worker; entry = c.held.inside.entry; key = g.N.Piece.key c.held.inside.piece }) c.self.inside.limit _ c.self.inside.roll c.admit.new.self c.self.inside.journal.items c.push_reserved.new.self.items c.self.invariant
    (held_here g.N.Piece.meaning g.N.Piece.leaf g.N.Piece.truth c.self.inside.roll c.self.inside.limit _ c.self.inside.journal.items c.args.self.now (record { worker = c.held.inside.worker; entry = c.held.inside.entry; key = g.N.Piece.key c.held.inside.piece }) c.args.held c.self.invariant c.self.view_is c.held.view_is c.requires.held)
    (sym c.is_unset.ensures ∙ c.if-not-is_unset.false) (ap (λ h. g.N.Piece.meaning h.key) c.held.view_is ∙ c.requires.meaning) c.in-Entered.ensures.0 c.in-Entered.ensures.1
    (c.push_reserved.ensures.items ∙ ap (λ js. js ++ Give c.held.inside.worker c.held.inside.entry ∷ []) c.in-Ok.ensures.items) c.args.self.now c.self.view_is
    (vec_capacity c.push_reserved.new.self) _ c.self.inside.journal.ok.0 c.room_with-room.result c.len.result (c.len.ensures ∙ c.args.successors.ok.0) c.room_with-room.ensures
    (let ok = c.in-Ok.ensures.ok in let len = c.in-Ok.ensures.len in let capacity = c.push_reserved.ensures.capacity in omega (arith, ok, len, capacity))

pub returns-in-Entered : goal.returns-in-Entered
returns-in-Entered g c =
    subst (λ h. IsGiven g.N.Piece.meaning g.N.Piece.leaf g.N.Piece.truth c.args.self.now h (map (child_of g.N.Piece.key) c.args.successors.items) false (history_of c.admit.new.self c.self.inside.limit c.push_reserved.new.self.items)) c.held.view_is
    (given_given g.N.Piece.meaning g.N.Piece.leaf g.N.Piece.truth g.N.Piece.key c.args.successors.items (record { worker = c.held.inside.worker; entry = c.held.inside.entry; key = g.N.Piece.key c.held.inside.piece }) c.self.inside.limit _ c.self.inside.roll c.admit.new.self c.self.inside.journal.items c.push_reserved.new.self.items c.self.invariant
    (held_here g.N.Piece.meaning g.N.Piece.leaf g.N.Piece.truth c.self.inside.roll c.self.inside.limit _ c.self.inside.journal.items c.args.self.now (record { worker = c.held.inside.worker; entry = c.held.inside.entry; key = g.N.Piece.key c.held.inside.piece }) c.args.held c.self.invariant c.self.view_is c.held.view_is c.requires.held)
    (sym c.is_unset.ensures ∙ c.if-not-is_unset.false) (ap (λ h. g.N.Piece.meaning h.key) c.held.view_is ∙ c.requires.meaning) c.in-Entered.ensures.0 c.in-Entered.ensures.1
    (c.push_reserved.ensures.items ∙ ap (λ js. js ++ Give c.held.inside.worker c.held.inside.entry ∷ []) c.in-Ok.ensures.items) c.args.self.now c.self.view_is false (sym c.has_true_leaf.ensures ∙ c.if-has_true_leaf.false))
