use Rattle.std.proofs.Common.{sym, subst, ◌≤◌, suc, false}
use Rattle.std.specs.Vec.{vec_capacity}
use Rattle.qe_board.specs.History.{IsKept}
use Rattle.qe_board.proofs.Histories.{history_of}
use Rattle.qe_board.proofs.Going.{held_here, unset_here, held_room, drop_kept}
use Rattle.qe_board.proofs.board.Board.drop_held.Goals as goal

pub push_reserved-requires : goal.push_reserved-requires
push_reserved-requires g c =
    subst (λ n. suc n ≤ vec_capacity c.self.inside.journal) (sym c.self.inside.journal.ok.0) (held_room g.N.Piece.meaning g.N.Piece.leaf g.N.Piece.truth c.self.inside.roll c.self.inside.limit _ c.self.inside.journal.items (record { worker = c.held.inside.worker; entry = c.held.inside.entry; key = g.N.Piece.key c.held.inside.piece }) c.self.invariant
    (held_here g.N.Piece.meaning g.N.Piece.leaf g.N.Piece.truth c.self.inside.roll c.self.inside.limit _ c.self.inside.journal.items c.args.self.now (record { worker = c.held.inside.worker; entry = c.held.inside.entry; key = g.N.Piece.key c.held.inside.piece }) c.args.held c.self.invariant c.self.view_is c.held.view_is c.requires.held))

pub invariant_of-self : goal.invariant_of-self
invariant_of-self g c =
    subst (IsKept g.N.Piece.meaning g.N.Piece.leaf g.N.Piece.truth (history_of c.set.new.self c.self.inside.limit c.push_reserved.new.self.items) c.set.new.self) (sym c.push_reserved.ensures.capacity)
    (drop_kept g.N.Piece.meaning g.N.Piece.leaf g.N.Piece.truth (record { worker = c.held.inside.worker; entry = c.held.inside.entry; key = g.N.Piece.key c.held.inside.piece }) c.self.inside.limit _ c.self.inside.roll c.set.new.self c.self.inside.journal.items c.push_reserved.new.self.items c.self.invariant
    (held_here g.N.Piece.meaning g.N.Piece.leaf g.N.Piece.truth c.self.inside.roll c.self.inside.limit _ c.self.inside.journal.items c.args.self.now (record { worker = c.held.inside.worker; entry = c.held.inside.entry; key = g.N.Piece.key c.held.inside.piece }) c.args.held c.self.invariant c.self.view_is c.held.view_is c.requires.held)
    (unset_here g.N.Piece.meaning g.N.Piece.leaf g.N.Piece.truth c.self.inside.roll c.self.inside.limit _ c.self.inside.journal.items c.args.self.now c.self.invariant c.self.view_is false c.requires.stopped)
    c.set.ensures.changed c.push_reserved.ensures.items)
