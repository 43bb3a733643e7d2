use Rattle.std.proofs.Common.{◌≡◌, sym, subst, take}
use Rattle.qe_board.specs.State.{count, is_waiting, is_held}
use Rattle.qe_board.proofs.Counting.{counted_cut}
use Rattle.qe_board.proofs.roll.Roll.truncate.Goals as goal

pub invariant_of-self : goal.invariant_of-self
invariant_of-self g c =
    counted_cut g.N.Piece.truth (record { entries = c.self.inside.entries; stop = c.self.inside.stopping }) c.self.inside.next c.self.inside.waiting c.self.inside.held c.self.inside.true_leaf c.self.invariant
    c.args.len (subst (λ s. count is_waiting (take c.args.len s.entries) ≡ count is_waiting s.entries) (sym c.self.view_is) c.requires.waiting)
    (subst (λ s. count is_held (take c.args.len s.entries) ≡ count is_held s.entries) (sym c.self.view_is) c.requires.held)
    c.truncate.new.self c.truncate.ensures c.min-self-inside.result c.min-self-inside.ensures c.below-self-inside.result c.below-self-inside.ensures
