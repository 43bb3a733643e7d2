use Rattle.qe_board.proofs.Counting.{counted_stop}
use Rattle.qe_board.proofs.roll.Roll.stop.Goals as goal

pub drop_waiting-requires : goal.drop_waiting-requires
drop_waiting-requires g c = c.self.invariant.passed

pub invariant_of-self : goal.invariant_of-self
invariant_of-self g c =
    counted_stop g.N.Piece.truth (record { entries = c.self.inside.entries; stop = c.self.inside.stopping }) c.self.inside.next c.self.inside.waiting c.self.inside.held c.self.inside.true_leaf c.self.invariant
    c.drop_waiting.new.self c.drop_waiting.ensures c.args.stopping
