use Rattle.qe_base.proofs.Transfers.{LosesFront-after}
use Rattle.qe_base.proofs.whole.read_all.Goals as goal

pub returns-in_err-count-clause-none_lost : goal.returns-in_err-count-clause-none_lost
returns-in_err-count-clause-none_lost g c = LosesFront-after _ _ _ _ c.loop-turn.invariant.lost c.in_err-count.ensures.none_lost
