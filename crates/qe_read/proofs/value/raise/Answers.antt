use Rattle.std.proofs.Common.{sym, ◌∙◌}
use Rattle.qe_read.proofs.Powers.{repeated_once}
use Rattle.qe_read.proofs.value.raise.Goals as goal

pub loop-turn-preserved : goal.loop-turn-preserved
loop-turn-preserved c =
    sym (repeated_once c.args.place c.args.base.now c.loop-turn.power c.in_ok-power-2.power c.args.exponent c.loop-turn._turn c.loop-turn-test.true c.in_ok-power-2.ensures) ∙ c.loop-turn.invariant
