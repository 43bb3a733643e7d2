use Rattle.std.proofs.Common.{◌≤◌, ◌+◌, ◌∙◌, refl, sym, subst}
use Rattle.qe_board.proofs.Counting.{Dropping, drops_one, passes_one, all_dropped}
use Rattle.qe_board.proofs.entries.Entries.drop_waiting.Goals as goal
use Rattle.qe_board.proofs.entries.Entries.drop_waiting.Goals.{then-waits, else-waits}

pub loop-entry-init : goal.loop-entry-init
loop-entry-init g c = (refl, (refl, c.requires))

pub loop-entry-preserved : goal.loop-entry-preserved
loop-entry-preserved g c = elim c.if-waits.branch [
  | then-waits w ↦ drops_one c.loop-entry.entry c.loop-entry.self c.args.self.now c.if-waits.self c.loop-entry.invariant (sym w.if-waits.ensures) (w.self-is ∙ w.replace.ensures.changed)
  | else-waits w ↦ subst (λ es. Dropping (c.loop-entry.entry + 1) es c.args.self.now) (sym w.self-is) (passes_one c.loop-entry.entry c.loop-entry.self c.args.self.now c.loop-entry.invariant (sym w.if-waits.ensures))
]

pub returns : goal.returns
returns g c = all_dropped c.loop-entry.entry c.loop-entry.self c.args.self.now c.loop-entry.invariant (subst (λ n. n ≤ c.loop-entry.entry) c.len-entry-end.ensures.len c.loop-entry-test.false)
