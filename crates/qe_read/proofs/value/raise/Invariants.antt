use Rattle.std.proofs.Common.{◌≡◌, ◌-◌}
use Rattle.qe_read.specs.Value.{repeated}
use Rattle.qe_read.proofs.value.raise.Given as goal

abbrev pub invariant-loop-turn : goal.invariant-loop-turn
invariant-loop-turn l = repeated l.place l.base (l.exponent - l._turn) l.power ≡ repeated l.place l.base (l.exponent - 1) l.base
