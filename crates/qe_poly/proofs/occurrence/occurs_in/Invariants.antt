use Rattle.std.proofs.Common.{◌≡◌, drop}
use Rattle.qe_poly.specs.Occurs.{occurs_in}
use Rattle.qe_poly.proofs.occurrence.occurs_in.Given as goal

abbrev pub invariant-loop-power : goal.invariant-loop-power
invariant-loop-power l = occurs_in l.var.0 (drop l.power-index l.powers) ≡ occurs_in l.var.0 l.powers
