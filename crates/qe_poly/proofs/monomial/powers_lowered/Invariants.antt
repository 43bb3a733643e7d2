use Rattle.std.proofs.Common.{◌≡◌, ◌++◌, drop}
use Rattle.qe_poly.specs.Coefficients.{lowered}
use Rattle.qe_poly.proofs.monomial.powers_lowered.Given as goal

abbrev pub invariant-loop-i : goal.invariant-loop-i
invariant-loop-i state = state.kept.items ++ lowered state.var.0 (drop state.i state.powers) ≡ lowered state.var.0 state.powers
