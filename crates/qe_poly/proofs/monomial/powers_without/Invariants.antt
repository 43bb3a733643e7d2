use Rattle.std.proofs.Common.{◌≡◌, ◌++◌, drop}
use Rattle.qe_poly.specs.Coefficients.{without}
use Rattle.qe_poly.proofs.monomial.powers_without.Given as goal

abbrev pub invariant-loop-i : goal.invariant-loop-i
invariant-loop-i state = state.kept.items ++ without state.var.0 (drop state.i state.powers) ≡ without state.var.0 state.powers
