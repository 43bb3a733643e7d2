use Rattle.std.proofs.Common.{◌≡◌, drop}
use Rattle.qe_poly.specs.Coefficients.{exponent_of}
use Rattle.qe_poly.proofs.monomial.Monomial.exponent_of.Given as goal

abbrev pub invariant-loop-power : goal.invariant-loop-power
invariant-loop-power state = exponent_of state.var.0 (drop state.power-index state.power-items) ≡ exponent_of state.var.0 state.power-items
