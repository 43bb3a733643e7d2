use Rattle.std.proofs.Common.{◌≡◌, ◌++◌, map, drop}
use Rattle.qe_poly.specs.Coefficients.{coefficient_in}
use Rattle.qe_poly.specs.Rows.{shown}
use Rattle.qe_poly.proofs.part.part.Given as goal

abbrev pub invariant-loop-term : goal.invariant-loop-term
invariant-loop-term state = map shown state.kept.items ++ coefficient_in state.var.0 state.exponent (map shown (drop state.term-index state.terms)) ≡ coefficient_in state.var.0 state.exponent (map shown state.terms)
