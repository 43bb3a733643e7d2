use Rattle.std.proofs.Common.{◌≡◌, ◌++◌, map, drop}
use Rattle.qe_poly.specs.Coefficients.{derivative}
use Rattle.qe_poly.specs.Limits.{derivative_limit}
use Rattle.qe_poly.specs.Rows.{shown}
use Rattle.qe_poly.proofs.multiple.derivative.Given as goal

abbrev pub invariant-loop-term : goal.invariant-loop-term
invariant-loop-term state = record {
  limit : derivative_limit state.var.0 (map shown (drop state.term-index state.terms)) ≡ derivative_limit state.var.0 (map shown state.terms);
  terms : map shown state.products.items ++ derivative state.var.0 (map shown (drop state.term-index state.terms)) ≡ derivative state.var.0 (map shown state.terms);
}
