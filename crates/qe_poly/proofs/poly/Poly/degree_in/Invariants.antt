use Rattle.std.proofs.Common.{◌≡◌, drop, map, max}
use Rattle.qe_poly.specs.Coefficients.{degree_in}
use Rattle.qe_poly.specs.Rows.{shown}
use Rattle.qe_poly.proofs.poly.Poly.degree_in.Given as goal

abbrev pub invariant-loop-term : goal.invariant-loop-term
invariant-loop-term state = max state.degree (degree_in state.var.0 (map shown (drop state.term-index state.term-items))) ≡ degree_in state.var.0 (map shown state.term-items)
