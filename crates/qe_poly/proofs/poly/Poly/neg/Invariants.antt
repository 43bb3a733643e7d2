use Rattle.std.proofs.Common.{◌≡◌, ◌++◌, map, drop}
use Rattle.qe_poly.specs.Polynomial.{negative}
use Rattle.qe_poly.specs.Rows.{shown}
use Rattle.qe_poly.proofs.poly.Poly.neg.Given as goal

abbrev pub invariant-loop-term : goal.invariant-loop-term
invariant-loop-term state = map shown state.terms.items ++ negative (map shown (drop state.term-index state.term-items)) ≡ negative (map shown state.term-items)
