use Rattle.std.proofs.Common.{◌≡◌, take, map}
use Rattle.qe_poly.specs.Rows.{shown}
use Rattle.qe_poly.proofs.poly.Poly.copy.Given as goal

abbrev pub invariant-loop-term : goal.invariant-loop-term
invariant-loop-term state = map shown state.terms.items ≡ map shown (take state.term-index state.term-items)
