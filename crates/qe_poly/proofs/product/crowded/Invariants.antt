use Rattle.std.proofs.Common.{◌≡◌, map, drop}
use Rattle.qe_poly.specs.Polynomial.{products}
use Rattle.qe_poly.specs.Collected.{has_high}
use Rattle.qe_poly.specs.Rows.{shown}
use Rattle.qe_poly.proofs.product.crowded.Given as goal

abbrev pub invariant-loop-term : goal.invariant-loop-term
invariant-loop-term state = has_high (products (map shown (drop state.term-index state.left)) (map shown state.right)) ≡ has_high (products (map shown state.left) (map shown state.right))
