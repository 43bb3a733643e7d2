use Rattle.std.proofs.Common.{◌≡◌, map, drop}
use Rattle.qe_poly.specs.Collected.{product_row, has_high}
use Rattle.qe_poly.specs.Rows.{shown}
use Rattle.qe_poly.proofs.product.has_high_row.Given as goal

abbrev pub invariant-loop-other : goal.invariant-loop-other
invariant-loop-other state = has_high (product_row (shown state.term) (map shown (drop state.other-index state.right))) ≡ has_high (product_row (shown state.term) (map shown state.right))
