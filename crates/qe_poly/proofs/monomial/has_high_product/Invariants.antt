use Rattle.std.proofs.Common.{◌≡◌, ◌+◌, ◌-◌, ◌≤◌, length, drop, false}
use Rattle.qe_poly.specs.Monomial.{times, is_high}
use Rattle.qe_poly.proofs.monomial.has_high_product.Given as goal

abbrev pub invariant-loop-i : goal.invariant-loop-i
invariant-loop-i state = record {
  left_in : state.i ≤ length state.left;
  right_in : state.j ≤ length state.right;
  left_low : is_high (drop state.i state.left) ≡ false;
  right_low : is_high (drop state.j state.right) ≡ false;
  rest : is_high (times (drop state.i state.left) (drop state.j state.right)) ≡ is_high (times state.left state.right);
}

abbrev pub decreases-loop-i : goal.decreases-loop-i
decreases-loop-i state = (length state.left + length state.right) - (state.i + state.j)
