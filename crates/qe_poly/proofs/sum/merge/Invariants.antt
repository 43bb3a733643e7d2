use Rattle.std.proofs.Common.{◌≡◌, ◌+◌, ◌-◌, ◌≤◌, length, map}
use Rattle.qe_poly.specs.Rows.{shown, merged}
use Rattle.qe_poly.proofs.Merging.{from, so_far}
use Rattle.qe_poly.proofs.sum.merge.Given as goal

abbrev pub invariant-loop-i : goal.invariant-loop-i
invariant-loop-i state = record {
  left_in : state.i ≤ length state.left;
  right_in : state.j ≤ length state.right;
  rows : so_far state.rows.items (from state.left state.i) (from state.right state.j) ≡ merged (map shown state.left) (map shown state.right);
}

abbrev pub decreases-loop-i : goal.decreases-loop-i
decreases-loop-i state = (length state.left + length state.right) - (state.i + state.j)
