use Rattle.std.proofs.Common.{◌≡◌, ◌≤◌, length, drop}
use Rattle.qe_form.specs.Order.{formulas_cmp}
use Rattle.qe_form.specs.Tree.{trees}
use Rattle.qe_form.proofs.+compare.Given as goal

abbrev pub invariant-order::compare_all-loop-i : goal.invariant-order::compare_all-loop-i
invariant-order::compare_all-loop-i l = record {
  within : l.i ≤ length l.others;
  rest : formulas_cmp (trees (drop l.i l.forms)) (trees (drop l.i l.others)) ≡ formulas_cmp (trees l.left) (trees l.right);
}
