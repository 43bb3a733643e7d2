use Rattle.std.proofs.Common.{◌≡◌, map, drop}
use Rattle.qe_halt.specs.Outcome.{or_else}
use Rattle.qe_poly.specs.Tally.{shown_group, IsInOrder}
use Rattle.qe_poly.specs.Collected.{product_row, has_high, fitted_row, entered, limit_of, row_wide}
use Rattle.qe_poly.specs.Rows.{shown}
use Rattle.qe_poly.proofs.product.enter_row.Given as goal

abbrev pub invariant-loop-other : goal.invariant-loop-other
invariant-loop-other state = record {
  order : IsInOrder state.groups.items;
  high : has_high (product_row (shown state.term) (map shown (drop state.other-index state.right))) ≡ has_high (product_row (shown state.term) (map shown state.right));
  first : or_else (limit_of state.wide) (row_wide (shown state.term) (map shown (drop state.other-index state.right))) ≡ or_else (limit_of state.initial.wide) (row_wide (shown state.term) (map shown state.right));
  groups : entered (fitted_row (shown state.term) (map shown (drop state.other-index state.right))) (map shown_group state.groups.items) ≡ entered (fitted_row (shown state.term) (map shown state.right)) (map shown_group state.initial.groups.items);
}
