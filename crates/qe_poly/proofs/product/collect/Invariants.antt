use Rattle.std.proofs.Common.{◌≡◌, ltb, false, length, map, drop, []}
use Rattle.qe_halt.specs.Outcome.{or_else}
use Rattle.qe_poly.specs.Polynomial.{products}
use Rattle.qe_poly.specs.Tally.{shown_group, IsInOrder}
use Rattle.qe_poly.specs.Collected.{has_high, fitted, entered, limit_of, pairs_wide}
use Rattle.qe_poly.specs.Rows.{shown}
use Rattle.qe_poly.proofs.product.collect.Given as goal

abbrev pub invariant-loop-term : goal.invariant-loop-term
invariant-loop-term state = record {
  order : IsInOrder state.groups.items;
  high : has_high (products (map shown (drop state.term-index state.left)) (map shown state.right)) ≡ has_high (products (map shown state.left) (map shown state.right));
  few : ltb 4096 (length (map shown_group state.groups.items)) ≡ false;
  first : or_else (limit_of state.wide) (pairs_wide (map shown (drop state.term-index state.left)) (map shown state.right)) ≡ pairs_wide (map shown state.left) (map shown state.right);
  groups : entered (fitted (map shown (drop state.term-index state.left)) (map shown state.right)) (map shown_group state.groups.items) ≡ entered (fitted (map shown state.left) (map shown state.right)) [];
}
