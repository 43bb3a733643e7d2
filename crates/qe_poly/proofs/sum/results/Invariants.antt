use Rattle.std.proofs.Common.{◌≡◌, ◌++◌, map, length}
use Rattle.std.specs.Vec.Iter.{into_iter_items, into_iter_len}
use Rattle.qe_poly.specs.Rows.{shown, shown_row, kept_results, row_limit}
use Rattle.qe_poly.proofs.sum.results.Given as goal

abbrev pub invariant-loop-row : goal.invariant-loop-row
invariant-loop-row state = record {
  count : into_iter_len state.row-iterator ≡ length (into_iter_items state.row-iterator);
  limit : row_limit state.op (map shown_row (into_iter_items state.row-iterator)) ≡ row_limit state.op (map shown_row state.fn.rows.items);
  terms : map shown state.terms.items ++ kept_results state.op (map shown_row (into_iter_items state.row-iterator)) ≡ kept_results state.op (map shown_row state.fn.rows.items);
}
