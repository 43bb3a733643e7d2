use Rattle.std.proofs.Common.{◌≡◌, ◌++◌, map, length}
use Rattle.std.specs.Vec.Iter.{into_iter_items, into_iter_len}
use Rattle.qe_poly.specs.Tally.{shown_group}
use Rattle.qe_poly.specs.Collected.{tallied_limit, tallied_terms}
use Rattle.qe_poly.specs.Rows.{shown}
use Rattle.qe_poly.proofs.product.finish.Given as goal

abbrev pub invariant-loop-group : goal.invariant-loop-group
invariant-loop-group state = record {
  count : into_iter_len state.group-iterator ≡ length (into_iter_items state.group-iterator);
  limit : tallied_limit (map shown_group (into_iter_items state.group-iterator)) ≡ tallied_limit (map shown_group state.fn.groups.items);
  terms : map shown state.terms.items ++ tallied_terms (map shown_group (into_iter_items state.group-iterator)) ≡ tallied_terms (map shown_group state.fn.groups.items);
}
