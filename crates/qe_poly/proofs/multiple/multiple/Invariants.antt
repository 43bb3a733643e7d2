use Rattle.std.proofs.Common.{◌≡◌, ◌++◌, map, drop}
use Rattle.qe_poly.specs.Value.{scaled}
use Rattle.qe_poly.specs.Limits.{scale_limit}
use Rattle.qe_poly.specs.Rows.{shown}
use Rattle.qe_poly.proofs.multiple.multiple.Given as goal

abbrev pub invariant-loop-term : goal.invariant-loop-term
invariant-loop-term state = record {
  limit : scale_limit state.by (map shown (drop state.term-index state.terms)) ≡ scale_limit state.by (map shown state.terms);
  terms : map shown state.products.items ++ scaled state.by (map shown (drop state.term-index state.terms)) ≡ scaled state.by (map shown state.terms);
}
