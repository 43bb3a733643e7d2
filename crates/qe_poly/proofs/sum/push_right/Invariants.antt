use Rattle.std.proofs.Common.{◌≡◌, ◌++◌, [], map, drop}
use Rattle.qe_poly.specs.Rows.{shown, shown_row, merged}
use Rattle.qe_poly.proofs.sum.push_right.Given as goal

abbrev pub invariant-loop-term : goal.invariant-loop-term
invariant-loop-term state = map shown_row state.rows.items ++ merged [] (map shown (drop state.term-index state.terms)) ≡ map shown_row state.initial.rows.items ++ merged [] (map shown state.terms)
