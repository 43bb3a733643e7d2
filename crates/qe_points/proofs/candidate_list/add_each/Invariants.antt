use Rattle.std.proofs.Common.{◌≡◌, ◌++◌}
use Rattle.qe_points.specs.Candidates.{roots, is_above}
use Rattle.qe_points.proofs.candidate_list.add_each.Given as goal

abbrev pub invariant-loop-poly : goal.invariant-loop-poly
invariant-loop-poly l = l.candidates.items ++ roots l.x.0 (is_above l.spot) l.poly-iterator ≡ l.initial.candidates.items ++ roots l.x.0 (is_above l.spot) l.fn.found.entries
