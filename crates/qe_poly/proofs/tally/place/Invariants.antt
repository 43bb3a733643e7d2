use Rattle.std.proofs.Common.{◌-◌, ◌≤◌, length, map, drop}
use Rattle.qe_poly.specs.Tally.{shown_group, IsSplit, IsAhead}
use Rattle.qe_poly.proofs.tally.place.Given as goal

abbrev pub invariant-loop-low : goal.invariant-loop-low
invariant-loop-low state = record {
  in_turn : state.low ≤ state.high;
  inside : state.high ≤ length state.groups;
  split : IsSplit state.monomial state.groups state.low;
  ahead : IsAhead state.monomial (map shown_group (drop state.high state.groups));
}

abbrev pub decreases-loop-low : goal.decreases-loop-low
decreases-loop-low state = state.high - state.low
