use Rattle.std.proofs.Common.{ℕ, pos, unsigned_abs, ◌≤ℤ◌, ◌↔◌, map, drop}
use Rattle.std.specs.Int.{◌∣◌}
use Rattle.qe_poly.specs.Primitive.{DividesEach}
use Rattle.qe_poly.specs.Rows.{shown}
use Rattle.qe_poly.proofs.primitive.content.Given as goal

abbrev pub invariant-loop-term : goal.invariant-loop-term
invariant-loop-term l = record {
  sign : pos 0 ≤ℤ l.divisor;
  divisors : (d : ℕ) → ((d ∣ unsigned_abs l.divisor) × DividesEach d (map shown (drop l.term-index l.terms))) ↔ DividesEach d (map shown l.terms);
}
