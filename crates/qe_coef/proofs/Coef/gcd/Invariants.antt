use Rattle.std.proofs.Common.{ℕ, ◌<◌, ◌^◌, unsigned_abs}
use Rattle.std.specs.Int.{IsGcd}
use Rattle.qe_coef.proofs.Coef.gcd.Given as goal

abbrev pub invariant-loop-b : goal.invariant-loop-b
invariant-loop-b l = record {
  first : l.a < 2 ^ 127;
  second : l.b < 2 ^ 127;
  same : (g : ℕ) → IsGcd l.a l.b g → IsGcd (unsigned_abs l.fn.self) (unsigned_abs l.fn.other) g;
}

abbrev pub decreases-loop-b : goal.decreases-loop-b
decreases-loop-b l = l.b
