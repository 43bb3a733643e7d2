use Rattle.std.proofs.Common.{ℕ, unsigned_abs, map, drop, ◌+◌, subst, ◌↔◌}
use Rattle.std.specs.Int.{◌∣◌}
use Rattle.qe_poly.specs.Primitive.{DividesEach}
use Rattle.qe_poly.specs.Rows.{shown}
use Rattle.qe_poly.proofs.Divisors.{one_more}
use Rattle.qe_poly.proofs.KeptTerms.{first_left}
use Rattle.qe_poly.proofs.primitive.content.Goals as goal

pub loop-term-preserved : goal.loop-term-preserved
loop-term-preserved c =
    let left = first_left c.args.terms.now c.loop-term.term-index c.term-item.result c.loop-term-test.true c.term-item.is in
    let all : ℕ → Type 0 = λ d. DividesEach d (map shown c.args.terms.now) in
    record {
      sign = c.gcd-divisor.ensures.sign;
      divisors = λ d. one_more d (unsigned_abs c.loop-term.divisor) (unsigned_abs c.gcd-divisor.result) (shown c.term-item.result) (map shown (drop (c.loop-term.term-index + 1) c.args.terms.now))
          (all d) c.gcd-divisor.ensures.gcd (subst (λ ts. ((d ∣ unsigned_abs c.loop-term.divisor) × DividesEach d (map shown ts)) ↔ all d) left (c.loop-term.invariant.divisors d));
    }
