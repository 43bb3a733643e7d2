use Rattle.std.proofs.Common.{rules, arith, ap, ◌≤◌, ℕ, length, length-append}
use Rattle.std.proofs.lemmas.Grind.{common_steps}
use Rattle.qe_base.proofs.Transfers.{AppendsUpTo-more}
use Rattle.qe_base.proofs.whole.write_all.Goals as goal

pub loop-rest-preserved : goal.loop-rest-preserved
loop-rest-preserved g c =
    let more = AppendsUpTo-more _ _ _ _ _ _ c.loop-rest.invariant.written c.in_ok-count.ensures.takes in
    record {
      written = grind (arith, common_steps, more);
      faults_kept = search rules;
      empty = λ none.
          let short : length c.loop-rest.rest.now ≤ 0 = omega (arith, length-append {A = ℕ}, ap length none, ap length c.loop-rest.invariant.written.parts) in
          absurd (grind (arith, common_steps));
    }
