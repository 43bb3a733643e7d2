use Rattle.std.proofs.Common.{length, arith, ◌<◌, ◌∙◌, ap}
use Rattle.qe_form.specs.Tree.{tree}
use Rattle.qe_node.specs.Trial.{trial_of}
use Rattle.qe_node.specs.Answer.{numbered_nodes}
use Rattle.qe_node.proofs.Remaining.{numbers}
use Rattle.qe_node.proofs.Growing.{turn_skips, turn_gives, one_pushed}
use Rattle.qe_node.proofs.expansion.try_candidates.Goals as goal
use Rattle.qe_node.proofs.expansion.try_candidates.Goals.{in-Skipped, in-Given+in_ok-piece-in-Given+in_ok-push-in-Given+else-last}

pub loop-number-preserved : goal.loop-number-preserved
loop-number-preserved g c =
    let within : c.loop-number.number < length c.args.candidates.now = omega arith in
    elim c.match-branch-2.branch [
      | in-Skipped w ↦ record {
        grown = turn_skips (numbers c.args.vars.now) c.args.x.0 (tree c.args.form.now) c.args.candidates.now c.loop-number.number within (numbered_nodes c.loop-number.grown.items) _ c.loop-number.invariant.grown
            c.index-candidates-number.result c.index-candidates-number.is (trial_of c.in_ok-fault.field-0) (numbered_nodes c.match-branch-2.grown.items) c.in_ok-fault.ensures.exact (ap trial_of w.in-Skipped.is) (ap (λ v. numbered_nodes v.items) w.grown-is);
        stays = λ h. c.stopped.ensures.stays (c.loop-number.invariant.stays h);
        basis = c.stopped.ensures.basis ∙ c.loop-number.invariant.basis;
      }
      | in-Given+in_ok-piece-in-Given+in_ok-push-in-Given+else-last w ↦ record {
        grown = turn_gives (numbers c.args.vars.now) c.args.x.0 (tree c.args.form.now) c.args.candidates.now c.loop-number.number within (numbered_nodes c.loop-number.grown.items) _ c.loop-number.invariant.grown
            c.index-candidates-number.result c.index-candidates-number.is (trial_of c.in_ok-fault.field-0) (tree w.in-Given.form) c.in_ok-fault.ensures.exact (ap trial_of w.in-Given.is)
            (numbered_nodes c.match-branch-2.grown.items) w.is_true-last.result w.is_true-last.ensures w.if-last.false
            (one_pushed (numbers c.args.vars.now) c.loop-number.grown.items c.match-branch-2.grown.items c.loop-number.number w.in_ok-piece-in-Given.piece (tree w.in-Given.form)
            (ap (λ v. v.items) w.grown-is ∙ w.in_ok-push-in-Given.ensures.items) w.in_ok-piece-in-Given.ensures.form w.in_ok-piece-in-Given.ensures.vars);
        stays = λ h. c.stopped.ensures.stays (c.loop-number.invariant.stays h);
        basis = c.stopped.ensures.basis ∙ c.loop-number.invariant.basis;
      }
    ]
