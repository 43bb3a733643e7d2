use Rattle.std.proofs.Common.{subst, Err}
use Rattle.qe_form.specs.Tree.{tree}
use Rattle.qe_norm.specs.Prenex.{Answers}
use Rattle.qe_program.proofs.Summarized.{never_large}
use Rattle.qe_program.proofs.summary.summarized.Goals as goal

pub unreachable-requires : goal.unreachable-requires
unreachable-requires c =
    let answer = subst (λ e. Answers (tree c.in_ok-input.input.form) c.in_ok-input.input.names (Err e)) c.in-Err-TooLarge.field-0-is c.in-Err-TooLarge.ensures.exact in
    never_large c.args.number (tree c.in_ok-input.input.form) c.in_ok-input.ensures.exact.0 answer.0
