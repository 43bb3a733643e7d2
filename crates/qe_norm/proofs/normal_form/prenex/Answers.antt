use Rattle.std.proofs.Common.{◌∙◌, ap}
use Rattle.qe_form.specs.Tree.{tree}
use Rattle.qe_norm.specs.Blocks.{grouped}
use Rattle.qe_norm.proofs.Assembled.{assembled}
use Rattle.qe_norm.proofs.normal_form.prenex.Goals as goal

pub returns : goal.returns
returns c =
    assembled (tree c.args.form.now) c.args.names _ c.in_ok-walk.walk c.open.new.walk c.in_ok-walk.ensures c.in_ok-matrix.ensures.state
    (c.in_ok-blocks.ensures ∙ ap grouped c.deref.ensures.value ∙ ap (λ s. grouped s.prefix) c.walk.view_is) c.in_ok-matrix.ensures.matrix
    (ap (λ s. s.walked.names) c.walk.view_is)
