use Rattle.std.proofs.Common.{refl, ◌∙◌}
use Rattle.qe_node.proofs.Remaining.{same_numbers}
use Rattle.qe_node.proofs.node.same_vars.Goals as goal

pub returns : goal.returns
returns c = c.eq.ensures ∙ same_numbers _ (λ u v. refl) c.args.left.now c.args.right.now
