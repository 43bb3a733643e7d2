use Rattle.std.proofs.Common.{refl}
use Rattle.qe_form.specs.Tree.{tree}
use Rattle.qe_node.proofs.Remaining.{numbers, node_of}
use Rattle.qe_node.proofs.root_node.root.Goals as goal

pub invariant_of-result : goal.invariant_of-result
invariant_of-result c =
    node_of c.args.vars.now (tree c.args.form) (numbers c.in_ok-remaining.field-0) (tree c.args.form) c.in_ok-remaining.ensures refl c.requires.distinct c.requires.short c.requires.proper c.requires.small
