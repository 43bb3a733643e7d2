use Rattle.std.specs.Option.{option_copied}
use Rattle.qe_form.specs.Tree.{tree}
use Rattle.qe_node.proofs.Tries.{may_stand}
use Rattle.qe_node.proofs.trial.put_in.Goals as goal

pub unless_false-requires : goal.unless_false-requires
unless_false-requires c =
    may_stand c.args.x.0 c.args.found.point (option_copied c.args.own) (tree c.args.form.now) (tree c.args.found.guard) (tree c.in-Ok.rest) (tree c.in_ok-both-in-Ok.field-0) (tree c.in_ok-joined-in-Ok.joined)
    c.requires.guard.proper c.requires.guard.small c.in-Ok.ensures.plain c.in-Ok.ensures.exact.0 c.in-Ok.ensures.exact.1 c.in_ok-both-in-Ok.ensures c.in_ok-joined-in-Ok.ensures.kept c.in_ok-joined-in-Ok.ensures.plain
