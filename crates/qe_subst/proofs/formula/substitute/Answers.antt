use Rattle.std.proofs.Common.{option_copied}
use Rattle.qe_form.specs.Tree.{tree}
use Rattle.qe_subst.proofs.LeftOver.{made_left}
use Rattle.qe_subst.proofs.PlainResult.{made_plain}
use Rattle.qe_subst.proofs.Truth.{made_means}
use Rattle.qe_subst.proofs.formula.substitute.Goals as goal

pub returns-clause-truth : goal.returns-clause-truth
returns-clause-truth c =
    made_means c.args.x.0 c.args.point.now (option_copied c.args.own) (tree c.args.form.now) (tree c.in_ok-made.made) c.requires.degree c.requires.plain c.in_ok-made.ensures.canonical c.in_ok-made.ensures.made.1

pub returns-clause-plain : goal.returns-clause-plain
returns-clause-plain c =
    made_plain c.args.x.0 c.args.point.now (option_copied c.args.own) (tree c.args.form.now) (tree c.in_ok-made.made) c.requires.plain c.in_ok-made.ensures.made.1

pub returns-clause-left : goal.returns-clause-left
returns-clause-left c =
    made_left c.args.x.0 c.args.point.now (option_copied c.args.own) (tree c.args.form.now) (tree c.in_ok-made.made) c.in_ok-made.ensures.canonical c.in_ok-made.ensures.made.1
