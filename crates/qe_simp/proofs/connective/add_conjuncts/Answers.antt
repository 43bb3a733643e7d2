use Rattle.std.proofs.Common.{◌∙◌, sym, ap, [], ◌∷◌, ◌++◌}
use Rattle.qe_form.specs.Tree.{tree}
use Rattle.qe_form.proofs.Ranks.{not_true, not_and}
use Rattle.qe_form.proofs.Trees.{tree_and}
use Rattle.qe_simp.specs.declared.connective.Connective.TheVariants.{Conjunction}
use Rattle.qe_simp.specs.Simplified.{parts_in}
use Rattle.qe_simp.proofs.Lists.{added, listed_trees, own_in_conjunction}
use Rattle.qe_simp.proofs.connective.add_conjuncts.Goals as goal

pub returns-in_ok-append-in-And : goal.returns-in_ok-append-in-And
returns-in_ok-append-in-And c =
    added c.args.parts.now.items c.append.new.self.items c.in-And.more (parts_in Conjunction (tree c.args.form))
    (c.in_ok-append-in-And.ensures.items ∙ ap (λ more. c.args.parts.now.items ++ more) c.into_vec.ensures)
    (sym (ap (parts_in Conjunction) (ap tree c.in-And.is ∙ tree_and c.in-And.more) ∙ listed_trees c.in-And.more))

pub returns-in_ok-push-in_default : goal.returns-in_ok-push-in_default
returns-in_ok-push-in_default c =
    added c.args.parts.now.items c.push.new.self.items (c.args.form ∷ []) (parts_in Conjunction (tree c.args.form)) c.in_ok-push-in_default.ensures.items
    (sym (own_in_conjunction (tree c.args.form) (not_true c.args.form c.in_default.not-True) (not_and c.args.form c.in_default.not-And)))
