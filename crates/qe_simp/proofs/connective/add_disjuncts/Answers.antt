use Rattle.std.proofs.Common.{◌∙◌, sym, ap, [], ◌∷◌, ◌++◌}
use Rattle.qe_form.specs.Tree.{tree}
use Rattle.qe_form.proofs.Ranks.{not_false, not_or}
use Rattle.qe_form.proofs.Trees.{tree_or}
use Rattle.qe_simp.specs.declared.connective.Connective.TheVariants.{Disjunction}
use Rattle.qe_simp.specs.Simplified.{parts_in}
use Rattle.qe_simp.proofs.Lists.{added, listed_trees, own_in_disjunction}
use Rattle.qe_simp.proofs.connective.add_disjuncts.Goals as goal

pub returns-in_ok-append-in-Or : goal.returns-in_ok-append-in-Or
returns-in_ok-append-in-Or c =
    added c.args.parts.now.items c.append.new.self.items c.in-Or.more (parts_in Disjunction (tree c.args.form))
    (c.in_ok-append-in-Or.ensures.items ∙ ap (λ more. c.args.parts.now.items ++ more) c.into_vec.ensures)
    (sym (ap (parts_in Disjunction) (ap tree c.in-Or.is ∙ tree_or c.in-Or.more) ∙ listed_trees c.in-Or.more))

pub returns-in_ok-push-in_default : goal.returns-in_ok-push-in_default
returns-in_ok-push-in_default c =
    added c.args.parts.now.items c.push.new.self.items (c.args.form ∷ []) (parts_in Disjunction (tree c.args.form)) c.in_ok-push-in_default.ensures.items
    (sym (own_in_disjunction (tree c.args.form) (not_false c.args.form c.in_default.not-False) (not_or c.args.form c.in_default.not-Or)))
