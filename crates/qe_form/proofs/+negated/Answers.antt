use Rattle.std.proofs.Common.{◌∙◌, sym, ap}
use Rattle.qe_form.specs.Formula.{And, Or}
use Rattle.qe_form.specs.Negation.{negated}
use Rattle.qe_form.specs.Tree.{tree}
use Rattle.qe_form.proofs.Opposites.{opposite_from, negated_more}
use Rattle.qe_form.proofs.Trees.{tree_and, tree_or}
use Rattle.qe_form.proofs.+negated.Goals as goal

pub form::Form::negated-returns-in_ok-negated_all-in-And-clause-opposite : goal.form::Form::negated-returns-in_ok-negated_all-in-And-clause-opposite
form::Form::negated-returns-in_ok-negated_all-in-And-clause-opposite t c =
    opposite_from (tree c.args.self) _ (tree_or c.in_ok-negated_all-in-And.field-0 ∙ (ap Or c.in_ok-negated_all-in-And.ensures ∙ ap negated (sym (ap tree c.in-And.is ∙ tree_and c.in-And.parts))))

pub form::Form::negated-returns-in_ok-negated_all-in-Or-clause-opposite : goal.form::Form::negated-returns-in_ok-negated_all-in-Or-clause-opposite
form::Form::negated-returns-in_ok-negated_all-in-Or-clause-opposite t c =
    opposite_from (tree c.args.self) _ (tree_and c.in_ok-negated_all-in-Or.field-0 ∙ (ap And c.in_ok-negated_all-in-Or.ensures ∙ ap negated (sym (ap tree c.in-Or.is ∙ tree_or c.in-Or.parts))))

pub negation::negated_all-loop-form-preserved : goal.negation::negated_all-loop-form-preserved
negation::negated_all-loop-form-preserved t c =
    negated_more c.loop-form.negatives c.push.new.self c.loop-form.yielded c.in-Some.form c.in_ok-negated.field-0 c.in_ok-push.ensures.ok c.in_ok-negated.ensures.exact c.loop-form.invariant
