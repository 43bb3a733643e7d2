use Rattle.qe_form.specs.Tree.{tree}
use Rattle.qe_simp.proofs.Kept.{kept_if_ok, again_if_ok, plain_if_ok}
use Rattle.qe_simp.proofs.formula.simplify.Goals as goal

pub returns-clause-kept : goal.returns-clause-kept
returns-clause-kept c = kept_if_ok (tree c.args.form) c.simplified_form.result c.simplified_form.ensures.exact c.simplified_form.ensures.canonical

pub returns-clause-again : goal.returns-clause-again
returns-clause-again c = again_if_ok (tree c.args.form) c.simplified_form.result c.simplified_form.ensures.exact c.simplified_form.ensures.canonical

pub returns-clause-plain : goal.returns-clause-plain
returns-clause-plain c = plain_if_ok (tree c.args.form) c.simplified_form.result c.simplified_form.ensures.exact c.simplified_form.ensures.canonical
