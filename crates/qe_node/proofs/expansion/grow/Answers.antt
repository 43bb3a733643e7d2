use Rattle.std.proofs.Common.{◌∙◌, sym, ap, subst, Ok, Err}
use Rattle.std.proofs.lemmas.Result.{err_from_is_err_and}
use Rattle.qe_form.specs.Tree.{tree}
use Rattle.qe_node.specs.Answer.{numbered_nodes, expansion_of}
use Rattle.qe_node.specs.Growth.{IsGrowth}
use Rattle.qe_node.proofs.Growing.{expansion_chosen, expansion_none, growth_stops, variable_chosen}
use Rattle.qe_node.proofs.Truth.{successors_true}
use Rattle.qe_node.proofs.expansion.grow.Goals as goal

pub returns-in_default-clause-answer : goal.returns-in_default-clause-answer
returns-in_default-clause-answer g c =
    expansion_none c.args.node.now (tree c.node.inside.form) c.node.inside.vars c.items-vars.result.now c.choose.result c.node.view_is c.items-vars.ensures c.choose.ensures.exact c.in_default.is

pub returns-in_err-successors-clause-answer : goal.returns-in_err-successors-clause-answer
returns-in_err-successors-clause-answer g c =
    let exit = err_from_is_err_and c.from_residual.result c.from_residual.ensures.1 in
    subst (λ r. IsGrowth (λ grown. grown.successors.items) (expansion_of c.args.node.now) (g.T.Stop.told c.grow_at.new.stop) r) (sym (exit.1 ∙ ap Err exit.2))
    (growth_stops c.args.node.now (tree c.node.inside.form) c.node.inside.vars c.items-vars.result.now c.choose.result c.node.view_is c.items-vars.ensures c.choose.ensures.exact
    (g.T.Stop.told c.grow_at.new.stop) c.in-Some.var c.in_err-successors.field-0.0 c.in-Some.is c.in_err-successors.ensures.answer)

pub returns-clause-answer : goal.returns-clause-answer
returns-clause-answer g c =
    expansion_chosen c.args.node.now (tree c.node.inside.form) c.node.inside.vars c.items-vars.result.now c.choose.result c.node.view_is c.items-vars.ensures c.choose.ensures.exact c.in-Some.var
    (Ok (numbered_nodes c.in_ok-successors.successors.items)) c.in-Some.is c.in_ok-successors.ensures.answer

pub returns-clause-chosen : goal.returns-clause-chosen
returns-clause-chosen g c =
    variable_chosen c.args.node.now (tree c.node.inside.form) c.node.inside.vars c.items-vars.result.now c.choose.result c.node.view_is c.items-vars.ensures c.choose.ensures.exact c.in-Some.var c.in-Some.is

pub returns-clause-truth : goal.returns-clause-truth
returns-clause-truth g c =
    successors_true c.node.inside.vars (tree c.node.inside.form) c.args.node.now c.in_ok-successors.successors.items c.node.view_is c.node.invariant c.in_ok-successors.ensures.canonical (returns-clause-answer g c)
