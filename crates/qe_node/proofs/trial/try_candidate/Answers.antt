use Rattle.qe_form.specs.Tree.{tree}
use Rattle.qe_node.proofs.Tries.{tried_found, guard_fits}
use Rattle.qe_node.proofs.trial.try_candidate.Goals as goal

pub put_in-requires-clause-guard : goal.put_in-requires-clause-guard
put_in-requires-clause-guard c =
    guard_fits c.args.x.0 c.args.candidate.now c.in-Ok-Some.field-0 c.in-Ok-Some.found c.in-Ok-Some.field-0-is c.in-Ok-Some.ensures.exact.1 c.in-Ok-Some.ensures.sound

pub returns-in-Ok-Some-clause-exact : goal.returns-in-Ok-Some-clause-exact
returns-in-Ok-Some-clause-exact c =
    tried_found c.args.x.0 (tree c.args.form.now) c.args.number c.args.candidate.now c.in-Ok-Some.ensures.exact.0 c.in-Ok-Some.field-0 c.in-Ok-Some.found _ c.put_in.result c.in-Ok-Some.field-0-is
    c.in-Ok-Some.ensures.exact.1 c.own.ensures c.put_in.ensures.exact
