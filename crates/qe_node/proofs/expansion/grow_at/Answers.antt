use Rattle.std.proofs.Common.{◌∙◌, ap}
use Rattle.qe_node.proofs.Remaining.{numbers, others_distinct, others_short}
use Rattle.qe_node.proofs.Growing.{if_ok}
use Rattle.qe_node.proofs.expansion.grow_at.Goals as goal

pub try_candidates-requires-clause-distinct : goal.try_candidates-requires-clause-distinct
try_candidates-requires-clause-distinct g c = others_distinct c.args.x.0 (numbers c.args.vars.now) (numbers c.items.result.now) (ap numbers c.items.ensures ∙ c.in_ok-left.ensures) c.requires.distinct

pub try_candidates-requires-clause-short : goal.try_candidates-requires-clause-short
try_candidates-requires-clause-short g c = others_short c.args.x.0 c.args.vars.now c.items.result.now (ap numbers c.items.ensures ∙ c.in_ok-left.ensures) c.requires.short

pub returns-clause-canonical : goal.returns-clause-canonical
returns-clause-canonical g c = if_ok c.try_candidates.result c.in_ok-points.ensures.canonical
