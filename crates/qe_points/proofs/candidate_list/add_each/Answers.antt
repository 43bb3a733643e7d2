use Rattle.qe_points.specs.Candidates.{is_above}
use Rattle.qe_points.proofs.Gathering.{roots_more, roots_all}
use Rattle.std.proofs.lemmas.Map.Iter.{rest_more, rest_all}
use Rattle.qe_points.proofs.candidate_list.add_each.Goals as goal

pub loop-poly-preserved : goal.loop-poly-preserved
loop-poly-preserved c =
    roots_more c.args.x.0 (is_above c.args.spot) _ _ _ (c.in-Some.poly, c.in-Some.atom) _ _ (rest_more (λ x. x) _ _ c.next.result _ c.in-Some.is c.next.ensures.steps) c.in_ok-add_roots.ensures c.loop-poly.invariant

pub returns : goal.returns
returns c = roots_all c.args.x.0 (is_above c.args.spot) _ _ _ (rest_all (λ x. x) _ _ c.next.result c.in-None.is c.next.ensures.steps) c.loop-poly.invariant
