use Rattle.std.proofs.Common.{◌∙◌, ap, sym, subst, length, map, None, arith}
use Rattle.std.specs.Vec.Iter.{into_iter_items}
use Rattle.qe_board.specs.Visited.{spot_of}
use Rattle.qe_board.specs.Recorded.{spots}
use Rattle.qe_board.proofs.Gathered.{IsFound, spots_inside, nothing_found, found_leaf}
use Rattle.qe_board.proofs.visits.find.Goals as goal

pub loop-place-init : goal.loop-place-init
loop-place-init g c = record {
  count = c.into_iter-place-iterator.ensures.into_iter_gives.1 ∙ (c.in_ok-place-items.place-items.ok.0 ∙ ap length (sym c.into_iter-place-iterator.ensures.into_iter_gives.0));
  found = subst (λ ls. IsFound c.args.entries.now (spots g.N.Piece.height c.args.entries.now) ls None (into_iter_items c.into_iter-place-iterator.result)) (sym c.new-leaves.ensures.items)
      (nothing_found c.args.entries.now (spots g.N.Piece.height c.args.entries.now) (into_iter_items c.into_iter-place-iterator.result)
      (ap (map spot_of) c.into_iter-place-iterator.ensures.into_iter_gives.0 ∙ c.in_ok-place-items.ensures) (spots_inside c.args.entries.now g.N.Piece.height c.requires.links c.requires.some));
}

pub loop-place-preserved-in-Continue-branch-2 : goal.loop-place-preserved-in-Continue-branch-2
loop-place-preserved-in-Continue-branch-2 g c =
    let steps = c.in-Some.ensures.steps in
    let es = c.args.entries.now in
    let all = spots g.N.Piece.height c.args.entries.now in
    record {
      count = let longer = ap length steps.0 in let shorter = steps.1 in let same = c.loop-place.invariant.count in omega (arith, longer, shorter, same);
      found = found_leaf es all c.loop-place.leaves.items c.loop-place.failed c.in-Some.place (into_iter_items c.next.new.self)
          (subst (IsFound es all c.loop-place.leaves.items c.loop-place.failed) steps.0 c.loop-place.invariant.found) (sym c.is_leaf.ensures ∙ c.if-is_leaf.true) c.push.new.self.items c.in_ok-push.ensures.items;
    }
