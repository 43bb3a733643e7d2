use Rattle.std.proofs.Common.{◌≤◌, ◌+◌, ◌∙◌, ◌++◌, ap, sym, subst, map, reverse, length}
use Rattle.std.specs.Slice.Iter.{iter_rest}
use Rattle.std.specs.Iterator.Adapters.{rev_source}
use Rattle.std.specs.Vec.{vec_len, vec_capacity}
use Rattle.qe_board.specs.Visited.{upcoming}
use Rattle.qe_board.proofs.visits.look_ahead.Goals as goal

pub loop-link-init : goal.loop-link-init
loop-link-init c =
    let rest = ap (λ r. iter_rest (rev_source r)) c.into_iter-link-iterator.ensures.into_iter_gives ∙ (ap iter_rest c.rev-link-items.ensures.source ∙ c.iter.ensures.rest) in
    record {
      todo = ap (λ ls. c.args.todo.now.items ++ reverse (map (upcoming c.args.from) ls)) rest;
      room = subst (λ ls. vec_len c.args.todo.now + length ls ≤ vec_capacity c.args.todo.now) (sym rest) c.requires;
    }
