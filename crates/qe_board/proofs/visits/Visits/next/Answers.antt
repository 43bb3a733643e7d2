use Rattle.std.proofs.Common.{◌∙◌, ap, sym, ◌∷◌, [], ◌++◌, map, reverse, length}
use Rattle.qe_board.specs.Recorded.{is_met}
use Rattle.qe_board.specs.Visited.{spot_of, standing, path_at, spots_ahead}
use Rattle.qe_board.proofs.Visiting.{popped, path_of, next_behind}
use Rattle.qe_board.proofs.visits.Visits.next.Goals as goal

pub returns-then-contains : goal.returns-then-contains
returns-then-contains c = (
  record { path = path_at c.in-Some.next.from (map spot_of c.self.inside.done.items) ++ c.in-Some.next.link.point ∷ []; entry = c.in-Some.next.link.entry },
  ap (λ v. v.todo) (sym c.self.view_is) ∙ ap (spots_ahead (map spot_of c.self.inside.done.items)) (popped c.self.inside.todo.items c.pop.new.self.items c.in-Some.next c.in-Some.ensures.items),
  ap (λ v. is_met c.in-Some.next.link.entry (standing v.done)) (sym c.self.view_is) ∙ (ap (is_met c.in-Some.next.link.entry) (sym c.self.invariant.1) ∙ (sym c.contains.ensures ∙ c.if-contains.true)),
  ap (λ v. v.done) c.self.view_is,
)

pub returns : goal.returns
returns c = (
  ap (λ v. v.todo) (sym c.self.view_is) ∙ (ap (spots_ahead (map spot_of c.self.inside.done.items)) (popped c.self.inside.todo.items c.pop.new.self.items c.in-Some.next c.in-Some.ensures.items)
      ∙ ap (λ path. record { path = path; entry = c.in-Some.next.link.entry } ∷ spots_ahead (map spot_of c.self.inside.done.items) (reverse c.pop.new.self.items))
      (ap (λ path. path ++ c.in-Some.next.link.point ∷ []) (path_of c.self.inside.done.items c.in-Some.next.from c.index.result.now (next_behind c.self.inside.todo.items c.pop.new.self.items c.in-Some.next (length c.self.inside.done.items) c.in-Some.ensures.items c.self.invariant.2) c.index.ensures) ∙ sym c.in_ok-path.ensures)),
  ap (λ v. is_met c.in-Some.next.link.entry (standing v.done)) (sym c.self.view_is) ∙ (ap (is_met c.in-Some.next.link.entry) (sym c.self.invariant.1) ∙ (sym c.contains.ensures ∙ c.if-contains.false)),
  ap (λ v. v.done) c.self.view_is,
)
