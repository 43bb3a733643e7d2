use Rattle.std.proofs.Common.{◌∙◌, ap, sym, subst, cond, ◌∷◌, [], ◌++◌, map, reverse, length}
use Rattle.qe_board.specs.Recorded.{is_met}
use Rattle.qe_board.specs.Shown.{link_of}
use Rattle.qe_board.specs.Visited.{spot_of, standing, spots_below, upcoming, spots_ahead, AreBehind}
use Rattle.qe_board.proofs.Visiting.{spots_more, standing_more, visited_todo, visited_behind}
use Rattle.qe_board.proofs.visits.Visits.visit.Goals as goal

pub invariant_of-self-in-Ok : goal.invariant_of-self-in-Ok
invariant_of-self-in-Ok c = (
  c.insert.ensures.unique,
  c.in-Ok.ensures.keys
      ∙ (ap (λ b. cond b c.self.inside.met.keys (c.self.inside.met.keys ++ c.args.place.entry ∷ []))
      (ap (is_met c.args.place.entry) (c.self.invariant.1 ∙ ap (λ v. standing v.done) c.self.view_is) ∙ c.requires.new)
      ∙ (ap (λ ks. ks ++ c.args.place.entry ∷ []) c.self.invariant.1 ∙ sym (standing_more c.self.inside.done.items c.push_reserved.new.self.items c.args.place (c.push_reserved.ensures.items ∙ ap (λ ps. ps ++ c.args.place ∷ []) c.in_ok-reserve.ensures.items)))),
  subst (λ ps. AreBehind (length ps) (reverse c.look_ahead.new.todo.items)) (sym (c.push_reserved.ensures.items ∙ ap (λ ps. ps ++ c.args.place ∷ []) c.in_ok-reserve.ensures.items))
      (visited_behind c.self.inside.done.items c.args.place c.self.inside.todo.items c.look_ahead.new.todo.items c.args.links.now c.len.result (c.len.ensures ∙ (c.reserve.new.self.ok.0 ∙ ap length c.in_ok-reserve.ensures.items)) (c.look_ahead.ensures ∙ ap (λ us. us ++ reverse (map (upcoming c.len.result) c.args.links.now)) c.in_ok-reserve-2.ensures.items) c.self.invariant.2),
)

pub returns-in-Ok : goal.returns-in-Ok
returns-in-Ok c = λ i. record {
  done = (spots_more c.self.inside.done.items c.push_reserved.new.self.items c.args.place (c.push_reserved.ensures.items ∙ ap (λ ps. ps ++ c.args.place ∷ []) c.in_ok-reserve.ensures.items) ∙ ap (λ v. v.done ++ spot_of c.args.place ∷ []) c.self.view_is) i;
  todo = (ap (λ ps. spots_ahead (map spot_of ps) (reverse c.look_ahead.new.todo.items)) (c.push_reserved.ensures.items ∙ ap (λ ps. ps ++ c.args.place ∷ []) c.in_ok-reserve.ensures.items)
      ∙ (visited_todo c.self.inside.done.items c.args.place c.self.inside.todo.items c.look_ahead.new.todo.items c.args.links.now c.len.result (c.len.ensures ∙ (c.reserve.new.self.ok.0 ∙ ap length c.in_ok-reserve.ensures.items)) (c.look_ahead.ensures ∙ ap (λ us. us ++ reverse (map (upcoming c.len.result) c.args.links.now)) c.in_ok-reserve-2.ensures.items) c.self.invariant.2 ∙ ap (λ v. spots_below c.args.place.path (map link_of c.args.links.now) ++ v.todo) c.self.view_is)) i;
}
