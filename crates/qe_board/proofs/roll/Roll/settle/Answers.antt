use Rattle.std.proofs.Common.{◌∙◌, sym, ap, subst, map, length, inl, inr}
use Rattle.qe_piece.specs.Meaning.{child_of}
use Rattle.qe_board.specs.Shown.{condition}
use Rattle.qe_board.specs.Admission.{links_of, settled, first_of}
use Rattle.qe_board.proofs.Opening.{SettlingAt, settling_none, one_less, settled_pieces, settled_links, known_at, within_at, copy_at, opened_at}
use Rattle.qe_board.proofs.roll.Roll.settle.Goals as goal

pub loop-next-init : goal.loop-next-init
loop-next-init g c =
    let pieces = ap (λ z. z.a.rest.items) c.into_iter-next-iterator.ensures.into_iter_gives ∙ (ap (λ a. a.rest.items) c.zip-next-items.ensures.first ∙ c.into_iter.ensures.rest) in
    let leads = ap (λ z. z.b.rest.now) c.into_iter-next-iterator.ensures.into_iter_gives ∙ c.zip-next-items.ensures.second.0 in
    let all = map (child_of g.N.Piece.key) c.args.successors.items in
    let final = settled g.N.Piece.leaf all (first_of c.args.first c.args.self.now) in
    record {
      rest = ((tt, tt), tt);
      whole = ap (λ z. z.a.rest.len) c.into_iter-next-iterator.ensures.into_iter_gives ∙ (ap (λ a. a.rest.len) c.zip-next-items.ensures.first ∙ (c.into_iter.ensures.len ∙ (c.args.successors.ok.0 ∙ sym (ap length pieces))));
      settling = subst (λ ls. SettlingAt g.N.Piece.key g.N.Piece.leaf final c.args.self.now c.args.first c.into_iter-next-iterator.result.a.rest.items ls) (sym leads) (
          subst (λ xs. SettlingAt g.N.Piece.key g.N.Piece.leaf final c.args.self.now c.args.first xs c.args.links.now) (sym pieces)
          (settling_none g.N.Piece.leaf c.args.self.now c.args.first all (links_of c.args.links.now) c.requires.within c.requires.entered c.requires.links));
    }

pub set-requires-clause-within : goal.set-requires-clause-within
set-requires-clause-within g c =
    within_at g.N.Piece.key g.N.Piece.leaf _ c.loop-next.self c.loop-next.upcoming c.loop-next.next-iterator.a.rest.items c.loop-next.next-iterator.b.rest.now c.in-Some.next c.next.new.self.a.rest.items c.in-Some.link.now c.next.new.self.b.rest.now
    c.loop-next.invariant.settling c.in-Some.ensures.steps.0.0 c.in-Some.ensures.steps.1 c.if-link-upcoming.true

pub set-requires-clause-copy : goal.set-requires-clause-copy
set-requires-clause-copy g c =
    copy_at g.N.Piece.key g.N.Piece.leaf _ c.loop-next.self c.loop-next.upcoming c.loop-next.next-iterator.a.rest.items c.loop-next.next-iterator.b.rest.now c.in-Some.next c.next.new.self.a.rest.items c.in-Some.link.now c.next.new.self.b.rest.now
    c.loop-next.invariant.settling c.in-Some.ensures.steps.0.0 c.in-Some.ensures.steps.1 c.if-link-upcoming.true c.opening.result c.opening.ensures.copy

pub loop-next-preserved-then-link-upcoming : goal.loop-next-preserved-then-link-upcoming
loop-next-preserved-then-link-upcoming g c = record {
  rest = ((tt, tt), tt);
  whole = one_less c.loop-next.next-iterator.a.rest.items c.loop-next.next-iterator.a.rest.len c.in-Some.next c.next.new.self.a.rest.items c.next.new.self.a.rest.len c.loop-next.invariant.whole c.in-Some.ensures.steps.0.0 c.in-Some.ensures.steps.0.1;
  settling =
      opened_at g.N.Piece.key g.N.Piece.leaf _ c.loop-next.self c.loop-next.upcoming c.loop-next.next-iterator.a.rest.items c.loop-next.next-iterator.b.rest.now c.in-Some.next c.next.new.self.a.rest.items c.in-Some.link.now c.next.new.self.b.rest.now
      c.loop-next.invariant.settling c.in-Some.ensures.steps.0.0 c.in-Some.ensures.steps.1 c.if-link-upcoming.true c.set.new.self (condition c.opening.result) c.set.ensures.changed c.opening.ensures.condition;
}

pub loop-next-preserved : goal.loop-next-preserved
loop-next-preserved g c = record {
  rest = ((tt, tt), tt);
  whole = one_less c.loop-next.next-iterator.a.rest.items c.loop-next.next-iterator.a.rest.len c.in-Some.next c.next.new.self.a.rest.items c.next.new.self.a.rest.len c.loop-next.invariant.whole c.in-Some.ensures.steps.0.0 c.in-Some.ensures.steps.0.1;
  settling =
      known_at g.N.Piece.key g.N.Piece.leaf _ c.loop-next.self c.loop-next.upcoming c.loop-next.next-iterator.a.rest.items c.loop-next.next-iterator.b.rest.now c.in-Some.next c.next.new.self.a.rest.items c.in-Some.link.now c.next.new.self.b.rest.now
      c.loop-next.invariant.settling c.in-Some.ensures.steps.0.0 c.in-Some.ensures.steps.1 c.if-link-upcoming.false;
}

pub returns : goal.returns
returns g c = elim c.in-None.ensures.steps [
  | inl h ↦ settled_pieces g.N.Piece.key g.N.Piece.leaf _ c.loop-next.self c.loop-next.upcoming c.loop-next.next-iterator.a.rest.items c.loop-next.next-iterator.b.rest.now c.loop-next.invariant.settling (sym c.loop-next.invariant.whole ∙ h.1.0)
  | inr h ↦ settled_links g.N.Piece.key g.N.Piece.leaf _ c.loop-next.self c.loop-next.upcoming c.loop-next.next-iterator.a.rest.items c.loop-next.next-iterator.b.rest.now c.loop-next.invariant.settling h.1.0
]
