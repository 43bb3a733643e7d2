use Rattle.std.proofs.Common.{◌∙◌, arith, map, sym, subst}
use Rattle.qe_piece.specs.Meaning.{child_of}
use Rattle.qe_board.specs.Admission.{IsNumbered, links_of}
use Rattle.std.specs.Prelude.{Ok}
use Rattle.qe_board.proofs.Admitting.{Entering, entering_none, entering_turn, full_at, all_at, starved}
use Rattle.qe_board.proofs.roll.Roll.enter.Goals as goal

pub loop-next-init : goal.loop-next-init
loop-next-init g c =
    let none = c.in_ok-links.ensures.len in let room = c.in_ok-links.ensures.capacity in
    let all = map (child_of g.N.Piece.key) c.args.successors.now in
    record {
      entering = subst (λ ls. Entering c.args.limit c.args.self.now c.args.self.now all all (links_of ls)) (sym c.in_ok-links.ensures.items) (entering_none c.args.limit c.args.self.now all c.requires.few);
      len = omega (arith, none);
      room = omega (arith, room);
    }

pub returns-in_default : goal.returns-in_default
returns-in_default g c =
    full_at g.N.Piece.key c.args.limit c.args.self.now c.args.successors.now c.loop-next.self c.loop-next.next-index c.next-item.result c.loop-next.links.items c.next-item.is c.loop-next-test.true c.loop-next.invariant.entering
    c.number.new.self (subst (λ o. IsNumbered c.args.limit (g.N.Piece.key c.next-item.result.piece) c.loop-next.self c.number.new.self {E = Unit {0}} (Ok o)) c.in_default.is c.in_ok-entry.ensures)

pub loop-next-preserved : goal.loop-next-preserved
loop-next-preserved g c =
    let len = c.push_reserved.ensures.len in let cap = c.push_reserved.ensures.capacity in let before = c.loop-next.invariant.len in let room = c.loop-next.invariant.room in
    record {
      entering = entering_turn g.N.Piece.key c.args.limit c.args.self.now c.args.successors.now c.loop-next.self c.loop-next.next-index c.next-item.result c.loop-next.links.items c.push_reserved.new.self.items c.next-item.is c.loop-next-test.true c.loop-next.invariant.entering
          c.number.new.self c.in-Some.entry (subst (λ o. IsNumbered c.args.limit (g.N.Piece.key c.next-item.result.piece) c.loop-next.self c.number.new.self {E = Unit {0}} (Ok o)) c.in-Some.is c.in_ok-entry.ensures) c.push_reserved.ensures.items;
      len = omega (arith, len, before);
      room = omega (arith, room, cap);
    }

pub returns : goal.returns
returns g c =
    all_at g.N.Piece.key c.args.limit c.args.self.now c.args.successors.now c.loop-next.self c.loop-next.next-index c.loop-next.links.items c.loop-next-test.false c.loop-next.invariant.entering

pub returns-in_err-entry : goal.returns-in_err-entry
returns-in_err-entry g c =
    starved c.args.limit (map (child_of g.N.Piece.key) c.args.successors.now) c.args.self.now c.number.new.self c.from_residual-in_err-entry.result (λ list. list.items) c.from_residual-in_err-entry.ensures.0
    (c.loop-next.invariant.entering.extra, c.in_err-entry.ensures ∙ c.loop-next.invariant.entering.here)
