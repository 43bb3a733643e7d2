use Rattle.qe_poly.specs.Tally.{shown_group, tally_more, enter_tally}
use Rattle.std.proofs.Common.{◌≡◌, ◌∙◌, ap, map, set}
use Rattle.qe_poly.proofs.Entered.{entered_at, order_entered, order_inserted}
use Rattle.qe_poly.proofs.tally.enter.Goals as goal

pub returns-in-Ok : goal.returns-in-Ok
returns-in-Ok c =
    let groups = c.args.groups.now.items in
    let entered : map shown_group (set groups c.in-Ok.i (record { monomial = c.index_mut-group.result.now.monomial; tally = c.with-group.result })) ≡ enter_tally (c.args.monomial, c.args.coef) (map shown_group groups) =
    entered_at c.args.monomial c.args.coef c.deref.result.now groups c.in-Ok.i c.index_mut-group.result.now c.with-group.result
    c.deref.ensures.value c.in-Ok.ensures c.index_mut-group.ensures.value c.with-group.ensures in
    record { order = order_entered (c.args.monomial, c.args.coef) groups (set groups c.in-Ok.i (record { monomial = c.index_mut-group.result.now.monomial; tally = c.with-group.result })) c.requires entered; entered = entered }

pub returns-in_ok-insert-in-Err-clause-order : goal.returns-in_ok-insert-in-Err-clause-order
returns-in_ok-insert-in-Err-clause-order c =
    order_inserted c.args.monomial c.args.coef c.deref.result.now c.args.groups.now.items c.in-Err.i c.insert.new.self.items c.with-tally.result c.deref.ensures.value c.in-Err.ensures
    (c.with-tally.ensures ∙ ap (λ tally. tally_more tally c.args.coef) c.new.ensures) c.in_ok-insert-in-Err.ensures.items c.requires
