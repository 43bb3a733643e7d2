use Rattle.std.proofs.Common.{◌≡◌, ◌∙◌, sym, ap, length, arith}
use Rattle.qe_board.specs.State.{is_waiting, at}
use Rattle.qe_board.proofs.Counting.{waits_here, none_count}
use Rattle.qe_board.proofs.roll.Roll.waits_next.Goals as goal

pub returns-then-waits-clause-first : goal.returns-then-waits-clause-first
returns-then-waits-clause-first g c =
    waits_here c.loop-entry.entry c.args.self.now.entries c.loop-entry.invariant (ap (λ s. at is_waiting c.loop-entry.entry s.entries) (sym c.self.view_is) ∙ sym c.if-waits.ensures)

pub returns-clause-none : goal.returns-clause-none
returns-clause-none g c =
    none_count c.args.self.now.entries (λ n less. c.loop-entry.invariant n (
    let whole : length c.self.inside.entries ≡ length c.args.self.now.entries = ap (λ s. length s.entries) c.self.view_is in
    let end = c.len-entry-end.ensures.len in let stop = c.loop-entry-test.false in omega (arith, less, whole, end, stop)))
