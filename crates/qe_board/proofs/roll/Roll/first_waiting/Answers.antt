use Rattle.std.proofs.Common.{sym, subst, length, ◌≡◌, ◌<◌, true}
use Rattle.std.specs.Prelude.{IfSome, IfNone}
use Rattle.qe_board.specs.State.{count, is_waiting}
use Rattle.qe_board.specs.Machine.{waits_first}
use Rattle.qe_board.proofs.Counting.{counted_on}
use Rattle.qe_board.proofs.roll.Roll.first_waiting.Goals as goal

pub invariant_of-self : goal.invariant_of-self
invariant_of-self g c =
    counted_on g.N.Piece.truth (record { entries = c.self.inside.entries; stop = c.self.inside.stopping }) c.self.inside.next c.self.inside.waiting c.self.inside.held c.self.inside.true_leaf c.self.invariant c.waits_next-first.result
    (subst (λ s. IfSome c.waits_next-first.result (λ n. waits_first n s.entries ≡ true)) (sym c.self.view_is) c.waits_next-first.ensures.first)
    (subst (λ s. IfSome c.waits_next-first.result (λ n. n < length s.entries)) (sym c.self.view_is) c.waits_next-first.ensures.within)
    (subst (λ s. IfNone c.waits_next-first.result (count is_waiting s.entries ≡ 0)) (sym c.self.view_is) c.waits_next-first.ensures.none)
    c.len.result c.len.ensures.len c.unwrap_or-self-inside.result c.unwrap_or-self-inside.ensures
