use Rattle.std.proofs.Common.{ℕ, ◌≡◌, ◌<◌, false}
use Rattle.qe_board.specs.State.{is_waiting, at}
use Rattle.qe_board.proofs.roll.Roll.waits_next.Given as goal

-- none before this one waits
abbrev pub invariant-loop-entry : goal.invariant-loop-entry
invariant-loop-entry g l = (n : ℕ) → n < l.entry → at is_waiting n l.fn.self.entries ≡ false
