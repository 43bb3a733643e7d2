use Rattle.qe_board.proofs.Counting.{Dropping}
use Rattle.qe_board.proofs.entries.Entries.drop_waiting.Given as goal

abbrev pub invariant-loop-entry : goal.invariant-loop-entry
invariant-loop-entry g l = Dropping l.entry l.self l.initial.self
