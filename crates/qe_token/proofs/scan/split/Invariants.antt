use Rattle.qe_token.proofs.Scanned.{Scans}
use Rattle.qe_token.proofs.scan.split.Given as goal

abbrev pub invariant-loop-end : goal.invariant-loop-end
invariant-loop-end l = Scans l.bytes l.tokens.items l.start l.end
