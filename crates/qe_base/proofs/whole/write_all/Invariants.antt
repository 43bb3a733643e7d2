-- What was written so far is the bytes up to the rest, and an empty slice makes no write.
use Rattle.std.proofs.Common.{◌≡◌, ◌≤◌, [], length}
use Rattle.qe_base.specs.Sink.{AppendsUpTo}
use Rattle.qe_base.proofs.whole.write_all.Given as goal

abbrev pub invariant-loop-rest : goal.invariant-loop-rest
invariant-loop-rest g l = record {
  written : AppendsUpTo (g.K.Sink.taken l.initial.sink) (g.K.Sink.taken l.sink) l.bytes l.rest;
  faults_kept : g.K.Sink.faults l.initial.sink ≤ g.K.Sink.faults l.sink;
  empty : l.bytes ≡ [] → l.sink ≡ l.initial.sink;
}

abbrev pub decreases-loop-rest : goal.decreases-loop-rest
decreases-loop-rest g l = length l.rest
