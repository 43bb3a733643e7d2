-- The bytes so far are what the source lost, and there are as many of them as turns at least.
use Rattle.std.proofs.Common.{◌≤◌, ◌+◌, vec_len}
use Rattle.std.specs.Io.KnownBytes.{Consumes}
use Rattle.qe_base.proofs.whole.read_all.Given as goal

abbrev pub invariant-loop-turn : goal.invariant-loop-turn
invariant-loop-turn g l = record {
  lost : Consumes (g.S.Source.left l.initial.source) (g.S.Source.left l.source) l.bytes.items;
  within : vec_len l.bytes ≤ 1048576;
  grown : l._turn ≤ vec_len l.bytes;
  faults_kept : g.S.Source.faults l.initial.source ≤ g.S.Source.faults l.source;
  reads_counted : g.S.Source.reads l.source ≤ g.S.Source.reads l.initial.source + l._turn;
}
