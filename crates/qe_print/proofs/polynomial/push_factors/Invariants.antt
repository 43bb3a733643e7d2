use Rattle.std.proofs.Common.{◌≡◌, ◌++◌, drop}
use Rattle.std.specs.String.{string_bytes}
use Rattle.qe_print.specs.Polynomial.{factors_text}
use Rattle.qe_print.proofs.polynomial.push_factors.Given as goal

abbrev pub invariant-loop-power : goal.invariant-loop-power
invariant-loop-power l = string_bytes l.out ++ factors_text l.names (drop l.power-index l.powers) ≡ string_bytes l.initial.out ++ factors_text l.names l.powers
