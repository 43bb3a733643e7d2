use Rattle.std.proofs.Common.{◌≡◌, ◌++◌, drop, map}
use Rattle.qe_syntax.specs.Code.{addend_of, addends_of, factor_of, factors_of}
use Rattle.qe_read.specs.FreeNames.{free_in_addends, free_in_factors}
use Rattle.qe_read.proofs.occurrence.+term.Given as goal

abbrev pub invariant-push_addends-loop-addend : goal.invariant-push_addends-loop-addend
invariant-push_addends-loop-addend l =
    l.names.items ++ free_in_addends l.text l.around (addends_of (map addend_of (drop l.addend-index l.addends)))
    ≡ l.fn.names.items ++ free_in_addends l.text l.around (addends_of (map addend_of l.addends))

abbrev pub invariant-push_factors-loop-factor : goal.invariant-push_factors-loop-factor
invariant-push_factors-loop-factor l =
    l.names.items ++ free_in_factors l.text l.around (factors_of (map factor_of (drop l.factor-index l.factors)))
    ≡ l.fn.names.items ++ free_in_factors l.text l.around (factors_of (map factor_of l.factors))
