use Rattle.std.proofs.Common.{◌≡◌, drop, map}
use Rattle.qe_syntax.specs.Code.{addend_of, addends_of, factor_of, factors_of}
use Rattle.qe_read.specs.Names.{variable}
use Rattle.qe_read.specs.Value.{summed, factored}
use Rattle.qe_read.proofs.scope.Context.+value.Given as goal

abbrev pub invariant-sum-loop-addend : goal.invariant-sum-loop-addend
invariant-sum-loop-addend l =
    summed (variable l.self.text.now l.self.free.now l.enclosing) (addends_of (map addend_of (drop l.addend-index l.addends))) l.sum
    ≡ summed (variable l.self.text.now l.self.free.now l.enclosing) (addends_of (map addend_of l.addends)) l.fn.first

abbrev pub invariant-product-loop-factor : goal.invariant-product-loop-factor
invariant-product-loop-factor l =
    factored (variable l.self.text.now l.self.free.now l.enclosing) (factors_of (map factor_of (drop l.factor-index l.factors))) l.product
    ≡ factored (variable l.self.text.now l.self.free.now l.enclosing) (factors_of (map factor_of l.factors)) l.fn.first
