use Rattle.std.proofs.Common.{◌+◌, ◌-◌, ◌*◌, length, map}
use Rattle.qe_syntax.specs.Code.{term_of, addend_of, factor_of}
use Rattle.qe_syntax.specs.Grammar.{with_end}
use Rattle.qe_syntax.proofs.Terms.{IsSums, IsTimes}
use Rattle.qe_syntax.proofs.cursor.Cursor.+term.Given as goal

abbrev pub decreases-term : goal.decreases-term
decreases-term l = 5 * (256 - l.depth) + 4

abbrev pub decreases-product : goal.decreases-product
decreases-product l = 5 * (256 - l.depth) + 3

abbrev pub decreases-signed : goal.decreases-signed
decreases-signed l = 5 * (256 - l.depth) + 2

abbrev pub decreases-power : goal.decreases-power
decreases-power l = 5 * (256 - l.depth) + 1

abbrev pub decreases-primary : goal.decreases-primary
decreases-primary l = 5 * (256 - l.depth)

abbrev pub decreases-term-sums : goal.decreases-term-sums
decreases-term-sums l = length l.self

abbrev pub invariant-term-sums : goal.invariant-term-sums
invariant-term-sums l = IsSums l.depth (term_of l.first) (map addend_of l.addends) (with_end l.fn.self) (with_end l.self)

abbrev pub decreases-product-times : goal.decreases-product-times
decreases-product-times l = length l.self

abbrev pub invariant-product-times : goal.invariant-product-times
invariant-product-times l = IsTimes l.depth (term_of l.first) (map factor_of l.factors) (with_end l.fn.self) (with_end l.self)
