use Rattle.std.proofs.Common.{◌+◌, ◌-◌, ◌*◌, length, map}
use Rattle.qe_syntax.specs.Code.{tree_of}
use Rattle.qe_syntax.specs.Grammar.{with_end}
use Rattle.qe_syntax.specs.Faults.{head}
use Rattle.qe_syntax.specs.Reading.{is_or, is_and}
use Rattle.qe_syntax.proofs.Formulas.{IsConj, IsDisj}
use Rattle.qe_syntax.proofs.formula.Parser.+formula.Given as goal

abbrev pub decreases-scope : goal.decreases-scope
decreases-scope l = 7 * (256 - l.depth) + 6

abbrev pub decreases-formula : goal.decreases-formula
decreases-formula l = 7 * (256 - l.depth) + 5

abbrev pub decreases-simple : goal.decreases-simple
decreases-simple l = 7 * (256 - l.depth) + 4

abbrev pub decreases-disj : goal.decreases-disj
decreases-disj l = 7 * (256 - l.depth) + 3

abbrev pub decreases-conj : goal.decreases-conj
decreases-conj l = 7 * (256 - l.depth) + 2

abbrev pub decreases-unary : goal.decreases-unary
decreases-unary l = 7 * (256 - l.depth) + 1

abbrev pub decreases-bracket : goal.decreases-bracket
decreases-bracket l = 7 * (256 - l.depth)

abbrev pub decreases-disj-ors : goal.decreases-disj-ors
decreases-disj-ors l = length l.self.cursor

abbrev pub invariant-disj-ors : goal.invariant-disj-ors
invariant-disj-ors l = IsDisj l.depth (map tree_of l.parts) (is_or (head l.self.cursor)) (with_end l.fn.self.cursor) (with_end l.self.cursor) l.fn.self.begun l.self.begun

abbrev pub decreases-conj-ands : goal.decreases-conj-ands
decreases-conj-ands l = length l.self.cursor

abbrev pub invariant-conj-ands : goal.invariant-conj-ands
invariant-conj-ands l = IsConj l.depth (map tree_of l.parts) (is_and (head l.self.cursor)) (with_end l.fn.self.cursor) (with_end l.self.cursor) l.fn.self.begun l.self.begun
