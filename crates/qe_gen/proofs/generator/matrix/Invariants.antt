use Rattle.std.proofs.Common.{◌≡◌, map}
use Rattle.qe_form.specs.Tree.{tree}
use Rattle.qe_gen.specs.Generated.{clause, numbers_below}
use Rattle.qe_gen.proofs.generator.matrix.Given as goal

abbrev pub invariant-loop-index : goal.invariant-loop-index
invariant-loop-index l = map tree l.clauses ≡ map (clause l.number) (numbers_below l.index)
