use Rattle.std.proofs.Common.{◌≡◌}
use Rattle.qe_form.specs.Negation.{negated_each}
use Rattle.qe_form.specs.Tree.{trees}
use Rattle.qe_form.proofs.+negated.Given as goal

abbrev pub invariant-negation::negated_all-loop-form : goal.invariant-negation::negated_all-loop-form
invariant-negation::negated_all-loop-form l = trees l.negatives ≡ negated_each (trees l.yielded)
