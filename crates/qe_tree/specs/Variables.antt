-- The variables of a block that are left in a formula, and the formula under `ex` of them.
use Rattle.std.specs.Prelude.{ℕ, List, filter}
use Rattle.qe_form.specs.Formula.{Formula}
use Rattle.qe_form.specs.Measures.{occurs}
use Rattle.qe_form.specs.Blocks.{exists, under_each}

-- those of the variables that occur in the formula, in their order
abbrev pub remaining : List ℕ → Formula → List ℕ
remaining vars f = filter (λ x. occurs x f) vars

-- the formula under `ex` of each of the variables
abbrev pub under_ex : List ℕ → Formula → Formula
under_ex vars f = under_each exists vars f

-- the formula under `ex` of those that occur in it
abbrev pub existential_closure : List ℕ → Formula → Formula
existential_closure vars f = under_ex (remaining vars f) f
