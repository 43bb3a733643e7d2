-- What a node is.
use Rattle.std.specs.Prelude.{ℕ, ◌≡◌, ◌≢◌, ◌<◌, ◌≤◌, ◌^◌, List, length, AllPairs}
use Rattle.qe_form.specs.Formula.{Formula}
use Rattle.qe_form.specs.Measures.{count}
use Rattle.qe_form.specs.Plain.{IsPlainAndProper}
use Rattle.qe_tree.specs.Variables.{remaining}

-- a formula with the variables that are to be eliminated from it
pub record Sight : Type 0 where
  pub vars : List ℕ
  pub form : Formula

-- There are at most 65,536 variables, none stands twice, and each occurs in the formula. The
-- formula is plain, with proper sets of signs, and not large.
pub record IsNode (n : Sight) : Type 0 where
  pub distinct : AllPairs (λ x y. x ≢ y) n.vars
  pub short : length n.vars ≤ 65536
  pub occurring : remaining n.vars n.form ≡ n.vars
  pub proper : IsPlainAndProper n.form
  pub small : count n.form < 2 ^ 50
