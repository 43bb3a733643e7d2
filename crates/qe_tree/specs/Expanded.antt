-- What becomes of a node: a formula with those of the block's variables that occur in it.
use Rattle.std.specs.Prelude.{ℕ, List}
use Rattle.qe_form.specs.Formula.{Formula}

-- Its successors, each with the number of the test point of the variable that is eliminated; or why
-- it has none.
pub data Expanded (F : Type 0) : Type 0 where
  successors : ℕ → List (ℕ × Formula) → Expanded F
  failed : F → Expanded F

-- of the node with these variables and this formula: a number that is smaller at each successor, and
-- what becomes of the node
pub record Expansion (F : Type 0) : Type 0 where
  pub height : List ℕ → Formula → ℕ
  pub becomes : List ℕ → Formula → Expanded F
