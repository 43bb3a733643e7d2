-- The steps along a path that is told by the numbers of its points.
use Rattle.std.specs.Prelude.{ℕ, cond, eqb, List, [], ◌∷◌, Option, Some, None}
use Rattle.qe_tree.specs.Expanded.{Expanded, successors, failed}
use Rattle.qe_tree.specs.Tree.{Step}
use Rattle.qe_node.specs.declared.stop.NodeStop.{NodeStop}
use Rattle.qe_node.specs.Node.{Sight}
use Rattle.qe_node.specs.Successors.{expansion}
use Rattle.qe_node.specs.Answer.{others, below}
use Rattle.qe_elim.specs.declared.steps.Descent as code

-- the first with this number
abbrev pub numbered : {A : Type 0} → ℕ → List (ℕ × A) → Option A
numbered n [] = None
numbered n (s ∷ ss) = cond (eqb s.0 n) (Some s.1) (numbered n ss)

-- a variable that is eliminated from a node, and the successor at a point
pub record Descent : Type 0 where
  pub var : ℕ
  pub node : Sight

abbrev pub with_var : ℕ → Option Sight → Option Descent
with_var x None = None
with_var x (Some n) = Some (record { var = x; node = n })

abbrev pub descent_by : List ℕ → ℕ → Expanded NodeStop → Option Descent
descent_by vars point (successors x parts) = with_var x (numbered point (below (others x vars) parts))
descent_by vars point (failed s) = None

-- one step down from a node
abbrev pub descent : Sight → ℕ → Option Descent
descent n point = descent_by n.vars point (expansion.becomes n.vars n.form)

-- a step before those that the node below gives; none, where there is no successor
abbrev pub after_descent : ℕ → Option Descent → (Sight → List Step) → List Step
after_descent point None rest = []
after_descent point (Some d) rest = record { var = d.var; point = point } ∷ rest d.node

-- the steps from a node on, as far as there are successors
abbrev pub steps_along : List ℕ → Sight → List Step
steps_along [] n = []
steps_along (p ∷ ps) n = after_descent p (descent n p) (steps_along ps)

-- what the code finds one step down
abbrev pub descent_of : Option code.Descent → Option Descent
descent_of None = None
descent_of (Some d) = Some (record { var = d.var.0; node = d.node })
