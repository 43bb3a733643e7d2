-- What the code that grows a node answers.
use Rattle.std.specs.Prelude.{ℕ, ◌≡◌, Bool, true, List, Result, Ok, Err}
use Rattle.qe_halt.specs.declared.halt.Halt.{Halt}
use Rattle.qe_halt.specs.declared.halt.Halt.TheVariants.{Limit, OutOfMemory}
use Rattle.qe_form.specs.Formula.{Formula}
use Rattle.qe_piece.specs.declared.maker.Next.{Next}
use Rattle.qe_node.specs.declared.stop.NodeStop.{NodeStop}
use Rattle.qe_node.specs.declared.stop.GrowthLimit.{GrowthLimit}
use Rattle.qe_node.specs.declared.stop.GrowthLimit.TheVariants.{Failed, Stopped}
use Rattle.qe_node.specs.Node.{Sight}
use Rattle.qe_node.specs.Answer.{below, numbered_nodes}

-- the successors with their nodes, or the failure
abbrev pub nodes_below : List ℕ → Result (List (ℕ × Formula)) NodeStop
    → Result (List (ℕ × Sight)) NodeStop
nodes_below vars (Ok parts) = Ok (below vars parts)
nodes_below vars (Err s) = Err s

-- the stop is the failure; or the stop of the call was told, or memory ran out
abbrev pub IsGrowthStop : Result (List (ℕ × Sight)) NodeStop → (told : Bool) → Halt GrowthLimit
    → Type 0
IsGrowthStop expanded told (Limit (Failed s)) = expanded ≡ Err s
IsGrowthStop expanded told (Limit Stopped) = told ≡ true
IsGrowthStop expanded told OutOfMemory = Unit {0}

-- the successors, which `items` sees in what is given, or such a stop
abbrev pub IsGrowth : {A : Type 0} → (A → List (Next Sight)) → Result (List (ℕ × Sight)) NodeStop
    → (told : Bool)
    → Result A (Halt GrowthLimit) → Type 0
IsGrowth items expanded told (Ok a) = expanded ≡ Ok (numbered_nodes (items a))
IsGrowth items expanded told (Err stop) = IsGrowthStop expanded told stop
