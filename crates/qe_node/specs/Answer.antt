-- What becomes of a node, with the nodes of its successors; and what `expand` answers.
use Rattle.std.specs.Prelude.{ℕ, ◌≡◌, Bool, true, not, eqb, List, map, filter, Result, Ok, Err}
use Rattle.qe_form.specs.Formula.{Formula}
use Rattle.qe_tree.specs.Variables.{remaining}
use Rattle.qe_tree.specs.Expanded.{Expanded, successors, failed}
use Rattle.qe_piece.specs.declared.maker.Next.{Next}
use Rattle.qe_piece.specs.declared.maker.Made.{Made}
use Rattle.qe_piece.specs.declared.maker.Made.TheVariants as made
use Rattle.qe_node.specs.declared.stop.NodeStop.{NodeStop}
use Rattle.qe_node.specs.Node.{Sight}
use Rattle.qe_node.specs.Successors.{expansion}

-- the variables other than x
abbrev pub others : ℕ → List ℕ → List ℕ
others x vars = filter (λ y. not (eqb y x)) vars

-- successors with their numbers: in the formula of each those of the variables are left that occur
-- there
abbrev pub below : List ℕ → List (ℕ × Formula) → List (ℕ × Sight)
below vars parts = map (λ s. (s.0, record { vars = remaining vars s.1; form = s.1 })) parts

-- where the variable x is eliminated from a node with these variables
abbrev pub with_nodes : List ℕ → Expanded NodeStop → Result (List (ℕ × Sight)) NodeStop
with_nodes vars (successors x parts) = Ok (below (others x vars) parts)
with_nodes vars (failed s) = Err s

-- the successors of a node with their numbers, or why it fails
abbrev pub expansion_of : Sight → Result (List (ℕ × Sight)) NodeStop
expansion_of n = with_nodes n.vars (expansion.becomes n.vars n.form)

-- ---- the answer

-- the numbers and the nodes of successors
abbrev pub numbered_nodes : List (Next Sight) → List (ℕ × Sight)
numbered_nodes list = map (λ s. (s.point, s.piece)) list

-- it is the expansion; or the stop was told, or memory ran out
abbrev pub IsExpansion : Result (List (ℕ × Sight)) NodeStop → (told : Bool) → Made Sight NodeStop
    → Type 0
IsExpansion expanded told (made.Successors list) = expanded ≡ Ok (numbered_nodes list.items)
IsExpansion expanded told (made.Failed s) = expanded ≡ Err s
IsExpansion expanded told made.Stopped = told ≡ true
IsExpansion expanded told made.OutOfMemory = Unit {0}
