-- What a run over the nodes of a block tells of the block.
use Rattle.std.specs.Prelude.{ℕ, ◌≡◌, ◌≤◌, ◌<◌, ◌⊎◌, true, List, map, length}
use Rattle.qe_form.specs.Formula.{Formula, True, Or}
use Rattle.qe_form.specs.Tree.{trees_of}
use Rattle.qe_simp.specs.Simplified.{simplified}
use Rattle.qe_simp.specs.Shape.{IsSimplified}
use Rattle.qe_tree.specs.Tree.{Inner, form, node, nodes, inner}
use Rattle.qe_node.specs.declared.stop.NodeStop.{NodeStop}
use Rattle.qe_node.specs.Node.{Sight}
use Rattle.qe_node.specs.key.Code.{sight_of}
use Rattle.qe_node.specs.Successors.{expansion}
use Rattle.qe_board.specs.declared.event.Event.{Event}
use Rattle.qe_board.specs.declared.event.Stopping.TheVariants.{Unset, Truth, Limit}
use Rattle.qe_board.specs.State.{is_done}
use Rattle.qe_board.specs.Machine.{IsRun, replay}
use Rattle.qe_board.specs.Tree.{Verdict, holds, fails_at, has_leaves}
use Rattle.qe_board.specs.Verdict.{verdict_in}
use Rattle.qe_elim.specs.Keys.{meaning, is_leaf, truth, height, node_of, key_of}
use Rattle.qe_elim.specs.Steps.{steps_along}

-- what the tree of this root gives, by a verdict over its keys
abbrev pub inner_by : Sight → Verdict NodeStop → Inner NodeStop
inner_by root holds = form True
inner_by root (fails_at path s) = node (steps_along path root) s
inner_by root (has_leaves ps) = form (simplified (Or (trees_of (map (λ p. (sight_of p.key).form) ps))))

-- A run from the root of a simplified formula, by whomever and in whatever order: once it is done with no stop, or by truth, its
-- verdict is what the tree of the formula gives; and it stops by the limit only where the tree has more distinct nodes.
pub record RunTells (vars : List ℕ) (f : Formula) (limit : ℕ) (es : List Event) : Type 0 where
  pub verdict : is_done (replay meaning is_leaf truth limit (key_of vars f) es) ≡ true
      → ((replay meaning is_leaf truth limit (key_of vars f) es).stop ≡ Unset) ⊎ ((replay meaning is_leaf truth limit (key_of vars f) es).stop ≡ Truth)
      → inner_by (node_of vars f) (verdict_in meaning is_leaf truth height (key_of vars f) (replay meaning is_leaf truth limit (key_of vars f) es)) ≡ inner expansion vars f
  pub beyond : (replay meaning is_leaf truth limit (key_of vars f) es).stop ≡ Limit → limit < length (nodes expansion vars f)

abbrev pub RunsTellBlocks : Type 0
RunsTellBlocks = (vars : List ℕ) (f : Formula) → IsSimplified f → (limit : ℕ) → 1 ≤ limit → (es : List Event) → IsRun meaning is_leaf truth limit (key_of vars f) es → RunTells vars f limit es
