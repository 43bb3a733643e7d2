-- What the search through the tree of a block answers.
use Rattle.std.specs.Prelude.{ℕ, ◌≡◌, ◌<◌, ◌≤◌, true, false, List, map, length, Some, None, Result, Ok, Err}
use Rattle.qe_halt.specs.declared.halt.Halt.{Halt}
use Rattle.qe_halt.specs.declared.halt.Halt.TheVariants as stop
use Rattle.qe_form.specs.Formula.{Formula}
use Rattle.qe_form.specs.Tree.{tree}
use Rattle.qe_tree.specs.Tree.{Step, has_true_leaf, nodes, leaves, first_failure}
use Rattle.qe_node.specs.declared.stop.NodeStop.{NodeStop}
use Rattle.qe_node.specs.Successors.{expansion}
use Rattle.qe_elim.specs.declared.step.Step as code
use Rattle.qe_elim.specs.declared.step.Fault.{Fault}
use Rattle.qe_elim.specs.declared.search.Ended.{Ended}
use Rattle.qe_elim.specs.declared.search.Ended.TheVariants as ended
use Rattle.qe_elim.specs.declared.search.TooManyNodes.{TooManyNodes}
use Rattle.qe_elim.specs.Keys.{EndsPlainly}

abbrev pub step_of : code.Step → Step
step_of s = record { var = s.var.0; point = s.point }

abbrev pub steps_of : List code.Step → List Step
steps_of path = map step_of path

abbrev pub fault_of : Fault → List Step × NodeStop
fault_of f = (steps_of f.path.items, f.stop)

-- A leaf of the tree is True; or none is and the first node that fails is told; or none is, none fails and the leaves are told. The
-- plain run ends by the limit where the limit is told, and only there: then the tree has more distinct nodes, and else no more, but
-- where a leaf is True.
abbrev pub IsEnd : List ℕ → Formula → ℕ → Result Ended (Halt TooManyNodes) → Type 0
IsEnd vars root limit (Ok ended.True) =
    (has_true_leaf expansion vars (nodes expansion vars root) ≡ true)
    × EndsPlainly vars root limit false
IsEnd vars root limit (Ok (ended.Failed f)) =
    (has_true_leaf expansion vars (nodes expansion vars root) ≡ false)
    × (first_failure expansion vars (nodes expansion vars root) ≡ Some (fault_of f))
    × (length (nodes expansion vars root) ≤ limit)
    × EndsPlainly vars root limit false
IsEnd vars root limit (Ok (ended.Leaves forms)) =
    (has_true_leaf expansion vars (nodes expansion vars root) ≡ false)
    × (first_failure expansion vars (nodes expansion vars root) ≡ None)
    × (leaves expansion vars (nodes expansion vars root) ≡ map tree forms.items)
    × (length (nodes expansion vars root) ≤ limit)
    × EndsPlainly vars root limit false
IsEnd vars root limit (Err (stop.Limit many)) = (limit < length (nodes expansion vars root)) × EndsPlainly vars root limit true
IsEnd vars root limit (Err stop.OutOfMemory) = Unit {0}
