-- What is found in a container of nodes that is filled.
use Rattle.std.specs.Prelude.{ℕ, ◌≡◌, ◌<◌, List, [], ◌∷◌, Some, slice_get}
use Rattle.qe_form.specs.Formula.{Formula}
use Rattle.qe_node.specs.declared.stop.NodeStop.{NodeStop}
use Rattle.qe_node.specs.key.Code.{sight_of}
use Rattle.qe_board.specs.State.{Entry, keys}
use Rattle.qe_board.specs.Recorded.{key_at, fault_at}
use Rattle.qe_board.specs.History.{History, state_of}
use Rattle.qe_board.specs.declared.visits.Place.{Place}
use Rattle.qe_elim.specs.declared.step.Fault.{Fault}
use Rattle.qe_elim.specs.Keys.{meaning, is_leaf, truth}
use Rattle.qe_elim.specs.Search.{steps_of}
use Rattle.qe_elim.specs.Steps.{steps_along}

abbrev pub entries_of : History → List (Entry NodeStop)
entries_of h = (state_of meaning is_leaf truth h).entries

-- each place is that of an entry
abbrev pub AreThere : ℕ → List Place → Type 0
AreThere len [] = Unit {0}
AreThere len (p ∷ ps) = (p.entry < len) × AreThere len ps

-- the formula of an entry's node
abbrev pub form_at : ℕ → List (Entry NodeStop) → Formula
form_at n es = (sight_of (key_at n es)).form

-- the root is the first entry
abbrev pub HasRoot : History → Type 0
HasRoot h = slice_get (keys (state_of meaning is_leaf truth h)) 0 ≡ Some h.root

-- the failure of the node at a place, and the steps to it
abbrev pub IsFaultAt : History → Place → Fault → Type 0
IsFaultAt h p f = (fault_at p.entry (entries_of h) ≡ Some f.stop) × (steps_of f.path.items ≡ steps_along p.path (sight_of h.root))
