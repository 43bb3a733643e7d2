-- What a state comes to, read along the tree: by what has become of the entries.
use Rattle.std.specs.Prelude.{ℕ, Bool, true, false, cond, List, [], ◌∷◌, Option, Some, None}
use Rattle.qe_piece.specs.Meaning.{Meaning}
use Rattle.qe_board.specs.State.{Key, Condition, leaf, failed, Entry, State, has_true_leaf}
use Rattle.qe_board.specs.Machine.{same_key}
use Rattle.qe_board.specs.Tree.{Position, Verdict, holds, fails_at, has_leaves, nodes}

module _ {F : Type 0} where
  -- what has become of a piece, where it is an entry
  abbrev pub condition_of : Key → List (Entry F) → Option (Condition F)
  condition_of k [] = None
  condition_of k (e ∷ es) = cond (same_key k e.key) (Some e.condition) (condition_of k es)

  abbrev pub fault_in : Option (Condition F) → Option F
  fault_in (Some (failed f)) = Some f
  fault_in c = None

  abbrev pub is_leaf_in : Option (Condition F) → Bool
  is_leaf_in (Some leaf) = true
  is_leaf_in c = false

  abbrev pub leaves_in : List (Entry F) → List Position → List Position
  leaves_in es [] = []
  leaves_in es (p ∷ ps) = cond (is_leaf_in (condition_of p.key es)) (p ∷ leaves_in es ps) (leaves_in es ps)

  abbrev pub first_fault_in : List (Entry F) → List Position → Verdict F → Verdict F
  first_fault_in es [] otherwise = otherwise
  first_fault_in es (p ∷ ps) otherwise = elim (fault_in (condition_of p.key es)) [ Some f ↦ fails_at p.path f | None ↦ first_fault_in es ps otherwise ]

-- The verdict of a state: a leaf is true; or the first entry that failed, in the order of first places; or its leaves.
abbrev pub verdict_in : {F : Type 0} → (Key → Meaning F) → (is_leaf truth : Key → Bool) → (Key → ℕ) → Key → State F → Verdict F
verdict_in meaning is_leaf truth height root s =
    let ps = nodes meaning is_leaf truth height root in
    cond (has_true_leaf truth s) holds (first_fault_in s.entries ps (has_leaves (leaves_in s.entries ps)))
