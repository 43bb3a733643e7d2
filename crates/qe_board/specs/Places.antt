-- What the spots of a state of a run tell of the tree.
use Rattle.std.specs.Prelude.{ℕ, ◌≡◌, ◌<◌, Bool, true, cond, List, length, map, Option, Some, None, slice_get, IsSome}
use Rattle.qe_piece.specs.Meaning.{Meaning}
use Rattle.qe_board.specs.declared.event.Event.{Event}
use Rattle.qe_board.specs.declared.event.Stopping.TheVariants.{Unset}
use Rattle.qe_board.specs.State.{Key, Entry, State, keys, is_done, has_true_leaf}
use Rattle.qe_board.specs.Machine.{IsRun, replay}
use Rattle.qe_board.specs.Tree.{Position, Verdict, holds, fails_at, has_leaves, nodes, leaf_positions, first_fault, verdict}
use Rattle.qe_board.specs.Recorded.{Spot, spot_at, fault_at, key_at, spots, leaf_spots, failed_spot, LinksFall}

module _ {F : Type 0} where
  -- a spot as a place of the tree
  abbrev pub position_of : List (Entry F) → Spot → Position
  position_of es s = record { path = s.path; key = key_at s.entry es }

  -- the fault that the entry there recorded
  abbrev pub fault_told : List (Entry F) → Option Spot → Verdict F → Verdict F
  fault_told es None otherwise = otherwise
  fault_told es (Some s) otherwise = elim (fault_at s.entry es) [ Some f ↦ fails_at s.path f | None ↦ otherwise ]

  -- the first entry that failed, or else the leaves
  abbrev pub told : List (Entry F) → List Spot → Verdict F
  told es ss = fault_told es (failed_spot es ss) (has_leaves (map (position_of es) (leaf_spots es ss)))

module _ {F : Type 0} (meaning : Key → Meaning F) (is_leaf truth : Key → Bool) (height : Key → ℕ) (limit : ℕ) where
  -- in every state of a run
  pub record AlwaysSpotted (root : Key) (s : State F) : Type 0 where
    pub first : slice_get (keys s) 0 ≡ Some root
    pub links_fall : LinksFall height s.entries
    pub each : (n : ℕ) → n < length s.entries → IsSome (spot_at n (spots height s.entries))

  -- where nothing is left to do and no stop is set
  pub record FinallySpotted (root : Key) (s : State F) : Type 0 where
    pub places : map (position_of s.entries) (spots height s.entries) ≡ nodes meaning is_leaf truth height root
    pub leaves : map (position_of s.entries) (leaf_spots s.entries (spots height s.entries)) ≡ leaf_positions meaning is_leaf truth height (nodes meaning is_leaf truth height root)
    pub fault : (otherwise : Verdict F) → fault_told s.entries (failed_spot s.entries (spots height s.entries)) otherwise ≡ first_fault meaning is_leaf truth height (nodes meaning is_leaf truth height root) otherwise
    pub verdict_is : verdict meaning is_leaf truth height root ≡ cond (has_true_leaf truth s) holds (told s.entries (spots height s.entries))

  pub record PlaceLaws : Type 0 where
    pub always : (root : Key) (es : List Event) → IsRun meaning is_leaf truth limit root es → AlwaysSpotted root (replay meaning is_leaf truth limit root es)
    pub finally : (root : Key) (es : List Event) → IsRun meaning is_leaf truth limit root es
        → let s = replay meaning is_leaf truth limit root es in is_done s ≡ true → s.stop ≡ Unset → FinallySpotted root s
