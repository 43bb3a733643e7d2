-- The history of a container: its root, its limit and its journal. The state is what the journal leaves.
use Rattle.std.specs.Prelude.{ℕ, ◌≡◌, ◌<◌, ◌≤◌, ◌+◌, ◌*◌, ◌^◌, Bool, cond, List, [], ◌∷◌, ◌++◌, length}
use Rattle.qe_piece.specs.Meaning.{Meaning}
use Rattle.qe_board.specs.declared.event.Event.{Event}
use Rattle.qe_board.specs.State.{Key, Entry, State, is_waiting, is_held, is_unset, count}
use Rattle.qe_board.specs.Machine.{IsRun, replay}

pub record History : Type 0 where
  pub root : Key
  pub limit : ℕ
  pub journal : List Event

-- what is handed out: to whom, the number of the entry, and the key of the piece
pub record Holding : Type 0 where
  pub worker : ℕ
  pub entry : ℕ
  pub key : Key

-- the same, with these events at the end of the journal
abbrev pub grown : History → List Event → History
grown h es = record { root = h.root; limit = h.limit; journal = h.journal ++ es }

-- the key of the first entry, which is the root
abbrev pub first_key : {F : Type 0} → List (Entry F) → Key
first_key [] = []
first_key (e ∷ es) = e.key

-- The room that the journal needs for what may come without memory: two events for each entry that waits, one for each that is
-- held and, while no stop is set, one to cancel and one to starve.
abbrev pub to_come : {F : Type 0} → State F → ℕ
to_come s = 2 * count is_waiting s.entries + count is_held s.entries + cond (is_unset s.stop) 2 0

module _ {F : Type 0} (meaning : Key → Meaning F) (is_leaf truth : Key → Bool) where
  -- the state that the journal leaves
  abbrev pub state_of : History → State F
  state_of h = replay meaning is_leaf truth h.limit h.root h.journal

  -- the journal is a run
  pub record IsLawful (h : History) : Type 0 where
    pub run : IsRun meaning is_leaf truth h.limit h.root h.journal
    pub some : 1 ≤ h.limit
    pub small : h.limit < 2 ^ 32

  -- the state is the one that the journal leaves, and there is room for the events to come
  pub record IsKept (h : History) (s : State F) (capacity : ℕ) : Type 0 where
    pub lawful : IsLawful h
    pub replayed : s ≡ state_of h
    pub room : length h.journal + to_come s ≤ capacity
