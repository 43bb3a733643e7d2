-- What becomes of an entry that is held, by what came of its piece.
use Rattle.std.specs.Prelude.{◌≡◌, Bool, true, false, cond, List, [], ◌∷◌, map}
use Rattle.qe_piece.specs.Meaning.{Meaning, gives, fails, child_of}
use Rattle.qe_piece.specs.declared.maker.Made.{Made}
use Rattle.qe_piece.specs.declared.maker.Made.TheVariants as made
use Rattle.qe_board.specs.declared.event.Event.{Event}
use Rattle.qe_board.specs.declared.event.Event.TheVariants.{Drop, Cancel, Fill, Starve}
use Rattle.qe_board.specs.declared.settle.Left.{Left}
use Rattle.qe_board.specs.declared.settle.Left.TheVariants.{Kept, Truth, Full, Stopped, Starved}
use Rattle.qe_board.specs.State.{Key, State, is_unset, has_true_leaf}
use Rattle.qe_board.specs.History.{History, Holding, grown, state_of}
use Rattle.qe_board.specs.Calls.{is_over, failing_event, IsGiven, AreTooMany}

-- the entry is dropped; where no stop is set yet this event comes before
abbrev pub let_go : Bool → Event → Holding → List Event
let_go unset e h = cond unset (e ∷ Drop h.worker h.entry ∷ []) (Drop h.worker h.entry ∷ [])

module _ {F : Type 0} (meaning : Key → Meaning F) (is_leaf truth : Key → Bool) where
  abbrev now : History → State F
  now h = state_of meaning is_leaf truth h

  -- the history after the entry is let go
  abbrev pub LetsGo : History → Event → Holding → History → Type 0
  LetsGo old e h new = new ≡ grown old (let_go (is_unset (now old).stop) e h)

  -- memory ran out: where a leaf is true the container stops by it, else for want of memory
  abbrev pub IsForsaken : History → Holding → Left → History → Type 0
  IsForsaken old h Stopped new = (has_true_leaf truth (now old) ≡ true) × LetsGo old (Cancel h.worker) h new
  IsForsaken old h Starved new = (has_true_leaf truth (now old) ≡ false) × LetsGo old (Starve h.worker) h new
  IsForsaken old h left new = ⊥

  -- what came of a piece is its meaning; it is stopped only where the container is over
  abbrev pub IsMade : {N : Type 0} → (N → Key) → History → Holding → Made N F → Type 0
  IsMade key old h (made.Successors list) = meaning h.key ≡ gives (map (child_of key) list.items)
  IsMade key old h (made.Failed f) = meaning h.key ≡ fails f
  IsMade key old h made.Stopped = is_over truth (now old) ≡ true
  IsMade key old h made.OutOfMemory = Unit {0}

  -- what became of it
  abbrev pub IsLeft : {N : Type 0} → (N → Key) → History → Holding → Made N F → Left → History → Type 0
  IsLeft key old h (made.Successors list) Kept new = IsGiven meaning is_leaf truth old h (map (child_of key) list.items) false new
  IsLeft key old h (made.Successors list) Truth new = IsGiven meaning is_leaf truth old h (map (child_of key) list.items) true new
  IsLeft key old h (made.Successors list) Full new = AreTooMany meaning is_leaf truth old (map (child_of key) list.items) false × (new ≡ grown old (Fill h.worker h.entry ∷ []))
  IsLeft key old h (made.Successors list) Stopped new = (is_over truth (now old) ≡ true) × LetsGo old (Cancel h.worker) h new
  IsLeft key old h (made.Successors list) Starved new = (is_over truth (now old) ≡ false) × LetsGo old (Starve h.worker) h new
  IsLeft key old h (made.Failed f) left new = (left ≡ Kept) × (new ≡ grown old (failing_event (is_unset (now old).stop) h ∷ []))
  IsLeft key old h made.Stopped left new = (left ≡ Stopped) × LetsGo old (Cancel h.worker) h new
  IsLeft key old h made.OutOfMemory left new = IsForsaken old h left new
