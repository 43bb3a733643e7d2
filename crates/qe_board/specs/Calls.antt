-- What the calls of a container answer, and the events that each is.
use Rattle.std.specs.Prelude.{ℕ, ◌≡◌, ◌⊎◌, Bool, true, false, cond, not, ◌||◌, List, [], ◌∷◌, map, Some, slice_get}
use Rattle.qe_piece.specs.Meaning.{Meaning, Child, gives, child_of}
use Rattle.qe_piece.specs.declared.maker.Next.{Next}
use Rattle.qe_board.specs.declared.event.Event.{Event}
use Rattle.qe_board.specs.declared.event.Event.TheVariants.{Take, Give, Fail, Drop, Cancel, Fill}
use Rattle.qe_board.specs.declared.held.Took.{Took}
use Rattle.qe_board.specs.declared.held.Took.TheVariants as took
use Rattle.qe_board.specs.declared.held.Gave.{Gave}
use Rattle.qe_board.specs.declared.held.Gave.TheVariants as gave
use Rattle.qe_board.specs.State.{Key, State, is_waiting, is_unset, keys, count, is_done, has_true_leaf}
use Rattle.qe_board.specs.Machine.{waits_first, holds, fits}
use Rattle.qe_board.specs.History.{History, Holding, grown, state_of}

-- it is held in this state, by its worker
pub record IsHeldIn {F : Type 0} (s : State F) (h : Holding) : Type 0 where
  pub held : holds h.worker h.entry s ≡ true
  pub piece : slice_get (keys s) h.entry ≡ Some h.key

-- nothing is handed out any more: a leaf is true, or a stop is set
abbrev pub is_over : {F : Type 0} → (Key → Bool) → State F → Bool
is_over truth s = has_true_leaf truth s || not (is_unset s.stop)

-- the failure of an entry that is held; once a stop is set it is dropped
abbrev pub failing_event : Bool → Holding → Event
failing_event unset h = cond unset (Fail h.worker h.entry) (Drop h.worker h.entry)

module _ {F : Type 0} (meaning : Key → Meaning F) (is_leaf truth : Key → Bool) where
  abbrev now : History → State F
  now h = state_of meaning is_leaf truth h

  -- the first entry that waits is handed out to this worker
  pub record IsTaken (old : History) (worker : ℕ) (h : Holding) (new : History) : Type 0 where
    pub goes_on : is_over truth (now old) ≡ false
    pub first : waits_first h.entry (now old).entries ≡ true
    pub to : h.worker ≡ worker
    pub inner : is_leaf h.key ≡ false
    pub event : new ≡ grown old (Take worker h.entry ∷ [])
    pub held : IsHeldIn (now new) h

  -- what `take` answers
  abbrev pub IsTook : {N : Type 0} → History → ℕ → Took N F → History → Type 0
  IsTook old worker (took.Piece h) new = IsTaken old worker h new
  IsTook old worker took.Empty new = (new ≡ old) × (is_done (now old) ≡ false) × (is_over truth (now old) ≡ false) × (count is_waiting (now old).entries ≡ 0)
  IsTook old worker took.Done new = (new ≡ old) × (is_done (now old) ≡ true)
  IsTook old worker took.Stopped new = (new ≡ old) × (is_done (now old) ≡ false) × (is_over truth (now old) ≡ true)

  -- the successors became entries
  pub record IsGiven (old : History) (h : Holding) (cs : List Child) (true_leaf : Bool) (new : History) : Type 0 where
    pub goes_on : is_unset (now old).stop ≡ true
    pub fits : fits meaning is_leaf truth old.limit cs (now old) ≡ true
    pub event : new ≡ grown old (Give h.worker h.entry ∷ [])
    pub leaf : has_true_leaf truth (now new) ≡ true_leaf

  -- there would be more entries than the limit
  pub record AreTooMany (old : History) (cs : List Child) (true_leaf : Bool) : Type 0 where
    pub goes_on : is_unset (now old).stop ≡ true
    pub many : fits meaning is_leaf truth old.limit cs (now old) ≡ false
    pub leaf : has_true_leaf truth (now old) ≡ true_leaf

  -- what `give` answers, of these successors
  abbrev pub IsGave : {N : Type 0} → (N → Key) → History → Holding → List (Next N) → Gave N F → History → Type 0
  IsGave key old h list gave.Kept new = IsGiven old h (map (child_of key) list) false new
  IsGave key old h list gave.Truth new = IsGiven old h (map (child_of key) list) true new
  IsGave key old h list gave.Full new = AreTooMany old (map (child_of key) list) false × (new ≡ grown old (Fill h.worker h.entry ∷ []))
  IsGave key old h list gave.Stopped new =
      ((is_unset (now old).stop ≡ false) × (new ≡ grown old (Drop h.worker h.entry ∷ [])))
      ⊎ (AreTooMany old (map (child_of key) list) true × (new ≡ grown old (Cancel h.worker ∷ Drop h.worker h.entry ∷ [])))
  IsGave key old h list (gave.OutOfMemory g back) new = (is_unset (now old).stop ≡ true) × (new ≡ old) × (g ≡ h) × (back.items ≡ list)

  -- the successors of the piece with this key would pass the limit
  abbrev pub PassesLimit : History → Key → Type 0
  PassesLimit old k = (cs : List Child) × ((meaning k ≡ gives cs) × (fits meaning is_leaf truth old.limit cs (now old) ≡ false))

  -- what `give` answers where the successors would pass the limit
  abbrev pub IsFilled : {N : Type 0} → History → Holding → Gave N F → History → Type 0
  IsFilled old h gave.Full new = (has_true_leaf truth (now old) ≡ false) × (new ≡ grown old (Fill h.worker h.entry ∷ []))
  IsFilled old h gave.Stopped new = (has_true_leaf truth (now old) ≡ true) × (new ≡ grown old (Cancel h.worker ∷ Drop h.worker h.entry ∷ []))
  IsFilled old h g new = ⊥
