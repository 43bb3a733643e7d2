-- The plain run: worker 0 alone, until nothing is left to do.
use Rattle.std.specs.Prelude.{ℕ, ◌≡◌, Bool, true, false, List, [], ◌∷◌}
use Rattle.qe_piece.specs.Meaning.{Meaning}
use Rattle.qe_board.specs.declared.event.Event.{Event}
use Rattle.qe_board.specs.declared.event.Event.TheVariants.{Take, Give, Fail, Drop, Cancel, Fill, Starve}
use Rattle.qe_board.specs.State.{Key, State, is_held, count, is_done, has_true_leaf}
use Rattle.qe_board.specs.Machine.{is_enabled, effect, opened}
use Rattle.qe_board.specs.History.{History, Holding, grown, state_of}

module _ {F : Type 0} (meaning : Key → Meaning F) (is_leaf truth : Key → Bool) (limit : ℕ) where
  -- What the one worker does next: where a leaf is true it cancels; else it goes on with the entry that it holds, and takes one where
  -- it holds none. It never starves.
  abbrev pub IsNext : Event → State F → Type 0
  IsNext (Take w n) s = (w ≡ 0) × (count is_held s.entries ≡ 0)
  IsNext (Give w n) s = (w ≡ 0) × (has_true_leaf truth s ≡ false)
  IsNext (Fail w n) s = (w ≡ 0) × (has_true_leaf truth s ≡ false)
  IsNext (Fill w n) s = w ≡ 0
  IsNext (Cancel w) s = w ≡ 0
  IsNext (Drop w n) s = ⊥
  IsNext (Starve w) s = ⊥

  abbrev pub IsPlainFrom : State F → List Event → Type 0
  IsPlainFrom s [] = is_done s ≡ true
  IsPlainFrom s (e ∷ es) = (is_done s ≡ false) × ((is_enabled meaning is_leaf truth limit e s ≡ true) × (IsNext e s × IsPlainFrom (effect meaning is_leaf truth limit e s) es))

  abbrev pub IsPlain : Key → List Event → Type 0
  IsPlain root es = IsPlainFrom (opened meaning is_leaf truth limit root) es

-- the event of worker and entry by which what is held is held no more, where the container goes on
abbrev pub IsExpansion : Event → Holding → Type 0
IsExpansion (Give w n) h = (w ≡ h.worker) × (n ≡ h.entry)
IsExpansion (Fail w n) h = (w ≡ h.worker) × (n ≡ h.entry)
IsExpansion (Fill w n) h = (w ≡ h.worker) × (n ≡ h.entry)
IsExpansion e h = ⊥

-- what is held was expanded: one event, which may come
abbrev pub IsExpanded : {F : Type 0} → (Key → Meaning F) → (is_leaf truth : Key → Bool) → History → Holding → History → Type 0
IsExpanded meaning is_leaf truth old h new =
    (e : Event) × (IsExpansion e h × ((is_enabled meaning is_leaf truth old.limit e (state_of meaning is_leaf truth old) ≡ true) × (new ≡ grown old (e ∷ []))))
