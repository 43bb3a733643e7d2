-- The container machine: when each event may come, and what it does.
use Rattle.std.specs.Prelude.{ℕ, zero, suc, ◌≡◌, Bool, true, false, cond, eqb, leb, not, ◌&&◌, List, [], ◌∷◌, ◌++◌, length, map, Option, Some, None, slice_get}
use Rattle.std.specs.List.{list_any}
use lib.Pointwise.{pointwise}
use Rattle.qe_piece.specs.Meaning.{Meaning, Child, gives, fails}
use Rattle.qe_board.specs.declared.event.Event.{Event}
use Rattle.qe_board.specs.declared.event.Event.TheVariants.{Take, Give, Fail, Drop, Cancel, Fill, Starve}
use Rattle.qe_board.specs.declared.event.Stopping.TheVariants.{Unset, Truth, Limit, Memory}
use Rattle.qe_board.specs.State.{Key, Link, Condition, waiting, held, expanded, leaf, failed, dropped, Entry, State, is_waiting, is_held_by, is_unset, keys, at, has_true_leaf}

-- ---- keys in order

abbrev pub same_key : Key → Key → Bool
same_key = pointwise eqb

abbrev pub among : Key → List Key → Bool
among k ks = list_any (same_key k) ks

-- the number of the first key that is this one
abbrev pub index_of : Key → List Key → ℕ
index_of k [] = 0
index_of k (j ∷ js) = cond (same_key k j) 0 (suc (index_of k js))

-- those that are not among the known ones, each once, in order
abbrev pub new_keys : List Key → List Key → List Key
new_keys known [] = []
new_keys known (k ∷ ks) = cond (among k known) (new_keys known ks) (k ∷ new_keys (known ++ k ∷ []) ks)

-- ---- conditions that change

module _ {F : Type 0} where
  -- the entry with this number in another condition
  abbrev pub put : ℕ → Condition F → List (Entry F) → List (Entry F)
  put n c [] = []
  put zero c (e ∷ es) = record { key = e.key; condition = c } ∷ es
  put (suc n) c (e ∷ es) = e ∷ put n c es

  abbrev pub drop_waiting : List (Entry F) → List (Entry F)
  drop_waiting es = map (λ e. record { key = e.key; condition = cond (is_waiting e.condition) dropped e.condition }) es

  -- the least entry that waits
  abbrev pub waits_first : ℕ → List (Entry F) → Bool
  waits_first n [] = false
  waits_first zero (e ∷ es) = is_waiting e.condition
  waits_first (suc n) (e ∷ es) = not (is_waiting e.condition) && waits_first n es

  -- the entry is held by the worker
  abbrev pub holds : ℕ → ℕ → State F → Bool
  holds w n s = at (is_held_by w) n s.entries

-- ---- entries to come, and links to entries

-- a leaf needs no successors, so that nobody takes it
abbrev pub opening_entry : {F : Type 0} → (Key → Bool) → Key → Entry F
opening_entry is_leaf k = record { key = k; condition = cond (is_leaf k) leaf waiting }

abbrev pub child_keys : List Child → List Key
child_keys cs = map (λ c. c.key) cs

abbrev pub links : List Child → List Key → List Link
links cs ks = map (λ c. record { point = c.point; entry = index_of c.key ks }) cs

-- ---- the machine, over what is known of a piece by its key

module _ {F : Type 0} (meaning : Key → Meaning F) (is_leaf truth : Key → Bool) (limit : ℕ) where
  -- the one entry is the root
  abbrev pub opened : Key → State F
  opened root = record { entries = opening_entry is_leaf root ∷ []; stop = Unset }

  -- the keys with the new ones of the successors
  abbrev pub grown_keys : List Child → State F → List Key
  grown_keys cs s = keys s ++ new_keys (keys s) (child_keys cs)

  -- entries and new ones together are at most the limit
  abbrev pub fits : List Child → State F → Bool
  fits cs s = leb (length (grown_keys cs s)) limit

  -- what the entry's piece means
  abbrev pub meaning_at : ℕ → State F → Option (Meaning F)
  meaning_at n s = elim (slice_get s.entries n) [ Some e ↦ Some (meaning e.key) | None ↦ None ]

  -- ---- when an event may come

  abbrev pub gives_and : (List Child → Bool) → Option (Meaning F) → Bool
  gives_and p (Some (gives cs)) = p cs
  gives_and p m = false

  abbrev pub does_fail : Option (Meaning F) → Bool
  does_fail (Some (fails f)) = true
  does_fail m = false

  abbrev pub is_enabled : Event → State F → Bool
  is_enabled (Take w n) s = waits_first n s.entries && (not (has_true_leaf truth s) && is_unset s.stop)
  is_enabled (Give w n) s = holds w n s && (is_unset s.stop && gives_and (λ cs. fits cs s) (meaning_at n s))
  is_enabled (Fail w n) s = holds w n s && (is_unset s.stop && does_fail (meaning_at n s))
  is_enabled (Drop w n) s = holds w n s && not (is_unset s.stop)
  is_enabled (Cancel w) s = has_true_leaf truth s && is_unset s.stop
  is_enabled (Fill w n) s = holds w n s && (is_unset s.stop && (not (has_true_leaf truth s) && gives_and (λ cs. not (fits cs s)) (meaning_at n s)))
  is_enabled (Starve w) s = not (has_true_leaf truth s) && is_unset s.stop

  -- ---- what it does

  abbrev pub given : ℕ → Option (Meaning F) → State F → State F
  given n (Some (gives cs)) s =
      let ks = new_keys (keys s) (child_keys cs) in
      record { entries = put n (expanded (links cs (keys s ++ ks))) s.entries ++ map (opening_entry is_leaf) ks; stop = s.stop }
  given n m s = s

  abbrev pub failing : ℕ → Option (Meaning F) → State F → State F
  failing n (Some (fails f)) s = record { entries = put n (failed f) s.entries; stop = s.stop }
  failing n m s = s

  abbrev pub effect : Event → State F → State F
  effect (Take w n) s = record { entries = put n (held w) s.entries; stop = s.stop }
  effect (Give w n) s = given n (meaning_at n s) s
  effect (Fail w n) s = failing n (meaning_at n s) s
  effect (Drop w n) s = record { entries = put n dropped s.entries; stop = s.stop }
  effect (Cancel w) s = record { entries = drop_waiting s.entries; stop = Truth }
  effect (Fill w n) s = record { entries = drop_waiting (put n dropped s.entries); stop = Limit }
  effect (Starve w) s = record { entries = drop_waiting s.entries; stop = Memory }

  -- ---- runs

  -- each event is enabled in the state that those before it leave
  abbrev pub IsRunFrom : State F → List Event → Type 0
  IsRunFrom s [] = Unit {0}
  IsRunFrom s (e ∷ es) = (is_enabled e s ≡ true) × IsRunFrom (effect e s) es

  -- the state that the events leave
  abbrev pub replay_from : State F → List Event → State F
  replay_from s [] = s
  replay_from s (e ∷ es) = replay_from (effect e s) es

  abbrev pub IsRun : Key → List Event → Type 0
  IsRun root es = IsRunFrom (opened root) es

  abbrev pub replay : Key → List Event → State F
  replay root es = replay_from (opened root) es
