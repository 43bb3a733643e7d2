-- How the successors of an entry become entries.
use Rattle.std.specs.Prelude.{ℕ, suc, ◌≡◌, ◌≤◌, Bool, true, false, List, [], ◌∷◌, ◌++◌, length, map, take, Option, Some, None, Result, Ok, Err}
use Rattle.qe_piece.specs.Meaning.{Meaning, Child, gives, child_of}
use Rattle.qe_piece.specs.declared.maker.Next.{Next}
use Rattle.qe_board.specs.State.{Key, Link, leaf, State, keys}
use Rattle.qe_board.specs.Machine.{among, index_of, new_keys, child_keys, links, opening_entry, fits, given}
use Rattle.qe_board.specs.declared.entries.Link.{Link as CodeLink}
use Rattle.qe_board.specs.declared.admit.Admitted.{Admitted}
use Rattle.qe_board.specs.declared.admit.Admitted.TheVariants.{Entered, TooMany, OutOfMemory}

-- the links of the code, as the machine has them
abbrev pub links_of : List CodeLink → List Link
links_of ls = map (λ l. record { point = l.point; entry = l.entry }) ls

module _ {F : Type 0} where
  -- the keys of the successors that are no entries
  abbrev pub new_of : List Child → State F → List Key
  new_of cs s = new_keys (keys s) (child_keys cs)

  -- the first entries alone
  abbrev pub first_of : ℕ → State F → State F
  first_of n s = record { entries = take n s.entries; stop = s.stop }

  -- ---- the first step: new pieces become entries, each a leaf for now

  abbrev pub with_leaves : List Key → State F → State F
  with_leaves ks s = record { entries = s.entries ++ map (λ k. record { key = k; condition = leaf }) ks; stop = s.stop }

  abbrev pub entered : List Child → State F → State F
  entered cs s = with_leaves (new_of cs s) s

  -- some became entries, and nothing else changed
  abbrev pub SomeEntered : (before after : State F) → Type 0
  SomeEntered before after = (ks : List Key) × (after ≡ with_leaves ks before)

  -- The number of the piece with this key, which is an entry now; or it is none, and there are as many entries as the limit; or
  -- memory ran out.
  abbrev pub IsNumbered : ℕ → Key → (before after : State F) → {E : Type 0} → Result (Option ℕ) E → Type 0
  IsNumbered limit k before after (Ok (Some n)) = (n ≡ index_of k (keys after)) × ((after ≡ with_leaves (new_keys (keys before) (k ∷ [])) before) × (length after.entries ≤ limit))
  IsNumbered limit k before after (Ok None) = (among k (keys before) ≡ false) × ((limit ≤ length before.entries) × (after ≡ before))
  IsNumbered limit k before after (Err e) = after ≡ before

-- The successors are entries now, at most as many as the limit, and the links lead to them; or there would be more, and some became
-- entries; or memory ran out, and the same.
abbrev pub IsEntered : {F : Type 0} → ℕ → List Child → (before after : State F) → {E V : Type 0} → Result (Option V) E → (V → List CodeLink) → Type 0
IsEntered limit cs before after (Ok (Some list)) items =
    (length after.entries ≤ limit) × ((after ≡ entered cs before) × (links_of (items list) ≡ links cs (keys after)))
IsEntered limit cs before after (Ok None) items = (suc limit ≤ length (keys before ++ new_of cs before)) × SomeEntered before after
IsEntered limit cs before after (Err e) items = SomeEntered before after

-- ---- the second step: each of them is as it opens

module _ {F : Type 0} (is_leaf : Key → Bool) where
  abbrev pub with_openings : List Key → State F → State F
  with_openings ks s = record { entries = s.entries ++ map (opening_entry is_leaf) ks; stop = s.stop }

  abbrev pub settled : List Child → State F → State F
  settled cs s = with_openings (new_of cs s) s

-- ---- both steps, and the entry that they come from

module _ {N F : Type 0} (key : N → Key) (meaning : Key → Meaning F) (is_leaf truth : Key → Bool) (limit : ℕ) where
  -- The entry with this number gave these successors. They fit, and the state is as the machine leaves it; or they do not fit, and
  -- nothing changed; or memory ran out: nothing changed, and the successors are handed back.
  abbrev pub IsAdmitted : ℕ → List (Next N) → (before after : State F) → Admitted N → Type 0
  IsAdmitted n nexts before after Entered =
      let cs = map (child_of key) nexts in
      (fits meaning is_leaf truth limit cs before ≡ true) × (after ≡ given meaning is_leaf truth limit n (Some (gives cs)) before)
  IsAdmitted n nexts before after TooMany = (fits meaning is_leaf truth limit (map (child_of key) nexts) before ≡ false) × (after ≡ before)
  IsAdmitted n nexts before after (OutOfMemory list) = (list.items ≡ nexts) × (after ≡ before)
