-- The tree as entries record it: below each entry that was expanded, the entries that it links to, in order.
use Rattle.std.specs.Prelude.{ℕ, zero, suc, ◌<◌, Bool, true, false, cond, eqb, List, [], ◌∷◌, ◌++◌, length, flat_map, Option, Some, None}
use Rattle.std.specs.List.{list_any}
use Rattle.qe_board.specs.State.{Key, Link, Condition, expanded, leaf, failed, Entry, at}

-- a spot: the numbers of the points on the way from the first entry, and the number of the entry that stands there
pub record Spot : Type 0 where
  pub path : List ℕ
  pub entry : ℕ

-- ---- first spots

abbrev pub is_met : ℕ → List ℕ → Bool
is_met n met = list_any (eqb n) met

-- the first spot of each entry that is not met before
abbrev pub first_spots : List ℕ → List Spot → List Spot
first_spots met [] = []
first_spots met (s ∷ ss) = cond (is_met s.entry met) (first_spots met ss) (s ∷ first_spots (met ++ s.entry ∷ []) ss)

-- the first spot where this entry stands
abbrev pub spot_at : ℕ → List Spot → Option Spot
spot_at n [] = None
spot_at n (s ∷ ss) = cond (eqb n s.entry) (Some s) (spot_at n ss)

-- the entries are below a number
abbrev pub AreWithin : ℕ → List Spot → Type 0
AreWithin len [] = Unit {0}
AreWithin len (s ∷ ss) = (s.entry < len) × AreWithin len ss

-- ---- what entries record

abbrev pub links_of : {F : Type 0} → Condition F → List Link
links_of (expanded ls) = ls
links_of c = []

abbrev pub is_leaf : {F : Type 0} → Condition F → Bool
is_leaf leaf = true
is_leaf c = false

abbrev pub fault_of : {F : Type 0} → Condition F → Option F
fault_of (failed f) = Some f
fault_of c = None

abbrev pub has_failed : {F : Type 0} → Condition F → Bool
has_failed (failed f) = true
has_failed c = false

module _ {F : Type 0} where
  -- what an entry links to; a number that is no entry links to none
  abbrev pub links_at : ℕ → List (Entry F) → List Link
  links_at n [] = []
  links_at zero (e ∷ es) = links_of e.condition
  links_at (suc n) (e ∷ es) = links_at n es

  abbrev pub fault_at : ℕ → List (Entry F) → Option F
  fault_at n [] = None
  fault_at zero (e ∷ es) = fault_of e.condition
  fault_at (suc n) (e ∷ es) = fault_at n es

  abbrev pub key_at : ℕ → List (Entry F) → Key
  key_at n [] = []
  key_at zero (e ∷ es) = e.key
  key_at (suc n) (e ∷ es) = key_at n es

  -- the spots from an entry on, depth first, down to so many steps
  abbrev pub spots_from : List (Entry F) → ℕ → List ℕ → ℕ → List Spot
  spots_from es zero path n = record { path = path; entry = n } ∷ []
  spots_from es (suc depth) path n = record { path = path; entry = n } ∷ flat_map (λ l. spots_from es depth (path ++ l.point ∷ []) l.entry) (links_at n es)

  -- the entries that can be reached from the first one, each at its first spot: no way down has more steps than the height of its key
  abbrev pub spots : (Key → ℕ) → List (Entry F) → List Spot
  spots height es = first_spots [] (spots_from es (height (key_at 0 es)) [] 0)

  -- those where leaves stand
  abbrev pub leaf_spots : List (Entry F) → List Spot → List Spot
  leaf_spots es [] = []
  leaf_spots es (s ∷ ss) = cond (at is_leaf s.entry es) (s ∷ leaf_spots es ss) (leaf_spots es ss)

  -- the first where an entry stands that failed
  abbrev pub failed_spot : List (Entry F) → List Spot → Option Spot
  failed_spot es [] = None
  failed_spot es (s ∷ ss) = cond (at has_failed s.entry es) (Some s) (failed_spot es ss)

  -- ---- what is known of links

  -- each goes to an entry, and to a key of less height than this
  abbrev pub GoBelow : (Key → ℕ) → List (Entry F) → ℕ → List Link → Type 0
  GoBelow height es bound [] = Unit {0}
  GoBelow height es bound (l ∷ ls) = (l.entry < length es) × (height (key_at l.entry es) < bound) × GoBelow height es bound ls

  -- each goes to an entry, whose key has less height
  abbrev pub LinksFall : (Key → ℕ) → List (Entry F) → Type 0
  LinksFall height es = (n : ℕ) → GoBelow height es (height (key_at n es)) (links_at n es)
