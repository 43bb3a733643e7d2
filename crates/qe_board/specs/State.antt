-- The states of the container: a list of entries, and why it stops. A piece is told by its key.
use Rattle.std.specs.Prelude.{ℕ, zero, suc, ◌≡◌, ◌⊎◌, ◌+◌, Bool, true, false, cond, eqb, ◌&&◌, List, [], ◌∷◌, map}
use Rattle.std.specs.List.{list_any}
use Rattle.qe_board.specs.declared.event.Stopping.{Stopping}
use Rattle.qe_board.specs.declared.event.Stopping.TheVariants.{Unset}

-- a list of numbers that tells a piece from others
abbrev pub Key : Type 0
Key = List ℕ

-- the key is among these
abbrev pub IsAmong : Key → List Key → Type 0
IsAmong k [] = ⊥
IsAmong k (j ∷ js) = (k ≡ j) ⊎ IsAmong k js

-- none stands twice
abbrev pub Distinct : List Key → Type 0
Distinct [] = Unit {0}
Distinct (k ∷ ks) = (IsAmong k ks → ⊥) × Distinct ks

-- a successor: the number of its point, and the number of its entry
pub record Link : Type 0 where
  pub point : ℕ
  pub entry : ℕ

-- what has become of an entry
pub data Condition (F : Type 0) : Type 0 where
  waiting : Condition F
  held : ℕ → Condition F  -- by the worker with this number
  expanded : List Link → Condition F
  leaf : Condition F
  failed : F → Condition F
  dropped : Condition F

pub record Entry (F : Type 0) : Type 0 where
  pub key : Key
  pub condition : Condition F

pub record State (F : Type 0) : Type 0 where
  pub entries : List (Entry F)
  pub stop : Stopping

-- ---- tests

abbrev pub is_waiting : {F : Type 0} → Condition F → Bool
is_waiting waiting = true
is_waiting c = false

abbrev pub is_held : {F : Type 0} → Condition F → Bool
is_held (held w) = true
is_held c = false

abbrev pub is_held_by : {F : Type 0} → ℕ → Condition F → Bool
is_held_by w (held v) = eqb v w
is_held_by w c = false

abbrev pub is_unset : Stopping → Bool
is_unset Unset = true
is_unset s = false

module _ {F : Type 0} where
  abbrev pub keys : State F → List Key
  keys s = map (λ e. e.key) s.entries

  -- what the entry with this number is in passes the test
  abbrev pub at : (Condition F → Bool) → ℕ → List (Entry F) → Bool
  at p n [] = false
  at p zero (e ∷ es) = p e.condition
  at p (suc n) (e ∷ es) = at p n es

  -- how many entries pass the test
  abbrev pub count : (Condition F → Bool) → List (Entry F) → ℕ
  count p [] = 0
  count p (e ∷ es) = cond (p e.condition) 1 0 + count p es

  -- nothing waits and nothing is held
  abbrev pub is_done : State F → Bool
  is_done s = eqb (count is_waiting s.entries) 0 && eqb (count is_held s.entries) 0

  -- a leaf is true, by the truth of keys: only a leaf has a true one
  abbrev pub has_true_leaf : (Key → Bool) → State F → Bool
  has_true_leaf truth s = list_any (λ e. truth e.key) s.entries
