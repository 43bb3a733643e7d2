-- What is counted of a state, beside its entries.
use Rattle.std.specs.Prelude.{ℕ, zero, suc, ◌≡◌, ◌<◌, ◌≤◌, Bool, false, cond, List, [], ◌∷◌, length, Option, Some, None, option_map, nat_lt}
use Rattle.qe_board.specs.State.{Key, State, is_waiting, is_held, keys, at, count}

-- the number of the first key that is true
abbrev pub first_true : (Key → Bool) → List Key → Option ℕ
first_true truth [] = None
first_true truth (k ∷ ks) = cond (truth k) (Some zero) (option_map (λ n. suc n) (first_true truth ks))

-- the number, if it is less than this
abbrev pub if_below : ℕ → Option ℕ → Option ℕ
if_below n None = None
if_below n (Some m) = cond (nat_lt m n) (Some m) None

-- how many wait and how many are held; none before `next` waits; and which is the first true leaf
pub record IsCounted {F : Type 0} (truth : Key → Bool) (s : State F) (next waits holds : ℕ) (true_leaf : Option ℕ) : Type 0 where
  pub waiting : waits ≡ count is_waiting s.entries
  pub held : holds ≡ count is_held s.entries
  pub within : next ≤ length s.entries
  pub passed : (n : ℕ) → n < next → at is_waiting n s.entries ≡ false
  pub first : true_leaf ≡ first_true truth (keys s)
