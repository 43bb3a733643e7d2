-- What every state of a run keeps: entries are distinct pieces of the tree, and each is what has become of it.
use Rattle.std.specs.Prelude.{ℕ, ◌≡◌, Bool, true, false, List, [], ◌∷◌, map, Some, slice_get}
use Rattle.qe_piece.specs.Meaning.{Meaning, Child, gives, fails}
use Rattle.qe_board.specs.State.{Key, IsAmong, Distinct, Link, Condition, waiting, held, expanded, leaf, failed, dropped, Entry, State, is_unset, keys}
use Rattle.qe_board.specs.Tree.{positions}

-- the links list exactly the successors, each at an entry with its key
abbrev pub AreLinks : List Link → List Child → List Key → Type 0
AreLinks [] [] ks = Unit {0}
AreLinks (l ∷ ls) (c ∷ cs) ks = (l.point ≡ c.point) × (slice_get ks l.entry ≡ Some c.key) × AreLinks ls cs ks
AreLinks _ _ ks = ⊥

module _ {F : Type 0} (meaning : Key → Meaning F) (is_leaf truth : Key → Bool) (height : Key → ℕ) where
  -- what a condition says of its piece; `ks` are the keys of all entries; only where a stop is set entries are dropped
  abbrev pub IsFit : List Key → (unset : Bool) → Condition F → Key → Type 0
  IsFit ks unset waiting k = is_leaf k ≡ false
  IsFit ks unset (held w) k = is_leaf k ≡ false
  IsFit ks unset (expanded ls) k = (is_leaf k ≡ false) × ((cs : List Child) × ((meaning k ≡ gives cs) × AreLinks ls cs ks))
  IsFit ks unset leaf k = is_leaf k ≡ true
  IsFit ks unset (failed f) k = (is_leaf k ≡ false) × (meaning k ≡ fails f)
  IsFit ks unset dropped k = unset ≡ false

  abbrev pub AreFit : List Key → (unset : Bool) → List (Entry F) → Type 0
  AreFit ks unset [] = Unit {0}
  AreFit ks unset (e ∷ es) = IsFit ks unset e.condition e.key × AreFit ks unset es

  -- the piece stands in the tree of the root
  abbrev pub StandsBelow : Key → Key → Type 0
  StandsBelow root k = IsAmong k (map (λ p. p.key) (positions meaning is_leaf truth height root))

  pub record Keeps (root : Key) (s : State F) : Type 0 where
    pub fit : AreFit (keys s) (is_unset s.stop) s.entries
    pub distinct : Distinct (keys s)
    pub pieces : (k : Key) → IsAmong k (keys s) → StandsBelow root k
