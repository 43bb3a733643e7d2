-- The tree of a piece: below each piece that is no leaf and does not fail, its successors in order. Pieces may stand at many places.
use Rattle.std.specs.Prelude.{ℕ, zero, suc, ◌≡◌, Bool, false, cond, List, [], ◌∷◌, ◌++◌, flat_map, Option, Some, None}
use Rattle.std.specs.List.{list_any}
use Rattle.qe_piece.specs.Meaning.{Meaning, Child, gives, fails, Descends}
use Rattle.qe_board.specs.State.{Key}
use Rattle.qe_board.specs.Machine.{among}

-- a place: the numbers of the points on the way from the root, and the piece that stands there
pub record Position : Type 0 where
  pub path : List ℕ
  pub key : Key

-- the first place of each piece that is not met before
abbrev pub first_positions : List Key → List Position → List Position
first_positions met [] = []
first_positions met (p ∷ ps) = cond (among p.key met) (first_positions met ps) (p ∷ first_positions (met ++ p.key ∷ []) ps)

-- what a tree comes to: a leaf is true; or the first piece that fails, and why; or the places of the leaves
pub data Verdict (F : Type 0) : Type 0 where
  holds : Verdict F
  fails_at : List ℕ → F → Verdict F
  has_leaves : List Position → Verdict F

module _ {F : Type 0} (meaning : Key → Meaning F) (is_leaf truth : Key → Bool) (height : Key → ℕ) where
  abbrev pub successors_of : Meaning F → List Child
  successors_of (gives cs) = cs
  successors_of (fails f) = []

  -- a leaf has no successors
  abbrev pub below : Key → List Child
  below k = cond (is_leaf k) [] (successors_of (meaning k))

  abbrev pub fault_of : Meaning F → Option F
  fault_of (gives cs) = None
  fault_of (fails f) = Some f

  -- a leaf does not fail
  abbrev pub fault : Key → Option F
  fault k = cond (is_leaf k) None (fault_of (meaning k))

  -- the places of the tree from a piece on, depth first, down to so many steps
  abbrev pub walk : ℕ → List ℕ → Key → List Position
  walk zero path k = record { path = path; key = k } ∷ []
  walk (suc n) path k = record { path = path; key = k } ∷ flat_map (λ c. walk n (path ++ c.point ∷ []) c.key) (below k)

  -- the places of the whole tree: each step lowers the height, so there are no more steps than the root's
  abbrev pub positions : Key → List Position
  positions root = walk (height root) [] root

  -- the distinct pieces, each at its first place
  abbrev pub nodes : Key → List Position
  nodes root = first_positions [] (positions root)

  abbrev pub leaf_positions : List Position → List Position
  leaf_positions [] = []
  leaf_positions (p ∷ ps) = cond (is_leaf p.key) (p ∷ leaf_positions ps) (leaf_positions ps)

  abbrev pub first_fault : List Position → Verdict F → Verdict F
  first_fault [] otherwise = otherwise
  first_fault (p ∷ ps) otherwise = elim (fault p.key) [ Some f ↦ fails_at p.path f | None ↦ first_fault ps otherwise ]

  abbrev pub has_truth : List Position → Bool
  has_truth ps = list_any (λ p. truth p.key) ps

  -- what the pieces at these places come to
  abbrev pub verdict_of : List Position → Verdict F
  verdict_of ps = cond (has_truth ps) holds (first_fault ps (has_leaves (leaf_positions ps)))

  abbrev pub verdict : Key → Verdict F
  verdict root = verdict_of (nodes root)

  -- each successor of a piece that is no leaf has a smaller height
  abbrev pub Falls : Type 0
  Falls = (k : Key) → is_leaf k ≡ false → Descends height (height k) (meaning k)
