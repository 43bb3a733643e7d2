-- Spots: numbers in a graph, of which some fail and a leaf may be true. The key is the number of the spot and the marks of the graph.
use Rattle.std.specs.Prelude.{ℕ, ◌+◌, ◌-◌, Bool, false, cond, eqb, leb, nat_lt, ◌&&◌, List, [], ◌∷◌}
use Rattle.qe_piece.specs.Meaning.{Child, Meaning, gives, fails}
use Rattle.qe_board_tests.specs.declared.spot.Spot.{Spot}

abbrev pub key_of : Spot → List ℕ
key_of s = s.number ∷ s.marks.fails_from ∷ s.marks.fails_to ∷ s.marks.true_leaf ∷ []

-- the number of the spot with this key, and the marks
abbrev pub number : List ℕ → ℕ
number [] = 0
number (n ∷ ms) = n

abbrev pub marks : List ℕ → List ℕ
marks [] = []
marks (n ∷ ms) = ms

-- the spots from one mark up to the next fail
abbrev pub lies_in : ℕ → List ℕ → Bool
lies_in n (from ∷ to ∷ ms) = leb from n && nat_lt n to
lies_in n ms = false

abbrev pub does_fail : List ℕ → Bool
does_fail k = lies_in (number k) (marks k)

-- the number of the leaf that is true
abbrev pub true_mark : List ℕ → ℕ
true_mark (from ∷ to ∷ t ∷ ms) = t
true_mark ms = 0

abbrev pub is_leaf_key : List ℕ → Bool
is_leaf_key k = nat_lt 5 (number k)

abbrev pub is_true_key : List ℕ → Bool
is_true_key k = nat_lt 5 (number k) && eqb (number k) (true_mark (marks k))

abbrev pub height_of : List ℕ → ℕ
height_of k = 9 - number k

-- the point's number is how much is added
abbrev pub child : ℕ → List ℕ → Child
child by k = record { point = by; key = (number k + by) ∷ marks k }

abbrev pub children : List ℕ → List Child
children k = child 1 k ∷ child 2 k ∷ child 4 k ∷ []

abbrev pub meaning_of : List ℕ → Meaning ℕ
meaning_of k = cond (does_fail k) (fails (number k)) (gives (children k))
