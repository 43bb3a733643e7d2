-- The entries of the code, as the machine has them.
use Rattle.std.specs.Prelude.{ℕ, ◌≡◌, true, false, List, [], ◌∷◌, map, Option, Some, None, slice_get}
use Rattle.qe_board.specs.declared.entries.Link as code
use Rattle.qe_board.specs.State.{Key, Link, Condition, waiting, held, expanded, leaf, failed, dropped, Entry}
use Rattle.qe_board.specs.Machine.{among, index_of}
use Rattle.qe_board.specs.declared.entries.Progress.{Progress}
use Rattle.qe_board.specs.declared.entries.Progress.TheVariants as progress

abbrev pub link_of : code.Link → Link
link_of l = record { point = l.point; entry = l.entry }

abbrev pub condition : {N F : Type 0} → Progress N F → Condition F
condition (progress.Waiting n) = waiting
condition (progress.Held w) = held w
condition (progress.Expanded ls) = expanded (map link_of ls.items)
condition progress.Leaf = leaf
condition (progress.Failed f) = failed f
condition progress.Dropped = dropped

-- each piece with what has become of it
abbrev pub entries_of : {N F : Type 0} → (N → Key) → List N → List (Progress N F) → List (Entry F)
entries_of key [] ps = []
entries_of key (n ∷ ns) [] = []
entries_of key (n ∷ ns) (p ∷ ps) = record { key = key n; condition = condition p } ∷ entries_of key ns ps

-- what an entry with this key keeps to hand out has its key
abbrev pub IsCopy : {N F : Type 0} → (N → Key) → Key → Progress N F → Type 0
IsCopy key k (progress.Waiting m) = key m ≡ k
IsCopy key k p = Unit {0}

-- the same of the entry with this number
abbrev pub IsCopyAt : {N F : Type 0} → (N → Key) → ℕ → List (Entry F) → Progress N F → Type 0
IsCopyAt {N} {F} key n es p = (e : Entry F) → slice_get es n ≡ Some e → IsCopy key e.key p

-- the conditions of entries
abbrev pub conditions : {F : Type 0} → List (Entry F) → List (Condition F)
conditions es = map (λ e. e.condition) es

-- there is something for each piece, and what waits is its piece again
abbrev pub AreCopies : {N F : Type 0} → (N → Key) → List N → List (Progress N F) → Type 0
AreCopies key [] [] = Unit {0}
AreCopies key (n ∷ ns) (p ∷ ps) = IsCopy key (key n) p × AreCopies key ns ps
AreCopies key _ _ = ⊥

-- the number of the entry with this key, and none where there is no such entry
abbrev pub IsFound : List Key → Key → Option ℕ → Type 0
IsFound ks k None = among k ks ≡ false
IsFound ks k (Some n) = (among k ks ≡ true) × (n ≡ index_of k ks)
