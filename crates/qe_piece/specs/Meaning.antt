-- What a piece stands for: its successors, each with the number of its point, or its failure.
use Rattle.std.specs.Prelude.{◌≡◌, ◌<◌, ℕ, Bool, true, List, map}
use Rattle.std.specs.List.{All}
use Rattle.qe_piece.specs.declared.maker.Next.{Next}
use Rattle.qe_piece.specs.declared.maker.Made.{Made}
use Rattle.qe_piece.specs.declared.maker.Made.TheVariants.{Successors, Failed, Stopped, OutOfMemory}

-- a successor: the number of its point, and its key
pub record Child : Type 0 where
  pub point : ℕ
  pub key : List ℕ

-- the successors of a piece in order, or its failure
pub data Meaning (F : Type 0) : Type 0 where
  gives : List Child → Meaning F
  fails : F → Meaning F

-- each successor has a smaller number than this
abbrev pub Descends : {F : Type 0} → (List ℕ → ℕ) → ℕ → Meaning F → Type 0
Descends height bound (gives children) = All (λ child. height child.key < bound) children
Descends height bound (fails fault) = Unit {0}

-- a successor by its key
abbrev pub child_of : {N : Type 0} → (N → List ℕ) → Next N → Child
child_of key next = record { point = next.point; key = key next.piece }

-- the successors or the failure that the meaning tells; or the stop was told, or memory ran out
abbrev pub GivesMeaning : {N F : Type 0} → (N → List ℕ) → Meaning F → Bool → Made N F → Type 0
GivesMeaning key meaning told (Successors list) = meaning ≡ gives (map (child_of key) list.items)
GivesMeaning key meaning told (Failed fault) = meaning ≡ fails fault
GivesMeaning key meaning told Stopped = told ≡ true
GivesMeaning key meaning told OutOfMemory = Unit {0}
