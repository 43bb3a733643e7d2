-- Sources and sinks in memory: what each holds, and what one read or write does to it.
use Rattle.std.specs.Prelude.{ℕ, Bool, ◌+◌, ◌-◌, ◌||◌, ◌&&◌, ◌==◌, nat_lt, min, max, List, ◌++◌, length, take, drop, slice_get, unwrap_or}
use Rattle.std.specs.List.{list_any}
use Rattle.qe_base.specs.Count.{next_count}

-- a source in memory, with the number of reads made, the cut of each read, and the reads that fail
pub record Supply : Type 0 where
  pub left : List ℕ
  pub reads : ℕ
  pub cuts : List ℕ
  pub failing : List ℕ
  pub faults : ℕ

-- a sink in memory, with the bytes that fit in all, the cut of each write, and the writes that fail
pub record Store : Type 0 where
  pub taken : List ℕ
  pub room : ℕ
  pub writes : ℕ
  pub cuts : List ℕ
  pub failing : List ℕ
  pub faults : ℕ

-- the number is listed
abbrev pub is_listed : List ℕ → ℕ → Bool
is_listed numbers number = list_any (λ n. n == number) numbers

-- the cut of the call of this number, and past the cuts what is asked for
abbrev pub cut_of : List ℕ → ℕ → ℕ → ℕ
cut_of cuts number asked = unwrap_or (slice_get cuts number) asked

-- how many bytes the next read gives: the least of its cut, one at least, the room, and what is left
abbrev pub given_count : Supply → ℕ → ℕ
given_count source room =
    min (max (cut_of source.cuts source.reads room) 1) (min room (length source.left))

-- a source after a read that gave this many bytes
abbrev pub supply_after : Supply → ℕ → Supply
supply_after source count =
    record source { left = drop count source.left; reads = next_count source.reads }

-- a source after a read that failed
abbrev pub supply_after_fault : Supply → Supply
supply_after_fault source =
    record source { reads = next_count source.reads; faults = source.faults + 1 }

-- how many bytes the next write may take: the least of its cut, the piece, and the room that is left
abbrev pub taken_count : Store → List ℕ → ℕ
taken_count sink piece =
    min (cut_of sink.cuts sink.writes (length piece)) (min (length piece) (sink.room - length sink.taken))

-- the next write fails: its number is listed, or it may take nothing of a piece that is not empty
abbrev pub is_refused : Store → List ℕ → Bool
is_refused sink piece =
    is_listed sink.failing sink.writes || (nat_lt 0 (length piece) && (taken_count sink piece == 0))

-- a sink after a write that took the first bytes of a piece, this many
abbrev pub store_after : Store → List ℕ → ℕ → Store
store_after sink piece count =
    record sink { taken = sink.taken ++ take count piece; writes = next_count sink.writes }

-- a sink after a write that failed
abbrev pub store_after_fault : Store → Store
store_after_fault sink =
    record sink { writes = next_count sink.writes; faults = next_count sink.faults }
