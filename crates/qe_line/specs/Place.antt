-- Places on a line, and what holds at a place.
use Rattle.std.specs.Prelude.{T}
use Rattle.qe_ring.specs.Ring.{Operations, difference}
use Rattle.qe_ring.specs.Sign.{Sign, Plus, is}

-- the sign is plus
abbrev pub IsPlus : Sign → Type 0
IsPlus s = T (is s Plus)

-- less: the sign of the second less the first is plus
abbrev pub LessBySign : {C : Type 0} → Operations C → (C → Sign) → C → C → Type 0
LessBySign o s a b = IsPlus (s (difference o b a))

-- below some bound, at a value, or just above a value
pub data Place (C : Type 0) : Type 0 where
  below : Place C
  at : C → Place C
  above : C → Place C

-- P holds at the place: for all that is less than some bound; for the value; for all that is more than the value and less than some bound
module _ {C : Type 0} (Less : C → C → Type 0) where
  abbrev pub Eventually : Place C → (C → Type 0) → Type 0
  Eventually below P = (end : C) × ((u : C) → Less u end → P u)
  Eventually (at v) P = P v
  Eventually (above v) P = (end : C) × (Less v end × ((u : C) → Less v u → Less u end → P u))

module _ {C : Type 0} (o : Operations C) (s : C → Sign) where
  -- P holds for all that is more than v by less than some distance
  abbrev pub HoldsJustAbove : C → (C → Type 0) → Type 0
  HoldsJustAbove v P = (d : C) × (IsPlus (s d) × ((u : C) → LessBySign o s v u → LessBySign o s u (o.add v d) → P u))
