-- Ordered rings, by the sign of a value.
use Rattle.std.specs.Prelude.{◌≡◌, T, ℤ, pos, ◌+ℤ◌, ◌*ℤ◌, neg_ℤ}
use Rattle.qe_ring.specs.Ring.{Operations, difference, IsRing, IsRingOn}
use Rattle.qe_ring.specs.Sign.{Sign, Zero, Plus, IsNotMinus, IsNotZero, opposite, ◌·◌, adds}

-- a commutative ring with a sign that the operations follow
pub record IsOrdered {C : Type 0} (o : Operations C) (s : C → Sign) (E : C → C → Type 0) : Type 0 where
  pub ring : IsRing o E
  pub sign-same : (a b : C) → E a b → s a ≡ s b
  pub sign-one : s o.one ≡ Plus
  pub sign-neg : (a : C) → s (o.neg a) ≡ opposite (s a)
  pub sign-mul : (a b : C) → s (o.mul a b) ≡ s a · s b
  pub sign-add : (a b : C) → T (adds (s a) (s b) (s (o.add a b)))

-- the same of the values that P holds of
pub record IsOrderedOn {C : Type 0} (P : C → Type 0) (o : Operations C) (s : C → Sign) (E : C → C → Type 0) : Type 0 where
  pub ring : IsRingOn P o E
  pub sign-same : (a b : C) → P a → P b → E a b → s a ≡ s b
  pub sign-one : s o.one ≡ Plus
  pub sign-neg : (a : C) → P a → s (o.neg a) ≡ opposite (s a)
  pub sign-mul : (a b : C) → P a → P b → s (o.mul a b) ≡ s a · s b
  pub sign-add : (a b : C) → P a → P b → T (adds (s a) (s b) (s (o.add a b)))

-- equal: the difference has the sign zero
abbrev pub EqualBySign : {C : Type 0} → Operations C → (C → Sign) → C → C → Type 0
EqualBySign o s a b = s (difference o a b) ≡ Zero

-- at most: the sign of the second less the first is not minus
abbrev pub AtMostBySign : {C : Type 0} → Operations C → (C → Sign) → C → C → Type 0
AtMostBySign o s a b = IsNotMinus (s (difference o b a))

-- a value b with a*b = 1
abbrev pub Inverse : {C : Type 0} → Operations C → (C → Sign) → C → Type 0
Inverse {C} o s a = (b : C) × EqualBySign o s (o.mul a b) o.one

-- what is not zero has an inverse
abbrev pub Inverts : {C : Type 0} → Operations C → (C → Sign) → Type 0
Inverts {C} o s = (a : C) → IsNotZero (s a) → Inverse o s a

-- what is not minus has a square root that is not minus
abbrev pub HasRoots : {C : Type 0} → Operations C → (C → Sign) → Type 0
HasRoots {C} o s = (a : C) → IsNotMinus (s a) → (w : C) × (IsNotMinus (s w) × EqualBySign o s (o.mul w w) a)

-- the ring of the whole numbers
abbrev pub int_operations : Operations ℤ
int_operations = record { zero = pos 0; one = pos 1; add = ◌+ℤ◌; neg = neg_ℤ; mul = ◌*ℤ◌ }
