-- Rings by their operations, and their laws up to an equality.

-- the operations of a ring on a carrier
pub record Operations (C : Type 0) : Type 0 where
  pub zero : C
  pub one : C
  pub add : C → C → C
  pub neg : C → C
  pub mul : C → C → C

-- a difference is the sum with the negative
abbrev pub difference : {C : Type 0} → Operations C → C → C → C
difference o a b = o.add a (o.neg b)

-- a commutative ring, up to the equality E, which the operations respect
pub record IsRing {C : Type 0} (o : Operations C) (E : C → C → Type 0) : Type 0 where
  pub same : (a : C) → E a a
  pub back : (a b : C) → E a b → E b a
  pub then : (a b c : C) → E a b → E b c → E a c
  pub add-same : (a b c d : C) → E a b → E c d → E (o.add a c) (o.add b d)
  pub neg-same : (a b : C) → E a b → E (o.neg a) (o.neg b)
  pub mul-same : (a b c d : C) → E a b → E c d → E (o.mul a c) (o.mul b d)
  pub add-assoc : (a b c : C) → E (o.add (o.add a b) c) (o.add a (o.add b c))
  pub add-comm : (a b : C) → E (o.add a b) (o.add b a)
  pub add-zero : (a : C) → E (o.add a o.zero) a
  pub add-neg : (a : C) → E (o.add a (o.neg a)) o.zero
  pub mul-assoc : (a b c : C) → E (o.mul (o.mul a b) c) (o.mul a (o.mul b c))
  pub mul-comm : (a b : C) → E (o.mul a b) (o.mul b a)
  pub mul-one : (a : C) → E (o.mul a o.one) a
  pub mul-add : (a b c : C) → E (o.mul a (o.add b c)) (o.add (o.mul a b) (o.mul a c))

-- the same of the values that P holds of, and that the operations give such values again
pub record IsRingOn {C : Type 0} (P : C → Type 0) (o : Operations C) (E : C → C → Type 0) : Type 0 where
  pub zero-in : P o.zero
  pub one-in : P o.one
  pub add-in : (a b : C) → P a → P b → P (o.add a b)
  pub neg-in : (a : C) → P a → P (o.neg a)
  pub mul-in : (a b : C) → P a → P b → P (o.mul a b)
  pub same : (a : C) → P a → E a a
  pub back : (a b : C) → P a → P b → E a b → E b a
  pub then : (a b c : C) → P a → P b → P c → E a b → E b c → E a c
  pub add-same : (a b c d : C) → P a → P b → P c → P d → E a b → E c d → E (o.add a c) (o.add b d)
  pub neg-same : (a b : C) → P a → P b → E a b → E (o.neg a) (o.neg b)
  pub mul-same : (a b c d : C) → P a → P b → P c → P d → E a b → E c d → E (o.mul a c) (o.mul b d)
  pub add-assoc : (a b c : C) → P a → P b → P c → E (o.add (o.add a b) c) (o.add a (o.add b c))
  pub add-comm : (a b : C) → P a → P b → E (o.add a b) (o.add b a)
  pub add-zero : (a : C) → P a → E (o.add a o.zero) a
  pub add-neg : (a : C) → P a → E (o.add a (o.neg a)) o.zero
  pub mul-assoc : (a b c : C) → P a → P b → P c → E (o.mul (o.mul a b) c) (o.mul a (o.mul b c))
  pub mul-comm : (a b : C) → P a → P b → E (o.mul a b) (o.mul b a)
  pub mul-one : (a : C) → P a → E (o.mul a o.one) a
  pub mul-add : (a b c : C) → P a → P b → P c → E (o.mul a (o.add b c)) (o.add (o.mul a b) (o.mul a c))
