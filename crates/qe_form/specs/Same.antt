-- When two formulas mean the same.
use Rattle.std.specs.Prelude.{ℕ, Bool, ◌≡◌, ◌≢◌, ◌⊎◌, ◌↔◌, Some}
use Rattle.qe_tower.specs.Number.{Number}
use Rattle.qe_tower.specs.Point.{Point, IsPoint, look_up}
use Rattle.qe_poly.specs.Occurs.{OccursInSome}
use Rattle.qe_form.specs.Formula.{Formula, Formulas, True, False, Atom, And, Or, Not, Implies, Iff, Ex, All, no_more, more}
use Rattle.qe_form.specs.Truth.{Is}

-- the variable is free in the formula
abbrev mutual
  pub IsFree : ℕ → Formula → Type 0
  IsFree x True = ⊥
  IsFree x False = ⊥
  IsFree x (Atom a) = OccursInSome x a.poly
  IsFree x (And fs) = IsFreeInSome x fs
  IsFree x (Or fs) = IsFreeInSome x fs
  IsFree x (Not f) = IsFree x f
  IsFree x (Implies f g) = IsFree x f ⊎ IsFree x g
  IsFree x (Iff f g) = IsFree x f ⊎ IsFree x g
  IsFree x (Ex y f) = (x ≢ y) × IsFree x f
  IsFree x (All y f) = (x ≢ y) × IsFree x f

  pub IsFreeInSome : ℕ → Formulas → Type 0
  IsFreeInSome x no_more = ⊥
  IsFreeInSome x (more f fs) = IsFree x f ⊎ IsFreeInSome x fs

-- the formula has no quantifier
abbrev mutual
  pub HasNoQuantifier : Formula → Type 0
  HasNoQuantifier True = Unit {0}
  HasNoQuantifier False = Unit {0}
  HasNoQuantifier (Atom a) = Unit {0}
  HasNoQuantifier (And fs) = HaveNoQuantifier fs
  HasNoQuantifier (Or fs) = HaveNoQuantifier fs
  HasNoQuantifier (Not f) = HasNoQuantifier f
  HasNoQuantifier (Implies f g) = HasNoQuantifier f × HasNoQuantifier g
  HasNoQuantifier (Iff f g) = HasNoQuantifier f × HasNoQuantifier g
  HasNoQuantifier (Ex x f) = ⊥
  HasNoQuantifier (All x f) = ⊥

  pub HaveNoQuantifier : Formulas → Type 0
  HaveNoQuantifier no_more = Unit {0}
  HaveNoQuantifier (more f fs) = HasNoQuantifier f × HaveNoQuantifier fs

-- the point gives each free variable of f a number
abbrev pub Gives : Point → Formula → Type 0
Gives p f = (x : ℕ) → IsFree x f → (v : Number) × (look_up p x ≡ Some v)

-- one is true where the other is, and false where the other is
abbrev pub Agree : Formula → Formula → Point → Type 0
Agree f g p = (b : Bool) → Is f b p ↔ Is g b p

-- The free variables of g are among those of f, and f and g agree at every point that gives all free variables of f a number.
pub record Same (f g : Formula) : Type 0 where
  pub free : (x : ℕ) → IsFree x g → IsFree x f
  pub agree : (p : Point) → IsPoint p → Gives p f → Agree f g p

-- list by list, the formulas mean the same
abbrev pub SameEach : Formulas → Formulas → Type 0
SameEach no_more no_more = Unit {0}
SameEach (more f fs) (more g gs) = Same f g × SameEach fs gs
SameEach _ _ = ⊥
