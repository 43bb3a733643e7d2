-- When the variables of a formula fit a list of names, each given by its bytes.
use Rattle.std.specs.Prelude.{ℕ, ◌<◌, ◌≡◌, ◌⊎◌, List, [], ◌∷◌, ◌++◌, length, slice_get, nat_eq}
use Rattle.std.specs.List.{IsDistinct, Contains}
use Rattle.qe_form.specs.Formula.{Formula, Formulas, True, False, Atom, And, Or, Not, Implies, Iff, Ex, All, no_more, more}
use Rattle.qe_form.specs.Same.{IsFree}
use Rattle.qe_poly.specs.Occurs.{OccursInSome}

-- the variables that quantifiers bind, in order
abbrev mutual
  pub binders : Formula → List ℕ
  binders True = []
  binders False = []
  binders (Atom a) = []
  binders (And fs) = binders_each fs
  binders (Or fs) = binders_each fs
  binders (Not f) = binders f
  binders (Implies f g) = binders f ++ binders g
  binders (Iff f g) = binders f ++ binders g
  binders (Ex x f) = x ∷ binders f
  binders (All x f) = x ∷ binders f

  pub binders_each : Formulas → List ℕ
  binders_each no_more = []
  binders_each (more f fs) = binders f ++ binders_each fs

-- the variable stands in an atom or at a quantifier
abbrev mutual
  pub Occurs : ℕ → Formula → Type 0
  Occurs x True = ⊥
  Occurs x False = ⊥
  Occurs x (Atom a) = OccursInSome x a.poly
  Occurs x (And fs) = OccursInOne x fs
  Occurs x (Or fs) = OccursInOne x fs
  Occurs x (Not f) = Occurs x f
  Occurs x (Implies f g) = Occurs x f ⊎ Occurs x g
  Occurs x (Iff f g) = Occurs x f ⊎ Occurs x g
  Occurs x (Ex y f) = (x ≡ y) ⊎ Occurs x f
  Occurs x (All y f) = (x ≡ y) ⊎ Occurs x f

  pub OccursInOne : ℕ → Formulas → Type 0
  OccursInOne x no_more = ⊥
  OccursInOne x (more f fs) = Occurs x f ⊎ OccursInOne x fs

-- Each variable has a name, each quantifier has a variable of its own that is nowhere free, and the free variables have different names.
pub record IsWellNumbered (f : Formula) (names : List (List ℕ)) : Type 0 where
  pub below : (x : ℕ) → Occurs x f → x < length names
  pub own : IsDistinct nat_eq (binders f)
  pub bound : (x : ℕ) → Contains (binders f) x → IsFree x f → ⊥
  pub different : (x y : ℕ) → IsFree x f → IsFree y f → slice_get names x ≡ slice_get names y → x ≡ y
