-- The number of atoms of a formula, its degree in a variable, and the variables in its polynomials.
use Rattle.std.specs.Prelude.{ℕ, ◌+◌, max, ◌⊎◌, Bool, false, ◌||◌}
use Rattle.qe_poly.specs.Coefficients.{degree_in}
use Rattle.qe_form.specs.Formula.{Formula, Formulas, True, False, Atom, And, Or, Not, Implies, Iff, Ex, All, no_more, more}
use Rattle.qe_poly.specs.Occurs.{OccursInSome, occurs_in_some}

-- how many atoms, constants and quantifiers there are
abbrev mutual
  pub count : Formula → ℕ
  count True = 1
  count False = 1
  count (Atom a) = 1
  count (And fs) = count_each fs
  count (Or fs) = count_each fs
  count (Not f) = count f
  count (Implies f g) = count f + count g
  count (Iff f g) = count f + count g
  count (Ex x f) = 1 + count f
  count (All x f) = 1 + count f

  pub count_each : Formulas → ℕ
  count_each no_more = 0
  count_each (more f fs) = count f + count_each fs

-- the greatest degree of a polynomial in the variable, 0 where there is none
abbrev mutual
  pub degree : ℕ → Formula → ℕ
  degree x True = 0
  degree x False = 0
  degree x (Atom a) = degree_in x a.poly
  degree x (And fs) = degree_of_some x fs
  degree x (Or fs) = degree_of_some x fs
  degree x (Not f) = degree x f
  degree x (Implies f g) = max (degree x f) (degree x g)
  degree x (Iff f g) = max (degree x f) (degree x g)
  degree x (Ex y f) = degree x f
  degree x (All y f) = degree x f

  pub degree_of_some : ℕ → Formulas → ℕ
  degree_of_some x no_more = 0
  degree_of_some x (more f fs) = max (degree x f) (degree_of_some x fs)

-- the variable occurs in a polynomial of the formula, free or bound
abbrev mutual
  pub Has : ℕ → Formula → Type 0
  Has x True = ⊥
  Has x False = ⊥
  Has x (Atom a) = OccursInSome x a.poly
  Has x (And fs) = SomeHas x fs
  Has x (Or fs) = SomeHas x fs
  Has x (Not f) = Has x f
  Has x (Implies f g) = Has x f ⊎ Has x g
  Has x (Iff f g) = Has x f ⊎ Has x g
  Has x (Ex y f) = Has x f
  Has x (All y f) = Has x f

  pub SomeHas : ℕ → Formulas → Type 0
  SomeHas x no_more = ⊥
  SomeHas x (more f fs) = Has x f ⊎ SomeHas x fs

-- the test whether it does
abbrev mutual
  pub occurs : ℕ → Formula → Bool
  occurs x True = false
  occurs x False = false
  occurs x (Atom a) = occurs_in_some x a.poly
  occurs x (And fs) = occurs_in_one x fs
  occurs x (Or fs) = occurs_in_one x fs
  occurs x (Not f) = occurs x f
  occurs x (Implies f g) = occurs x f || occurs x g
  occurs x (Iff f g) = occurs x f || occurs x g
  occurs x (Ex y f) = occurs x f
  occurs x (All y f) = occurs x f

  pub occurs_in_one : ℕ → Formulas → Bool
  occurs_in_one x no_more = false
  occurs_in_one x (more f fs) = occurs x f || occurs_in_one x fs
