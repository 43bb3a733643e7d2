-- What a formula feeds a hasher: its kind, and then what it holds; of a list its length and then its parts.
use Rattle.std.specs.Prelude.{ℕ, suc, [], ◌++◌}
use Rattle.std.specs.Hash as fed
use Rattle.qe_poly.specs.Equal.{poly_fed}
use Rattle.qe_form.specs.Signs.{bits}
use Rattle.qe_form.specs.Formula.{Formula, Formulas, True, False, Atom, And, Or, Not, Implies, Iff, Ex, All, no_more, more}

-- how many formulas there are
abbrev pub size : Formulas → ℕ
size no_more = 0
size (more f fs) = suc (size fs)

abbrev mutual
  pub formula_fed : Formula → fed.HashWrites
  formula_fed True = fed.u8 0
  formula_fed False = fed.u8 1
  formula_fed (Atom a) = fed.u8 2 ++ (poly_fed a.poly ++ fed.u8 (bits a.signs))
  formula_fed (And fs) = fed.u8 3 ++ (fed.usize (size fs) ++ formulas_fed fs)
  formula_fed (Or fs) = fed.u8 4 ++ (fed.usize (size fs) ++ formulas_fed fs)
  formula_fed (Not f) = fed.u8 5 ++ formula_fed f
  formula_fed (Implies f g) = fed.u8 6 ++ (formula_fed f ++ formula_fed g)
  formula_fed (Iff f g) = fed.u8 7 ++ (formula_fed f ++ formula_fed g)
  formula_fed (Ex x f) = fed.u8 8 ++ (fed.u32 x ++ formula_fed f)
  formula_fed (All x f) = fed.u8 9 ++ (fed.u32 x ++ formula_fed f)

  pub formulas_fed : Formulas → fed.HashWrites
  formulas_fed no_more = []
  formulas_fed (more f fs) = formula_fed f ++ formulas_fed fs
