-- The order of formulas.
use Rattle.std.specs.Prelude.{ℕ}
use Rattle.std.specs.declared.cmp.Ordering.{Ordering}
use Rattle.std.specs.declared.cmp.Ordering.TheVariants.{Less, Equal, Greater}
use Rattle.std.specs.Ordering.{nat_cmp, on, then_cmp, ordering_then}
use Rattle.qe_poly.specs.Order.{poly_cmp}
use Rattle.qe_form.specs.declared.form.Atom as atom
use Rattle.qe_form.specs.Signs.{bits}
use Rattle.qe_form.specs.Formula.{Formula, Formulas, True, False, Atom, And, Or, Not, Implies, Iff, Ex, All, no_more, more}

-- the place of a kind among the kinds
abbrev pub rank : Formula → ℕ
rank True = 0
rank False = 1
rank (Atom a) = 2
rank (And fs) = 3
rank (Or fs) = 4
rank (Not f) = 5
rank (Implies f g) = 6
rank (Iff f g) = 7
rank (Ex x f) = 8
rank (All x f) = 9

-- by the polynomials, and then by the bits of the signs
abbrev pub atom_cmp : atom.Atom → atom.Atom → Ordering
atom_cmp = then_cmp (on (λ a. a.poly) poly_cmp) (on (λ a. bits a.signs) nat_cmp)

-- Formulas of one kind go by their content: pairs the left first, quantifiers by the variable first, lists by the first part that
-- differs, where a list that ends comes first. Others go by their kinds.
abbrev mutual
  pub formula_cmp : Formula → Formula → Ordering
  formula_cmp (Atom a) (Atom b) = atom_cmp a b
  formula_cmp (And fs) (And gs) = formulas_cmp fs gs
  formula_cmp (Or fs) (Or gs) = formulas_cmp fs gs
  formula_cmp (Not f) (Not g) = formula_cmp f g
  formula_cmp (Implies f g) (Implies h k) = ordering_then (formula_cmp f h) (formula_cmp g k)
  formula_cmp (Iff f g) (Iff h k) = ordering_then (formula_cmp f h) (formula_cmp g k)
  formula_cmp (Ex x f) (Ex y g) = ordering_then (nat_cmp x y) (formula_cmp f g)
  formula_cmp (All x f) (All y g) = ordering_then (nat_cmp x y) (formula_cmp f g)
  formula_cmp f g = nat_cmp (rank f) (rank g)

  pub formulas_cmp : Formulas → Formulas → Ordering
  formulas_cmp no_more no_more = Equal
  formulas_cmp no_more (more g gs) = Less
  formulas_cmp (more f fs) no_more = Greater
  formulas_cmp (more f fs) (more g gs) = ordering_then (formula_cmp f g) (formulas_cmp fs gs)
