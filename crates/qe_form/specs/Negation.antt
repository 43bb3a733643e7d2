-- The negation of a formula, moved to its atoms.
use Rattle.std.specs.Prelude.{Bool, not, ◌↔◌}
use Rattle.qe_tower.specs.Point.{Point}
use Rattle.qe_form.specs.Signs.{complement}
use Rattle.qe_form.specs.Formula.{Formula, Formulas, True, False, Atom, And, Or, Not, Implies, Iff, Ex, All, no_more, more}
use Rattle.qe_form.specs.Truth.{Is}

-- Constants change places, and so do And and Or; an atom has the signs outside its set; any other formula stands under Not.
abbrev mutual
  pub negated : Formula → Formula
  negated True = False
  negated False = True
  negated (Atom a) = Atom (record { poly = a.poly; signs = complement a.signs })
  negated (And fs) = Or (negated_each fs)
  negated (Or fs) = And (negated_each fs)
  negated (Not f) = Not (Not f)
  negated (Implies f g) = Not (Implies f g)
  negated (Iff f g) = Not (Iff f g)
  negated (Ex x f) = Not (Ex x f)
  negated (All x f) = Not (All x f)

  pub negated_each : Formulas → Formulas
  negated_each no_more = no_more
  negated_each (more f fs) = more (negated f) (negated_each fs)

-- at every point g is true where f is false, and false where f is true
abbrev pub Opposite : Formula → Formula → Type 0
Opposite f g = (p : Point) (b : Bool) → Is g b p ↔ Is f (not b) p
