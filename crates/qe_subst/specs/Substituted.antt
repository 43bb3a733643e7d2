-- What stands for a formula in which a variable x of degree two at most is a test point; after
-- Weispfenning (1997) and Loos and Weispfenning (1993).
use Rattle.std.specs.Prelude.{ℕ, zero, suc, Bool, false, cond, eqb, [], ◌∷◌, Option, None, Some}
use Rattle.qe_poly.specs.Polynomial.{Polynomial}
use Rattle.qe_poly.specs.Coefficients.{degree_in, coefficient_in, derivative}
use Rattle.qe_poly.specs.Limits.{derivative_limit}
use Rattle.qe_poly.specs.Equal.{poly_eq}
use Rattle.qe_halt.specs.Outcome.{first}
use Rattle.qe_form.specs.declared.form.Atom as atom
use Rattle.qe_form.specs.declared.signs.Signs.{Signs}
use Rattle.qe_form.specs.Making.{atomic, both, either, constant}
use Rattle.qe_form.specs.Signs.{equal, mirror, strict, is_even}
use Rattle.qe_form.specs.Formula.{Formula, Formulas, Atom, And, Or, no_more, more}
use Rattle.qe_root.specs.declared.point.RootPoint.{RootPoint}
use Rattle.qe_root.specs.declared.point.Point.{Point}
use Rattle.qe_root.specs.declared.point.Point.TheVariants.{Root, RootPlus, MinusInf}
use Rattle.qe_root.specs.declared.stop.Stage.TheVariants as stage
use Rattle.qe_root.specs.Value.{plain_part_of, root_part_of, value_limit}
use Rattle.qe_root.specs.SignForm.{sign_formula, sign_limit}
use Rattle.qe_subst.specs.declared.stop.Fault.{Fault}
use Rattle.qe_subst.specs.Fault.{in_stage}

-- the polynomial is the point's own
abbrev pub is_own : Option Polynomial → Polynomial → Bool
is_own None f = false
is_own (Some own) f = poly_eq own f

module _ (x : ℕ) where
  -- ---- at a root

  module _ (own : Option Polynomial) (k : RootPoint) where
    -- the sign of f at the root is among the signs; the root's own polynomial is zero there
    abbrev pub at_root : Polynomial → Signs → Formula
    at_root f signs =
        cond (is_own own f) (constant signs.zero)
        (sign_formula (plain_part_of f x k) (root_part_of f x k) k.r signs)

    -- first the value, and then its sign
    abbrev pub at_root_fault : Polynomial → Signs → Option Fault
    at_root_fault f signs = cond (is_own own f) None
        (first (in_stage stage.Root (value_limit f x k)
        ∷ in_stage stage.Sign (sign_limit (plain_part_of f x k) (root_part_of f x k) k.r signs) ∷ []))

    -- with the set without zero, and with zero alone
    abbrev pub at_both_fault : Polynomial → Signs → Option Fault
    at_both_fault f signs = first (at_root_fault f (strict signs) ∷ at_root_fault f equal ∷ [])

    -- A polynomial of degree n has one of the signs of an inequality just above the root: it has
    -- one at the root, zero left out, or it is zero there and its derivative, of degree n-1, has
    -- one of the signs just above the root.
    abbrev pub near : ℕ → Polynomial → Signs → Formula
    near zero f signs = atomic f signs
    near (suc n) f signs =
        either (at_root f (strict signs)) (both (at_root f equal) (near n (derivative x f) signs))

    abbrev pub near_fault : ℕ → Polynomial → Signs → Option Fault
    near_fault zero f signs = None
    near_fault (suc n) f signs =
        first (at_both_fault f signs ∷ in_stage stage.Slope (derivative_limit x f)
        ∷ near_fault n (derivative x f) signs ∷ [])

  -- ---- where a polynomial is not zero but if it is zero everywhere

  -- an atom on each coefficient of a polynomial of degree n, that of the highest power first
  abbrev pub each_coefficient : ℕ → Polynomial → Signs → Formulas
  each_coefficient zero f signs = more (atomic (coefficient_in x zero f) signs) no_more
  each_coefficient (suc n) f signs =
      more (atomic (coefficient_in x (suc n) f) signs) (each_coefficient n f signs)

  -- for `=` each coefficient is zero, and for `<>` some is not
  abbrev pub everywhere : Polynomial → Signs → Formula
  everywhere f signs =
      cond signs.zero (And (each_coefficient (degree_in x f) f signs))
      (Or (each_coefficient (degree_in x f) f signs))

  -- ---- below all numbers, for an inequality: the first coefficient other than zero decides, that of x turned

  abbrev pub line_below : Polynomial → Signs → Formula
  line_below f signs =
      either (atomic (coefficient_in x 1 f) (mirror (strict signs)))
      (both (atomic (coefficient_in x 1 f) equal) (atomic (coefficient_in x 0 f) signs))

  abbrev pub constant_below : Polynomial → Signs → Formula
  constant_below f signs =
      And (more (atomic (coefficient_in x 2 f) equal)
      (more (atomic (coefficient_in x 1 f) equal)
      (more (atomic (coefficient_in x 0 f) signs) no_more)))

  abbrev pub quadratic_below : Polynomial → Signs → Formula
  quadratic_below f signs =
      Or (more (atomic (coefficient_in x 2 f) (strict signs))
      (more (both (atomic (coefficient_in x 2 f) equal)
      (atomic (coefficient_in x 1 f) (mirror (strict signs))))
      (more (constant_below f signs) no_more)))

  abbrev pub at_minus_infinity : Polynomial → Signs → Formula
  at_minus_infinity f signs =
      cond (is_even signs) (everywhere f signs)
      (cond (eqb (degree_in x f) 1) (line_below f signs) (quadratic_below f signs))

  -- ---- just above a root

  module _ (own : Option Polynomial) (k : RootPoint) where
    abbrev pub above_root : Polynomial → Signs → Formula
    above_root f signs =
        cond (is_even signs) (everywhere f signs) (near own k (degree_in x f) f signs)

    abbrev pub above_root_fault : Polynomial → Signs → Option Fault
    above_root_fault f signs = cond (is_even signs) None (near_fault own k (degree_in x f) f signs)

  -- ---- at a test point

  module _ (point : Point) (own : Option Polynomial) where
    -- an atom with x
    abbrev pub at_point : Polynomial → Signs → Formula
    at_point f signs = elim point [
      | Root k ↦ at_root own k f signs
      | RootPlus k ↦ above_root own k f signs
      | MinusInf ↦ at_minus_infinity f signs
    ]

    abbrev pub at_point_fault : Polynomial → Signs → Option Fault
    at_point_fault f signs = elim point [
      | Root k ↦ at_root_fault own k f signs
      | RootPlus k ↦ above_root_fault own k f signs
      | MinusInf ↦ None
    ]

    -- an atom without x stays
    abbrev pub for_atom : atom.Atom → Formula
    for_atom a = cond (eqb (degree_in x a.poly) 0) (Atom a) (at_point a.poly a.signs)

    abbrev pub atom_fault : atom.Atom → Option Fault
    atom_fault a = cond (eqb (degree_in x a.poly) 0) None (at_point_fault a.poly a.signs)

    -- an And or an Or goes by its parts, and what is no atom stays
    abbrev mutual
      pub substituted : Formula → Formula
      substituted (Atom a) = for_atom a
      substituted (And fs) = And (substituted_each fs)
      substituted (Or fs) = Or (substituted_each fs)
      substituted f = f

      pub substituted_each : Formulas → Formulas
      substituted_each no_more = no_more
      substituted_each (more f fs) = more (substituted f) (substituted_each fs)
