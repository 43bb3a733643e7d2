-- The substituted formula is plain, and its sets of signs are neither empty nor full.
use Rattle.std.proofs.Common.{ℕ, zero, suc, ◌≡◌, refl, subst, sym, Bool, true, false, cond, eqb, Option, lit<}
use Rattle.qe_poly.specs.Polynomial.{Polynomial, negative, product}
use Rattle.qe_poly.specs.Coefficients.{degree_in, derivative}
use Rattle.qe_form.specs.Making.{atomic, constant}
use Rattle.qe_form.specs.declared.form.Atom as atom
use Rattle.qe_form.specs.declared.signs.Signs.{Signs}
use Rattle.qe_form.specs.Signs.{IsProper, equal, is_even, strict}
use Rattle.qe_form.specs.Formula.{Formula, Formulas, True, False, Atom, And, Or, no_more, more}
use Rattle.qe_form.specs.Plain.{IsPlainAndProper, ArePlainWith}
use Rattle.qe_root.specs.declared.point.RootPoint.{RootPoint}
use Rattle.qe_root.specs.declared.point.Point.{Point}
use Rattle.qe_root.specs.declared.point.Point.TheVariants.{Root, RootPlus, MinusInf}
use Rattle.qe_poly.specs.Numbers.{is_zero}
use Rattle.qe_root.specs.Value.{plain_part_of, root_part_of}
use Rattle.qe_root.specs.Shape.{formula}
use Rattle.qe_root.specs.SignForm.{zero_shape, side_shape, sign_shape, sign_formula, norm}
use Rattle.qe_subst.specs.Substituted.{is_own, at_root, near, each_coefficient, everywhere, line_below, quadratic_below, at_minus_infinity, above_root, at_point, for_atom, substituted, substituted_each}
use Rattle.qe_subst.proofs.ProperSigns.{strict_proper, mirror_proper, equal_proper}

constant_plain : (b : Bool) → IsPlainAndProper (constant b)
constant_plain true = tt
constant_plain false = tt

-- ---- at a root

zero_plain : (zero : Bool) (e n : Polynomial) → IsPlainAndProper (formula (zero_shape zero e n))
zero_plain true e n = ((lit< tt, lit< tt), ((lit< tt, lit< tt), tt))
zero_plain false e n = ((lit< tt, lit< tt), ((lit< tt, lit< tt), tt))

side_plain : (zero : Bool) (a b n : Polynomial) → IsPlainAndProper (formula (side_shape zero a b n))
side_plain true a b n = (((lit< tt, lit< tt), ((lit< tt, lit< tt), tt)), ((((lit< tt, lit< tt), ((lit< tt, lit< tt), tt))), tt))
side_plain false a b n = (((lit< tt, lit< tt), ((lit< tt, lit< tt), tt)), ((((lit< tt, lit< tt), (((lit< tt, lit< tt), ((lit< tt, lit< tt), tt)), tt))), tt))

shape_plain : (s : Signs) (a b e n : Polynomial) → IsPlainAndProper (formula (sign_shape negative s a b e n))
shape_plain s a b e n = by_sides s.minus s.plus
  where
    by_sides : (minus plus : Bool) → IsPlainAndProper (formula (sign_shape negative (record { minus = minus; zero = s.zero; plus = plus }) a b e n))
    by_sides true true = zero_plain s.zero e n
    by_sides true false = side_plain s.zero a b n
    by_sides false true = side_plain s.zero (negative a) (negative b) n
    by_sides false false = zero_plain s.zero e n

sign_plain : (a b r : Polynomial) (s : Signs) → IsProper s → IsPlainAndProper (sign_formula a b r s)
sign_plain a b r s proper =
    elim (is_zero b) as (λ t. IsPlainAndProper (cond t (atomic a s) (formula (sign_shape negative s a b (product a b) (norm a b r))))) [
      | true ↦ proper
      | false ↦ shape_plain s a b (product a b) (norm a b r)
    ]

module _ (x : ℕ) (own : Option Polynomial) where
  module _ (k : RootPoint) where
    at_root_plain : (f : Polynomial) (s : Signs) → IsProper s → IsPlainAndProper (at_root x own k f s)
    at_root_plain f s proper =
        elim (is_own own f) as (λ t. IsPlainAndProper (cond t (constant s.zero) (sign_formula (plain_part_of f x k) (root_part_of f x k) k.r s))) [
          | true ↦ constant_plain s.zero
          | false ↦ sign_plain (plain_part_of f x k) (root_part_of f x k) k.r s proper
        ]

    near_plain : (n : ℕ) (f : Polynomial) (s : Signs) → IsProper s → IsProper (strict s) → IsPlainAndProper (near x own k n f s)
    near_plain zero f s proper strictly = proper
    near_plain (suc n) f s proper strictly =
        (at_root_plain f (strict s) strictly, ((at_root_plain f equal equal_proper, (near_plain n (derivative x f) s proper strictly, tt)), tt))

  -- ---- elsewhere

  coefficients_plain : (n : ℕ) (f : Polynomial) (s : Signs) → IsProper s → ArePlainWith (λ a. IsProper a.signs) (each_coefficient x n f s)
  coefficients_plain zero f s proper = (proper, tt)
  coefficients_plain (suc n) f s proper = (proper, coefficients_plain n f s proper)

  everywhere_plain : (f : Polynomial) (s : Signs) → IsProper s → IsPlainAndProper (everywhere x f s)
  everywhere_plain f s proper =
      elim s.zero as (λ t. IsPlainAndProper (cond t (And (each_coefficient x (degree_in x f) f s)) (Or (each_coefficient x (degree_in x f) f s)))) [
        | true ↦ coefficients_plain (degree_in x f) f s proper
        | false ↦ coefficients_plain (degree_in x f) f s proper
      ]

  below_plain : (f : Polynomial) (s : Signs) → IsProper s → IsPlainAndProper (at_minus_infinity x f s)
  below_plain f s proper =
      elim (is_even s) as (λ t. is_even s ≡ t → IsPlainAndProper (cond t (everywhere x f s) (cond (eqb (degree_in x f) 1) (line_below x f s) (quadratic_below x f s)))) [
        | true ↦ λ even. everywhere_plain f s proper
        | false ↦ λ uneven. elim (eqb (degree_in x f) 1) as (λ t. IsPlainAndProper (cond t (line_below x f s) (quadratic_below x f s))) [
          | true ↦ (mirror_proper s uneven, ((equal_proper, (proper, tt)), tt))
          | false ↦ (strict_proper s uneven, ((equal_proper, (mirror_proper s uneven, tt)), ((equal_proper, (equal_proper, (proper, tt))), tt)))
        ]
      ] refl

  above_plain : (k : RootPoint) (f : Polynomial) (s : Signs) → IsProper s → IsPlainAndProper (above_root x own k f s)
  above_plain k f s proper =
      elim (is_even s) as (λ t. is_even s ≡ t → IsPlainAndProper (cond t (everywhere x f s) (near x own k (degree_in x f) f s))) [
        | true ↦ λ even. everywhere_plain f s proper
        | false ↦ λ uneven. near_plain k (degree_in x f) f s proper (strict_proper s uneven)
      ] refl

  point_plain : (point : Point) (f : Polynomial) (s : Signs) → IsProper s → IsPlainAndProper (at_point x point own f s)
  point_plain (Root k) f s proper = at_root_plain k f s proper
  point_plain (RootPlus k) f s proper = above_plain k f s proper
  point_plain MinusInf f s proper = below_plain f s proper

  module _ (point : Point) where
    for_atom_plain : (a : atom.Atom) → IsProper a.signs → IsPlainAndProper (for_atom x point own a)
    for_atom_plain a proper =
        elim (eqb (degree_in x a.poly) 0) as (λ t. IsPlainAndProper (cond t (Atom a) (at_point x point own a.poly a.signs))) [ true ↦ proper | false ↦ point_plain point a.poly a.signs proper ]

    mutual
      substituted_plain : (f : Formula) → IsPlainAndProper f → IsPlainAndProper (substituted x point own f)
      substituted_plain True plain = tt
      substituted_plain False plain = tt
      substituted_plain (Atom a) plain = for_atom_plain a plain
      substituted_plain (And fs) plain = each_plain fs plain
      substituted_plain (Or fs) plain = each_plain fs plain
      substituted_plain f plain = absurd plain

      each_plain : (fs : Formulas) → ArePlainWith (λ a. IsProper a.signs) fs → ArePlainWith (λ a. IsProper a.signs) (substituted_each x point own fs)
      each_plain no_more plain = tt
      each_plain (more f fs) plain = (substituted_plain f plain.0, each_plain fs plain.1)

-- for the formula of the code
pub made_plain : (x : ℕ) (point : Point) (own : Option Polynomial) (f g : Formula) → IsPlainAndProper f → g ≡ substituted x point own f → IsPlainAndProper g
made_plain x point own f g plain made = subst IsPlainAndProper (sym made) (substituted_plain x own point f plain)
