-- The guard and the point of a candidate, by the coefficients of its polynomial a*x^2 + b*x + c.
use Rattle.std.specs.Prelude.{ℕ, pos, negsuc, Bool, eqb, cond, [], ◌∷◌, Option, None}
use Rattle.qe_coef.specs.declared.Op.TheVariants.{Sub}
use Rattle.qe_poly.specs.declared.limit.PolyLimit.{PolyLimit}
use Rattle.qe_poly.specs.Polynomial.{Polynomial, constant, negative, difference, product}
use Rattle.qe_poly.specs.Coefficients.{degree_in, coefficient_in}
use Rattle.qe_poly.specs.Value.{scaled}
use Rattle.qe_poly.specs.Limits.{sum_limit, product_limit, scale_limit}
use Rattle.qe_poly.specs.Numbers.{is_negative}
use Rattle.qe_halt.specs.Outcome.{first}
use Rattle.qe_form.specs.Signs.{equal, not_equal, greater_or_equal}
use Rattle.qe_form.specs.Formula.{Formula, True}
use Rattle.qe_form.specs.Making.{atomic, both}
use Rattle.qe_root.specs.declared.point.RootPoint.{RootPoint}
use Rattle.qe_root.specs.declared.point.Point.{Point}
use Rattle.qe_root.specs.declared.point.Point.TheVariants as point
use Rattle.qe_points.specs.declared.candidate.Which.{Which}
use Rattle.qe_points.specs.declared.candidate.Which.TheVariants.{Linear, Upper, Lower}
use Rattle.qe_points.specs.declared.candidate.Candidate.{Candidate}
use Rattle.qe_points.specs.declared.candidate.Candidate.TheVariants.{Root, MinusInf}

-- ---- the guard

-- d = b^2 - 4*(a*c), by the coefficients and by the polynomial
abbrev pub discriminant_by : (a b c : Polynomial) → Polynomial
discriminant_by a b c = difference (product b b) (scaled (pos 4) (product a c))

abbrev pub discriminant : ℕ → Polynomial → Polynomial
discriminant x f =
    discriminant_by (coefficient_in x 2 f) (coefficient_in x 1 f) (coefficient_in x 0 f)

-- b <> 0, and for degree two a = 0 besides
abbrev pub linear_guard : ℕ → Polynomial → Formula
linear_guard x f =
    cond (eqb (degree_in x f) 2)
    (both (atomic (coefficient_in x 2 f) equal) (atomic (coefficient_in x 1 f) not_equal))
    (atomic (coefficient_in x 1 f) not_equal)

-- a <> 0 and d >= 0
abbrev pub quadratic_guard : ℕ → Polynomial → Formula
quadratic_guard x f =
    both (atomic (coefficient_in x 2 f) not_equal) (atomic (discriminant x f) greater_or_equal)

-- where the root of this kind is one
abbrev pub root_guard : ℕ → Polynomial → Which → Formula
root_guard x f Linear = linear_guard x f
root_guard x f Upper = quadratic_guard x f
root_guard x f Lower = quadratic_guard x f

abbrev pub guard : ℕ → Candidate → Formula
guard x (Root f n which plus) = root_guard x f which
guard x MinusInf = True

-- ---- the point

-- (p + q*sqrt(r))/s with p, q and s negated where s is a negative number
abbrev pub turned : RootPoint → RootPoint
turned k =
    cond (is_negative k.s) (record { p = negative k.p; q = negative k.q; r = k.r; s = negative k.s }) k

-- -c/b
abbrev pub linear_root : ℕ → Polynomial → RootPoint
linear_root x f =
    record { p = negative (coefficient_in x 0 f); q = []; r = []; s = coefficient_in x 1 f }

-- (-b + q*sqrt(d))/(2*a)
abbrev pub quadratic_root : ℕ → Polynomial → Polynomial → RootPoint
quadratic_root x f q = record {
  p = negative (coefficient_in x 1 f);
  q = q;
  r = discriminant x f;
  s = scaled (pos 2) (coefficient_in x 2 f);
}

-- the root of this kind: with the square root added, or taken away
abbrev pub root_of_kind : ℕ → Polynomial → Which → RootPoint
root_of_kind x f Linear = linear_root x f
root_of_kind x f Upper = quadratic_root x f (constant (pos 1))
root_of_kind x f Lower = quadratic_root x f (constant (negsuc 0))

-- the root itself, or just above it
abbrev pub at_or_above : Bool → RootPoint → Point
at_or_above plus k = cond plus (point.RootPlus k) (point.Root k)

abbrev pub point_of : ℕ → Candidate → Point
point_of x (Root f n which plus) = at_or_above plus (turned (root_of_kind x f which))
point_of x MinusInf = point.MinusInf

-- ---- the first limit, in the order b*b, a*c, 4*(a*c), d, 2*a

abbrev pub quadratic_limit_by : (a b c : Polynomial) → Option PolyLimit
quadratic_limit_by a b c =
    first (
    product_limit b b ∷ product_limit a c ∷ scale_limit (pos 4) (product a c)
    ∷ sum_limit Sub (product b b) (scaled (pos 4) (product a c))
    ∷ scale_limit (pos 2) a ∷ [])

abbrev pub quadratic_limit : ℕ → Polynomial → Option PolyLimit
quadratic_limit x f =
    quadratic_limit_by (coefficient_in x 2 f) (coefficient_in x 1 f) (coefficient_in x 0 f)

-- of degree one nothing is multiplied
abbrev pub root_limit : ℕ → Polynomial → Which → Option PolyLimit
root_limit x f Linear = None
root_limit x f Upper = quadratic_limit x f
root_limit x f Lower = quadratic_limit x f

abbrev pub limit : ℕ → Candidate → Option PolyLimit
limit x (Root f n which plus) = root_limit x f which
limit x MinusInf = None
