-- A polynomial f = alpha*x^2 + beta*x + gamma at x = (p + q*sqrt(r))/s: there s^2*f is A +
-- B*sqrt(r).
use Rattle.std.specs.Prelude.{ℕ, cond, pos, [], ◌∷◌, Option, None}
use Rattle.qe_coef.specs.declared.Op.TheVariants.{Add}
use Rattle.qe_tower.specs.Number.{Number, IsNumber, number_operations, sign_of, add, mul, Equal}
use Rattle.qe_tower.specs.Point.{Point, IsPoint}
use Rattle.qe_line.specs.Quadratic.{IsRootValue}
use Rattle.qe_poly.specs.declared.limit.PolyLimit.{PolyLimit}
use Rattle.qe_poly.specs.Polynomial.{Polynomial, sum, product}
use Rattle.qe_poly.specs.Coefficients.{coefficient_in}
use Rattle.qe_poly.specs.Value.{scaled}
use Rattle.qe_poly.specs.Limits.{sum_limit, product_limit, scale_limit}
use Rattle.qe_poly.specs.Numbers.{is_zero}
use Rattle.qe_halt.specs.Outcome.{first}
use Rattle.qe_form.specs.Value.{value}
use Rattle.qe_root.specs.declared.point.RootPoint.{RootPoint}

-- ---- the polynomials

-- a*b*c
abbrev pub triple : (a b c : Polynomial) → Polynomial
triple a b c = product (product a b) c

-- p^2 + q^2*r
abbrev pub square : RootPoint → Polynomial
square k = sum (product k.p k.p) (triple k.q k.q k.r)

-- A = alpha*(p^2 + q^2*r) + beta*p*s + gamma*s^2
abbrev pub plain_part : (alpha beta gamma : Polynomial) → RootPoint → Polynomial
plain_part alpha beta gamma k =
    sum (sum (product alpha (square k)) (triple beta k.p k.s)) (product gamma (product k.s k.s))

-- B = 2*alpha*p*q + beta*q*s
abbrev pub root_part : (alpha beta : Polynomial) → RootPoint → Polynomial
root_part alpha beta k = sum (scaled (pos 2) (triple alpha k.p k.q)) (triple beta k.q k.s)

-- A and B of a polynomial
abbrev pub plain_part_of : Polynomial → ℕ → RootPoint → Polynomial
plain_part_of f x k =
    plain_part (coefficient_in x 2 f) (coefficient_in x 1 f) (coefficient_in x 0 f) k

abbrev pub root_part_of : Polynomial → ℕ → RootPoint → Polynomial
root_part_of f x k = root_part (coefficient_in x 2 f) (coefficient_in x 1 f) k

-- ---- the first limit: what alpha is multiplied by is left out where alpha is zero, and then gives 0

-- the limit of a*b, and then of that times c
abbrev pub triple_limit : (a b c : Polynomial) → Option PolyLimit
triple_limit a b c = first (product_limit a b ∷ product_limit (product a b) c ∷ [])

-- of p^2 + q^2*r
abbrev pub square_limit : RootPoint → Option PolyLimit
square_limit k = first (
    product_limit k.p k.p ∷ triple_limit k.q k.q k.r
    ∷ sum_limit Add (product k.p k.p) (triple k.q k.q k.r) ∷ [])

-- of alpha*(p^2 + q^2*r)
abbrev pub quadratic_term_limit : Polynomial → RootPoint → Option PolyLimit
quadratic_term_limit alpha k =
    cond (is_zero alpha) None (first (square_limit k ∷ product_limit alpha (square k) ∷ []))

-- of 2*alpha*p*q
abbrev pub double_term_limit : Polynomial → RootPoint → Option PolyLimit
double_term_limit alpha k =
    cond (is_zero alpha) None (first (triple_limit alpha k.p k.q ∷ scale_limit (pos 2) (triple alpha k.p k.q) ∷ []))

-- of A: its three terms come first, and then the two sums
abbrev pub plain_part_limit : (alpha beta gamma : Polynomial) → RootPoint → Option PolyLimit
plain_part_limit alpha beta gamma k = first (
    quadratic_term_limit alpha k ∷ triple_limit beta k.p k.s
    ∷ product_limit k.s k.s ∷ product_limit gamma (product k.s k.s)
    ∷ sum_limit Add (product alpha (square k)) (triple beta k.p k.s)
    ∷ sum_limit Add (sum (product alpha (square k)) (triple beta k.p k.s))
    (product gamma (product k.s k.s)) ∷ [])

-- of B
abbrev pub root_part_limit : (alpha beta : Polynomial) → RootPoint → Option PolyLimit
root_part_limit alpha beta k = first (
    double_term_limit alpha k ∷ triple_limit beta k.q k.s
    ∷ sum_limit Add (scaled (pos 2) (triple alpha k.p k.q)) (triple beta k.q k.s) ∷ [])

-- of A, and then of B
abbrev pub value_limit : Polynomial → ℕ → RootPoint → Option PolyLimit
value_limit f x k = first (
    plain_part_limit (coefficient_in x 2 f) (coefficient_in x 1 f) (coefficient_in x 0 f) k
    ∷ root_part_limit (coefficient_in x 2 f) (coefficient_in x 1 f) k ∷ [])

-- ---- the meaning

-- v is the value of (p + q*sqrt(r))/s at a point where s is not zero and r not negative
pub record IsValue (k : RootPoint) (at : Point) (v : Number) : Type 0 where
  pub number : IsNumber v
  pub root : IsRootValue number_operations sign_of (value k.p at) (value k.q at) (value k.r at) (value k.s at) v
  pub root-number : IsNumber root.root

-- at every point, and for every value v of the root there: s^2 times f with x given v is a + b*w,
-- where w is the square root of r
abbrev pub AreParts : Polynomial → ℕ → RootPoint → (a b : Polynomial) → Type 0
AreParts f x k a b = (at : Point) → IsPoint at → (v : Number) → (h : IsValue k at v)
    → Equal (mul (mul (value k.s at) (value k.s at)) (value f ((x, v) ∷ at)))
    (add (value a at) (mul (value b at) h.root.root))
