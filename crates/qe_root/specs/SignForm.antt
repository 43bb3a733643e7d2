-- The formula stating that the sign of A + B*sqrt(r) is in a set, without the square root: by the
-- signs of A, B, A*B and N = A^2 - B^2*r.
use Rattle.std.specs.Prelude.{◌≡◌, ◌↔◌, Bool, cond, [], ◌∷◌, Option, None}
use Rattle.qe_coef.specs.declared.Op.TheVariants.{Sub}
use Rattle.qe_ring.specs.Sign.{IsNotMinus}
use Rattle.qe_tower.specs.Number.{Number, IsNumber, sign_of, add, mul, Equal}
use Rattle.qe_tower.specs.Point.{Point, IsPoint}
use Rattle.qe_poly.specs.declared.limit.PolyLimit.{PolyLimit}
use Rattle.qe_poly.specs.Polynomial.{Polynomial, negative, difference, product}
use Rattle.qe_poly.specs.Limits.{sum_limit, product_limit}
use Rattle.qe_poly.specs.Numbers.{is_zero}
use Rattle.qe_halt.specs.Outcome.{first}
use Rattle.qe_form.specs.declared.signs.Signs.{Signs}
use Rattle.qe_form.specs.Signs.{less, less_or_equal, equal, not_equal, greater_or_equal, greater, is_even}
use Rattle.qe_form.specs.Formula.{Formula}
use Rattle.qe_form.specs.Value.{value}
use Rattle.qe_form.specs.Truth.{has_sign, Is}
use Rattle.qe_root.specs.Value.{triple, triple_limit}
use Rattle.qe_root.specs.Shape.{Shape, atom, conjunction, disjunction, formula}

-- ---- the shapes

-- A + B*sqrt(r) = 0: A and B have no common sign, and A^2 = B^2*r
abbrev pub equal_shape : {X : Type 0} → (e n : X) → Shape X
equal_shape e n = conjunction (atom e less_or_equal) (atom n equal)

abbrev pub not_equal_shape : {X : Type 0} → (e n : X) → Shape X
not_equal_shape e n = disjunction (atom e greater) (atom n not_equal)

-- A + B*sqrt(r) <= 0: A is not positive and counts for no less, or B is not positive and counts for
-- no less
abbrev pub at_most_shape : {X : Type 0} → (a b n : X) → Shape X
at_most_shape a b n =
    disjunction (conjunction (atom a less_or_equal) (atom n greater_or_equal))
    (conjunction (atom b less_or_equal) (atom n less_or_equal))

abbrev pub less_shape : {X : Type 0} → (a b n : X) → Shape X
less_shape a b n =
    disjunction (conjunction (atom a less) (atom n greater))
    (conjunction (atom b less_or_equal) (disjunction (atom a less) (atom n less)))

-- `=` where zero is in the set, and else `<>`
abbrev pub zero_shape : {X : Type 0} → (zero : Bool) → (e n : X) → Shape X
zero_shape zero e n = cond zero (equal_shape e n) (not_equal_shape e n)

-- `<=` where zero is in the set, and else `<`
abbrev pub side_shape : {X : Type 0} → (zero : Bool) → (a b n : X) → Shape X
side_shape zero a b n = cond zero (at_most_shape a b n) (less_shape a b n)

-- X, or its opposite where plus is in the set
abbrev pub facing : {X : Type 0} → (opposite : X → X) → Signs → X → X
facing opposite signs x = cond signs.plus (opposite x) x

-- for each set of signs; `>` and `>=` are `<` and `<=` of the opposites
abbrev pub sign_shape : {X : Type 0} → (opposite : X → X) → Signs → (a b e n : X) → Shape X
sign_shape opposite signs a b e n =
    cond (is_even signs) (zero_shape signs.zero e n)
    (side_shape signs.zero (facing opposite signs a) (facing opposite signs b) n)

-- ---- the formula

-- A^2 - B^2*r
abbrev pub norm : (a b r : Polynomial) → Polynomial
norm a b r = difference (product a a) (triple b b r)

-- where B is zero, the atom of A
abbrev pub sign_formula : (a b r : Polynomial) → Signs → Formula
sign_formula a b r signs =
    cond (is_zero b) (formula (atom a signs))
    (formula (sign_shape negative signs a b (product a b) (norm a b r)))

-- ---- the first limit

abbrev pub norm_limit : (a b r : Polynomial) → Option PolyLimit
norm_limit a b r = first (
    product_limit a a ∷ triple_limit b b r ∷ sum_limit Sub (product a a) (triple b b r) ∷ [])

-- A*B is needed for `=` and `<>`, and comes first there
abbrev pub two_sided_limit : (a b r : Polynomial) → Option PolyLimit
two_sided_limit a b r = first (product_limit a b ∷ norm_limit a b r ∷ [])

abbrev pub sign_limit : (a b r : Polynomial) → Signs → Option PolyLimit
sign_limit a b r signs =
    cond (is_zero b) None (cond (is_even signs) (two_sided_limit a b r) (norm_limit a b r))

-- ---- the meaning

-- w is the square root of r that is not negative
pub record IsSquareRoot (r w : Number) : Type 0 where
  pub number : IsNumber w
  pub not-minus : IsNotMinus (sign_of w)
  pub square : Equal (mul w w) r

-- at every point where r has a square root w, the formula is true where the sign of a + b*w is
-- among the signs, and false where it is not
abbrev pub IsSignForm : (a b r : Polynomial) → Signs → Formula → Type 0
IsSignForm a b r signs f = (at : Point) → IsPoint at → (w : Number) → IsSquareRoot (value r at) w
    → (t : Bool) → Is f t at ↔ (has_sign signs (sign_of (add (value a at) (mul (value b at) w))) ≡ t)
