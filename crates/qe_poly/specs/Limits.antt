-- Which limit an operation meets, on polynomials without bounds.
use Rattle.std.specs.Prelude.{ℕ, ℤ, pos, ◌+◌, ◌-◌, ◌^◌, unsigned_abs, List, [], ◌∷◌, ◌++◌, Bool, cond, ltb, length, Option, Some, None}
use Rattle.std.specs.List.{list_any}
use Rattle.qe_halt.specs.Outcome.{or_else}
use Rattle.qe_coef.specs.declared.Op.{Op}
use Rattle.qe_coef.specs.declared.Op.TheVariants.{Add, Mul}
use Rattle.qe_coef.specs.Exact.{exact}
use Rattle.qe_poly.specs.declared.limit.PolyLimit.{PolyLimit}
use Rattle.qe_poly.specs.declared.limit.PolyLimit.TheVariants.{Coefficient, Exponent, Monomials}
use Rattle.qe_poly.specs.Monomial.{is_high}
use Rattle.qe_poly.specs.Coefficients.{exponent_of}
use Rattle.qe_poly.specs.Polynomial.{Polynomial, gathered, coefficient, pairs, products}

-- the limit that the first item with a limit gives
abbrev pub first_limit : {A : Type 0} → (A → Option PolyLimit) → List A → Option PolyLimit
first_limit f [] = None
first_limit f (x ∷ xs) = or_else (f x) (first_limit f xs)

-- this limit where the test holds, and else the rest
abbrev pub limit_if : Bool → PolyLimit → Option PolyLimit → Option PolyLimit
limit_if test limit rest = cond test (Some limit) rest

-- the limit where the operation on two coefficients leaves the range, with these two
abbrev pub wide : Op → ℤ → ℤ → Option PolyLimit
wide op a b = limit_if (ltb (2 ^ 127 - 1) (unsigned_abs (exact op a b))) (Coefficient (record { op = op; left = a; right = b })) None

-- More than 4,096 monomials in the two come first, and then the greatest monomial whose result leaves the range. `op` is Add or Sub.
abbrev pub sum_limit : Op → Polynomial → Polynomial → Option PolyLimit
sum_limit op p q =
    let groups = gathered (p ++ q) in
    limit_if (ltb 4096 (length groups)) Monomials (first_limit (λ g. wide op (coefficient p g.0) (coefficient q g.0)) groups)

-- the limit where the magnitudes, added one after another to a first sum, leave the range: the sum before, and the magnitude added
abbrev pub magnitude_limit : ℕ → List ℤ → Option PolyLimit
magnitude_limit s [] = None
magnitude_limit s (c ∷ cs) =
    limit_if (ltb (2 ^ 127 - 1) (s + unsigned_abs c)) (Coefficient (record { op = Add; left = pos s; right = pos (unsigned_abs c) })) (magnitude_limit (s + unsigned_abs c) cs)

-- Exponents of one variable that add to more than 65,535 in some pair come first, then more than 4,096 monomials in the products,
-- then the first pair whose coefficients' product leaves the range, and then the greatest monomial whose magnitudes do.
abbrev pub product_limit : Polynomial → Polynomial → Option PolyLimit
product_limit p q =
    let groups = gathered (products p q) in
    limit_if (list_any (λ t. is_high t.0) (products p q)) Exponent
    (limit_if (ltb 4096 (length groups)) Monomials
    (or_else (first_limit (λ pair. wide Mul (pair.0).1 (pair.1).1) (pairs p q))
    (first_limit (λ g. magnitude_limit 0 g.1) groups)))

-- the limit at the greatest monomial whose coefficient times the number leaves the range
abbrev pub scale_limit : ℤ → Polynomial → Option PolyLimit
scale_limit c p = first_limit (λ t. wide Mul t.1 c) p

-- the limit at the greatest monomial whose coefficient times the exponent of the variable leaves the range
abbrev pub derivative_limit : ℕ → Polynomial → Option PolyLimit
derivative_limit x p = first_limit (λ t. wide Mul t.1 (pos (exponent_of x t.0))) p
