-- Products as the code collects them: row by row, entered one after another.
use Rattle.std.specs.Prelude.{ℤ, pos, ◌*ℤ◌, List, [], ◌∷◌, ◌++◌, Bool, cond, ltb, length, map, Option, Some, None}
use Rattle.std.specs.List.{list_any}
use Rattle.qe_coef.specs.declared.Op.TheVariants.{Mul}
use Rattle.qe_coef.specs.declared.Wide.{Wide}
use Rattle.qe_poly.specs.declared.limit.PolyLimit.{PolyLimit}
use Rattle.qe_poly.specs.declared.limit.PolyLimit.TheVariants.{Coefficient, Exponent, Monomials}
use Rattle.qe_poly.specs.Monomial.{Monomial, times, is_high}
use Rattle.qe_poly.specs.Polynomial.{Term, Polynomial, pairs, pair_product, products, nonzero}
use Rattle.qe_poly.specs.Limits.{first_limit, limit_if, wide}
use Rattle.qe_halt.specs.Outcome.{or_else}
use Rattle.qe_poly.specs.Tally.{Tally, leaves_range, enter_tally}

-- the products of one term with the terms of a polynomial
abbrev pub product_row : Term → Polynomial → List Term
product_row t q = map pair_product (map (λ u. (t, u)) q)

-- some monomial has an exponent over 65,535
abbrev pub has_high : List Term → Bool
has_high ts = list_any (λ t. is_high t.0) ts

-- the limit where some monomial has an exponent over 65,535
abbrev pub exponent_limit : List Term → Option PolyLimit
exponent_limit ts = limit_if (has_high ts) Exponent None

-- the number, or zero where it leaves the range
abbrev pub fit : ℤ → ℤ
fit z = cond (leaves_range z) (pos 0) z

-- the products of one term, with zeros for coefficients that leave the range
abbrev pub fitted_row : Term → Polynomial → List Term
fitted_row t q = map (λ u. (times t.0 u.0, fit (t.1 *ℤ u.1))) q

-- the products of all pairs, with zeros for coefficients that leave the range
abbrev pub fitted : Polynomial → Polynomial → List Term
fitted [] q = []
fitted (t ∷ ts) q = fitted_row t q ++ fitted ts q

-- terms entered one after another
abbrev pub entered : List Term → List (Monomial × Tally) → List (Monomial × Tally)
entered [] groups = groups
entered (t ∷ ts) groups = entered ts (enter_tally t groups)

-- the limit of an operation that was too wide
abbrev pub limit_of : Option Wide → Option PolyLimit
limit_of None = None
limit_of (Some met) = Some (Coefficient met)

-- the first product of coefficients in a row that leaves the range
abbrev pub row_wide : Term → Polynomial → Option PolyLimit
row_wide t q = first_limit (λ u. wide Mul t.1 u.1) q

-- the first product of coefficients that leaves the range
abbrev pub pairs_wide : Polynomial → Polynomial → Option PolyLimit
pairs_wide p q = first_limit (λ pair. wide Mul (pair.0).1 (pair.1).1) (pairs p q)

-- the limit of the exponents, and else that of the number of monomials
abbrev pub monomials_limit : Polynomial → Polynomial → Option PolyLimit
monomials_limit p q = limit_if (has_high (products p q)) Exponent (limit_if (ltb 4096 (length (entered (fitted p q) []))) Monomials None)

-- the limit of the first group whose magnitudes leave the range
abbrev pub tallied_limit : List (Monomial × Tally) → Option PolyLimit
tallied_limit groups = first_limit (λ g. limit_of (g.1).over) groups

-- the sums of the groups, without zeros
abbrev pub tallied_terms : List (Monomial × Tally) → Polynomial
tallied_terms groups = nonzero (map (λ g. (g.0, (g.1).sum)) groups)

-- the limit that the code meets
abbrev pub collected_limit : Polynomial → Polynomial → Option PolyLimit
collected_limit p q = or_else (monomials_limit p q) (or_else (pairs_wide p q) (tallied_limit (entered (fitted p q) [])))
