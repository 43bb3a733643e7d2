-- What the code keeps: terms, and the monomials of two polynomials, each with its two coefficients.
use Rattle.std.specs.Prelude.{ℤ, pos, List, [], ◌∷◌, map, Option, length, ltb}
use Rattle.std.specs.FinMap.Entries.{by_order}
use Rattle.qe_coef.specs.declared.Op.{Op}
use Rattle.qe_coef.specs.Exact.{exact}
use Rattle.qe_poly.specs.declared.limit.PolyLimit.{PolyLimit}
use Rattle.qe_poly.specs.declared.limit.PolyLimit.TheVariants.{Monomials}
use Rattle.qe_poly.specs.declared.term.Term as kept
use Rattle.qe_poly.specs.declared.sum.Row as kept_row
use Rattle.qe_poly.specs.Monomial.{Monomial, in_turn}
use Rattle.qe_poly.specs.Polynomial.{Term, Polynomial, nonzero}
use Rattle.qe_poly.specs.Limits.{first_limit, limit_if, wide}

-- a term as clauses see it
abbrev pub shown : kept.Term → Term
shown t = (t.monomial, t.coef)

-- a monomial with its coefficients in two polynomials
abbrev pub Row : Type 0
Row = Monomial × (ℤ × ℤ)

-- a row as clauses see it
abbrev pub shown_row : kept_row.Row → Row
shown_row row = (row.monomial, (row.left, row.right))

-- the rows of a left term with right terms; `rest` are those of the later left terms
abbrev pub merge_in : Term → (Polynomial → List Row) → Polynomial → List Row
merge_in t rest [] = (t.0, (t.1, pos 0)) ∷ rest []
merge_in t rest (u ∷ us) =
    by_order (in_turn t.0 u.0) ((t.0, (t.1, pos 0)) ∷ rest (u ∷ us)) ((t.0, (t.1, u.1)) ∷ rest us) ((u.0, (pos 0, u.1)) ∷ merge_in t rest us)

-- the monomials of two polynomials in order, each with its two coefficients
abbrev pub merged : Polynomial → Polynomial → List Row
merged [] q = map (λ u. (u.0, (pos 0, u.1))) q
merged (t ∷ ts) q = merge_in t (merged ts) q

-- the results that are not zero
abbrev pub kept_results : Op → List Row → Polynomial
kept_results op rows = nonzero (map (λ row. (row.0, exact op (row.1).0 (row.1).1)) rows)

-- the limit of the first row whose result leaves the range
abbrev pub row_limit : Op → List Row → Option PolyLimit
row_limit op rows = first_limit (λ row. wide op (row.1).0 (row.1).1) rows

-- the limit of two merged polynomials
abbrev pub merged_limit : Op → Polynomial → Polynomial → Option PolyLimit
merged_limit op p q = limit_if (ltb 4096 (length (merged p q))) Monomials (row_limit op (merged p q))
