-- A polynomial with one variable in the place of another.
use Rattle.std.specs.Prelude.{cond, eqb, not, ◌&&◌, [], ◌∷◌, map}
use Rattle.qe_poly.specs.declared.monomial.Var.{Var}
use Rattle.qe_poly.specs.Monomial.{Monomial, power, times}
use Rattle.qe_poly.specs.Polynomial.{Polynomial, collected}
use Rattle.qe_poly.specs.Occurs.{occurs_in_some}

-- y in the place of x
abbrev pub renamed_var : Var → Var → Var → Var
renamed_var x y z = cond (eqb x.0 z.0) y z

-- the product of the powers, with y in the place of x
abbrev pub renamed_monomial : Var → Var → Monomial → Monomial
renamed_monomial x y [] = []
renamed_monomial x y (a ∷ m) = times (power (renamed_var x y a.var) a.exponent) (renamed_monomial x y m)

-- what the terms add up to, with y in the place of x
abbrev pub with_renamed_terms : Var → Var → Polynomial → Polynomial
with_renamed_terms x y p = collected (map (λ t. (renamed_monomial x y t.0, t.1)) p)

-- The polynomial with y in the place of x, where x occurs in it and y does not. Any other polynomial stays as it is.
abbrev pub renamed : Var → Var → Polynomial → Polynomial
renamed x y p = cond (occurs_in_some x.0 p && not (occurs_in_some y.0 p)) (with_renamed_terms x y p) p
