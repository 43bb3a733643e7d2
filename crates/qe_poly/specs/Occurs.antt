-- Which variables occur in a polynomial.
use Rattle.std.specs.Prelude.{ℕ, Bool, eqb, ◌≡◌, ◌⊎◌, [], ◌∷◌}
use Rattle.std.specs.List.{list_any}
use Rattle.qe_poly.specs.Monomial.{Monomial}
use Rattle.qe_poly.specs.Polynomial.{Polynomial}

-- the variable occurs in the monomial, and in the polynomial
abbrev pub OccursIn : ℕ → Monomial → Type 0
OccursIn x [] = ⊥
OccursIn x (a ∷ m) = (a.var.0 ≡ x) ⊎ OccursIn x m

abbrev pub OccursInSome : ℕ → Polynomial → Type 0
OccursInSome x [] = ⊥
OccursInSome x (t ∷ ts) = OccursIn x t.0 ⊎ OccursInSome x ts

-- the tests whether it does
abbrev pub occurs_in : ℕ → Monomial → Bool
occurs_in x m = list_any (λ a. eqb a.var.0 x) m

abbrev pub occurs_in_some : ℕ → Polynomial → Bool
occurs_in_some x p = list_any (λ t. occurs_in x t.0) p
