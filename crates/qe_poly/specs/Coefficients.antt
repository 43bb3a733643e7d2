-- A polynomial by the powers of one variable.
use Rattle.std.specs.Prelude.{ℕ, ◌-◌, max, eqb, cond, [], ◌∷◌, ◌++◌, map, pos, ◌*ℤ◌}
use Rattle.qe_poly.specs.Monomial.{Monomial, power}
use Rattle.qe_poly.specs.Polynomial.{Polynomial, nonzero}

-- the exponent of a variable, 0 where it does not occur
abbrev pub exponent_of : ℕ → Monomial → ℕ
exponent_of x [] = 0
exponent_of x (a ∷ m) = cond (eqb a.var.0 x) a.exponent (exponent_of x m)

-- the monomial without its power of a variable
abbrev pub without : ℕ → Monomial → Monomial
without x [] = []
without x (a ∷ m) = cond (eqb a.var.0 x) m (a ∷ without x m)

-- the greatest exponent of a variable, 0 where it does not occur
abbrev pub degree_in : ℕ → Polynomial → ℕ
degree_in x [] = 0
degree_in x (t ∷ ts) = max (exponent_of x t.0) (degree_in x ts)

-- the coefficient of the k-th power of a variable: the terms that have that power, without the variable
abbrev pub coefficient_in : ℕ → ℕ → Polynomial → Polynomial
coefficient_in x k [] = []
coefficient_in x k (t ∷ ts) = cond (eqb (exponent_of x t.0) k) ((without x t.0, t.1) ∷ coefficient_in x k ts) (coefficient_in x k ts)

-- the monomial with the exponent of a variable less by one
abbrev pub lowered : ℕ → Monomial → Monomial
lowered x [] = []
lowered x (a ∷ m) = cond (eqb a.var.0 x) (power a.var (a.exponent - 1) ++ m) (a ∷ lowered x m)

-- the derivative: each coefficient times the exponent of the variable, which falls by one; terms without the variable go
abbrev pub derivative : ℕ → Polynomial → Polynomial
derivative x p = nonzero (map (λ t. (lowered x t.0, t.1 *ℤ pos (exponent_of x t.0))) p)
