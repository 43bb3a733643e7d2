-- Monomials: variables with their positive exponents, in the order of the variables.
use Rattle.std.specs.Prelude.{ℕ, ◌+◌, ◌<◌, Bool, cond, eqb, ltb, List, [], ◌∷◌}
use Rattle.std.specs.List.{list_any}
use Rattle.std.specs.declared.cmp.Ordering.{Ordering}
use Rattle.std.specs.Ordering.{nat_cmp, on, then_cmp, flip_args}
use Rattle.std.specs.Cmp.Lexicographic.{slice_cmp}
use Rattle.std.specs.FinMap.Entries.{by_order}
use Rattle.qe_poly.specs.declared.monomial.Var.{Var}
use Rattle.qe_poly.specs.declared.monomial.Power.{Power}

-- the powers whose product it is; without any it is 1
abbrev pub Monomial : Type 0
Monomial = List Power

-- a power of one variable, which is 1 for the exponent 0
abbrev pub power : Var → ℕ → Monomial
power x n = cond (eqb n 0) [] (record { var = x; exponent = n } ∷ [])

-- the lower variable is greater, and for one variable the greater exponent
abbrev pub power_cmp : Power → Power → Ordering
power_cmp = then_cmp (on (λ a. a.var.0) (flip_args nat_cmp)) (on (λ a. a.exponent) nat_cmp)

-- the exponents decide, the lowest variable first: the greater exponent is the greater monomial
abbrev pub monomial_cmp : Monomial → Monomial → Ordering
monomial_cmp = slice_cmp power_cmp

-- the order of the terms of a polynomial, from the greatest monomial to the least
abbrev pub in_turn : Monomial → Monomial → Ordering
in_turn m n = monomial_cmp n m

-- the first variable, where there is one, comes after x
abbrev pub IsAbove : ℕ → Monomial → Type 0
IsAbove x [] = Unit {0}
IsAbove x (a ∷ m) = x < a.var.0

-- the exponents are positive, and each variable comes after the one before
abbrev pub IsMonomial : Monomial → Type 0
IsMonomial [] = Unit {0}
IsMonomial (a ∷ m) = (0 < a.exponent) × IsAbove a.var.0 m × IsMonomial m

-- some exponent is over 65,535
abbrev pub is_high : Monomial → Bool
is_high m = list_any (λ a. ltb 65535 a.exponent) m

-- a power times a monomial, before the product of `rest` with what is left of it
abbrev pub times_power : Power → (Monomial → Monomial) → Monomial → Monomial
times_power a rest [] = a ∷ rest []
times_power a rest (b ∷ n) =
    by_order (nat_cmp a.var.0 b.var.0) (a ∷ rest (b ∷ n)) (record { var = a.var; exponent = a.exponent + b.exponent } ∷ rest n) (b ∷ times_power a rest n)

-- the product, in which the exponents of each variable are added, without bounds
abbrev pub times : Monomial → Monomial → Monomial
times [] n = n
times (a ∷ m) n = times_power a (times m) n
