-- Polynomials as lists of terms, from the greatest monomial to the least.
use Rattle.std.specs.Prelude.{ℕ, ℤ, pos, neg_ℤ, ◌+ℤ◌, ◌*ℤ◌, List, [], ◌∷◌, ◌++◌, Option, Some, None, ◌≡◌, ◌≢◌, cond, map}
use Rattle.std.specs.List.{flat_map}
use Rattle.std.specs.Ordering.{int_eq, eq_by_cmp}
use Rattle.std.specs.FinMap.Entries.{by_order}
use Rattle.std.specs.declared.cmp.Ordering.TheVariants.{Less}
use Rattle.qe_poly.specs.declared.monomial.Var.{Var}
use Rattle.qe_poly.specs.Monomial.{Monomial, power, times, monomial_cmp, in_turn, IsMonomial}

-- a monomial with its coefficient
abbrev pub Term : Type 0
Term = Monomial × ℤ

-- the terms whose sum it is
abbrev pub Polynomial : Type 0
Polynomial = List Term

-- the first monomial, where there is one, is less than m
abbrev pub IsBelow : Monomial → Polynomial → Type 0
IsBelow m [] = Unit {0}
IsBelow m (t ∷ ts) = monomial_cmp t.0 m ≡ Less

-- no coefficient is zero, and each monomial is less than the one before
abbrev pub IsPolynomial : Polynomial → Type 0
IsPolynomial [] = Unit {0}
IsPolynomial (t ∷ ts) = (t.1 ≢ pos 0) × IsMonomial t.0 × IsBelow t.0 ts × IsPolynomial ts

-- the sum of all coefficients that stand at a monomial, in terms in any order
abbrev pub coefficient : List Term → Monomial → ℤ
coefficient [] m = pos 0
coefficient (t ∷ ts) m = cond (eq_by_cmp in_turn m t.0) (t.1 +ℤ coefficient ts m) (coefficient ts m)

-- ---- terms in any order, brought together by their monomials

-- a monomial with the coefficients that meet there
abbrev pub Group : Type 0
Group = Monomial × List ℤ

-- Monomials in order, each with a value, and one more term: `more` gives the value at its monomial from the one there, if any, and the coefficient.
abbrev pub enter : {V : Type 0} → (Option V → ℤ → V) → Term → List (Monomial × V) → List (Monomial × V)
enter more t [] = (t.0, more None t.1) ∷ []
enter more t (g ∷ gs) = by_order (in_turn t.0 g.0) ((t.0, more None t.1) ∷ g ∷ gs) ((g.0, more (Some g.1) t.1) ∷ gs) (g ∷ enter more t gs)

-- a number before those that are there
abbrev pub with_first : Option (List ℤ) → ℤ → List ℤ
with_first None c = c ∷ []
with_first (Some cs) c = c ∷ cs

-- the monomials from the greatest to the least, each with its coefficients in the order of the terms
abbrev pub gathered : List Term → List Group
gathered [] = []
gathered (t ∷ ts) = enter with_first t (gathered ts)

-- the sum of numbers
abbrev pub total : List ℤ → ℤ
total [] = pos 0
total (c ∷ cs) = c +ℤ total cs

-- a term before others, left out where its coefficient is zero
abbrev pub term_unless_zero : Monomial → ℤ → Polynomial → Polynomial
term_unless_zero m c p = cond (int_eq c (pos 0)) p ((m, c) ∷ p)

-- the terms without those whose coefficient is zero
abbrev pub nonzero : List Term → Polynomial
nonzero [] = []
nonzero (t ∷ ts) = term_unless_zero t.0 t.1 (nonzero ts)

-- the sums of the groups, without zeros
abbrev pub totals : List Group → Polynomial
totals gs = nonzero (map (λ g. (g.0, total g.1)) gs)

-- the polynomial that terms in any order add up to
abbrev pub collected : List Term → Polynomial
collected ts = totals (gathered ts)

-- ---- the operations

-- the polynomial that is a number: its one monomial is 1, and for zero it has none
abbrev pub constant : ℤ → Polynomial
constant c = term_unless_zero [] c []

-- a power of one variable, which is the constant 1 for the exponent 0
abbrev pub power_of : Var → ℕ → Polynomial
power_of x n = (power x n, pos 1) ∷ []

-- each coefficient with the other sign
abbrev pub negative : Polynomial → Polynomial
negative p = map (λ t. (t.0, neg_ℤ t.1)) p

-- the terms of both, added up
abbrev pub sum : Polynomial → Polynomial → Polynomial
sum p q = collected (p ++ q)

-- the sum with the negative
abbrev pub difference : Polynomial → Polynomial → Polynomial
difference p q = sum p (negative q)

-- the pairs of a left and a right term: by the left terms in order, and for each of these by the right terms in order
abbrev pub pairs : Polynomial → Polynomial → List (Term × Term)
pairs p q = flat_map (λ t. map (λ u. (t, u)) q) p

-- the product of two terms
abbrev pub pair_product : Term × Term → Term
pair_product pair = (times (pair.0).0 (pair.1).0, (pair.0).1 *ℤ (pair.1).1)

-- the products of all pairs, in their order
abbrev pub products : Polynomial → Polynomial → List Term
products p q = map pair_product (pairs p q)

-- the products of all pairs, added up
abbrev pub product : Polynomial → Polynomial → Polynomial
product p q = collected (products p q)
