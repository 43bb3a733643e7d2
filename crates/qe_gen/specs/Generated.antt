-- The formula with a number, and its names.
use Rattle.std.specs.Prelude.{ℕ, zero, suc, ◌+◌, ◌*◌, ◌%◌, ℤ, pos, ◌-ℤ◌, List, [], ◌∷◌, ◌++◌, map, codes}
use Rattle.qe_poly.specs.declared.monomial.Var.{Var}
use Rattle.qe_poly.specs.Monomial.{power}
use Rattle.qe_poly.specs.Polynomial.{Term, Polynomial, collected}
use Rattle.qe_form.specs.Signs.{less_or_equal}
use Rattle.qe_form.specs.Formula.{Formula, And, Ex}
use Rattle.qe_form.specs.Tree.{trees_of}
use Rattle.qe_form.specs.Making.{atomic, either}

-- ---- variables

-- the number of each is the place of its name, counted from 0
abbrev pub a : Var
a = record { 0 = 0 }

abbrev pub x1 : Var
x1 = record { 0 = 1 }

abbrev pub x2 : Var
x2 = record { 0 = 2 }

abbrev pub x3 : Var
x3 = record { 0 = 3 }

abbrev pub input_names : List (List ℕ)
input_names = codes "a" ∷ codes "x1" ∷ codes "x2" ∷ codes "x3" ∷ []

-- ---- atoms

-- the coefficient at place j, from 1, of atom i, from 0; it is a whole number from -9 to 9
abbrev pub coefficient_at : ℕ → ℕ → ℕ → ℤ
coefficient_at number i j = pos (((i + 1) * (j + 2) * (number + 3) + i * i + j) % 19) -ℤ pos 9

-- the variables x1, x2, x3 and a, and a constant, each with the coefficient at its place
abbrev pub terms : ℕ → ℕ → List Term
terms number i =
    (power x1 1, coefficient_at number i 1)
    ∷ (power x2 1, coefficient_at number i 2)
    ∷ (power x3 1, coefficient_at number i 3)
    ∷ (power a 1, coefficient_at number i 4)
    ∷ ([], coefficient_at number i 5)
    ∷ []

-- the polynomial that they add up to
unfoldable pub polynomial : ℕ → ℕ → Polynomial
polynomial number i = collected (terms number i)

-- it is at most 0
abbrev pub atom : ℕ → ℕ → Formula
atom number i = atomic (polynomial number i) less_or_equal

-- ---- the formula

-- one of the atoms 2k and 2k+1
abbrev pub clause : ℕ → ℕ → Formula
clause number k = either (atom number (2 * k)) (atom number (2 * k + 1))

-- the numbers below n, in order
abbrev pub numbers_below : ℕ → List ℕ
numbers_below zero = []
numbers_below (suc n) = numbers_below n ++ n ∷ []

-- all eight clauses
unfoldable pub matrix : ℕ → Formula
matrix number = And (trees_of (map (clause number) (numbers_below 8)))

-- the body is true at some x1, x2 and x3
abbrev pub exists : Formula → Formula
exists body = Ex x1.0 (Ex x2.0 (Ex x3.0 body))

abbrev pub input_form : ℕ → Formula
input_form number = exists (matrix number)
