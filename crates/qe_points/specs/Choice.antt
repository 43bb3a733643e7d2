-- Which variable is eliminated first.
use Rattle.std.specs.Prelude.{ℕ, ◌<◌, ◌⊎◌, eqb, List, [], ◌∷◌, Option, Some, None, cond, ◌≡◌}
use Rattle.qe_halt.specs.Outcome.{or_else}
use Rattle.qe_poly.specs.declared.monomial.Var.{Var}
use Rattle.qe_form.specs.Formula.{Formula}
use Rattle.qe_form.specs.Measures.{degree}

-- the first of the variables in which the formula has this degree
abbrev pub first_of_degree : Formula → ℕ → List Var → Option Var
first_of_degree f n [] = None
first_of_degree f n (v ∷ vs) = cond (eqb (degree v.0 f) n) (Some v) (first_of_degree f n vs)

-- the first variable of degree 0, where there is none the first of degree 1, and then of degree 2
abbrev pub choice : Formula → List Var → Option Var
choice f vs =
    or_else (first_of_degree f 0 vs) (or_else (first_of_degree f 1 vs) (first_of_degree f 2 vs))

-- the variable is one of those
abbrev pub IsOneOf : Var → List Var → Type 0
IsOneOf v [] = ⊥
IsOneOf v (u ∷ us) = (u ≡ v) ⊎ IsOneOf v us

-- the formula has a degree over 2 in each of the variables
abbrev pub AllAreHigh : Formula → List Var → Type 0
AllAreHigh f [] = Unit {0}
AllAreHigh f (v ∷ vs) = (2 < degree v.0 f) × AllAreHigh f vs
