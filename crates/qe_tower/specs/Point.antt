-- Points: a number for each of finitely many variables.
use Rattle.std.specs.Prelude.{ℕ, List, [], ◌∷◌, Option, Some, None, pos, eqb, if◌then◌else◌}
use Rattle.qe_tower.specs.Number.{Number, IsNumber, whole_number}

-- variables with their numbers, the newest first: the first entry of a variable counts
abbrev pub Point : Type 0
Point = List (ℕ × Number)

-- each number of the point is one
abbrev pub IsPoint : Point → Type 0
IsPoint [] = Unit {0}
IsPoint (e ∷ p) = IsNumber e.1 × IsPoint p

abbrev pub look_up : Point → ℕ → Option Number
look_up [] x = None
look_up (e ∷ p) x = if eqb e.0 x then Some e.1 else look_up p x

abbrev pub or_zero : Option Number → Number
or_zero None = whole_number (pos 0)
or_zero (Some v) = v

-- the number of a variable; zero where the point gives none, which no promise looks at
abbrev pub number_at : Point → ℕ → Number
number_at p x = or_zero (look_up p x)
