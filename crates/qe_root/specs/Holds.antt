-- When a formula holds at a point at which a variable is eliminated: at the value of a root, just
-- above it, or below some bound.
use Rattle.std.specs.Prelude.{ℕ, Bool, true, ◌≡◌, Option, Some, ◌↔◌, ◌∷◌}
use Rattle.qe_ring.specs.Ring.{difference}
use Rattle.qe_ring.specs.Sign.{Zero}
use Rattle.qe_tower.specs.Number.{sign_of, number_operations, ValidNumber}
use Rattle.qe_tower.specs.Point.{Point, IsPoint}
use Rattle.qe_line.specs.Place.{Place, IsPlus, Eventually}
use Rattle.qe_line.specs.Place as line
use Rattle.qe_poly.specs.Polynomial.{Polynomial}
use Rattle.qe_form.specs.Formula.{Formula}
use Rattle.qe_form.specs.Value.{value}
use Rattle.qe_form.specs.Truth.{Is}
use Rattle.qe_root.specs.declared.point.Point as code
use Rattle.qe_root.specs.declared.point.Point.TheVariants as point
use Rattle.qe_root.specs.Value.{IsValue}

-- the place of a test point on the line of the numbers, as `at` gives the other variables: a value
-- of the root, just above one, or below a bound
abbrev pub StandsAt : code.Point → Point → Place ValidNumber → Type 0
StandsAt (point.Root k) at (line.at v) = IsValue k at v.0
StandsAt (point.RootPlus k) at (line.above v) = IsValue k at v.0
StandsAt point.MinusInf at line.below = Unit {0}
StandsAt point at place = ⊥

-- less: the sign of the second less the first is plus
abbrev pub IsLess : ValidNumber → ValidNumber → Type 0
IsLess a b = IsPlus (sign_of (difference number_operations b.0 a.0))

-- the formula is true, or it is false, with x given the numbers at the place
abbrev pub HoldsThere : ℕ → Place ValidNumber → Formula → Bool → Point → Type 0
HoldsThere x place f b at = Eventually IsLess place (λ u. Is f b ((x, u.0) ∷ at))

-- the formula is true with x given the numbers at the test point
abbrev pub HoldsAt : ℕ → code.Point → Formula → Point → Type 0
HoldsAt x point f at =
    (place : Place ValidNumber) × (StandsAt point at place × HoldsThere x place f true at)

-- the polynomial is zero with x given the number
abbrev pub IsZeroAt : ℕ → Polynomial → Point → ValidNumber → Type 0
IsZeroAt x q at v = sign_of (value q ((x, v.0) ∷ at)) ≡ Zero

-- the polynomial that a root comes from, where it is given, is zero there
abbrev pub OwnIsZero : ℕ → Option Polynomial → Point → Place ValidNumber → Type 0
OwnIsZero x (Some own) at (line.at v) = IsZeroAt x own at v
OwnIsZero x (Some own) at (line.above v) = IsZeroAt x own at v
OwnIsZero x own at place = Unit {0}

-- At every point where the root has a value, and its own polynomial is zero there: g is true where
-- f is true with x given the numbers at the test point, and false where f is false with these.
abbrev pub StandsFor : ℕ → code.Point → Option Polynomial → Formula → Formula → Type 0
StandsFor x point own f g = (at : Point) → IsPoint at
    → (place : Place ValidNumber) → StandsAt point at place → OwnIsZero x own at place
    → (b : Bool) → Is g b at ↔ HoldsThere x place f b at
