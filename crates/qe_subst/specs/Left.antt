-- Which variables are left after a substitution.
use Rattle.std.specs.Prelude.{ℕ, ◌≢◌, ◌⊎◌}
use Rattle.qe_form.specs.Formula.{Formula}
use Rattle.qe_form.specs.Same.{IsFree}
use Rattle.qe_root.specs.declared.point.Point.{Point}
use Rattle.qe_root.specs.Occurs.{OccursInPoint}

-- every variable of g is one of f other than x, or it occurs in the point; so x is gone where the
-- point is free of it
abbrev pub IsLeft : ℕ → Point → Formula → Formula → Type 0
IsLeft x point f g = (y : ℕ) → IsFree y g → ((y ≢ x) × IsFree y f) ⊎ OccursInPoint y point
