-- When candidates are enough: the formula is true for some number exactly where it is true at one
-- of them.
use Rattle.std.specs.Prelude.{ℕ, ◌⊎◌, ◌↔◌, true, false, List, [], ◌∷◌}
use Rattle.qe_tower.specs.Point.{Point, IsPoint}
use Rattle.qe_form.specs.Formula.{Formula, Ex}
use Rattle.qe_form.specs.Truth.{Is}
use Rattle.qe_root.specs.Holds.{HoldsAt}
use Rattle.qe_points.specs.declared.candidate.Candidate.{Candidate}
use Rattle.qe_points.specs.Guard.{guard, point_of}

-- the candidate's guard is true, and the formula is true at its root, just above it, or below a
-- bound, as its kind says
abbrev pub HoldsAtCandidate : ℕ → Candidate → Formula → Point → Type 0
HoldsAtCandidate x c f at = Is (guard x c) true at × HoldsAt x (point_of x c) f at

-- one of the candidates has a true guard, and the formula is true there
abbrev pub HoldsAtOne : ℕ → List Candidate → Formula → Point → Type 0
HoldsAtOne x [] f at = ⊥
HoldsAtOne x (c ∷ cs) f at = HoldsAtCandidate x c f at ⊎ HoldsAtOne x cs f at

-- at each point the formula is true for some number exactly where it is true at one of the
-- candidates, and false for every number exactly where it is true at none
pub record IsComplete (x : ℕ) (f : Formula) (cs : List Candidate) : Type 0 where
  pub true_side : (at : Point) → IsPoint at → Is (Ex x f) true at ↔ HoldsAtOne x cs f at
  pub false_side : (at : Point) → IsPoint at → Is (Ex x f) false at ↔ (HoldsAtOne x cs f at → ⊥)
