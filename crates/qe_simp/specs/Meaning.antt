-- What simplifying keeps.
use Rattle.std.specs.Prelude.{ℕ, ◌≤◌, max, ◌≡◌, Some, None}
use Rattle.qe_tower.specs.Point.{Point, IsPoint}
use Rattle.qe_form.specs.Formula.{Formula}
use Rattle.qe_form.specs.Tree.{tree}
use Rattle.qe_form.specs.Same.{IsFree, Agree}
use Rattle.qe_form.specs.Measures.{count}
use Rattle.qe_simp.specs.declared.connective.Connective.{Connective}
use Rattle.qe_simp.specs.declared.merge.Joined as merge
use Rattle.qe_simp.specs.declared.merge.Joined.TheVariants.{One, Two}
use Rattle.qe_simp.specs.Simplified.{as_one}

-- g is true and false at the points where f is so, has no further free variable, and has at most as
-- many atoms and constants, or one
pub record Keeps (f g : Formula) : Type 0 where
  pub agree : (p : Point) → IsPoint p → Agree f g p
  pub free : (x : ℕ) → IsFree x g → IsFree x f
  pub size : count g ≤ max 1 (count f)

-- at every point of numbers one is true where the other is, and false where the other is
abbrev pub AgreesEverywhere : Formula → Formula → Type 0
AgreesEverywhere f g = (p : Point) → IsPoint p → Agree f g p

-- ---- what the code makes of two parts

-- the one that two parts are, or both where they are two
abbrev pub IsJoined : Connective → Formula → Formula → merge.Joined → Type 0
IsJoined k f g (One h) = as_one k f g ≡ Some (tree h)
IsJoined k f g (Two h i) = (as_one k f g ≡ None) × (tree h ≡ f) × (tree i ≡ g)
