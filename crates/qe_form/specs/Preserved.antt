-- When truth and falsity pass from one formula to another, and when that is all there is to being the same.
use Rattle.std.specs.Prelude.{ℕ, Bool, true, false, ◌⊎◌}
use Rattle.qe_tower.specs.Point.{Point, IsPoint}
use Rattle.qe_form.specs.Formula.{Formula, Not, Ex, All}
use Rattle.qe_form.specs.Truth.{Is}
use Rattle.qe_form.specs.Same.{IsFree, HasNoQuantifier, Gives}

-- The free variables of g are among those of f; and at every point that gives all free variables of f a number, g is true
-- where f is true, and false where f is false.
pub record Preserves (f g : Formula) : Type 0 where
  pub free : (x : ℕ) → IsFree x g → IsFree x f
  pub keeps : (p : Point) → IsPoint p → Gives p f → (b : Bool) → Is f b p → Is g b p

-- the formula is true or false at every point that gives its free variables a number
abbrev pub IsDecided : Formula → Type 0
IsDecided f = (p : Point) → IsPoint p → Gives p f → Is f true p ⊎ Is f false p

-- what follows the outer quantifiers and negations, of which there may be none, is decided
abbrev pub HasDecidedCore : Formula → Type 0
HasDecidedCore (Not f) = IsDecided (Not f) ⊎ HasDecidedCore f
HasDecidedCore (Ex x f) = IsDecided (Ex x f) ⊎ HasDecidedCore f
HasDecidedCore (All x f) = IsDecided (All x f) ⊎ HasDecidedCore f
HasDecidedCore f = IsDecided f

-- all quantifiers stand outside, under negations and quantifiers alone
abbrev pub HasOuterQuantifiers : Formula → Type 0
HasOuterQuantifiers (Not f) = HasOuterQuantifiers f
HasOuterQuantifiers (Ex x f) = HasOuterQuantifiers f
HasOuterQuantifiers (All x f) = HasOuterQuantifiers f
HasOuterQuantifiers f = HasNoQuantifier f
