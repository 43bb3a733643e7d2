-- When an expansion is sound.
use Rattle.std.specs.Prelude.{ℕ, ◌≤◌, ◌<◌, ◌≡◌, ◌≢◌, ◌⊎◌, ◌↔◌, true, List, [], ◌∷◌, map}
use Rattle.qe_tower.specs.Point.{Point, IsPoint}
use Rattle.qe_poly.specs.Polynomial.{IsPolynomial}
use Rattle.qe_form.specs.Formula.{Formula, Ex, Or}
use Rattle.qe_form.specs.Tree.{trees_of}
use Rattle.qe_form.specs.Measures.{Has, count}
use Rattle.qe_form.specs.Truth.{Is}
use Rattle.qe_form.specs.Plain.{IsPlainWith}
use Rattle.qe_simp.specs.Simplified.{simplified}
use Rattle.qe_simp.specs.Meaning.{Keeps}
use Rattle.qe_tree.specs.Variables.{remaining}
use Rattle.qe_tree.specs.Expanded.{Expansion, successors}

-- x is one of them
abbrev pub IsIn : {A : Type 0} → A → List A → Type 0
IsIn x [] = ⊥
IsIn x (y ∷ ys) = (x ≡ y) ⊎ IsIn x ys

-- P holds of each
abbrev pub Each : {A : Type 0} → (A → Type 0) → List A → Type 0
Each P [] = Unit {0}
Each P (x ∷ xs) = P x × Each P xs

-- the formula is plain, over polynomials: what the method works on
abbrev pub IsFine : Formula → Type 0
IsFine f = IsPlainWith (λ a. IsPolynomial a.poly) f

-- the formulas of successors
abbrev pub forms_of : List (ℕ × Formula) → List Formula
forms_of parts = map (λ s. s.1) parts

-- The successors of a formula f with x among its variables: some successor is true exactly where f is
-- true for some x; neither x nor a variable that does not occur in f occurs in one; none is large.
pub record IsGrown (Good : Formula → Type 0) (vars : List ℕ) (f : Formula) (x : ℕ) (parts : List (ℕ × Formula)) : Type 0 where
  pub chosen : IsIn x vars
  pub good : Each Good (forms_of parts)
  pub fewer : Each (λ g. (y : ℕ) → Has y g → Has y f × (y ≢ x)) (forms_of parts)
  pub small : Each (λ g. count g ≤ 65538) (forms_of parts)
  pub truth : (p : Point) → IsPoint p → Is (Ex x f) true p ↔ Is (Or (trees_of (forms_of parts))) true p

-- simplifying makes of the formula a good one, which keeps what the formula says
pub record IsReady (Good : Formula → Type 0) (f : Formula) : Type 0 where
  pub good : Good (simplified f)
  pub keeps : Keeps f (simplified f)

-- The good formulas are those that come up: simplified ones. The successors of each node are grown
-- from it, and have smaller heights.
pub record IsSound {F : Type 0} (Good : Formula → Type 0) (expand : Expansion F) : Type 0 where
  pub fine : (f : Formula) → Good f → IsFine f
  pub good : (f : Formula) → IsFine f → Good (simplified f)
  pub keeps : (f : Formula) → IsFine f → Keeps f (simplified f)
  pub grows : (vars : List ℕ) (f : Formula) → Good f → (x : ℕ) (parts : List (ℕ × Formula))
      → expand.becomes (remaining vars f) f ≡ successors x parts → IsGrown Good (remaining vars f) f x parts
  pub falls : (vars : List ℕ) (f : Formula) → Good f → (x : ℕ) (parts : List (ℕ × Formula))
      → expand.becomes (remaining vars f) f ≡ successors x parts → Each (λ g. expand.height (remaining vars g) g < expand.height (remaining vars f) f) (forms_of parts)
