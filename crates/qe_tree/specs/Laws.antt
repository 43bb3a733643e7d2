-- What holds of the trees of every sound expansion.
use Rattle.std.specs.Prelude.{ℕ, ◌≡◌, ◌↔◌, true, List, map}
use Rattle.qe_tower.specs.Point.{Point, IsPoint}
use Rattle.qe_form.specs.Formula.{Formula, Or}
use Rattle.qe_form.specs.Tree.{trees_of}
use Rattle.qe_form.specs.Blocks.{Block, under_blocks}
use Rattle.qe_form.specs.Truth.{Is}
use Rattle.qe_form.specs.Same.{Same}
use Rattle.qe_tree.specs.Variables.{remaining, under_ex, existential_closure}
use Rattle.qe_tree.specs.Expanded.{Expansion, successors}
use Rattle.qe_tree.specs.Tree.{form, inner}
use Rattle.qe_tree.specs.Sound.{IsFine, forms_of}
use Rattle.qe_tree.specs.Block.{given, eliminated}

module _ {F : Type 0} (Good : Formula → Type 0) (expand : Expansion F) where
  -- a node is true for some values of its variables exactly where some successor is true for some
  -- values of its own
  abbrev pub GrowthKeepsTruth : Type 0
  GrowthKeepsTruth =
      (vars : List ℕ) (f : Formula) → Good f → (x : ℕ) (parts : List (ℕ × Formula)) → expand.becomes (remaining vars f) f ≡ successors x parts
      → (p : Point) → IsPoint p → Is (existential_closure vars f) true p ↔ Is (Or (trees_of (map (existential_closure vars) (forms_of parts)))) true p

  -- a block's inner result, where it is a formula, is the same as the root under `ex` of the
  -- block's variables
  abbrev pub InnerIsSame : Type 0
  InnerIsSame = (vars : List ℕ) (f g : Formula) → Good f → inner expand vars f ≡ form g → IsFine g × Same (under_ex vars f) g

  -- what elimination gives is the same as the prenex form
  abbrev pub EliminatedIsSame : Type 0
  EliminatedIsSame = (bs : List Block) (m g : Formula) → IsFine m → eliminated expand bs m ≡ given g → IsFine g × Same (under_blocks bs m) g
