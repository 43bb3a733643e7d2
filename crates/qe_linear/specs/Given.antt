-- That elimination gives a formula.
use Rattle.std.specs.Prelude.{ℕ, ◌≡◌, List}
use Rattle.qe_form.specs.Formula.{Formula}
use Rattle.qe_norm.specs.Blocks.{prefix, grouped, matrix}
use Rattle.qe_norm.specs.Prenex.{numbered_form}
use Rattle.qe_tree.specs.Block.{given, eliminated}
use Rattle.qe_node.specs.Successors.{expansion}

-- no block of the prenex form stops at a node that fails
abbrev pub GivesFormula : Formula → List (List ℕ) → Type 0
GivesFormula f names =
    (g : Formula) × (eliminated expansion (grouped (prefix (numbered_form f names).0)) (matrix (numbered_form f names).0) ≡ given g)
