-- The expansion of nodes is sound, on simplified formulas.
use Rattle.qe_form.specs.Formula.{Formula}
use Rattle.qe_simp.specs.Shape.{IsSimplified}
use Rattle.qe_tree.specs.Sound.{IsSound}
use Rattle.qe_node.specs.Successors.{expansion}
use Rattle.qe_node.proofs.Sound.{expansion_sound}

abbrev pub Good : Formula → Type 0
Good = IsSimplified

pub sound : IsSound Good expansion
sound = expansion_sound
