-- What elimination gives for a formula with names: that of its prenex form.
use Rattle.std.specs.Prelude.{ℕ, List}
use Rattle.qe_form.specs.Formula.{Formula}
use Rattle.qe_norm.specs.Blocks.{prefix, grouped}
use Rattle.qe_norm.specs.Blocks as prenex
use Rattle.qe_norm.specs.Prenex.{numbered_form}
use Rattle.qe_form.specs.Blocks.{Block}
use Rattle.qe_tree.specs.Block.{Eliminated, eliminated, EachBlock, AtBlock}
use Rattle.qe_node.specs.declared.stop.NodeStop.{NodeStop}
use Rattle.qe_node.specs.Successors.{expansion}
use Rattle.qe_elim.specs.Answer.{KeepsLimit, GoesOn, StaysWithin, GoesBeyond}
use Rattle.qe_read.specs.Names.{Letters}

-- the blocks of the prenex form, its matrix, and the names of its variables
abbrev pub blocks : Formula → List Letters → List Block
blocks f names = grouped (prefix (numbered_form f names).0)

abbrev pub matrix : Formula → List Letters → Formula
matrix f names = prenex.matrix (numbered_form f names).0

abbrev pub all_names : Formula → List Letters → List Letters
all_names f names = (numbered_form f names).1.names

-- the formula without quantifiers, or the block that stops, the steps to its first node that fails, and why
abbrev pub outcome : Formula → List Letters → Eliminated NodeStop
outcome f names = eliminated expansion (blocks f names) (matrix f names)

-- no block's plain run ends by the limit, and each block's tree has a leaf that is True, or no more distinct nodes than the limit
abbrev pub EachFits : ℕ → Formula → List Letters → Type 0
EachFits limit f names = EachBlock expansion (GoesOn limit) 1 (blocks f names) (matrix f names)

-- no block's plain run ends by the limit
abbrev pub EachKeepsLimit : ℕ → Formula → List Letters → Type 0
EachKeepsLimit limit f names = EachBlock expansion (KeepsLimit limit) 1 (blocks f names) (matrix f names)

-- The blocks further in than this one give its matrix, and no plain run of theirs ends by the limit. Nor does its own, and its
-- tree has no more distinct nodes.
abbrev pub BlockIsWithin : ℕ → Formula → List Letters → ℕ → Type 0
BlockIsWithin limit f names k =
    AtBlock expansion (StaysWithin limit) (GoesOn limit) k 1 (blocks f names) (matrix f names)

-- The same of those further in; its own plain run ends by the limit, and its tree has more distinct nodes.
abbrev pub BlockIsBeyond : ℕ → Formula → List Letters → ℕ → Type 0
BlockIsBeyond limit f names k =
    AtBlock expansion (GoesBeyond limit) (GoesOn limit) k 1 (blocks f names) (matrix f names)
