-- What eliminating the blocks of a prenex form answers.
use Rattle.std.specs.Prelude.{ℕ, ◌≡◌, true, false, List, Result, Ok, Err}
use Rattle.qe_form.specs.Formula.{Formula}
use Rattle.qe_form.specs.Tree.{tree}
use Rattle.qe_form.specs.declared.form.Form.{Form}
use Rattle.qe_form.specs.Blocks.{Block}
use Rattle.qe_tree.specs.Block.{root, given, stopped, block_over, eliminated, EachBlock, AtBlock, Fits, IsWithin, IsBeyond}
use Rattle.qe_node.specs.Successors.{expansion}
use Rattle.qe_elim.specs.Keys.{EndsPlainly}
use Rattle.qe_elim.specs.Search.{steps_of}
use Rattle.qe_elim.specs.declared.eliminate.Outcome.{Outcome}
use Rattle.qe_elim.specs.declared.eliminate.ElimStop.{ElimStop}
use Rattle.qe_elim.specs.declared.eliminate.ElimStop.TheVariants as stop

-- ---- the plain run of a block

-- the plain run over the block's tree does not end by the limit; or it does
abbrev pub KeepsLimit : ℕ → Block → Formula → Type 0
KeepsLimit limit b m = EndsPlainly b.vars (root b.kind m) limit false

abbrev pub PassesLimit : ℕ → Block → Formula → Type 0
PassesLimit limit b m = EndsPlainly b.vars (root b.kind m) limit true

-- it does not, and the tree has a True leaf or no more distinct nodes than the limit
abbrev pub GoesOn : ℕ → Block → Formula → Type 0
GoesOn limit b m = Fits expansion limit b m × KeepsLimit limit b m

-- it does not, and the tree has no more distinct nodes
abbrev pub StaysWithin : ℕ → Block → Formula → Type 0
StaysWithin limit b m = IsWithin expansion limit b m × KeepsLimit limit b m

-- it does, and the tree has more
abbrev pub GoesBeyond : ℕ → Block → Formula → Type 0
GoesBeyond limit b m = IsBeyond expansion limit b m × PassesLimit limit b m

-- ---- a block

-- What the block with the number n gives over a matrix: a form; or its first node that fails; or the limit, where the plain run
-- over its tree ends by it, and only there.
abbrev pub IsBlock : ℕ → ℕ → Block → Formula → Result Form ElimStop → Type 0
IsBlock limit n b m (Ok f) =
    (block_over expansion b n (given m) ≡ given (tree f)) × GoesOn limit b m
IsBlock limit n b m (Err (stop.Node k path s)) =
    (k ≡ n) × (block_over expansion b n (given m) ≡ stopped n (steps_of path.items) s)
    × StaysWithin limit b m
IsBlock limit n b m (Err (stop.NodeLimit k most)) =
    (k ≡ n) × (most ≡ limit) × GoesBeyond limit b m
IsBlock limit n b m (Err stop.OutOfMemory) = Unit {0}

-- ---- all blocks

-- A form is what elimination gives, and no block's plain run ends by the limit. A failing node is the first of its block. The limit
-- is told of the innermost block whose plain run ends by it. In both cases the blocks further in give that block's matrix, and no plain
-- run of theirs ends by the limit. Or out of memory, in place of each.
abbrev pub IsElimination : ℕ → List Block → Formula → Result Outcome ElimStop → Type 0
IsElimination limit bs m (Ok outcome) =
    (eliminated expansion bs m ≡ given (tree outcome.form))
    × EachBlock expansion (GoesOn limit) 1 bs m
IsElimination limit bs m (Err (stop.Node k path s)) =
    (eliminated expansion bs m ≡ stopped k (steps_of path.items) s)
    × AtBlock expansion (StaysWithin limit) (GoesOn limit) k 1 bs m
IsElimination limit bs m (Err (stop.NodeLimit k most)) =
    (most ≡ limit)
    × AtBlock expansion (GoesBeyond limit) (GoesOn limit) k 1 bs m
IsElimination limit bs m (Err stop.OutOfMemory) = Unit {0}

-- the answer is not the limit
abbrev pub IsNoLimit : Result Outcome ElimStop → Type 0
IsNoLimit (Err (stop.NodeLimit k most)) = ⊥
IsNoLimit r = Unit {0}
