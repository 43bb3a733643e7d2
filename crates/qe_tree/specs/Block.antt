-- The result of blocks of quantifiers over a matrix.
use Rattle.std.specs.Prelude.{ℕ, suc, ◌≡◌, ◌≤◌, ◌<◌, ◌⊎◌, IsTrue, List, [], ◌∷◌, length}
use Rattle.qe_form.specs.Formula.{Formula}
use Rattle.qe_form.specs.Negation.{negated}
use Rattle.qe_form.specs.Blocks.{QuantifierKind, exists, for_all, Block}
use Rattle.qe_simp.specs.Simplified.{simplified}
use Rattle.qe_tree.specs.Expanded.{Expansion}
use Rattle.qe_tree.specs.Tree.{Step, Inner, form, node, nodes, inner, has_true_leaf}

-- the matrix as the block's tree takes it: negated for `all`
abbrev pub matrix_for : QuantifierKind → Formula → Formula
matrix_for exists m = m
matrix_for for_all m = negated m

-- the formula at the root of a block's tree
abbrev pub root : QuantifierKind → Formula → Formula
root kind m = simplified (matrix_for kind m)

-- what the block gives where its tree gives this formula
abbrev pub result_for : QuantifierKind → Formula → Formula
result_for exists g = g
result_for for_all g = simplified (negated g)

-- a formula without the blocks' variables; or the number of the block that stops, the steps to its
-- first node that fails, and why
pub data Eliminated (F : Type 0) : Type 0 where
  given : Formula → Eliminated F
  stopped : ℕ → List Step → F → Eliminated F

module _ {F : Type 0} (expand : Expansion F) where
  abbrev pub of_inner : QuantifierKind → ℕ → Inner F → Eliminated F
  of_inner kind n (form g) = given (result_for kind g)
  of_inner kind n (node path s) = stopped n path s

  -- the block with this number, over what the blocks further in give
  abbrev pub block_over : Block → ℕ → Eliminated F → Eliminated F
  block_over b n (given m) = of_inner b.kind n (inner expand b.vars (root b.kind m))
  block_over b n (stopped k path s) = stopped k path s

  -- blocks over a matrix, eliminated from the innermost; the outermost has this number
  abbrev pub eliminated_from : ℕ → List Block → Formula → Eliminated F
  eliminated_from n [] m = given m
  eliminated_from n (b ∷ bs) m = block_over b n (eliminated_from (suc n) bs m)

  -- the result of a prenex form; without blocks it is the simplified matrix
  abbrev pub eliminated : List Block → Formula → Eliminated F
  eliminated [] m = given (simplified m)
  eliminated (b ∷ bs) m = eliminated_from 1 (b ∷ bs) m

  -- the distinct nodes of the block's tree over this matrix
  abbrev pub count_of : Block → Formula → ℕ
  count_of b m = length (nodes expand b.vars (root b.kind m))

  -- P of each block and its matrix, where the blocks further in give one
  abbrev pub IfGiven : (Formula → Type 0) → Eliminated F → Type 0
  IfGiven P (given m) = P m
  IfGiven P (stopped n path s) = Unit {0}

  abbrev pub EachBlock : (Block → Formula → Type 0) → ℕ → List Block → Formula → Type 0
  EachBlock P n [] m = Unit {0}
  EachBlock P n (b ∷ bs) m = EachBlock P (suc n) bs m × IfGiven (P b) (eliminated_from (suc n) bs m)

  -- the block's tree has no more distinct nodes than the limit, or more
  abbrev pub IsWithin : ℕ → Block → Formula → Type 0
  IsWithin limit b m = count_of b m ≤ limit

  abbrev pub IsBeyond : ℕ → Block → Formula → Type 0
  IsBeyond limit b m = limit < count_of b m

  -- the tree has a leaf that is True, or no more distinct nodes than the limit
  abbrev pub Fits : ℕ → Block → Formula → Type 0
  Fits limit b m = IsTrue (has_true_leaf expand b.vars (nodes expand b.vars (root b.kind m))) ⊎ IsWithin limit b m

  -- P of the block with the number k and its matrix, which the blocks further in give; and Q of
  -- each of these and its own matrix
  abbrev pub AtBlock : (Block → Formula → Type 0) → (Block → Formula → Type 0) → ℕ → ℕ → List Block → Formula → Type 0
  AtBlock P Q k n [] m = ⊥
  AtBlock P Q k n (b ∷ bs) m =
      ((k ≡ n) × (EachBlock Q (suc n) bs m × ((g : Formula) × ((eliminated_from (suc n) bs m ≡ given g) × P b g))))
      ⊎ AtBlock P Q k (suc n) bs m
