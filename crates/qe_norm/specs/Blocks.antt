-- Quantifiers and matrix of a formula, and the blocks of quantifiers, where neighbours of one kind
-- form a block.
use Rattle.std.specs.Prelude.{Bool, true, false, cond, List, [], ◌∷◌, ◌++◌, map}
use Rattle.qe_poly.specs.declared.monomial.Var.{Var}
use Rattle.qe_form.specs.Formula.{Formula, Formulas}
use Rattle.qe_form.specs.Formula as formula
use Rattle.qe_form.specs.Blocks.{QuantifierKind, exists, for_all, Block}
use Rattle.qe_norm.specs.declared.blocks.Kind as code
use Rattle.qe_norm.specs.declared.blocks.Kind.TheVariants.{Ex, All}
use Rattle.qe_norm.specs.declared.walk.Quantifier.{Quantifier}

-- the quantifier that the code's stands for
abbrev pub kind_of : code.Kind → QuantifierKind
kind_of Ex = exists
kind_of All = for_all

-- the block that the code's stands for
abbrev pub block_of : code.Kind → List Var → Block
block_of kind vars = record { kind = kind_of kind; vars = map (λ x. x.0) vars }

abbrev pub is_same_kind : QuantifierKind → QuantifierKind → Bool
is_same_kind exists exists = true
is_same_kind for_all for_all = true
is_same_kind _ _ = false

-- a block of one quantifier
abbrev pub alone : Quantifier → Block
alone q = block_of q.kind (q.var ∷ [])

-- the block with one more variable
abbrev pub with_variable : Block → Quantifier → Block
with_variable b q = record { kind = b.kind; vars = b.vars ++ q.var.0 ∷ [] }

-- the blocks with one more quantifier: it joins the last block, where that is of its kind, and else
-- begins one
abbrev pub with_quantifier : List Block → Quantifier → List Block
with_quantifier [] q = alone q ∷ []
with_quantifier (b ∷ []) q = cond (is_same_kind b.kind (kind_of q.kind)) (with_variable b q ∷ []) (b ∷ alone q ∷ [])
with_quantifier (b ∷ c ∷ bs) q = b ∷ with_quantifier (c ∷ bs) q

-- the blocks with more quantifiers, in order
abbrev pub grouped_after : List Block → List Quantifier → List Block
grouped_after bs [] = bs
grouped_after bs (q ∷ qs) = grouped_after (with_quantifier bs q) qs

-- the blocks of quantifiers in order
abbrev pub grouped : List Quantifier → List Block
grouped qs = grouped_after [] qs

-- the quantifiers of a formula, from left to right, each before those in its body
abbrev mutual
  pub prefix : Formula → List Quantifier
  prefix (formula.And fs) = prefix_each fs
  prefix (formula.Or fs) = prefix_each fs
  prefix (formula.Ex x f) = record { kind = Ex; var = record { 0 = x } } ∷ prefix f
  prefix (formula.All x f) = record { kind = All; var = record { 0 = x } } ∷ prefix f
  prefix f = []

  pub prefix_each : Formulas → List Quantifier
  prefix_each formula.no_more = []
  prefix_each (formula.more f fs) = prefix f ++ prefix_each fs

-- the formula without its quantifiers
abbrev mutual
  pub matrix : Formula → Formula
  matrix (formula.And fs) = formula.And (matrix_each fs)
  matrix (formula.Or fs) = formula.Or (matrix_each fs)
  matrix (formula.Ex x f) = matrix f
  matrix (formula.All x f) = matrix f
  matrix f = f

  pub matrix_each : Formulas → Formulas
  matrix_each formula.no_more = formula.no_more
  matrix_each (formula.more f fs) = formula.more (matrix f) (matrix_each fs)
