-- Blocks of quantifiers, and the formula under them.
use Rattle.std.specs.Prelude.{ℕ, List, [], ◌∷◌, ◌++◌}
use Rattle.qe_form.specs.Formula.{Formula, Ex, All}

-- which quantifier
pub data QuantifierKind : Type 0 where
  exists : QuantifierKind
  for_all : QuantifierKind

-- quantifiers of one kind over variables, the outermost first
pub record Block : Type 0 where
  pub kind : QuantifierKind
  pub vars : List ℕ

-- the formula under a quantifier
abbrev pub under_one : QuantifierKind → ℕ → Formula → Formula
under_one exists x f = Ex x f
under_one for_all x f = All x f

-- the formula under a quantifier for each of the variables, the first outermost
abbrev pub under_each : QuantifierKind → List ℕ → Formula → Formula
under_each kind [] f = f
under_each kind (x ∷ xs) f = under_one kind x (under_each kind xs f)

-- the formula under blocks, the first outermost
abbrev pub under_blocks : List Block → Formula → Formula
under_blocks [] f = f
under_blocks (b ∷ bs) f = under_each b.kind b.vars (under_blocks bs f)

-- the variables that blocks bind, in order
abbrev pub bound_by : List Block → List ℕ
bound_by [] = []
bound_by (b ∷ bs) = b.vars ++ bound_by bs
