-- The trees of terms and of formulas.
use Rattle.std.specs.Prelude.{ℕ, Bool}
use Rattle.qe_token.specs.declared.token.Name.{Name}
use Rattle.qe_token.specs.declared.token.Relation.{Relation}

mutual
  -- a term: `Power t p n` has its `^` at the place p
  pub data TermTree : Type 0 where
    Number : ℕ → TermTree
    Variable : Name → TermTree
    Negative : TermTree → TermTree
    Power : TermTree → ℕ → ℕ → TermTree
    Sum : TermTree → Addends → TermTree
    Product : TermTree → Factors → TermTree

  -- later summands: each with the place of its sign, and whether that is a minus
  pub data Addends : Type 0 where
    no_addend : Addends
    addend : ℕ → Bool → TermTree → Addends → Addends

  -- later factors: each with the place of its `*`
  pub data Factors : Type 0 where
    no_factor : Factors
    factor : ℕ → TermTree → Factors → Factors

mutual
  -- a formula: `Atom t p r u` has its relation r at the place p, and `Ex x f` binds the name x in f
  pub data FormulaTree : Type 0 where
    True : FormulaTree
    False : FormulaTree
    Atom : TermTree → ℕ → Relation → TermTree → FormulaTree
    And : FormulaTrees → FormulaTree
    Or : FormulaTrees → FormulaTree
    Not : FormulaTree → FormulaTree
    Implies : FormulaTree → FormulaTree → FormulaTree
    Iff : FormulaTree → FormulaTree → FormulaTree
    Ex : Name → FormulaTree → FormulaTree
    All : Name → FormulaTree → FormulaTree

  -- formulas in order
  pub data FormulaTrees : Type 0 where
    no_more : FormulaTrees
    more : FormulaTree → FormulaTrees → FormulaTrees
