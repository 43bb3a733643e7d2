-- Formulas as trees. A variable is its number.
use Rattle.std.specs.Prelude.{ℕ}
use Rattle.qe_form.specs.declared.form.Atom as atom

mutual
  -- a formula: `Ex x f` says that f is true at some value of the variable x, and `All x f` at each value
  pub data Formula : Type 0 where
    True : Formula
    False : Formula
    Atom : atom.Atom → Formula
    And : Formulas → Formula
    Or : Formulas → Formula
    Not : Formula → Formula
    Implies : Formula → Formula → Formula
    Iff : Formula → Formula → Formula
    Ex : ℕ → Formula → Formula
    All : ℕ → Formula → Formula

  -- formulas in order
  pub data Formulas : Type 0 where
    no_more : Formulas
    more : Formula → Formulas → Formulas
