-- The laws of texts, stated.
use Rattle.std.specs.Prelude.{◌≡◌, ◌≤◌, List}
use Rattle.qe_token.specs.declared.token.Located.{Located}
use Rattle.qe_syntax.specs.declared.fault.TextFault.{TextFault}
use Rattle.qe_syntax.specs.Tree.{TermTree, Number, Variable, Negative, Power, Sum, Product, Addends, no_addend, addend, Factors, no_factor, factor}
use Rattle.qe_syntax.specs.Tree.{FormulaTree, True, False, Atom, And, Or, Not, Implies, Iff, Ex, All, FormulaTrees, no_more, more}
use Rattle.qe_syntax.specs.Faults.{IsFirstFault, IsText}

-- a text stands for one tree
abbrev pub OneTree : Type 0
OneTree = (tokens : List Located) (t u : FormulaTree) → IsText tokens t → IsText tokens u → t ≡ u

-- a text of the grammar within its limits has no first fault
abbrev pub TextHasNoFault : Type 0
TextHasNoFault = (tokens before after : List Located) (t : FormulaTree) (f : TextFault) → IsText tokens t → IsFirstFault tokens before after f → ⊥

-- there is one first fault at most
abbrev pub OneFault : Type 0
OneFault = (tokens before after before' after' : List Located) (f g : TextFault) → IsFirstFault tokens before after f → IsFirstFault tokens before' after' g → (before ≡ before') × (f ≡ g)

-- Each number of a term, and of a formula, is at most 2^127 - 1.
abbrev mutual
  pub IsSmallTerm : TermTree → Type 0
  IsSmallTerm (Number n) = n ≤ 170141183460469231731687303715884105727
  IsSmallTerm (Variable x) = Unit {0}
  IsSmallTerm (Negative t) = IsSmallTerm t
  IsSmallTerm (Power t p n) = IsSmallTerm t
  IsSmallTerm (Sum t ts) = IsSmallTerm t × AreSmallAddends ts
  IsSmallTerm (Product t ts) = IsSmallTerm t × AreSmallFactors ts

  pub AreSmallAddends : Addends → Type 0
  AreSmallAddends no_addend = Unit {0}
  AreSmallAddends (addend p m t ts) = IsSmallTerm t × AreSmallAddends ts

  pub AreSmallFactors : Factors → Type 0
  AreSmallFactors no_factor = Unit {0}
  AreSmallFactors (factor p t ts) = IsSmallTerm t × AreSmallFactors ts

abbrev mutual
  pub IsSmall : FormulaTree → Type 0
  IsSmall True = Unit {0}
  IsSmall False = Unit {0}
  IsSmall (Atom t p r u) = IsSmallTerm t × IsSmallTerm u
  IsSmall (And fs) = AreSmall fs
  IsSmall (Or fs) = AreSmall fs
  IsSmall (Not f) = IsSmall f
  IsSmall (Implies f g) = IsSmall f × IsSmall g
  IsSmall (Iff f g) = IsSmall f × IsSmall g
  IsSmall (Ex x f) = IsSmall f
  IsSmall (All x f) = IsSmall f

  pub AreSmall : FormulaTrees → Type 0
  AreSmall no_more = Unit {0}
  AreSmall (more f fs) = IsSmall f × AreSmall fs

-- each number of a text is at most 2^127 - 1
abbrev pub NumbersFit : Type 0
NumbersFit = (tokens : List Located) (t : FormulaTree) → IsText tokens t → IsSmall t
