-- The trees of the terms and of the formulas of the code.
use Rattle.std.specs.Prelude.{ℕ, Bool, List, [], ◌∷◌}
use Rattle.qe_syntax.specs.Tree.{TermTree, Number, Variable, Negative, Power, Sum, Product, Addends, no_addend, addend, Factors, no_factor, factor}
use Rattle.qe_syntax.specs.Tree.{FormulaTree, True, False, Atom, And, Or, Not, Implies, Iff, Ex, All, FormulaTrees, no_more, more}
use Rattle.qe_syntax.specs.declared.tree.Term.{Term}
use Rattle.qe_syntax.specs.declared.tree.Addend.{Addend}
use Rattle.qe_syntax.specs.declared.tree.Factor.{Factor}
use Rattle.qe_syntax.specs.declared.tree.Term.TheOpen as term_layer
use Rattle.qe_syntax.specs.declared.tree.Term.TheFolds.{fold-Term, fold-Addend, fold-Factor}
use Rattle.qe_syntax.specs.declared.tree.Formula.{Formula}
use Rattle.qe_syntax.specs.declared.tree.Formula.TheOpen as layer
use Rattle.qe_syntax.specs.declared.tree.Formula.TheFolds.{fold-Formula}

-- a later summand, and a later factor, whose term is its tree
abbrev pub AddendTree : Type 0
AddendTree = ℕ × Bool × TermTree

abbrev pub FactorTree : Type 0
FactorTree = ℕ × TermTree

abbrev pub addends_of : List AddendTree → Addends
addends_of [] = no_addend
addends_of (x ∷ xs) = addend x.0 x.1 x.2 (addends_of xs)

abbrev pub factors_of : List FactorTree → Factors
factors_of [] = no_factor
factors_of (x ∷ xs) = factor x.0 x.1 (factors_of xs)

-- the tree of a term whose parts are given by their trees
abbrev pub term_step : term_layer.Term-F TermTree AddendTree FactorTree → TermTree
term_step (term_layer.Term-F.Number n) = Number n
term_step (term_layer.Term-F.Name x) = Variable x
term_step (term_layer.Term-F.Negative t) = Negative t.value
term_step (term_layer.Term-F.Power t p n) = Power t.value p n
term_step (term_layer.Term-F.Sum t ts) = Sum t.value (addends_of ts)
term_step (term_layer.Term-F.Product t ts) = Product t.value (factors_of ts)

abbrev pub addend_step : term_layer.Addend-F TermTree AddendTree FactorTree → AddendTree
addend_step a = (a.place, a.minus, a.term)

abbrev pub factor_step : term_layer.Factor-F TermTree AddendTree FactorTree → FactorTree
factor_step a = (a.place, a.term)

-- the tree of a term
abbrev pub term_of : Term → TermTree
term_of = fold-Term TermTree AddendTree FactorTree term_step addend_step factor_step

abbrev pub addend_of : Addend → AddendTree
addend_of = fold-Addend TermTree AddendTree FactorTree term_step addend_step factor_step

abbrev pub factor_of : Factor → FactorTree
factor_of = fold-Factor TermTree AddendTree FactorTree term_step addend_step factor_step

-- formulas in order, as a list and as the parts of a formula
abbrev pub as_parts : List FormulaTree → FormulaTrees
as_parts [] = no_more
as_parts (t ∷ ts) = more t (as_parts ts)

-- the tree of a formula whose parts are given by their trees
abbrev pub formula_step : layer.Formula-F FormulaTree → FormulaTree
formula_step layer.Formula-F.True = True
formula_step layer.Formula-F.False = False
formula_step (layer.Formula-F.Atom c) = Atom (term_of c.left) c.place c.relation (term_of c.right)
formula_step (layer.Formula-F.And ts) = And (as_parts ts)
formula_step (layer.Formula-F.Or ts) = Or (as_parts ts)
formula_step (layer.Formula-F.Not t) = Not t.value
formula_step (layer.Formula-F.Implies t u) = Implies t.value u.value
formula_step (layer.Formula-F.Iff t u) = Iff t.value u.value
formula_step (layer.Formula-F.Ex x t) = Ex x t.value
formula_step (layer.Formula-F.All x t) = All x t.value

-- the tree of a formula
abbrev pub tree_of : Formula → FormulaTree
tree_of = fold-Formula FormulaTree formula_step
