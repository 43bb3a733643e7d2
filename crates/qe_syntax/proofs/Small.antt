-- The numbers of a text's tree are at most 2^127 - 1.
use Rattle.std.proofs.Common.{List}
use Rattle.qe_token.specs.declared.token.Located.{Located}
use Rattle.qe_syntax.specs.Tree.{TermTree, Addends, no_addend, addend, Factors, no_factor, factor, FormulaTree, FormulaTrees, no_more, more}
use Rattle.qe_syntax.specs.Tree as tree
use Rattle.qe_syntax.specs.Faults.{IsText}
use Rattle.qe_syntax.specs.Laws.{IsSmallTerm, AreSmallAddends, AreSmallFactors, IsSmall, AreSmall}
use Rattle.qe_syntax.proofs.Shape.{IsLowTerm, AreLowAddends, AreLowFactors, IsShaped, AreShaped, shaped_text}

mutual
  small_term : (t : TermTree) → IsLowTerm t → IsSmallTerm t
  small_term (tree.Number n) h = h
  small_term (tree.Variable x) h = tt
  small_term (tree.Negative t) h = small_term t h
  small_term (tree.Power t p n) h = small_term t h.0
  small_term (tree.Sum t us) h = (small_term t h.0, small_addends us h.1)
  small_term (tree.Product t us) h = (small_term t h.0, small_factors us h.1)

  small_addends : (us : Addends) → AreLowAddends us → AreSmallAddends us
  small_addends no_addend h = tt
  small_addends (addend p m t us) h = (small_term t h.0, small_addends us h.1)

  small_factors : (us : Factors) → AreLowFactors us → AreSmallFactors us
  small_factors no_factor h = tt
  small_factors (factor p t us) h = (small_term t h.0, small_factors us h.1)

mutual
  small_formula : (f : FormulaTree) → IsShaped f → IsSmall f
  small_formula tree.True h = tt
  small_formula tree.False h = tt
  small_formula (tree.Atom t p r u) h = (small_term t h.0, small_term u h.1)
  small_formula (tree.And fs) h = small_each fs h.1
  small_formula (tree.Or fs) h = small_each fs h.1
  small_formula (tree.Not f) h = small_formula f h
  small_formula (tree.Implies f g) h = (small_formula f h.0, small_formula g h.1)
  small_formula (tree.Iff f g) h = (small_formula f h.0, small_formula g h.1)
  small_formula (tree.Ex x f) h = small_formula f h
  small_formula (tree.All x f) h = small_formula f h

  small_each : (fs : FormulaTrees) → AreShaped fs → AreSmall fs
  small_each no_more h = tt
  small_each (more f fs) h = (small_formula f h.0, small_each fs h.1)

pub numbers_fit : (tokens : List Located) (of : FormulaTree) → IsText tokens of → IsSmall of
numbers_fit tokens of t = small_formula of (shaped_text tokens of t)
