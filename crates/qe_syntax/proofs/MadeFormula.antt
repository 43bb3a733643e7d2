-- The tree of a formula that is made.
use Rattle.std.proofs.Common.{◌≡◌, List, [], ◌∷◌, ◌++◌, refl, sym, ap, ◌∙◌, map}
use Rattle.std.specs.declared.boxed.Box.{Box}
use Rattle.std.specs.declared.alloc.Global.{Global}
use Rattle.qe_syntax.specs.declared.tree.Comparison.{Comparison}
use Rattle.qe_syntax.specs.declared.tree.Formula.{Formula}
use Rattle.qe_syntax.specs.declared.tree.Formula.TheVariants as form
use Rattle.qe_syntax.specs.declared.tree.Formula.TheVariants.{rolls-Atom, rolls-And, rolls-Or, rolls-Not}
use Rattle.qe_syntax.specs.declared.tree.Formula.TheOpen as layer
use Rattle.qe_syntax.specs.declared.tree.Formula.TheFolds.{fold-roll-Formula}
use Rattle.qe_syntax.specs.Tree as tree
use Rattle.qe_syntax.specs.Tree.{FormulaTree}
use Rattle.qe_syntax.specs.Code.{term_of, tree_of, formula_step, as_parts}

pub made_not : (b : Box Formula Global) (f : Formula) → b.value ≡ f → tree_of (form.Not b) ≡ tree.Not (tree_of f)
made_not b f e = ap tree_of (sym (rolls-Not b)) ∙ fold-roll-Formula FormulaTree formula_step (layer.Formula-F.Not b) ∙ ap (λ (g : Formula). tree.Not (tree_of g)) e

pub made_atom : (c : Comparison) → tree_of (form.Atom c) ≡ tree.Atom (term_of c.left) c.place c.relation (term_of c.right)
made_atom c = ap tree_of (sym (rolls-Atom c)) ∙ fold-roll-Formula FormulaTree formula_step (layer.Formula-F.Atom c)

pub made_and : (fs : List Formula) → tree_of (form.And fs) ≡ tree.And (as_parts (map tree_of fs))
made_and fs = ap tree_of (sym (rolls-And fs)) ∙ fold-roll-Formula FormulaTree formula_step (layer.Formula-F.And fs)

pub made_or : (fs : List Formula) → tree_of (form.Or fs) ≡ tree.Or (as_parts (map tree_of fs))
made_or fs = ap tree_of (sym (rolls-Or fs)) ∙ fold-roll-Formula FormulaTree formula_step (layer.Formula-F.Or fs)

pub pushed : (fs gs : List Formula) (f : Formula) → gs ≡ fs ++ f ∷ [] → map tree_of gs ≡ map tree_of fs ++ tree_of f ∷ []
pushed fs gs f e = ap (map tree_of) e ∙ mapped fs
  where
    mapped : (fs : List Formula) → map tree_of (fs ++ f ∷ []) ≡ map tree_of fs ++ tree_of f ∷ []
    mapped [] = refl
    mapped (g ∷ gs) = ap (λ (ts : List FormulaTree). tree_of g ∷ ts) (mapped gs)

pub first_pushed : (fs gs : List Formula) (f : Formula) → fs ≡ [] → gs ≡ fs ++ f ∷ [] → map tree_of gs ≡ tree_of f ∷ []
first_pushed fs gs f e h = ap (map tree_of) (h ∙ ap (λ (x : List Formula). x ++ f ∷ []) e)
