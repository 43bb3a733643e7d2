-- Lists of forms as lists of trees.
use Rattle.std.proofs.Common.{◌≡◌, ◌≢◌, ◌∙◌, sym, refl, ap, List, [], ◌∷◌, ◌++◌, map}
use Rattle.qe_form.specs.declared.form.Form.{Form}
use Rattle.qe_form.specs.declared.form.Atom as atom
use Rattle.qe_form.specs.declared.form.Form.TheVariants as code
use Rattle.qe_form.specs.declared.form.Form.TheOpen as layer
use Rattle.qe_form.specs.declared.form.Form.TheFolds.{fold-roll-Form}
use Rattle.qe_form.specs.Formula.{Formula, True, False, Atom, And, Or}
use Rattle.qe_form.specs.Order.{rank}
use Rattle.qe_form.specs.Tree.{tree, tree_step, trees, trees_of}
use Rattle.qe_simp.specs.declared.connective.Connective.TheVariants.{Conjunction, Disjunction}
use Rattle.qe_simp.specs.Simplified.{listed, parts_in}

pub listed_back : (fs : List Formula) → listed (trees_of fs) ≡ fs
listed_back [] = refl
listed_back (f ∷ fs) = ap (λ gs. f ∷ gs) (listed_back fs)

pub listed_trees : (fs : List Form) → listed (trees fs) ≡ map tree fs
listed_trees fs = listed_back (map tree fs)

pub map_append : (fs gs : List Form) → map tree (fs ++ gs) ≡ map tree fs ++ map tree gs
map_append [] gs = refl
map_append (f ∷ fs) gs = ap (λ ts. tree f ∷ ts) (map_append fs gs)

-- the tree of an atom
pub tree_atom : (a : atom.Atom) → tree (code.Atom a) ≡ Atom a
tree_atom a = ap tree (sym (code.rolls-Atom a)) ∙ fold-roll-Form Formula tree_step (layer.Form-F.Atom a)

-- forms added at the end
pub added : (old new more : List Form) (ps : List Formula) → new ≡ old ++ more → map tree more ≡ ps → map tree new ≡ map tree old ++ ps
added old new more ps is same = ap (map tree) is ∙ (map_append old more ∙ ap (λ ts. map tree old ++ ts) same)

-- ---- formulas that are their own part

pub own_in_conjunction : (f : Formula) → (rank f ≢ 0) → (rank f ≢ 3) → parts_in Conjunction f ≡ f ∷ []
own_in_conjunction True other not_list = absurd (other refl)
own_in_conjunction (And fs) other not_list = absurd (not_list refl)
own_in_conjunction f other not_list = refl

pub own_in_disjunction : (f : Formula) → (rank f ≢ 1) → (rank f ≢ 4) → parts_in Disjunction f ≡ f ∷ []
own_in_disjunction False other not_list = absurd (other refl)
own_in_disjunction (Or fs) other not_list = absurd (not_list refl)
own_in_disjunction f other not_list = refl
