-- One more formula among those that are simplified to parts.
use Rattle.std.proofs.Common.{◌≡◌, ◌∙◌, sym, ap, subst, List, [], ◌∷◌, ◌++◌, append_assoc, map}
use Rattle.std.proofs.lemmas.List.{append-nil}
use Rattle.std.specs.List.{flat_map}
use Rattle.qe_form.specs.declared.form.Form.{Form}
use Rattle.qe_form.specs.Formula.{Formula, Formulas, no_more, more}
use Rattle.qe_form.specs.Tree.{tree, trees}
use Rattle.qe_form.proofs.Trees.{appended, trees_push}
use Rattle.qe_simp.specs.declared.connective.Connective.{Connective}
use Rattle.qe_simp.specs.Simplified.{parts_in, simplified, simplified_each}
use Rattle.qe_simp.specs.Shape.{EachAtom, EachAtomOf, IsCanonicalAtom}

gathered_appended : (k : Connective) (fs : Formulas) (f : Formula) → flat_map (parts_in k) (simplified_each (appended fs f)) ≡ flat_map (parts_in k) (simplified_each fs) ++ parts_in k (simplified f)
gathered_appended k no_more f = append-nil (parts_in k (simplified f))
gathered_appended k (more g fs) f =
    ap (λ ps. parts_in k (simplified g) ++ ps) (gathered_appended k fs f) ∙ sym (append_assoc (parts_in k (simplified g)) (flat_map (parts_in k) (simplified_each fs)) (parts_in k (simplified f)))

pub gathered_more : (k : Connective) (old new done : List Form) (form simple : Form) → map tree old ≡ flat_map (parts_in k) (simplified_each (trees done)) → tree simple ≡ simplified (tree form)
    → map tree new ≡ map tree old ++ parts_in k (tree simple) → map tree new ≡ flat_map (parts_in k) (simplified_each (trees (done ++ form ∷ [])))
gathered_more k old new done form simple before made added =
    added ∙ ((λ i. before i ++ parts_in k (made i))
    ∙ sym (ap (λ ts. flat_map (parts_in k) (simplified_each ts)) (trees_push done form) ∙ gathered_appended k (trees done) (tree form)))

canonical_appended : (fs : Formulas) (f : Formula) → EachAtomOf IsCanonicalAtom fs → EachAtom IsCanonicalAtom f → EachAtomOf IsCanonicalAtom (appended fs f)
canonical_appended no_more f each last = (last, tt)
canonical_appended (more g fs) f each last = (each.0, canonical_appended fs f each.1 last)

pub canonical_more : (done : List Form) (form : Form) → EachAtomOf IsCanonicalAtom (trees done) → EachAtom IsCanonicalAtom (tree form) → EachAtomOf IsCanonicalAtom (trees (done ++ form ∷ []))
canonical_more done form each last = subst (EachAtomOf IsCanonicalAtom) (sym (trees_push done form)) (canonical_appended (trees done) (tree form) each last)
