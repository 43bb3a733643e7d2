-- What the simplified form keeps, and what it is like.
use Rattle.std.proofs.Common.{◌≡◌, ◌∙◌, ap, sym, subst, Result, Ok, Err, IfOk}
use Rattle.qe_form.specs.declared.form.Form.{Form}
use Rattle.qe_form.specs.Tree.{tree}
use Rattle.qe_form.specs.Formula.{Formula}
use Rattle.qe_form.specs.Plain.{IsPlain}
use Rattle.qe_simp.specs.Simplified.{simplified}
use Rattle.qe_simp.specs.Meaning.{Keeps}
use Rattle.qe_simp.specs.Shape.{IsSimplified, EachAtom, IsCanonicalAtom}
use Rattle.qe_simp.proofs.Agreement.{agrees}
use Rattle.qe_simp.proofs.Shapes.{simplified_twice, simplified_is}
use Rattle.qe_simp.proofs.Sizes.{simplified_free, simplified_size}

pub simplified_keeps : (f : Formula) → EachAtom IsCanonicalAtom f → Keeps f (simplified f)
simplified_keeps f canonical = record { agree = λ p valid b. agrees p valid f canonical b; free = λ x h. simplified_free x f h; size = simplified_size f }

pub kept_if_ok : {E : Type 0} (f : Formula) (r : Result Form E) → IfOk r (λ g. tree g ≡ simplified f) → IfOk r (λ _. EachAtom IsCanonicalAtom f) → IfOk r (λ g. Keeps f (tree g))
kept_if_ok f (Ok g) same canonical = subst (Keeps f) (sym same) (simplified_keeps f canonical)
kept_if_ok f (Err e) same canonical = tt

-- ---- what the simplified form is like

pub again_if_ok : {E : Type 0} (f : Formula) (r : Result Form E) → IfOk r (λ g. tree g ≡ simplified f) → IfOk r (λ _. EachAtom IsCanonicalAtom f) → IfOk r (λ g. simplified (tree g) ≡ tree g)
again_if_ok f (Ok g) same canonical = ap simplified same ∙ (simplified_twice f canonical ∙ sym same)
again_if_ok f (Err e) same canonical = tt

pub plain_if_ok : {E : Type 0} (f : Formula) (r : Result Form E) → IfOk r (λ g. tree g ≡ simplified f) → IfOk r (λ _. EachAtom IsCanonicalAtom f) → IfOk r (λ g. IsPlain f → IsSimplified (tree g))
plain_if_ok f (Ok g) same canonical = λ plain. subst IsSimplified (sym same) (simplified_is f plain canonical)
plain_if_ok f (Err e) same canonical = tt
