-- The formula at the root of a block's tree.
use Rattle.std.proofs.Common.{◌≡◌, sym, subst, ◌^◌, ◌<◌, Result, Ok, Err, IfOk}
use Rattle.qe_form.specs.declared.form.Form.{Form}
use Rattle.qe_form.specs.Formula.{Formula}
use Rattle.qe_form.specs.Tree.{tree}
use Rattle.qe_form.specs.Measures.{count}
use Rattle.qe_form.specs.Plain.{IsPlain}
use Rattle.qe_form.specs.Negation.{negated}
use Rattle.qe_simp.specs.Simplified.{simplified}
use Rattle.qe_simp.specs.Meaning.{Keeps}
use Rattle.qe_simp.specs.Shape.{IsSimplified}
use Rattle.qe_tree.specs.Sound.{IsReady}
use Rattle.qe_form.specs.Blocks.{QuantifierKind}
use Rattle.qe_tree.specs.Block.{matrix_for, root}
use Rattle.qe_tree.proofs.Stands.{negated_plain}
use Rattle.qe_tree.proofs.Small.{root_small}

-- what simplifying a plain formula says
pub simple : {E : Type 0} (f : Formula) → IsPlain f → (r : Result Form E) → IfOk r (λ h. IsPlain f → IsSimplified (tree h)) → IfOk r (λ h. IsSimplified (tree h))
simple f plain (Ok h) is = is plain
simple f plain (Err e) is = tt

pub ready : {E : Type 0} (f g : Formula) → g ≡ f → IsPlain f → (r : Result Form E) → IfOk r (λ h. tree h ≡ simplified g) → IfOk r (λ h. Keeps g (tree h)) → IfOk r (λ h. IsPlain g → IsSimplified (tree h))
    → IfOk r (λ _. IsReady IsSimplified f)
ready f g same plain (Ok h) exact keeps is = subst (IsReady IsSimplified) same (record {
  good = subst IsSimplified exact (is (subst IsPlain (sym same) plain));
  keeps = subst (Keeps g) exact keeps;
})
ready f g same plain (Err e) exact keeps is = tt

pub small : {E : Type 0} (kind : QuantifierKind) (m : Formula) → count m < 2 ^ 50 → (r : Result Form E) → IfOk r (λ h. tree h ≡ root kind m) → IfOk r (λ _. IsReady IsSimplified (matrix_for kind m)) → IfOk r (λ h. count (tree h) < 2 ^ 50)
small kind m few (Ok h) exact is = subst (λ g. count g < 2 ^ 50) (sym exact) (root_small IsSimplified kind m is few)
small kind m few (Err e) exact is = tt

-- the negation of a plain formula
pub negation_plain : (m : Formula) → IsPlain m → IsPlain (negated m)
negation_plain m plain = negated_plain (λ p. Unit {0}) m plain
