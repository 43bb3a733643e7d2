-- What the code makes just above a root.
use Rattle.std.proofs.Common.{ℕ, ◌≡◌, sym, subst, Bool, false, cond, Option, None, Result}
use Rattle.qe_poly.specs.Polynomial.{Polynomial}
use Rattle.qe_poly.specs.Coefficients.{degree_in}
use Rattle.qe_form.specs.declared.form.Form.{Form}
use Rattle.qe_form.specs.declared.signs.Signs.{Signs}
use Rattle.qe_form.specs.Signs.{is_even}
use Rattle.qe_form.specs.Tree.{tree}
use Rattle.qe_root.specs.declared.point.RootPoint.{RootPoint}
use Rattle.qe_halt.specs.declared.halt.Halt.{Halt}
use Rattle.qe_subst.specs.declared.stop.Fault.{Fault}
use Rattle.qe_halt.specs.Outcome.{IsOutcome}
use Rattle.qe_subst.specs.Substituted.{everywhere, near, near_fault, above_root, above_root_fault}

-- for the signs of an inequality
pub near_made : (x : ℕ) (own : Option Polynomial) (k : RootPoint) (f : Polynomial) (signs : Signs) (n : ℕ) (result : Result Form (Halt Fault))
    → is_even signs ≡ false → n ≡ degree_in x f
    → IsOutcome (near_fault x own k n f signs) (λ g. tree g ≡ near x own k n f signs) result
    → IsOutcome (above_root_fault x own k f signs) (λ g. tree g ≡ above_root x own k f signs) result
near_made x own k f signs n result uneven same made =
    let Even : Bool → Type 0 = λ b. IsOutcome (cond b None (near_fault x own k (degree_in x f) f signs)) (λ g. tree g ≡ cond b (everywhere x f signs) (near x own k (degree_in x f) f signs)) result in
    let Near : ℕ → Type 0 = λ m. IsOutcome (near_fault x own k m f signs) (λ g. tree g ≡ near x own k m f signs) result in
    subst Even (sym uneven) (subst Near same made)
