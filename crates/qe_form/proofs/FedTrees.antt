-- What a list of formulas feeds a hasher.
use Rattle.std.proofs.Common.{ℕ, List, [], ◌∷◌, ◌++◌, ◌≡◌, ◌∙◌, ap}
use Rattle.std.specs.Hash as fed
use Rattle.std.specs.List.{fold}
use Rattle.qe_form.specs.Formula.{Formulas}
use Rattle.qe_form.specs.Fed.{size, formulas_fed}

pub fed_list : {S : Type 0} (write : S → List ℕ → S) (s t u v : S) (kind k n : ℕ) (fs : Formulas) → t ≡ write s (kind ∷ []) → kind ≡ k → u ≡ write t (fed.le_bytes 8 n) → n ≡ size fs → v ≡ fold write u (formulas_fed fs)
    → v ≡ fold write s (fed.u8 k ++ (fed.usize (size fs) ++ formulas_fed fs))
fed_list write s t u v kind k n fs first is_kind second long rest =
    rest ∙ ap (λ state. fold write state (formulas_fed fs)) (second ∙ (λ i. write ((first ∙ ap (λ j. write s (j ∷ [])) is_kind) i) (fed.le_bytes 8 (long i))))
