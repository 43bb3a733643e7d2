-- The end of a loop over the parts of a list.
use Rattle.std.proofs.Common.{ℕ, ◌≡◌, ◌≤◌, ◌∙◌, sym, ap, refl, subst, true, false, List, [], ◌∷◌, ◌++◌, length, drop, arith}
use Rattle.std.specs.Prelude.{◌==◌}
use Rattle.std.proofs.lemmas.List.{append-nil, drop_all}
use Rattle.std.proofs.lemmas.Grind.{common_steps}
use Rattle.qe_form.specs.declared.form.Form.{Form}
use Rattle.qe_form.specs.Tree.{trees}
use Rattle.qe_print.specs.Formula.{is_single, list_text, parts_text}

-- one part stands alone
is_single-length : (fs : List Form) → (length fs == 1) ≡ is_single (trees fs)
is_single-length [] = refl
is_single-length (f ∷ []) = refl
is_single-length (f ∷ g ∷ fs) = grind (arith, common_steps)

some_parts : (none : List ℕ) (fs : List Form) (text : List ℕ) → (length fs == 0) ≡ false → list_text none (trees fs) text ≡ text
some_parts none [] text h = absurd (cc)
some_parts none (f ∷ fs) text h = refl

module _ (names : List (List ℕ)) (joint none old new : List ℕ) where
  -- when no part is left, the parts that were made are all
  pub all_listed : (items forms : List Form) (i : ℕ) → items ≡ forms → (length items == 0) ≡ false → length items ≤ i
      → new ++ parts_text names joint (i == 0) (length items == 1) (trees (drop i items)) ≡ old ++ parts_text names joint true (length items == 1) (trees items)
      → new ≡ old ++ list_text none (trees forms) (parts_text names joint true (is_single (trees forms)) (trees forms))
  all_listed items forms i lent some past left =
      subst (λ fs. new ≡ old ++ list_text none (trees fs) (parts_text names joint true (is_single (trees fs)) (trees fs))) lent
      (sym (append-nil new)
      ∙ (ap (λ fs. new ++ parts_text names joint (i == 0) (length items == 1) (trees fs)) (sym (drop_all i items past))
      ∙ (left
      ∙ (ap (λ alone. old ++ parts_text names joint true alone (trees items)) (is_single-length items)
      ∙ ap (λ text. old ++ text) (sym (some_parts none items _ some))))))
