-- The numbers of the variables of a generated formula fit its names.
use Rattle.std.proofs.Common.{ℕ, zero, suc, ◌+◌, ◌*◌, ◌≡◌, ◌≢◌, ◌<◌, inl, inr, refl, sym, subst, ◌∙◌, nat_eq, List, [], ◌∷◌, map, arith}
use Rattle.std.specs.List.{IsDistinct, Contains}
use Rattle.qe_poly.specs.Occurs.{OccursInSome}
use Rattle.qe_poly.proofs.Occurring.{occurs_collected}
use Rattle.qe_form.specs.Formula.{Formula}
use Rattle.qe_form.specs.Same.{IsFree, IsFreeInSome}
use Rattle.qe_form.specs.Tree.{trees_of}
use Rattle.qe_form.specs.Numbered.{Occurs, OccursInOne, IsWellNumbered}
use Rattle.qe_gen.specs.Generated.{terms, polynomial, clause, matrix, numbers_below, input_form, input_names}

module _ (x number : ℕ) where
  -- what occurs in an atom is one of the four variables
  in_terms : (i : ℕ) → OccursInSome x (terms number i) → x < 4
  in_terms i (inl (inl e)) = omega (arith, e)
  in_terms i (inl (inr o)) = absurd o
  in_terms i (inr (inl (inl e))) = omega (arith, e)
  in_terms i (inr (inl (inr o))) = absurd o
  in_terms i (inr (inr (inl (inl e)))) = omega (arith, e)
  in_terms i (inr (inr (inl (inr o)))) = absurd o
  in_terms i (inr (inr (inr (inl (inl e))))) = omega (arith, e)
  in_terms i (inr (inr (inr (inl (inr o))))) = absurd o
  in_terms i (inr (inr (inr (inr (inl o))))) = absurd o
  in_terms i (inr (inr (inr (inr (inr o))))) = absurd o

  in_polynomial : (i : ℕ) → OccursInSome x (polynomial number i) → x < 4
  unfolding polynomial
  in_polynomial i h = in_terms i (occurs_collected x (terms number i) h)

  -- the same of clauses
  in_clauses : (ks : List ℕ) → OccursInOne x (trees_of (map (clause number) ks)) → x < 4
  in_clauses [] o = absurd o
  in_clauses (k ∷ ks) (inl (inl h)) = in_polynomial (2 * k) h
  in_clauses (k ∷ ks) (inl (inr (inl h))) = in_polynomial (2 * k + 1) h
  in_clauses (k ∷ ks) (inl (inr (inr o))) = absurd o
  in_clauses (k ∷ ks) (inr h) = in_clauses ks h

  free_in_clauses : (ks : List ℕ) → IsFreeInSome x (trees_of (map (clause number) ks)) → x < 4
  free_in_clauses [] o = absurd o
  free_in_clauses (k ∷ ks) (inl (inl h)) = in_polynomial (2 * k) h
  free_in_clauses (k ∷ ks) (inl (inr (inl h))) = in_polynomial (2 * k + 1) h
  free_in_clauses (k ∷ ks) (inl (inr (inr o))) = absurd o
  free_in_clauses (k ∷ ks) (inr h) = free_in_clauses ks h

  below : Occurs x (input_form number) → x < 4
  unfolding matrix
  below (inl e) = omega (arith, e)
  below (inr (inl e)) = omega (arith, e)
  below (inr (inr (inl e))) = omega (arith, e)
  below (inr (inr (inr h))) = in_clauses (numbers_below 8) h

  -- only the variable a is free
  free_is_first : IsFree x (input_form number) → x ≡ 0
  unfolding matrix
  free_is_first (one, (two, (three, h))) = let low : x < 4 = free_in_clauses (numbers_below 8) h in omega (arith, one, two, three, low)

  bound_is_later : Contains (1 ∷ 2 ∷ 3 ∷ []) x → x ≢ 0
  bound_is_later (zero, h, e) z = absurd (omega (arith, e, z))
  bound_is_later (suc zero, h, e) z = absurd (omega (arith, e, z))
  bound_is_later (suc (suc zero), h, e) z = absurd (omega (arith, e, z))
  bound_is_later (suc (suc (suc k)), h, e) z = absurd (omega (arith, h))

three_differ : IsDistinct nat_eq (1 ∷ 2 ∷ 3 ∷ [])
unfolding IsDistinct
three_differ = ((refl, (refl, tt)), ((refl, tt), (tt, tt)))

generated : (number : ℕ) → IsWellNumbered (input_form number) input_names
unfolding matrix
generated number = record {
  below = λ x o. below x number o;
  own = three_differ;
  bound = λ x c f. bound_is_later x number c (free_is_first x number f);
  different = λ x y f g e. free_is_first x number f ∙ sym (free_is_first y number g);
}

pub well_numbered : (number : ℕ) (f : Formula) (names : List (List ℕ))
    → f ≡ input_form number → names ≡ input_names → IsWellNumbered f names
well_numbered number f names e g =
    subst (λ h. IsWellNumbered h names) (sym e) (subst (λ ns. IsWellNumbered (input_form number) ns) (sym g) (generated number))
