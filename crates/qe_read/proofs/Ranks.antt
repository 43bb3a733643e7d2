-- The place of a name among names in order.
use Rattle.std.proofs.Common.{ℕ, zero, suc, ◌+◌, ◌≡◌, ◌<◌, ◌≤◌, refl, sym, ap, subst, ◌∙◌, List, [], ◌∷◌, length, map, get_or, true, false, arith, Result, Ok, Err, inl, inr, ◌⊎◌}
use Rattle.std.proofs.lemmas.Bool.{cases_order}
use Rattle.std.specs.List.{HoldsAt}
use Rattle.std.specs.List.Sorted.{IsStrictlySortedBy, IsBinarySearchResult, IsPartitionPoint, IsSearchInRange, IsSortedBy}
use Rattle.std.specs.Ordering.{is_lt, ordering_reverse}
use Rattle.std.specs.Cmp.Lexicographic.{nat_list_cmp_total}
use Rattle.std.specs.declared.cmp.Ordering.{Ordering}
use Rattle.std.specs.declared.cmp.Ordering.TheVariants.{Less, Equal, Greater}
use Rattle.std.proofs.lemmas.List.Sorted.{searchable_from_sorted}
use Rattle.std.proofs.lemmas.Map.Keys.{Less-from_sorted}
use Rattle.qe_read.specs.Names.{Letters, letters_cmp, names_before}

module _ {X : Type 0} (key : X → Letters) where
  -- where the names before i come before w, and the others do not
  rank_at : (w : Letters) (xs : List X) (i : ℕ) → i ≤ length xs
      → ((k : ℕ) (d : X) → k < i → is_lt (letters_cmp (key (get_or xs k d)) w) ≡ true)
      → ((k : ℕ) (d : X) → i ≤ k → k < length xs → is_lt (letters_cmp (key (get_or xs k d)) w) ≡ false)
      → names_before (map key xs) w ≡ i
  rank_at w [] i h below above = omega arith
  rank_at w (x ∷ xs) zero h below above =
      rw (above 0 x (omega arith) (omega arith)) (rank_at w xs 0 (omega arith) (λ k d l. absurd (omega arith)) (λ k d l m. above (suc k) d (omega arith) (omega arith)))
  rank_at w (x ∷ xs) (suc i) h below above =
      rw (below 0 x (omega arith)) (ap suc (rank_at w xs i (omega arith) (λ k d l. below (suc k) d (omega arith)) (λ k d l m. above (suc k) d (omega arith) (omega arith))))

  get_or-mapped : (xs : List X) (i : ℕ) (d : X) → get_or (map key xs) i (key d) ≡ key (get_or xs i d)
  get_or-mapped [] i d = refl
  get_or-mapped (x ∷ xs) zero d = refl
  get_or-mapped (x ∷ xs) (suc i) d = get_or-mapped xs i d

  length-mapped : (xs : List X) → length (map key xs) ≡ length xs
  length-mapped [] = refl
  length-mapped (x ∷ xs) = ap suc (length-mapped xs)

  rises : (xs : List X) (i j : ℕ) (d : X) → IsStrictlySortedBy letters_cmp (map key xs) → i < j → j < length xs → letters_cmp (key (get_or xs i d)) (key (get_or xs j d)) ≡ Less
  rises xs i j d s h l = rw (← get_or-mapped xs i d, ← get_or-mapped xs j d) (Less-from_sorted letters_cmp (map key xs) i j (key d) s h (omega (arith, length-mapped xs)))

  reversed : (v w : Letters) (o : Ordering) → letters_cmp v w ≡ o → letters_cmp w v ≡ ordering_reverse o
  reversed v w o e = nat_list_cmp_total.antisymm w v ∙ ap ordering_reverse e

  -- where w is the name at i
  found_below : (u v w : Letters) → letters_cmp u v ≡ Less → letters_cmp v w ≡ Equal → letters_cmp u w ≡ Less
  found_below u v w l e = nat_list_cmp_total.antisymm u w ∙ ap ordering_reverse (sym (nat_list_cmp_total.congr v w u e) ∙ reversed u v Less l)

  found_above : (u v w : Letters) → letters_cmp v u ≡ Less → letters_cmp v w ≡ Equal → letters_cmp u w ≡ Greater
  found_above u v w l e = nat_list_cmp_total.antisymm u w ∙ ap ordering_reverse (sym (nat_list_cmp_total.congr v w u e) ∙ l)

  split : (i k : ℕ) → i ≤ k → (i ≡ k) ⊎ (i < k)
  split i k l = elim (cases_order i k) [ inl e ↦ inl e | inr h ↦ elim h [ inl m ↦ inr m | inr m ↦ absurd (omega arith) ] ]

  from_place : (w : Letters) (xs : List X) (i : ℕ) → IsStrictlySortedBy letters_cmp (map key xs) → HoldsAt (λ y. letters_cmp (key y) w ≡ Equal) xs i
      → (k : ℕ) (d : X) → k < length xs → (i ≡ k) ⊎ (i < k) → is_lt (letters_cmp (key (get_or xs k d)) w) ≡ false
  from_place w xs i s e k d m (inl q) = let h : letters_cmp (key (get_or xs k d)) w ≡ Equal = rw (← q) (e d) in ap is_lt h
  from_place w xs i s e k d m (inr q) = ap is_lt (found_above (key (get_or xs k d)) (key (get_or xs i d)) w (rises xs i k d s q m) (e d))

  pub rank_found : (w : Letters) (xs : List X) (i : ℕ) → IsStrictlySortedBy letters_cmp (map key xs) → i < length xs → HoldsAt (λ y. letters_cmp (key y) w ≡ Equal) xs i → names_before (map key xs) w ≡ i
  rank_found w xs i s h e =
      rank_at w xs i (omega arith)
      (λ k d l. ap is_lt (found_below (key (get_or xs k d)) (key (get_or xs i d)) w (rises xs k i d s l h) (e d)))
      (λ k d l m. from_place w xs i s e k d m (split i k l))

  in_turn : (xs : List X) → IsStrictlySortedBy letters_cmp (map key xs) → IsSortedBy (λ a b. is_lt (letters_cmp (key a) (key b))) xs
  in_turn xs s k d l m = ap is_lt (reversed (key (get_or xs k d)) (key (get_or xs (k + 1) d)) Less (rises xs k (k + 1) d s (omega arith) (omega arith)))

  rank_missed : (w : Letters) (xs : List X) (i : ℕ) → IsStrictlySortedBy letters_cmp (map key xs) → i ≤ length xs → IsPartitionPoint (λ y. letters_cmp (key y) w ≡ Less) (λ y. letters_cmp (key y) w ≡ Greater) xs i → names_before (map key xs) w ≡ i
  rank_missed w xs i s h p = rank_at w xs i h (λ k d l. ap is_lt (p.0 k d (omega arith) l)) (λ k d l m. ap is_lt (p.1 k d l m))

  -- what a binary search answers is the rank
  rank_at_ok : (w : Letters) (xs : List X) (i : ℕ) → IsStrictlySortedBy letters_cmp (map key xs) → IsSearchInRange (Ok i) (length xs)
      → IsBinarySearchResult (λ y. letters_cmp (key y) w) xs (Ok i) → i ≡ names_before (map key xs) w
  rank_at_ok w xs i s h e = sym (rank_found w xs i s h e)

  rank_at_err : (w : Letters) (xs : List X) (i : ℕ) → IsStrictlySortedBy letters_cmp (map key xs) → IsSearchInRange (Err i) (length xs)
      → IsBinarySearchResult (λ y. letters_cmp (key y) w) xs (Err i) → i ≡ names_before (map key xs) w
  rank_at_err w xs i s h e = sym (rank_missed w xs i s h (e (searchable_from_sorted nat_list_cmp_total key xs w (in_turn xs s))))

  rank_answer : (w : Letters) (xs : List X) (r : Result ℕ ℕ) (i : ℕ) → IsStrictlySortedBy letters_cmp (map key xs) → IsSearchInRange r (length xs)
      → IsBinarySearchResult (λ y. letters_cmp (key y) w) xs r → (r ≡ Ok i) ⊎ (r ≡ Err i) → i ≡ names_before (map key xs) w
  rank_answer w xs (Ok j) i s h e (inl q) = let p : i ≡ j = cc in p ∙ rank_at_ok w xs j s h e
  rank_answer w xs (Ok j) i s h e (inr q) = absurd (cc)
  rank_answer w xs (Err j) i s h e (inl q) = absurd (cc)
  rank_answer w xs (Err j) i s h e (inr q) = let p : i ≡ j = cc in p ∙ rank_at_err w xs j s h e

  -- the same where `searched` is what is searched, and `names` are the letters
  pub rank_searched : (w : Letters) (searched xs : List X) (names : List Letters) (r : Result ℕ ℕ) (i : ℕ) → searched ≡ xs → map key xs ≡ names
      → IsStrictlySortedBy letters_cmp (map key xs) → IsSearchInRange r (length searched)
      → IsBinarySearchResult (λ y. letters_cmp (key y) w) searched r → (r ≡ Ok i) ⊎ (r ≡ Err i) → i ≡ names_before names w
  rank_searched w searched xs names r i e v s h b q =
      rank_answer w searched r i (subst (λ l. IsStrictlySortedBy letters_cmp (map key l)) (sym e) s) h b q ∙ ap (λ l. names_before l w) (ap (map key) e ∙ v)
