-- Where a monomial stands among groups in order.
use Rattle.std.proofs.Common.{◌≡◌, ◌≢◌, refl, sym, ap, subst, ◌∙◌, ℕ, zero, suc, ◌+◌, ◌<◌, T, List, [], ◌∷◌, map, length, drop, get_or, ℤ, arith}
use Rattle.std.proofs.lemmas.List.{drop_more}
use Rattle.std.specs.declared.cmp.Ordering.{Ordering}
use Rattle.std.specs.declared.cmp.Ordering.TheVariants.{Less, Equal, Greater}
use Rattle.std.specs.Ordering.{ordering_reverse}
use Rattle.std.specs.FinMap.Entries.{below_all, by_order}
use Rattle.qe_poly.specs.declared.tally.Group as kept_group
use Rattle.qe_poly.specs.Monomial.{Monomial, in_turn}
use Rattle.qe_poly.specs.Tally.{Tally, shown_group, tally_more, empty_tally, enter_tally, IsInOrder, IsSplit, IsTied}
use Rattle.qe_poly.proofs.Order.{turn_total, turn_same}
use Rattle.qe_poly.proofs.Sorted.{less_back, below_first, below_rest, sorted_first, sorted_rest}

-- the first group does not come after the monomial
abbrev IsReached : Monomial → List (Monomial × Tally) → Type 0
IsReached m [] = ⊥
IsReached m (g ∷ gs) = in_turn m g.0 ≢ Less

back : (m n : Monomial) → in_turn n m ≡ Less → in_turn m n ≡ Greater
back m n before = turn_total.antisymm m n ∙ ap ordering_reverse before

-- a monomial comes after each before the one that it reaches
after_first : (m k : Monomial) (gs : List kept_group.Group) (i : ℕ) → T (below_all in_turn k (map shown_group gs)) → IsReached m (map shown_group (drop i gs)) → in_turn m k ≡ Greater
after_first m k [] zero below reached = absurd reached
after_first m k [] (suc i) below reached = absurd reached
after_first m k (g ∷ gs) zero below reached = by_turn (in_turn m g.monomial) refl
  where
    before : in_turn k g.monomial ≡ Less
    before = below_first k (shown_group g) (map shown_group gs) below

    by_turn : (r : Ordering) → in_turn m g.monomial ≡ r → in_turn m k ≡ Greater
    by_turn Less turn = absurd (reached turn)
    by_turn Equal turn = back m k (subst (λ n. in_turn k n ≡ Less) (sym (turn_same m g.monomial turn)) before)
    by_turn Greater turn = back m k (turn_total.trans k g.monomial m before (less_back m g.monomial turn))
after_first m k (g ∷ gs) (suc i) below reached = after_first m k gs i (below_rest k (shown_group g) (map shown_group gs) below) reached

enter_after : (m : Monomial) (c : ℤ) (g : Monomial × Tally) (gs : List (Monomial × Tally)) → in_turn m g.0 ≡ Greater → g ∷ enter_tally (m, c) gs ≡ enter_tally (m, c) (g ∷ gs)
enter_after m c g gs after = sym (ap (λ r. by_order r ((m, tally_more empty_tally c) ∷ g ∷ gs) ((g.0, tally_more g.1 c) ∷ gs) (g ∷ enter_tally (m, c) gs)) after)

split_more : (m : Monomial) (g : kept_group.Group) (gs : List kept_group.Group) (i : ℕ) → in_turn m g.monomial ≡ Greater → IsSplit m gs i → IsSplit m (g ∷ gs) (suc i)
split_more m g gs i after split = (let inside = split.0 in omega arith, λ c. ap (λ rest. shown_group g ∷ rest) (split.1 c) ∙ enter_after m c (shown_group g) (map shown_group gs) after)

split_reached : (m : Monomial) (gs : List kept_group.Group) (i : ℕ) → IsInOrder gs → IsReached m (map shown_group (drop i gs)) → IsSplit m gs i
split_reached m [] zero order reached = absurd reached
split_reached m [] (suc i) order reached = absurd reached
split_reached m (g ∷ gs) zero order reached = (omega arith, λ c. refl)
split_reached m (g ∷ gs) (suc i) order reached =
    split_more m g gs i (after_first m g.monomial gs i (sorted_first (shown_group g) (map shown_group gs) order) reached)
    (split_reached m gs i (sorted_rest (shown_group g) (map shown_group gs) order) reached)

abbrev IsAfter : Monomial → List (Monomial × Tally) → Type 0
IsAfter m [] = ⊥
IsAfter m (g ∷ gs) = in_turn m g.0 ≡ Greater

split_after : (m : Monomial) (gs : List kept_group.Group) (i : ℕ) → IsInOrder gs → IsAfter m (map shown_group (drop i gs)) → IsSplit m gs (suc i)
split_after m [] zero order after = absurd after
split_after m [] (suc i) order after = absurd after
split_after m (g ∷ gs) zero order after = split_more m g gs zero after (omega arith, λ c. refl)
split_after m (g ∷ gs) (suc i) order after =
    split_more m g gs (suc i) (after_first m g.monomial gs i (sorted_first (shown_group g) (map shown_group gs) order) (reached (drop i gs) after))
    (split_after m gs i (sorted_rest (shown_group g) (map shown_group gs) order) after)
  where
    reached : (hs : List kept_group.Group) → IsAfter m (map shown_group hs) → IsReached m (map shown_group hs)
    reached [] later = later
    reached (h ∷ hs) later = λ less. absurd (let clash : Greater ≡ Less = sym later ∙ less in cc)

-- ---- for the steps of the search

rest_is : (gs : List kept_group.Group) (i : ℕ) (g : kept_group.Group) → i < length gs → g ≡ get_or gs i g → map shown_group (drop i gs) ≡ shown_group g ∷ map shown_group (drop (i + 1) gs)
rest_is gs i g inside is = ap (map shown_group) (drop_more gs i g inside ∙ ap (λ x. x ∷ drop (i + 1) gs) (sym is))

-- a group that ties is the place
pub place_tied : (m : Monomial) (gs : List kept_group.Group) (i : ℕ) (g : kept_group.Group) → IsInOrder gs → i < length gs → g ≡ get_or gs i g → in_turn m (get_or gs i g).monomial ≡ Equal
    → (i < length gs) × IsSplit m gs i × IsTied m (map shown_group (drop i gs))
place_tied m gs i g order inside is same =
    let tie : in_turn m g.monomial ≡ Equal = ap (λ h. in_turn m h.monomial) is ∙ same in
    let here = rest_is gs i g inside is in (
      inside,
      split_reached m gs i order (subst (λ rest. IsReached m rest) (sym here) (λ less. absurd (let clash : Equal ≡ Less = sym tie ∙ less in cc))),
      subst (λ rest. IsTied m rest) (sym here) tie,
    )

-- past a group that the monomial comes after
pub split_past : (m : Monomial) (gs : List kept_group.Group) (i : ℕ) (g : kept_group.Group) → IsInOrder gs → i < length gs → g ≡ get_or gs i g → in_turn m (get_or gs i g).monomial ≡ Greater → IsSplit m gs (i + 1)
split_past m gs i g order inside is later =
    let after : in_turn m g.monomial ≡ Greater = ap (λ h. in_turn m h.monomial) is ∙ later in
    let next : suc i ≡ i + 1 = omega arith in
    subst (λ k. IsSplit m gs k) next (split_after m gs i order (subst (λ rest. IsAfter m rest) (sym (rest_is gs i g inside is)) after))
