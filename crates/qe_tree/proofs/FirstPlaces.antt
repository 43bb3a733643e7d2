-- What holds of places holds of the first places of their formulas, and the other way round.
use Rattle.std.proofs.Common.{◌≡◌, sym, refl, subst, inl, inr, ◌⊎◌, Bool, true, false, cond, ◌||◌, List, [], ◌∷◌, ◌++◌}
use Rattle.std.specs.Ordering.{is_eq}
use Rattle.qe_ring.proofs.Ties.{equal_tie}
use Rattle.qe_form.specs.Formula.{Formula}
use Rattle.qe_form.specs.Order.{formula_cmp}
use Rattle.qe_form.specs.OrderLaws.{formula_same}
use Rattle.qe_tree.specs.Tree.{Place, is_among, first_places}
use Rattle.qe_tree.specs.Sound.{IsIn, Each}
use Rattle.qe_tree.proofs.Walks.{EachForm, SomeForm}

-- a formula that the test finds is one of them
pub among_in : (f : Formula) (fs : List Formula) → is_among f fs ≡ true → IsIn f fs
among_in f [] = λ found. absurd (cc)
among_in f (g ∷ gs) = by_first (is_eq (formula_cmp f g)) refl (among_in f gs)
  where
    by_first : (b : Bool) → is_eq (formula_cmp f g) ≡ b → (is_among f gs ≡ true → IsIn f gs) → (b || is_among f gs) ≡ true → IsIn f (g ∷ gs)
    by_first true same rest found = inl (formula_same f g (equal_tie (formula_cmp f g) same))
    by_first false apart rest found = inr (rest found)

pub each_in : {A : Type 0} (P : A → Type 0) (x : A) (xs : List A) → IsIn x xs → Each P xs → P x
each_in P x [] h each = absurd h
each_in P x (y ∷ ys) h each = elim h [ inl same ↦ subst P (sym same) each.0 | inr later ↦ each_in P x ys later each.1 ]

each_more : {A : Type 0} (P : A → Type 0) (xs : List A) (x : A) → Each P xs → P x → Each P (xs ++ x ∷ [])
each_more P [] x each h = (h, tt)
each_more P (y ∷ ys) x each h = (each.0, each_more P ys x each.1 h)

module _ (P : Formula → Type 0) where
  pub each_firsts : (met : List Formula) (ps : List Place) → EachForm P ps → EachForm P (first_places met ps)
  each_firsts met [] each = tt
  each_firsts met (p ∷ ps) each = elim (is_among p.form met) as (λ b. EachForm P (cond b (first_places met ps) (p ∷ first_places (met ++ p.form ∷ []) ps))) [
    | true ↦ each_firsts met ps each.1
    | false ↦ (each.0, each_firsts (met ++ p.form ∷ []) ps each.1)
  ]

  pub firsts_each : (met : List Formula) (ps : List Place) → Each P met → EachForm P (first_places met ps) → EachForm P ps
  firsts_each met [] known = λ each. tt
  firsts_each met (p ∷ ps) known = elim (is_among p.form met) as (λ b. is_among p.form met ≡ b → EachForm P (cond b (first_places met ps) (p ∷ first_places (met ++ p.form ∷ []) ps)) → P p.form × EachForm P ps) [
    | true ↦ λ found each. (each_in P p.form met (among_in p.form met found) known, firsts_each met ps known each)
    | false ↦ λ new each. (each.0, firsts_each (met ++ p.form ∷ []) ps (each_more P met p.form known each.0) each.1)
  ] refl

  pub firsts_some : (met : List Formula) (ps : List Place) → SomeForm P (first_places met ps) → SomeForm P ps
  firsts_some met [] = λ some. some
  firsts_some met (p ∷ ps) = elim (is_among p.form met) as (λ b. SomeForm P (cond b (first_places met ps) (p ∷ first_places (met ++ p.form ∷ []) ps)) → P p.form ⊎ SomeForm P ps) [
    | true ↦ λ some. inr (firsts_some met ps some)
    | false ↦ λ some. elim some [ inl x ↦ inl x | inr y ↦ inr (firsts_some (met ++ p.form ∷ []) ps y) ]
  ]

  -- P of some of the formulas
  abbrev Some : List Formula → Type 0
  Some [] = ⊥
  Some (f ∷ fs) = P f ⊎ Some fs

  in_some : (f : Formula) (fs : List Formula) → IsIn f fs → P f → Some fs
  in_some f [] h x = absurd h
  in_some f (g ∷ gs) h x = elim h [ inl same ↦ inl (subst P same x) | inr later ↦ inr (in_some f gs later x) ]

  some_more : (fs : List Formula) (f : Formula) → Some (fs ++ f ∷ []) → Some fs ⊎ P f
  some_more [] f h = elim h [ inl x ↦ inr x | inr never ↦ absurd never ]
  some_more (g ∷ gs) f h = elim h [ inl x ↦ inl (inl x) | inr y ↦ elim (some_more gs f y) [ inl z ↦ inl (inr z) | inr z ↦ inr z ] ]

  some_firsts_or : (met : List Formula) (ps : List Place) → SomeForm P ps → Some met ⊎ SomeForm P (first_places met ps)
  some_firsts_or met [] = λ some. absurd some
  some_firsts_or met (p ∷ ps) = elim (is_among p.form met) as (λ b. is_among p.form met ≡ b → P p.form ⊎ SomeForm P ps → Some met ⊎ SomeForm P (cond b (first_places met ps) (p ∷ first_places (met ++ p.form ∷ []) ps))) [
    | true ↦ λ found some. elim some [ inl x ↦ inl (in_some p.form met (among_in p.form met found) x) | inr y ↦ some_firsts_or met ps y ]
    | false ↦ λ new some. elim some [
      | inl x ↦ inr (inl x)
      | inr y ↦ elim (some_firsts_or (met ++ p.form ∷ []) ps y) [ inl z ↦ elim (some_more met p.form z) [ inl u ↦ inl u | inr v ↦ inr (inl v) ] | inr w ↦ inr (inr w) ]
    ]
  ] refl

  pub some_firsts : (ps : List Place) → SomeForm P ps → SomeForm P (first_places [] ps)
  some_firsts ps some = elim (some_firsts_or [] ps some) [ inl never ↦ absurd never | inr x ↦ x ]
