-- How facts of parts go through the steps that join them.
use Rattle.std.proofs.Common.{◌≡◌, refl, ℕ, ◌+◌, ◌≤◌, true, false, cond, ◌↔◌, ◌⊎◌, inl, inr, List, [], ◌∷◌, ◌++◌, Option, Some, None, arith}
use Rattle.std.specs.List.{flat_map}
use Rattle.std.specs.Ordering.{is_gt}
use Rattle.qe_form.specs.Formula.{Formula}
use Rattle.qe_form.specs.Order.{formula_cmp}
use Rattle.qe_simp.specs.declared.connective.Connective.{Connective}
use Rattle.qe_simp.specs.Simplified.{parts_in, insert, in_order, as_one, one_or_two, merged_from, merged_parts}

-- the fact holds of each formula
abbrev pub Each : (Formula → Type 0) → List Formula → Type 0
Each P [] = Unit {0}
Each P (f ∷ fs) = P f × Each P fs

-- the fact holds of some formula
abbrev pub Any : (Formula → Type 0) → List Formula → Type 0
Any P [] = ⊥
Any P (f ∷ fs) = P f ⊎ Any P fs

-- the steps, from the simplified parts to the merged ones
abbrev pub steps : Connective → List Formula → List Formula
steps k fs = merged_parts k (in_order (flat_map (parts_in k) fs))

-- ---- each

module _ (P : Formula → Type 0) where
  pub Each-append : (fs gs : List Formula) → Each P (fs ++ gs) ↔ (Each P fs × Each P gs)
  Each-append [] gs = ((λ h. (tt, h)), (λ h. h.1))
  Each-append (f ∷ fs) gs = let rest = Each-append fs gs in ((λ h. let w = rest.0 h.1 in ((h.0, w.0), w.1)), (λ h. (h.0.0, rest.1 (h.0.1, h.1))))

  Each-insert : (f : Formula) (gs : List Formula) → Each P (insert f gs) ↔ (P f × Each P gs)
  Each-insert f [] = ((λ h. h), (λ h. h))
  Each-insert f (g ∷ gs) = elim (is_gt (formula_cmp f g)) as (λ b. Each P (cond b (g ∷ insert f gs) (f ∷ g ∷ gs)) ↔ (P f × (P g × Each P gs))) [
    | true ↦ let rest = Each-insert f gs in ((λ h. let w = rest.0 h.1 in (w.0, (h.0, w.1))), (λ h. (h.1.0, rest.1 (h.0, h.1.1))))
    | false ↦ ((λ h. h), (λ h. h))
  ]

  pub Each-in_order : (fs : List Formula) → Each P (in_order fs) ↔ Each P fs
  Each-in_order [] = ((λ h. h), (λ h. h))
  Each-in_order (f ∷ fs) =
      let first = Each-insert f (in_order fs) in
      let rest = Each-in_order fs in ((λ h. let w = first.0 h in (w.0, rest.0 w.1)), (λ h. first.1 (h.0, rest.1 h.1)))

  module _ (k : Connective) (one : (f g h : Formula) → as_one k f g ≡ Some h → P h ↔ (P f × P g)) where
    Each-merged_from : (f : Formula) (gs : List Formula) → Each P (merged_from k f gs) ↔ (P f × Each P gs)
    Each-merged_from f [] = ((λ h. h), (λ h. h))
    Each-merged_from f (g ∷ gs) = by_one (λ h. Each-merged_from h gs) (as_one k f g) refl
      where
        by_one : ((h : Formula) → Each P (merged_from k h gs) ↔ (P h × Each P gs)) → (o : Option Formula) → as_one k f g ≡ o → Each P (one_or_two o (λ h. merged_from k h gs) (f ∷ merged_from k g gs)) ↔ (P f × (P g × Each P gs))
        by_one again None is = let rest = again g in ((λ h. (h.0, rest.0 h.1)), (λ h. (h.0, rest.1 h.1)))
        by_one again (Some j) is =
            let rest = again j in
            let both = one f g j is in ((λ h. let w = rest.0 h in let v = both.0 w.0 in (v.0, (v.1, w.1))), (λ h. rest.1 (both.1 (h.0, h.1.0), h.1.1)))

    Each-merged : (fs : List Formula) → Each P (merged_parts k fs) ↔ Each P fs
    Each-merged [] = ((λ h. h), (λ h. h))
    Each-merged (f ∷ fs) = Each-merged_from f fs

    module _ (own : (f : Formula) → Each P (parts_in k f) ↔ P f) where
      Each-flat : (fs : List Formula) → Each P (flat_map (parts_in k) fs) ↔ Each P fs
      Each-flat [] = ((λ h. h), (λ h. h))
      Each-flat (f ∷ fs) =
          let both = Each-append (parts_in k f) (flat_map (parts_in k) fs) in
          let first = own f in
          let rest = Each-flat fs in ((λ h. let w = both.0 h in (first.0 w.0, rest.0 w.1)), (λ h. both.1 (first.1 h.0, rest.1 h.1)))

      pub Each-steps : (fs : List Formula) → Each P (steps k fs) ↔ Each P fs
      Each-steps fs =
          let flat = flat_map (parts_in k) fs in
          let a = Each-merged (in_order flat) in
          let b = Each-in_order flat in
          let c = Each-flat fs in ((λ h. c.0 (b.0 (a.0 h))), (λ h. a.1 (b.1 (c.1 h))))

-- ---- each, on to the merged parts

module _ (P Q : Formula → Type 0) (k : Connective) (own : (f : Formula) → Q f → Each P (parts_in k f)) (one : (f g h : Formula) → as_one k f g ≡ Some h → P f → P g → P h) where
  merged_from-Each : (f : Formula) (gs : List Formula) → P f → Each P gs → Each P (merged_from k f gs)
  merged_from-Each f [] first rest = (first, tt)
  merged_from-Each f (g ∷ gs) first rest = by_one (λ h. merged_from-Each h gs) (as_one k f g) refl
    where
      by_one : ((h : Formula) → P h → Each P gs → Each P (merged_from k h gs)) → (o : Option Formula) → as_one k f g ≡ o → Each P (one_or_two o (λ h. merged_from k h gs) (f ∷ merged_from k g gs))
      by_one again None is = (first, again g rest.0 rest.1)
      by_one again (Some h) is = again h (one f g h is first rest.0) rest.1

  merged-Each : (fs : List Formula) → Each P fs → Each P (merged_parts k fs)
  merged-Each [] each = tt
  merged-Each (f ∷ fs) each = merged_from-Each f fs each.0 each.1

  pub flat-Each : (fs : List Formula) → Each Q fs → Each P (flat_map (parts_in k) fs)
  flat-Each [] each = tt
  flat-Each (f ∷ fs) each = (Each-append P (parts_in k f) (flat_map (parts_in k) fs)).1 (own f each.0, flat-Each fs each.1)

  pub steps-Each : (fs : List Formula) → Each Q fs → Each P (steps k fs)
  steps-Each fs each = merged-Each (in_order (flat_map (parts_in k) fs)) ((Each-in_order P (flat_map (parts_in k) fs)).1 (flat-Each fs each))

-- ---- any, from the merged parts back

either : {A B C D : Type 0} → (A → C) → (B → D) → A ⊎ B → C ⊎ D
either first second h = elim h [ inl x ↦ inl (first x) | inr y ↦ inr (second y) ]

swapped : {A B C : Type 0} → A ⊎ (B ⊎ C) → B ⊎ (A ⊎ C)
swapped h = elim h [ inl x ↦ inr (inl x) | inr y ↦ elim y [ inl z ↦ inl z | inr w ↦ inr (inr w) ] ]

regrouped : {A B C : Type 0} → (A ⊎ B) ⊎ C → A ⊎ (B ⊎ C)
regrouped h = elim h [ inl x ↦ elim x [ inl y ↦ inl y | inr z ↦ inr (inl z) ] | inr w ↦ inr (inr w) ]

grouped : {A B C : Type 0} → A ⊎ (B ⊎ C) → (A ⊎ B) ⊎ C
grouped h = elim h [ inl x ↦ inl (inl x) | inr y ↦ elim y [ inl z ↦ inl (inr z) | inr w ↦ inr w ] ]

module _ (P : Formula → Type 0) where
  Any-append : (fs gs : List Formula) → Any P (fs ++ gs) → Any P fs ⊎ Any P gs
  Any-append [] gs h = inr h
  Any-append (f ∷ fs) gs h = elim h [ inl x ↦ inl (inl x) | inr y ↦ either (λ z. inr z) (λ z. z) (Any-append fs gs y) ]

  Any-insert : (f : Formula) (gs : List Formula) → Any P (insert f gs) → P f ⊎ Any P gs
  Any-insert f [] h = h
  Any-insert f (g ∷ gs) h =
      (elim (is_gt (formula_cmp f g)) as (λ b. Any P (cond b (g ∷ insert f gs) (f ∷ g ∷ gs)) → P f ⊎ (P g ⊎ Any P gs)) [ true ↦ λ w. swapped (either (λ x. x) (Any-insert f gs) w) | false ↦ λ w. w ]) h

  Any-in_order : (fs : List Formula) → Any P (in_order fs) → Any P fs
  Any-in_order [] h = h
  Any-in_order (f ∷ fs) h = either (λ x. x) (Any-in_order fs) (Any-insert f (in_order fs) h)

  module _ (k : Connective) (one : (f g h : Formula) → as_one k f g ≡ Some h → P h → P f ⊎ P g) (own : (f : Formula) → Any P (parts_in k f) → P f) where
    Any-merged_from : (f : Formula) (gs : List Formula) → Any P (merged_from k f gs) → P f ⊎ Any P gs
    Any-merged_from f [] h = h
    Any-merged_from f (g ∷ gs) w = by_one (λ h. Any-merged_from h gs) (as_one k f g) refl w
      where
        by_one : ((h : Formula) → Any P (merged_from k h gs) → P h ⊎ Any P gs) → (o : Option Formula) → as_one k f g ≡ o → Any P (one_or_two o (λ h. merged_from k h gs) (f ∷ merged_from k g gs)) → P f ⊎ (P g ⊎ Any P gs)
        by_one again None is h = either (λ x. x) (again g) h
        by_one again (Some j) is h = regrouped (either (one f g j is) (λ y. y) (again j h))

    Any-merged : (fs : List Formula) → Any P (merged_parts k fs) → Any P fs
    Any-merged [] h = h
    Any-merged (f ∷ fs) h = Any-merged_from f fs h

    Any-flat : (fs : List Formula) → Any P (flat_map (parts_in k) fs) → Any P fs
    Any-flat [] h = h
    Any-flat (f ∷ fs) h = either (own f) (Any-flat fs) (Any-append (parts_in k f) (flat_map (parts_in k) fs) h)

    pub Any-steps : (fs : List Formula) → Any P (steps k fs) → Any P fs
    Any-steps fs h = Any-flat fs (Any-in_order (flat_map (parts_in k) fs) (Any-merged (in_order (flat_map (parts_in k) fs)) h))

-- ---- any, on to the merged parts

module _ (P : Formula → Type 0) where
  append-Any : (fs gs : List Formula) → Any P fs ⊎ Any P gs → Any P (fs ++ gs)
  append-Any [] gs h = elim h [ inl x ↦ absurd x | inr y ↦ y ]
  append-Any (f ∷ fs) gs h = either (λ x. x) (append-Any fs gs) (regrouped h)

  insert-Any : (f : Formula) (gs : List Formula) → P f ⊎ Any P gs → Any P (insert f gs)
  insert-Any f [] h = h
  insert-Any f (g ∷ gs) h =
      (elim (is_gt (formula_cmp f g)) as (λ b. P f ⊎ (P g ⊎ Any P gs) → Any P (cond b (g ∷ insert f gs) (f ∷ g ∷ gs))) [ true ↦ λ w. either (λ x. x) (insert-Any f gs) (swapped w) | false ↦ λ w. w ]) h

  in_order-Any : (fs : List Formula) → Any P fs → Any P (in_order fs)
  in_order-Any [] h = h
  in_order-Any (f ∷ fs) h = insert-Any f (in_order fs) (either (λ x. x) (in_order-Any fs) h)

  module _ (k : Connective) (one : (f g h : Formula) → as_one k f g ≡ Some h → P f ⊎ P g → P h) (own : (f : Formula) → P f → Any P (parts_in k f)) where
    merged_from-Any : (f : Formula) (gs : List Formula) → P f ⊎ Any P gs → Any P (merged_from k f gs)
    merged_from-Any f [] h = h
    merged_from-Any f (g ∷ gs) w = by_one (λ h. merged_from-Any h gs) (as_one k f g) refl w
      where
        by_one : ((h : Formula) → P h ⊎ Any P gs → Any P (merged_from k h gs)) → (o : Option Formula) → as_one k f g ≡ o → P f ⊎ (P g ⊎ Any P gs) → Any P (one_or_two o (λ h. merged_from k h gs) (f ∷ merged_from k g gs))
        by_one again None is h = either (λ x. x) (again g) h
        by_one again (Some j) is h = again j (either (one f g j is) (λ y. y) (grouped h))

    merged-Any : (fs : List Formula) → Any P fs → Any P (merged_parts k fs)
    merged-Any [] h = h
    merged-Any (f ∷ fs) h = merged_from-Any f fs h

    flat-Any : (fs : List Formula) → Any P fs → Any P (flat_map (parts_in k) fs)
    flat-Any [] h = h
    flat-Any (f ∷ fs) h = append-Any (parts_in k f) (flat_map (parts_in k) fs) (either (own f) (flat-Any fs) h)

    pub steps-Any : (fs : List Formula) → Any P fs → Any P (steps k fs)
    steps-Any fs h = merged-Any (in_order (flat_map (parts_in k) fs)) (in_order-Any (flat_map (parts_in k) fs) (flat-Any fs h))

-- ---- sums

abbrev pub sum_of : (Formula → ℕ) → List Formula → ℕ
sum_of w [] = 0
sum_of w (f ∷ fs) = w f + sum_of w fs

module _ (w v : Formula → ℕ) where
  sum-append : (fs gs : List Formula) → sum_of w (fs ++ gs) ≡ sum_of w fs + sum_of w gs
  sum-append [] gs = omega arith
  sum-append (f ∷ fs) gs = omega (arith, sum-append fs gs)

  sum-insert : (f : Formula) (gs : List Formula) → sum_of w (insert f gs) ≡ w f + sum_of w gs
  sum-insert f [] = refl
  sum-insert f (g ∷ gs) = elim (is_gt (formula_cmp f g)) as (λ b. sum_of w (cond b (g ∷ insert f gs) (f ∷ g ∷ gs)) ≡ w f + (w g + sum_of w gs)) [
    | true ↦ omega (arith, sum-insert f gs)
    | false ↦ refl
  ]

  sum-in_order : (fs : List Formula) → sum_of w (in_order fs) ≡ sum_of w fs
  sum-in_order [] = refl
  sum-in_order (f ∷ fs) = omega (arith, sum-insert f (in_order fs), sum-in_order fs)

  module _ (k : Connective) (one : (f g h : Formula) → as_one k f g ≡ Some h → w h ≤ w f + w g) (own : (f : Formula) → sum_of w (parts_in k f) ≤ v f) where
    sum-merged_from : (f : Formula) (gs : List Formula) → sum_of w (merged_from k f gs) ≤ w f + sum_of w gs
    sum-merged_from f [] = omega arith
    sum-merged_from f (g ∷ gs) = by_one (λ h. sum-merged_from h gs) (as_one k f g) refl
      where
        by_one : ((h : Formula) → sum_of w (merged_from k h gs) ≤ w h + sum_of w gs) → (o : Option Formula) → as_one k f g ≡ o → sum_of w (one_or_two o (λ h. merged_from k h gs) (f ∷ merged_from k g gs)) ≤ w f + (w g + sum_of w gs)
        by_one again None is = omega (arith, again g)
        by_one again (Some j) is = omega (arith, again j, one f g j is)

    sum-merged : (fs : List Formula) → sum_of w (merged_parts k fs) ≤ sum_of w fs
    sum-merged [] = omega arith
    sum-merged (f ∷ fs) = sum-merged_from f fs

    sum-flat : (fs : List Formula) → sum_of w (flat_map (parts_in k) fs) ≤ sum_of v fs
    sum-flat [] = omega arith
    sum-flat (f ∷ fs) = omega (arith, sum-append (parts_in k f) (flat_map (parts_in k) fs), own f, sum-flat fs)

    pub sum-steps : (fs : List Formula) → sum_of w (steps k fs) ≤ sum_of v fs
    sum-steps fs = omega (arith, sum-merged (in_order (flat_map (parts_in k) fs)), sum-in_order (flat_map (parts_in k) fs), sum-flat fs)
