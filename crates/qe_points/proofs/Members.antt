-- Which items lists have that are made from others.
use Rattle.std.proofs.Common.{◌≡◌, ◌∙◌, ◌⊎◌, inl, inr, refl, sym, ap, subst, Bool, true, false, not, cond, List, [], ◌∷◌, ◌++◌, map, filter}
use Rattle.std.specs.List.{flat_map}
use Rattle.std.proofs.Common.{ℕ, zero, suc, ◌<◌, length, get_or, arith}
use Rattle.qe_poly.specs.Equal.{poly_eq, poly_tells}
use Rattle.qe_points.specs.Candidates.{Numbered, distinct}

-- the list has the item
abbrev pub IsIn : {X : Type 0} → X → List X → Type 0
IsIn x [] = ⊥
IsIn x (y ∷ ys) = (y ≡ x) ⊎ IsIn x ys

module _ {X : Type 0} where
  pub in_left : (x : X) (xs ys : List X) → IsIn x xs → IsIn x (xs ++ ys)
  in_left x [] ys h = absurd h
  in_left x (y ∷ xs) ys (inl e) = inl e
  in_left x (y ∷ xs) ys (inr h) = inr (in_left x xs ys h)

  pub in_right : (x : X) (xs ys : List X) → IsIn x ys → IsIn x (xs ++ ys)
  in_right x [] ys h = h
  in_right x (y ∷ xs) ys h = inr (in_right x xs ys h)

  pub of_append : (x : X) (xs ys : List X) → IsIn x (xs ++ ys) → IsIn x xs ⊎ IsIn x ys
  of_append x [] ys h = inr h
  of_append x (y ∷ xs) ys (inl e) = inl (inl e)
  of_append x (y ∷ xs) ys (inr h) = elim (of_append x xs ys h) [ inl k ↦ inl (inr k) | inr k ↦ inr k ]

  module _ (test : X → Bool) where
    pub in_filter : (x : X) (xs : List X) → test x ≡ true → IsIn x xs → IsIn x (filter test xs)
    in_filter x [] t h = h
    in_filter x (y ∷ ys) t (inl e) = subst (λ b. IsIn x (cond b (y ∷ filter test ys) (filter test ys))) (sym (ap test e ∙ t)) (inl e)
    in_filter x (y ∷ ys) t (inr h) = elim (test y) as (λ b. IsIn x (cond b (y ∷ filter test ys) (filter test ys))) [ true ↦ inr (in_filter x ys t h) | false ↦ in_filter x ys t h ]

    pub of_filter : (x : X) (xs : List X) → IsIn x (filter test xs) → IsIn x xs × (test x ≡ true)
    of_filter x [] h = absurd h
    of_filter x (y ∷ ys) h = elim (test y) as (λ b. test y ≡ b → IsIn x (cond b (y ∷ filter test ys) (filter test ys)) → IsIn x (y ∷ ys) × (test x ≡ true)) [
      | true ↦ λ t k. elim k [ inl e ↦ (inl e, sym (ap test e) ∙ t) | inr m ↦ let r = of_filter x ys m in (inr r.0, r.1) ]
      | false ↦ λ t k. let r = of_filter x ys k in (inr r.0, r.1)
    ] refl h

module _ {X Y : Type 0} (f : X → Y) where
  pub in_map : (x : X) (xs : List X) → IsIn x xs → IsIn (f x) (map f xs)
  in_map x [] h = absurd h
  in_map x (y ∷ xs) (inl e) = inl (ap f e)
  in_map x (y ∷ xs) (inr h) = inr (in_map x xs h)

  pub of_map : (y : Y) (xs : List X) → IsIn y (map f xs) → (x : X) × IsIn x xs × (f x ≡ y)
  of_map y [] h = absurd h
  of_map y (x ∷ xs) (inl e) = (x, inl refl, e)
  of_map y (x ∷ xs) (inr h) = let r = of_map y xs h in (r.0, inr r.1, r.2)

-- an item of one of the lists that the items give
module _ {X Y : Type 0} (f : X → List Y) where
  pub in_flat : (y : Y) (x : X) (xs : List X) → IsIn x xs → IsIn y (f x) → IsIn y (flat_map f xs)
  in_flat y x [] h k = absurd h
  in_flat y x (z ∷ xs) (inl e) k = in_left y (f z) (flat_map f xs) (subst (λ w. IsIn y (f w)) (sym e) k)
  in_flat y x (z ∷ xs) (inr h) k = in_right y (f z) (flat_map f xs) (in_flat y x xs h k)

  pub of_flat : (y : Y) (xs : List X) → IsIn y (flat_map f xs) → (x : X) × IsIn x xs × IsIn y (f x)
  of_flat y [] h = absurd h
  of_flat y (x ∷ xs) h = elim (of_append y (f x) (flat_map f xs) h) [
    | inl k ↦ (x, inl refl, k)
    | inr k ↦ let r = of_flat y xs k in (r.0, inr r.1, r.2)
  ]

-- what holds of each item holds at each place
pub all_in : {X : Type 0} (P : X → Type 0) (xs : List X) → ((x : X) → IsIn x xs → P x) → (k : ℕ) (d : X) → k < length xs → P (get_or xs k d)
all_in P [] h k d within = absurd (omega arith)
all_in P (x ∷ xs) h zero d within = h x (inl refl)
all_in P (x ∷ xs) h (suc k) d within = all_in P xs (λ y i. h y (inr i)) k d (omega arith)

-- and the other way
pub of_all : {X : Type 0} (P : X → Type 0) (xs : List X) → ((k : ℕ) (d : X) → k < length xs → P (get_or xs k d)) → (x : X) → IsIn x xs → P x
of_all P [] h x i = absurd i
of_all P (y ∷ ys) h x (inl e) = subst P e (h 0 y (omega arith))
of_all P (y ∷ ys) h x (inr i) = of_all P ys (λ k d within. h (suc k) d (omega arith)) x i

-- ---- each polynomial once

-- a polynomial that is there stays, with some number
pub in_distinct : (g : Numbered) (gs : List Numbered) → IsIn g gs → (h : Numbered) × IsIn h (distinct gs) × (h.0 ≡ g.0)
in_distinct g [] i = absurd i
in_distinct g (h ∷ gs) (inl e) = (h, inl refl, ap (λ (k : Numbered). k.0) e)
in_distinct g (h ∷ gs) (inr i) =
    let r = in_distinct g gs i in
    elim (poly_eq h.0 r.0.0) as (λ b. poly_eq h.0 r.0.0 ≡ b → (k : Numbered) × IsIn k (distinct (h ∷ gs)) × (k.0 ≡ g.0)) [
      | true ↦ λ t. (h, inl refl, poly_tells h.0 r.0.0 t ∙ r.2)
      | false ↦ λ t. (r.0, inr (in_filter (λ k. not (poly_eq h.0 k.0)) r.0 (distinct gs) (ap not t) r.1), r.2)
    ] refl

pub of_distinct : (g : Numbered) (gs : List Numbered) → IsIn g (distinct gs) → IsIn g gs
of_distinct g [] h = h
of_distinct g (k ∷ gs) (inl e) = inl e
of_distinct g (k ∷ gs) (inr h) = inr (of_distinct g gs (of_filter (λ r. not (poly_eq k.0 r.0)) g (distinct gs) h).0)
