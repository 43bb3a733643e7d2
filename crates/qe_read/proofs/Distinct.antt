-- A list after a sort that keeps each of its elements once.
use Rattle.std.proofs.Common.{ℕ, zero, suc, ◌≡◌, ◌≤◌, ◌↔◌, refl, sym, ap, subst, ◌∙◌, List, [], ◌∷◌, length, map, get_or, take, length-take, Bool, arith, nat_eq}
use Rattle.std.specs.List.{Contains, dedup, AllByRecursion}
use Rattle.std.specs.List.Sorted.{IsStrictlySortedBy, IsSorted, IsPermutation}
use Rattle.std.specs.Cmp.Lexicographic.{slice_cmp, pointwise, bytes_decides, on_texts, on_texts_equal, texts_ties}
use Rattle.std.specs.Ordering.{nat_cmp}
use Rattle.std.specs.declared.cmp.Ordering.{Ordering}
use Rattle.std.specs.declared.cmp.Ordering.TheVariants.{Less}
use Rattle.std.proofs.lemmas.List.{take_all}
use Rattle.std.proofs.lemmas.List.Sorted.{Contains-permutation, IsPermutation-sym}
use Rattle.std.proofs.lemmas.List.Kept.{IsStrictlySortedBy-dedup, Any-dedup, Contains-from_dedup}
use Rattle.qe_token.specs.declared.token.Name.{Name}
use Rattle.qe_read.specs.Names.{Letters, letters, letters_cmp}
use Rattle.qe_read.specs.FreeNames.{AreLettersOf}

module _ {X Y : Type 0} (f : X → Y) where
  pub length-mapped : (xs : List X) → length (map f xs) ≡ length xs
  length-mapped [] = refl
  length-mapped (x ∷ xs) = ap suc (length-mapped xs)

  pub get_or-mapped : (xs : List X) (i : ℕ) (d : X) → get_or (map f xs) i (f d) ≡ f (get_or xs i d)
  get_or-mapped [] i d = refl
  get_or-mapped (x ∷ xs) zero d = refl
  get_or-mapped (x ∷ xs) (suc i) d = get_or-mapped xs i d

  pub Contains-mapped : (xs : List X) (x : X) → Contains xs x → Contains (map f xs) (f x)
  Contains-mapped xs x c = (c.0, omega (arith, length-mapped xs, c.1), get_or-mapped xs c.0 x ∙ ap f c.2)

  pub Contains-unmapped : (xs : List X) (y : Y) → Contains (map f xs) y → (x : X) × Contains xs x × (f x ≡ y)
  Contains-unmapped [] y (k, h, e) = absurd (omega arith)
  Contains-unmapped (x ∷ xs) y (zero, h, e) = (x, (0, omega arith, refl), e)
  Contains-unmapped (x ∷ xs) y (suc k, h, e) =
      let r = Contains-unmapped xs y (k, omega arith, e) in (r.0, (suc r.1.0, omega (arith, r.1.1), r.1.2), r.2)

module _ {X : Type 0} (key : X → Letters) where
  abbrev by_key : X → X → Ordering
  by_key x y = slice_cmp nat_cmp (key x) (key y)

  all_keys : (x : X) (xs : List X) → AllByRecursion (λ y. by_key x y ≡ Less) xs → AllByRecursion (λ w. letters_cmp (key x) w ≡ Less) (map key xs)
  all_keys x [] a = a
  all_keys x (y ∷ ys) a = (a.0, all_keys x ys a.1)

  keys_sorted : (xs : List X) → IsStrictlySortedBy by_key xs → IsStrictlySortedBy letters_cmp (map key xs)
  unfolding IsStrictlySortedBy
  keys_sorted [] s = s
  keys_sorted (x ∷ xs) s = (all_keys x xs s.0, keys_sorted xs s.1)

  abbrev same_key : X → X → Bool
  same_key x y = pointwise nat_eq (key x) (key y)

  pub sorted_once : (xs ys : List X) → ys ≡ dedup same_key xs → IsSorted by_key xs → IsStrictlySortedBy letters_cmp (map key ys)
  sorted_once xs ys e s = rw e (keys_sorted (dedup same_key xs) (IsStrictlySortedBy-dedup (on_texts key) (λ x y. texts_ties (key x) (key y)) xs s))

  kept : (xs : List X) (w : Letters) → Contains (map key (dedup same_key xs)) w ↔ Contains (map key xs) w
  kept xs w = (
    λ c. (let r = Contains-unmapped key (dedup same_key xs) w c in subst (λ v. Contains (map key xs) v) r.2 (Contains-mapped key xs r.0 (Contains-from_dedup same_key xs r.0 r.1))),
    λ c. (let r = Contains-unmapped key xs w c in
        let a = Any-dedup (on_texts_equal key) xs r.0 r.1 in
        let e : key r.0 ≡ key a.1 = (bytes_decides (key r.0) (key a.1)).0 a.4 in
        subst (λ v. Contains (map key (dedup same_key xs)) v) (sym e ∙ r.2) (Contains-mapped key (dedup same_key xs) a.1 (a.0, a.2, a.3))),
  )

  moved : (xs ys : List X) (w : Letters) → IsPermutation xs ys → Contains (map key xs) w → Contains (map key ys) w
  moved xs ys w p c = let r = Contains-unmapped key xs w c in subst (λ v. Contains (map key ys) v) r.2 (Contains-mapped key ys r.0 (Contains-permutation xs ys r.0 p r.1))

  -- no more than there are names
  pub few : (text : List ℕ) (names : List Name) (n : ℕ) (xs : List X) → map key xs ≡ map (letters text) (take n names) → length xs ≤ length names
  few text names n xs m =
      omega (arith, length-mapped key xs, ap length m, length-mapped (letters text) (take n names), length-take n names)

  -- xs are the names as they are read, ys after the sort, and zs after the repeated ones are left out
  pub are_letters : (text : List ℕ) (names : List Name) (n : ℕ) (xs ys zs : List X) → length names ≤ n → map key xs ≡ map (letters text) (take n names)
      → IsPermutation xs ys → IsSorted by_key ys → zs ≡ dedup same_key ys → AreLettersOf text names (map key zs)
  are_letters text names n xs ys zs h m p s e = record {
    sorted = sorted_once ys zs e s;
    each = λ w. (
      λ c. subst (λ l. Contains l w) all (moved ys xs w (IsPermutation-sym xs ys p) ((kept ys w).0 (subst (λ l. Contains (map key l) w) e c))),
      λ c. subst (λ l. Contains (map key l) w) (sym e) ((kept ys w).1 (moved xs ys w p (subst (λ l. Contains l w) (sym all) c))),
    );
  }
    where
      all : map key xs ≡ map (letters text) names
      all = m ∙ ap (map (letters text)) (take_all n names h)
