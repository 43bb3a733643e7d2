-- A node is true for some values of its variables exactly where some leaf of its tree is true, if no node fails.
use Rattle.std.proofs.Common.{ℕ, zero, suc, ◌≡◌, ◌∙◌, sym, ap, refl, subst, ◌≤◌, inl, inr, ◌⊎◌, ◌↔◌, Bool, true, false, cond, ◌||◌, List, [], ◌∷◌, ◌++◌, map, Option, Some, None, arith}
use Rattle.std.specs.List.{flat_map}
use Rattle.qe_tower.specs.Point.{Point, IsPoint}
use Rattle.qe_form.specs.Formula.{Formula, True}
use Rattle.qe_form.specs.Tree.{trees_of}
use Rattle.qe_form.specs.Truth.{Is, SomeIs}
use Rattle.qe_tree.specs.Variables.{remaining, under_ex, existential_closure}
use Rattle.qe_tree.specs.Expanded.{Expansion}
use Rattle.qe_form.specs.Making.{is_true}
use Rattle.qe_tree.specs.Tree.{Step, Place, is_empty, is_leaf, below, failure, walk, leaves, or_fails, first_failure, has_true_leaf}
use Rattle.qe_tree.specs.Sound.{Each, forms_of, IsSound}
use Rattle.qe_tree.proofs.Walks.{EachForm, SomeForm, append-EachForm, append-SomeForm, SomeForm-append, with_step, Kind, leaf, fails, grows, kind_of, IsBelow, height_of, each_below, no_parts}
use Rattle.qe_tree.proofs.Growth.{growth_keeps_truth}

is_empty_is : {A : Type 0} (xs : List A) → is_empty xs ≡ true → xs ≡ []
is_empty_is [] test = refl
is_empty_is (x ∷ xs) test = absurd (cc)

nothing_left : (vars : List ℕ) → remaining vars True ≡ []
nothing_left [] = refl
nothing_left (x ∷ xs) = nothing_left xs

pub is_true_is : (f : Formula) → is_true f ≡ true → f ≡ True
is_true_is True test = refl
is_true_is f test = absurd (cc)

module _ {F : Type 0} (expand : Expansion F) (vars : List ℕ) where
  -- the formula is a leaf, and true at the point
  abbrev pub LeafIs : Point → Formula → Type 0
  LeafIs p f = (is_leaf expand vars f ≡ true) × Is f true p

  -- the node does not fail
  abbrev pub Sound : Formula → Type 0
  Sound f = failure expand vars f ≡ None

  whole_leaf : (f : Formula) (p : Point) → is_leaf expand vars f ≡ true → existential_closure vars f ≡ f
  whole_leaf f p test = ap (λ l. under_ex l f) (is_empty_is (remaining vars f) test)

  pub true_leaf : (p : Point) (f : Formula) → is_true f ≡ true → LeafIs p f
  true_leaf p f test = let same = sym (is_true_is f test) in subst (LeafIs p) same (ap is_empty (nothing_left vars), refl)

  -- ---- what the tests on places tell

  pub has_true_some : (p : Point) (ps : List Place) → has_true_leaf expand vars ps ≡ true → SomeForm (LeafIs p) ps
  has_true_some p [] = λ test. absurd (cc)
  has_true_some p (q ∷ qs) = by_first (is_true q.form) refl (has_true_some p qs)
    where
      by_first : (b : Bool) → is_true q.form ≡ b → (has_true_leaf expand vars qs ≡ true → SomeForm (LeafIs p) qs) → (b || has_true_leaf expand vars qs) ≡ true → LeafIs p q.form ⊎ SomeForm (LeafIs p) qs
      by_first true first rest test = inl (true_leaf p q.form first)
      by_first false first rest test = inr (rest test)

  pub no_failure : (ps : List Place) → first_failure expand vars ps ≡ None → EachForm Sound ps
  no_failure [] = λ none. tt
  no_failure (p ∷ ps) = by_first (failure expand vars p.form) refl (no_failure ps)
    where
      by_first : (o : Option F) → failure expand vars p.form ≡ o → (first_failure expand vars ps ≡ None → EachForm Sound ps) → or_fails expand vars p.path o (first_failure expand vars ps) ≡ None → EachForm Sound (p ∷ ps)
      by_first (Some s) is rest none = absurd (cc)
      by_first None is rest none = (is, rest none)

  pub leaves_true : (p : Point) (ps : List Place) → SomeForm (LeafIs p) ps ↔ SomeIs (trees_of (leaves expand vars ps)) true p
  leaves_true p [] = ((λ h. h), (λ h. h))
  leaves_true p (q ∷ qs) = by_first (is_leaf expand vars q.form) refl (leaves_true p qs)
    where
      by_first : (b : Bool) → is_leaf expand vars q.form ≡ b → SomeForm (LeafIs p) qs ↔ SomeIs (trees_of (leaves expand vars qs)) true p
          → (LeafIs p q.form ⊎ SomeForm (LeafIs p) qs) ↔ SomeIs (trees_of (cond b (q.form ∷ leaves expand vars qs) (leaves expand vars qs))) true p
      by_first true is rest = (
        (λ h. elim h [ inl x ↦ inl x.1 | inr y ↦ inr (rest.0 y) ]),
        (λ h. elim h [ inl x ↦ inl (is, x) | inr y ↦ inr (rest.1 y) ]),
      )
      by_first false is rest = (
        (λ h. elim h [ inl x ↦ absurd (let other = sym is ∙ x.0 in cc) | inr y ↦ rest.0 y ]),
        (λ h. inr (rest.1 h)),
      )

  pub leaves_each : (P : Formula → Type 0) (ps : List Place) → EachForm P ps → Each (λ f. (is_leaf expand vars f ≡ true) × P f) (leaves expand vars ps)
  leaves_each P [] each = tt
  leaves_each P (q ∷ qs) each = elim (is_leaf expand vars q.form) as (λ b. is_leaf expand vars q.form ≡ b → Each (λ f. (is_leaf expand vars f ≡ true) × P f) (cond b (q.form ∷ leaves expand vars qs) (leaves expand vars qs))) [
    | true ↦ λ is. ((is, each.0), leaves_each P qs each.1)
    | false ↦ λ is. leaves_each P qs each.1
  ] refl

module _ {F : Type 0} (Good : Formula → Type 0) (expand : Expansion F) (sound : IsSound Good expand) (vars : List ℕ) where
  abbrev Below : Formula → Formula → Type 0
  Below = IsBelow Good expand sound vars

  abbrev height : Formula → ℕ
  height = height_of Good expand sound vars

  abbrev Leaf : Point → Formula → Type 0
  Leaf = LeafIs expand vars

  abbrev further : ℕ → List Step → List (Step × Formula) → List Place
  further n path ss = flat_map (λ s. walk expand vars n (path ++ s.0 ∷ []) s.1) ss

  -- ---- a true leaf makes the node true

  abbrev LeafMakesTrue : ℕ → Type 0
  LeafMakesTrue n = (path : List Step) (f : Formula) → Good f → (p : Point) → IsPoint p → SomeForm (Leaf p) (walk expand vars n path f) → Is (existential_closure vars f) true p

  leaf_parts : (n : ℕ) → LeafMakesTrue n → (path : List Step) (f : Formula) (x : ℕ) (parts : List (ℕ × Formula)) → Each (λ s. Below f s.1) parts → (p : Point) → IsPoint p
      → SomeForm (Leaf p) (further n path (map (with_step x) parts)) → SomeIs (trees_of (map (existential_closure vars) (forms_of parts))) true p
  leaf_parts n again path f x [] each p valid some = absurd some
  leaf_parts n again path f x (s ∷ parts) each p valid some =
      elim (append-SomeForm (Leaf p) (walk expand vars n (path ++ record { var = x; point = s.0 } ∷ []) s.1) (further n path (map (with_step x) parts)) some) [
        | inl here ↦ inl (again (path ++ record { var = x; point = s.0 } ∷ []) s.1 each.0.good p valid here)
        | inr there ↦ inr (leaf_parts n again path f x parts each.1 p valid there)
      ]

  itself : (f : Formula) (p : Point) → Leaf p f → Is (existential_closure vars f) true p
  itself f p h = let same = whole_leaf expand vars f p h.0 in subst (λ g. Is g true p) (sym same) h.1

  pub leaf_makes_true : (n : ℕ) → LeafMakesTrue n
  leaf_makes_true zero path f good p valid some = elim some [ inl h ↦ itself f p h | inr never ↦ absurd never ]
  leaf_makes_true (suc n) path f good p valid some = by_kind (leaf_makes_true n) (kind_of expand vars f) some
    where
      by_kind : LeafMakesTrue n → Kind expand vars f → SomeForm (Leaf p) (record { path = path; form = f } ∷ further n path (below expand vars f)) → Is (existential_closure vars f) true p
      by_kind again (leaf gone none fine) (inl h) = itself f p h
      by_kind again (leaf gone none fine) (inr h) = absurd (subst (λ ss. SomeForm (Leaf p) (further n path ss)) none h)
      by_kind again (fails s none fault) (inl h) = itself f p h
      by_kind again (fails s none fault) (inr h) = absurd (subst (λ ss. SomeForm (Leaf p) (further n path ss)) none h)
      by_kind again (grows x parts is all fine) (inl h) = itself f p h
      by_kind again (grows x parts is all fine) (inr h) =
          (growth_keeps_truth Good expand sound vars f good x parts is p valid).1
          (leaf_parts n again path f x parts (each_below Good expand sound vars f good x parts is) p valid (subst (λ ss. SomeForm (Leaf p) (further n path ss)) all h))

  -- ---- where no node fails, a true node has a true leaf

  abbrev TrueHasLeaf : ℕ → Type 0
  TrueHasLeaf n = (path : List Step) (f : Formula) → Good f → height f ≤ n → (p : Point) → IsPoint p → EachForm (Sound expand vars) (walk expand vars n path f) → Is (existential_closure vars f) true p → SomeForm (Leaf p) (walk expand vars n path f)

  parts_leaf : (n : ℕ) → TrueHasLeaf n → (path : List Step) (f : Formula) → height f ≤ suc n → (x : ℕ) (parts : List (ℕ × Formula)) → Each (λ s. Below f s.1) parts → (p : Point) → IsPoint p
      → EachForm (Sound expand vars) (further n path (map (with_step x) parts)) → SomeIs (trees_of (map (existential_closure vars) (forms_of parts))) true p → SomeForm (Leaf p) (further n path (map (with_step x) parts))
  parts_leaf n again path f few x [] each p valid none some = absurd some
  parts_leaf n again path f few x (s ∷ parts) each p valid none some =
      let first = walk expand vars n (path ++ record { var = x; point = s.0 } ∷ []) s.1 in
      let rest = further n path (map (with_step x) parts) in
      let both = append-EachForm (Sound expand vars) first rest none in
      let less = each.0.less in
      SomeForm-append (Leaf p) first rest (elim some [
        | inl here ↦ inl (again (path ++ record { var = x; point = s.0 } ∷ []) s.1 each.0.good (omega arith) p valid both.0 here)
        | inr there ↦ inr (parts_leaf n again path f few x parts each.1 p valid both.1 there)
      ])

  is_leaf_of : (f : Formula) → remaining vars f ≡ [] → is_leaf expand vars f ≡ true
  is_leaf_of f gone = ap is_empty gone

  leaf_itself : (f : Formula) (p : Point) → remaining vars f ≡ [] → Is (existential_closure vars f) true p → Leaf p f
  leaf_itself f p gone t = (is_leaf_of f gone, subst (λ l. Is (under_ex l f) true p) gone t)

  pub true_has_leaf : (n : ℕ) → TrueHasLeaf n
  true_has_leaf zero path f good few p valid none t = by_kind (kind_of expand vars f)
    where
      by_kind : Kind expand vars f → SomeForm (Leaf p) (record { path = path; form = f } ∷ [])
      by_kind (leaf gone empty fine) = inl (leaf_itself f p gone t)
      by_kind (fails s empty fault) = absurd (let other = sym fault ∙ none.0 in cc)
      by_kind (grows x parts is all fine) =
          absurd (subst (λ ss. SomeIs (trees_of (map (existential_closure vars) (forms_of ss))) true p) (no_parts Good expand sound vars f good few x parts is) ((growth_keeps_truth Good expand sound vars f good x parts is p valid).0 t))
  true_has_leaf (suc n) path f good few p valid none t = by_kind (true_has_leaf n) (kind_of expand vars f)
    where
      by_kind : TrueHasLeaf n → Kind expand vars f → SomeForm (Leaf p) (record { path = path; form = f } ∷ further n path (below expand vars f))
      by_kind again (leaf gone empty fine) = inl (leaf_itself f p gone t)
      by_kind again (fails s empty fault) = absurd (let other = sym fault ∙ none.0 in cc)
      by_kind again (grows x parts is all fine) =
          inr (subst (λ ss. SomeForm (Leaf p) (further n path ss)) (sym all)
          (parts_leaf n again path f few x parts (each_below Good expand sound vars f good x parts is) p valid
          (subst (λ ss. EachForm (Sound expand vars) (further n path ss)) all none.1)
          ((growth_keeps_truth Good expand sound vars f good x parts is p valid).0 t)))
