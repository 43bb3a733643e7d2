-- Facts of the places of a tree, by the three kinds of nodes.
use Rattle.std.proofs.Common.{ℕ, zero, suc, ◌≡◌, ◌≢◌, ◌∙◌, sym, ap, refl, subst, ◌<◌, ◌≤◌, inl, inr, ◌⊎◌, List, [], ◌∷◌, ◌++◌, map, Some, None, arith}
use Rattle.std.specs.List.{flat_map}
use Rattle.qe_form.specs.Formula.{Formula}
use Rattle.qe_form.specs.Measures.{Has, count}
use Rattle.qe_tree.specs.Variables.{remaining}
use Rattle.qe_tree.specs.Expanded.{Expanded, Expansion, successors, failed}
use Rattle.qe_tree.specs.Tree.{Step, Place, unless_leaf, grown, failure_of, below, failure, height, walk}
use Rattle.qe_tree.specs.Sound.{Each, forms_of, IsSound}

-- P of the formula of each place, and of some
abbrev pub EachForm : (Formula → Type 0) → List Place → Type 0
EachForm P [] = Unit {0}
EachForm P (p ∷ ps) = P p.form × EachForm P ps

abbrev pub SomeForm : (Formula → Type 0) → List Place → Type 0
SomeForm P [] = ⊥
SomeForm P (p ∷ ps) = P p.form ⊎ SomeForm P ps

pub EachForm-append : (P : Formula → Type 0) (ps qs : List Place) → EachForm P ps → EachForm P qs → EachForm P (ps ++ qs)
EachForm-append P [] qs a b = b
EachForm-append P (p ∷ ps) qs a b = (a.0, EachForm-append P ps qs a.1 b)

pub append-EachForm : (P : Formula → Type 0) (ps qs : List Place) → EachForm P (ps ++ qs) → EachForm P ps × EachForm P qs
append-EachForm P [] qs h = (tt, h)
append-EachForm P (p ∷ ps) qs h = let w = append-EachForm P ps qs h.1 in ((h.0, w.0), w.1)

pub append-SomeForm : (P : Formula → Type 0) (ps qs : List Place) → SomeForm P (ps ++ qs) → SomeForm P ps ⊎ SomeForm P qs
append-SomeForm P [] qs h = inr h
append-SomeForm P (p ∷ ps) qs h = elim h [ inl x ↦ inl (inl x) | inr y ↦ elim (append-SomeForm P ps qs y) [ inl z ↦ inl (inr z) | inr z ↦ inr z ] ]

pub SomeForm-append : (P : Formula → Type 0) (ps qs : List Place) → SomeForm P ps ⊎ SomeForm P qs → SomeForm P (ps ++ qs)
SomeForm-append P [] qs h = elim h [ inl x ↦ absurd x | inr y ↦ y ]
SomeForm-append P (p ∷ ps) qs h = elim h [ inl x ↦ elim x [ inl y ↦ inl y | inr z ↦ inr (SomeForm-append P ps qs (inl z)) ] | inr w ↦ inr (SomeForm-append P ps qs (inr w)) ]

-- the step to a successor, and its formula
abbrev pub with_step : ℕ → ℕ × Formula → Step × Formula
with_step x s = (record { var = x; point = s.0 }, s.1)

module _ {F : Type 0} (expand : Expansion F) (vars : List ℕ) where
  -- the three kinds of nodes
  pub data Kind (f : Formula) : Type 0 where
    leaf : remaining vars f ≡ [] → below expand vars f ≡ [] → failure expand vars f ≡ None → Kind f
    fails : (s : F) → below expand vars f ≡ [] → failure expand vars f ≡ Some s → Kind f
    grows : (x : ℕ) (parts : List (ℕ × Formula)) → expand.becomes (remaining vars f) f ≡ successors x parts
        → below expand vars f ≡ map (with_step x) parts → failure expand vars f ≡ None → Kind f

  pub kind_of : (f : Formula) → Kind f
  kind_of f = by_left (remaining vars f) refl
    where
      by_expanded : (y : ℕ) (ys : List ℕ) → remaining vars f ≡ y ∷ ys → (e : Expanded F) → expand.becomes (remaining vars f) f ≡ e → Kind f
      by_expanded y ys left (failed s) is =
          fails s
          (ap (λ l. unless_leaf l [] (grown (expand.becomes (remaining vars f) f))) left ∙ ap grown is)
          (ap (λ l. unless_leaf l None (failure_of (expand.becomes (remaining vars f) f))) left ∙ ap failure_of is)
      by_expanded y ys left (successors x parts) is =
          grows x parts is
          (ap (λ l. unless_leaf l [] (grown (expand.becomes (remaining vars f) f))) left ∙ ap grown is)
          (ap (λ l. unless_leaf l None (failure_of (expand.becomes (remaining vars f) f))) left ∙ ap failure_of is)

      by_left : (l : List ℕ) → remaining vars f ≡ l → Kind f
      by_left [] left = leaf left (ap (λ l. unless_leaf l [] (grown (expand.becomes (remaining vars f) f))) left) (ap (λ l. unless_leaf l None (failure_of (expand.becomes (remaining vars f) f))) left)
      by_left (y ∷ ys) left = by_expanded y ys left (expand.becomes (remaining vars f) f) refl

module _ {F : Type 0} (Good : Formula → Type 0) (expand : Expansion F) (sound : IsSound Good expand) (vars : List ℕ) where
  abbrev pub height_of : Formula → ℕ
  height_of f = height expand vars f

  -- what is known of a successor g of f
  pub record IsBelow (f g : Formula) : Type 0 where
    pub good : Good g
    pub less : height_of g < height_of f
    pub small : count g ≤ 65538
    pub has : (y : ℕ) → Has y g → Has y f

  grown_below : (f : Formula) (x : ℕ) (parts : List (ℕ × Formula)) → Each Good (forms_of parts) → Each (λ g. height_of g < height_of f) (forms_of parts)
      → Each (λ g. (y : ℕ) → Has y g → Has y f × (y ≢ x)) (forms_of parts) → Each (λ g. count g ≤ 65538) (forms_of parts) → Each (λ s. IsBelow f s.1) parts
  grown_below f x [] good falls fewer small = tt
  grown_below f x (s ∷ parts) good falls fewer small =
      (record { good = good.0; less = falls.0; small = small.0; has = λ y h. (fewer.0 y h).0 }, grown_below f x parts good.1 falls.1 fewer.1 small.1)

  pub each_below : (f : Formula) → Good f → (x : ℕ) (parts : List (ℕ × Formula)) → expand.becomes (remaining vars f) f ≡ successors x parts → Each (λ s. IsBelow f s.1) parts
  each_below f good x parts is = let grown = sound.grows vars f good x parts is in grown_below f x parts grown.good (sound.falls vars f good x parts is) grown.fewer grown.small

  with_steps : (x : ℕ) (f : Formula) (parts : List (ℕ × Formula)) → Each (λ s. IsBelow f s.1) parts → Each (λ s. IsBelow f s.1) (map (with_step x) parts)
  with_steps x f [] each = tt
  with_steps x f (s ∷ parts) each = (each.0, with_steps x f parts each.1)

  pub all_below : (f : Formula) → Good f → Each (λ s. IsBelow f s.1) (below expand vars f)
  all_below f good = elim (kind_of expand vars f) [
    | leaf left none fine ↦ subst (Each (λ s. IsBelow f s.1)) (sym none) tt
    | fails s none fault ↦ subst (Each (λ s. IsBelow f s.1)) (sym none) tt
    | grows x parts is all fine ↦ subst (Each (λ s. IsBelow f s.1)) (sym all) (with_steps x f parts (each_below f good x parts is))
  ]

  -- ---- more steps than the height change nothing

  pub no_parts : (f : Formula) → Good f → height_of f ≤ 0 → (x : ℕ) (parts : List (ℕ × Formula)) → expand.becomes (remaining vars f) f ≡ successors x parts → parts ≡ []
  no_parts f good few x [] is = refl
  no_parts f good few x (s ∷ parts) is = absurd (let less = (each_below f good x (s ∷ parts) is).0.less in omega (arith, few, less))

  none_below : (f : Formula) → Good f → height_of f ≤ 0 → below expand vars f ≡ []
  none_below f good few = elim (kind_of expand vars f) [
    | leaf left none fine ↦ none
    | fails s none fault ↦ none
    | grows x parts is all fine ↦ all ∙ ap (map (with_step x)) (no_parts f good few x parts is)
  ]

  abbrev SameWalks : ℕ → ℕ → Type 0
  SameWalks n m = (path : List Step) (f : Formula) → Good f → height_of f ≤ n → height_of f ≤ m → walk expand vars n path f ≡ walk expand vars m path f

  flat_same : (n m : ℕ) → SameWalks n m → (path : List Step) (f : Formula) → height_of f ≤ suc n → height_of f ≤ suc m → (ss : List (Step × Formula)) → Each (λ s. IsBelow f s.1) ss
      → flat_map (λ s. walk expand vars n (path ++ s.0 ∷ []) s.1) ss ≡ flat_map (λ s. walk expand vars m (path ++ s.0 ∷ []) s.1) ss
  flat_same n m same path f few few_too [] each = refl
  flat_same n m same path f few few_too (s ∷ ss) each =
      let less = each.0.less in
      λ i. same (path ++ s.0 ∷ []) s.1 each.0.good (omega arith) (omega arith) i ++ flat_same n m same path f few few_too ss each.1 i

  pub walks_same : (n m : ℕ) → SameWalks n m
  walks_same zero zero path f good few few_too = refl
  walks_same zero (suc m) path f good few few_too = ap (λ ss. record { path = path; form = f } ∷ flat_map (λ s. walk expand vars m (path ++ s.0 ∷ []) s.1) ss) (sym (none_below f good few))
  walks_same (suc n) zero path f good few few_too = ap (λ ss. record { path = path; form = f } ∷ flat_map (λ s. walk expand vars n (path ++ s.0 ∷ []) s.1) ss) (none_below f good few_too)
  walks_same (suc n) (suc m) path f good few few_too = ap (λ ps. record { path = path; form = f } ∷ ps) (flat_same n m (walks_same n m) path f few few_too (below expand vars f) (all_below f good))

  -- the places from a node on
  abbrev pub from : List Step → Formula → List Place
  from path f = walk expand vars (height_of f) path f

  -- a node, and the places from its successors on
  abbrev pub from_each : List Step → List (Step × Formula) → List Place
  from_each path ss = flat_map (λ s. from (path ++ s.0 ∷ []) s.1) ss

  flat_from : (n : ℕ) (path : List Step) (f : Formula) → height_of f ≤ suc n → (ss : List (Step × Formula)) → Each (λ s. IsBelow f s.1) ss
      → flat_map (λ s. walk expand vars n (path ++ s.0 ∷ []) s.1) ss ≡ from_each path ss
  flat_from n path f few [] each = refl
  flat_from n path f few (s ∷ ss) each =
      let less = each.0.less in
      λ i. walks_same n (height_of s.1) (path ++ s.0 ∷ []) s.1 each.0.good (omega arith) (omega arith) i ++ flat_from n path f few ss each.1 i

  pub from_is : (path : List Step) (f : Formula) → Good f → from path f ≡ record { path = path; form = f } ∷ from_each path (below expand vars f)
  from_is path f good =
      walks_same (height_of f) (suc (height_of f)) path f good (omega arith) (omega arith)
      ∙ ap (λ ps. record { path = path; form = f } ∷ ps) (flat_from (height_of f) path f (omega arith) (below expand vars f) (all_below f good))

  -- ---- facts of all places

  -- what holds of a node and passes to successors holds of each place
  module _ (P : Formula → Type 0) (passes : (f g : Formula) → Good f → P f → IsBelow f g → P g) where
    each_flat : (n : ℕ) → ((path : List Step) (f : Formula) → Good f → P f → EachForm P (walk expand vars n path f)) → (path : List Step) (f : Formula) → Good f → P f
        → (ss : List (Step × Formula)) → Each (λ s. IsBelow f s.1) ss → EachForm P (flat_map (λ s. walk expand vars n (path ++ s.0 ∷ []) s.1) ss)
    each_flat n again path f good h [] each = tt
    each_flat n again path f good h (s ∷ ss) each =
        EachForm-append P (walk expand vars n (path ++ s.0 ∷ []) s.1) (flat_map (λ s. walk expand vars n (path ++ s.0 ∷ []) s.1) ss)
        (again (path ++ s.0 ∷ []) s.1 each.0.good (passes f s.1 good h each.0))
        (each_flat n again path f good h ss each.1)

    pub each_walk : (n : ℕ) (path : List Step) (f : Formula) → Good f → P f → EachForm P (walk expand vars n path f)
    each_walk zero path f good h = (h, tt)
    each_walk (suc n) path f good h = (h, each_flat n (each_walk n) path f good h (below expand vars f) (all_below f good))

  pub good_walk : (n : ℕ) (path : List Step) (f : Formula) → Good f → EachForm Good (walk expand vars n path f)
  good_walk n path f good = each_walk Good (λ f g good h w. w.good) n path f good good

  -- no place has a further variable
  pub has_walk : (n : ℕ) (path : List Step) (f : Formula) → Good f → EachForm (λ g. (y : ℕ) → Has y g → Has y f) (walk expand vars n path f)
  has_walk n path f good = each_walk (λ g. (y : ℕ) → Has y g → Has y f) (λ g h good_g has w y k. has y (w.has y k)) n path f good (λ y k. k)
