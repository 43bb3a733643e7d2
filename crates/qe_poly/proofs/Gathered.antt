-- Terms brought together by their monomials.
use Rattle.std.proofs.Common.{◌≡◌, refl, sym, ap, subst, ◌∙◌, Bool, true, false, cond, T, List, [], ◌∷◌, Option, Some, None, ℤ}
use Rattle.std.specs.declared.cmp.Ordering.TheVariants.{Less, Equal, Greater}
use Rattle.std.specs.Ordering.{is_eq, eq_by_cmp}
use Rattle.std.specs.Cmp.{alike_right}
use Rattle.std.specs.FinMap.Entries.{find, is_sorted, below_all, by_order}
use Rattle.qe_poly.specs.Monomial.{Monomial, in_turn, IsMonomial}
use Rattle.qe_poly.specs.Polynomial.{Term, with_first, enter, gathered}
use Rattle.qe_poly.proofs.Order.{turn_total}
use Rattle.qe_poly.proofs.Sorted.{Each, equal, tied, less_back, below_first, below_rest, below_cons, below_before, below_sorted, sorted_first, sorted_rest, sorted_cons, find_below}

-- the coefficients that stand at a monomial
abbrev pub at : Monomial → List Term → List ℤ
at m [] = []
at m (t ∷ ts) = cond (eq_by_cmp in_turn m t.0) (t.1 ∷ at m ts) (at m ts)

abbrev pub unless_none : List ℤ → Option (List ℤ)
unless_none [] = None
unless_none (c ∷ cs) = Some (c ∷ cs)

-- ---- what is entered stays in turn

module _ {V : Type 0} (more : Option V → ℤ → V) where
  below-enter : (m : Monomial) (t : Term) (gs : List (Monomial × V)) → in_turn m t.0 ≡ Less → T (below_all in_turn m gs) → T (below_all in_turn m (enter more t gs))
  below-enter m t [] before below = below_cons m (t.0, more None t.1) [] before tt
  below-enter m t (g ∷ gs) before below =
      elim (in_turn t.0 g.0) as (λ r. T (below_all in_turn m (by_order r ((t.0, more None t.1) ∷ g ∷ gs) ((g.0, more (Some g.1) t.1) ∷ gs) (g ∷ enter more t gs)))) [
        | Less ↦ below_cons m (t.0, more None t.1) (g ∷ gs) before below
        | Equal ↦ below
        | Greater ↦ below_cons m g (enter more t gs) (below_first m g gs below) (below-enter m t gs before (below_rest m g gs below))
      ]

  pub is_sorted-enter : (t : Term) (gs : List (Monomial × V)) → T (is_sorted in_turn gs) → T (is_sorted in_turn (enter more t gs))
  is_sorted-enter t [] sorted = tt
  is_sorted-enter t (g ∷ gs) sorted =
      elim (in_turn t.0 g.0) as (λ r. in_turn t.0 g.0 ≡ r → T (is_sorted in_turn (by_order r ((t.0, more None t.1) ∷ g ∷ gs) ((g.0, more (Some g.1) t.1) ∷ gs) (g ∷ enter more t gs)))) [
        | Less ↦ λ before. sorted_cons (t.0, more None t.1) (g ∷ gs) (below_sorted t.0 g gs before sorted) sorted
        | Equal ↦ λ tie. sorted
        | Greater ↦ λ after. sorted_cons g (enter more t gs)
            (below-enter g.0 t gs (less_back t.0 g.0 after) (sorted_first g gs sorted))
            (is_sorted-enter t gs (sorted_rest g gs sorted))
      ] refl

  Each-enter : (t : Term) (gs : List (Monomial × V)) → IsMonomial t.0 → Each (λ g. IsMonomial g.0) gs → Each (λ g. IsMonomial g.0) (enter more t gs)
  Each-enter t [] monomial each = (monomial, tt)
  Each-enter t (g ∷ gs) monomial each =
      elim (in_turn t.0 g.0) as (λ r. Each (λ g. IsMonomial g.0) (by_order r ((t.0, more None t.1) ∷ g ∷ gs) ((g.0, more (Some g.1) t.1) ∷ gs) (g ∷ enter more t gs))) [
        | Less ↦ (monomial, each)
        | Equal ↦ each
        | Greater ↦ (each.0, Each-enter t gs monomial each.1)
      ]

pub is_sorted-gathered : (ts : List Term) → T (is_sorted in_turn (gathered ts))
is_sorted-gathered [] = tt
is_sorted-gathered (t ∷ ts) = is_sorted-enter with_first t (gathered ts) (is_sorted-gathered ts)

pub Each-gathered : (ts : List Term) → Each (λ t. IsMonomial t.0) ts → Each (λ g. IsMonomial g.0) (gathered ts)
Each-gathered [] each = tt
Each-gathered (t ∷ ts) each = Each-enter with_first t (gathered ts) each.0 (Each-gathered ts each.1)

-- ---- what the groups hold

-- a test that is repeated
shadowed : {A : Type 0} (b : Bool) (x y z : A) → cond b x z ≡ cond b x (cond b y z)
shadowed true x y z = refl
shadowed false x y z = refl

swapped : {A : Type 0} (a b : Bool) (x y z : A) → (T a → T b → ⊥) → cond a x (cond b y z) ≡ cond b y (cond a x z)
swapped true true x y z apart = absurd (apart tt tt)
swapped true false x y z apart = refl
swapped false b x y z apart = refl

-- two monomials that tie with a third tie
joins : (m n k : Monomial) → T (eq_by_cmp in_turn m n) → T (eq_by_cmp in_turn m k) → in_turn n k ≡ Equal
joins m n k left right = sym (turn_total.congr m n k (equal (in_turn m n) left)) ∙ equal (in_turn m k) right

apart : (m n k : Monomial) → in_turn n k ≡ Greater → T (eq_by_cmp in_turn m k) → T (eq_by_cmp in_turn m n) → ⊥
apart m n k after left right = subst (λ r. T (is_eq r)) (sym (joins m n k right left) ∙ after) tt

pub find-enter : {V : Type 0} (more : Option V → ℤ → V) (m : Monomial) (t : Term) (gs : List (Monomial × V)) → T (is_sorted in_turn gs)
    → find in_turn m (enter more t gs) ≡ cond (eq_by_cmp in_turn m t.0) (Some (more (find in_turn t.0 gs) t.1)) (find in_turn m gs)
find-enter more m t [] sorted = refl
find-enter more m t (g ∷ gs) sorted =
    elim (in_turn t.0 g.0) as (λ r. in_turn t.0 g.0 ≡ r
    → find in_turn m (by_order r ((t.0, more None t.1) ∷ g ∷ gs) ((g.0, more (Some g.1) t.1) ∷ gs) (g ∷ enter more t gs))
    ≡ cond (eq_by_cmp in_turn m t.0) (Some (more (cond (is_eq r) (Some g.1) (find in_turn t.0 gs)) t.1)) (find in_turn m (g ∷ gs))) [
      | Less ↦ λ before. ap (λ v. cond (eq_by_cmp in_turn m t.0) (Some (more v t.1)) (find in_turn m (g ∷ gs)))
          (sym (find_below t.0 gs (below_before t.0 g.0 gs before (sorted_first g gs sorted))))
      | Equal ↦ λ tie. shadowed (eq_by_cmp in_turn m g.0) (Some (more (Some g.1) t.1)) (Some g.1) (find in_turn m gs)
          ∙ ap (λ r. cond (is_eq r) (Some (more (Some g.1) t.1)) (find in_turn m (g ∷ gs))) (sym (alike_right turn_total t.0 g.0 m tie))
      | Greater ↦ λ after. ap (cond (eq_by_cmp in_turn m g.0) (Some g.1)) (find-enter more m t gs (sorted_rest g gs sorted))
          ∙ swapped (eq_by_cmp in_turn m g.0) (eq_by_cmp in_turn m t.0) (Some g.1) (Some (more (find in_turn t.0 gs) t.1)) (find in_turn m gs) (apart m t.0 g.0 after)
    ] refl

some_more : (c : ℤ) (cs : List ℤ) → Some (with_first (unless_none cs) c) ≡ unless_none (c ∷ cs)
some_more c [] = refl
some_more c (d ∷ cs) = refl

-- a monomial's group holds what stands at it
pub find-gathered : (m : Monomial) (ts : List Term) → find in_turn m (gathered ts) ≡ unless_none (at m ts)
find-gathered m [] = refl
find-gathered m (t ∷ ts) = find-enter with_first m t (gathered ts) (is_sorted-gathered ts)
    ∙ elim (eq_by_cmp in_turn m t.0) as (λ b. eq_by_cmp in_turn m t.0 ≡ b
    → cond b (Some (with_first (find in_turn t.0 (gathered ts)) t.1)) (find in_turn m (gathered ts)) ≡ unless_none (cond b (t.1 ∷ at m ts) (at m ts))) [
      | true ↦ λ tie. ap (λ v. Some (with_first v t.1)) (find-gathered t.0 ts)
          ∙ (some_more t.1 (at t.0 ts) ∙ ap (λ k. unless_none (t.1 ∷ at k ts)) (sym (tied m t.0 tie)))
      | false ↦ λ other. find-gathered m ts
    ] refl
