-- Two polynomials merged have the monomials of both, each with its two coefficients.
use Rattle.std.proofs.Common.{◌≡◌, refl, sym, ap, subst, ◌∙◌, true, false, cond, T, List, [], ◌∷◌, ◌++◌, Option, Some, None, ℤ, pos}
use Rattle.std.specs.declared.cmp.Ordering.TheVariants.{Less, Equal, Greater}
use Rattle.std.specs.Ordering.{is_eq, eq_by_cmp}
use Rattle.std.specs.Cmp.{alike_right}
use Rattle.std.specs.FinMap.Entries.{find, is_sorted, below_all, by_order, same_entries}
use Rattle.qe_poly.specs.Monomial.{Monomial, in_turn}
use Rattle.qe_poly.specs.Polynomial.{Term, Polynomial, Group, gathered, coefficient}
use Rattle.qe_poly.specs.Rows.{merged, merge_in}
use Rattle.qe_poly.proofs.Order.{turn_total, turn_same}
use Rattle.qe_poly.proofs.Sorted.{tied, less_back, below_first, below_rest, below_cons, below_sorted, sorted_first, sorted_rest, sorted_cons, find_before, under_keys, is_sorted-under_keys, new_value, find-under_keys}
use Rattle.qe_poly.proofs.Gathered.{at, unless_none, is_sorted-gathered, find-gathered}
use Rattle.qe_poly.proofs.Canonical.{or_zero, coefficient_found}

-- the rows of terms that the right polynomial alone has
abbrev right_row : Term → ℤ × ℤ
right_row u = (pos 0, u.1)

-- ---- what is found in the rows

abbrev pub both_found : Option ℤ → Option ℤ → Option (ℤ × ℤ)
both_found None None = None
both_found (Some a) None = Some (a, pos 0)
both_found None (Some b) = Some (pos 0, b)
both_found (Some a) (Some b) = Some (a, b)

left_alone : (a : ℤ) (b : Option ℤ) → b ≡ None → Some (a, pos 0) ≡ both_found (Some a) b
left_alone a b none = ap (both_found (Some a)) (sym none)

right_alone : (b : ℤ) (a : Option ℤ) → a ≡ None → Some (pos 0, b) ≡ both_found a (Some b)
right_alone b a none = ap (λ x. both_found x (Some b)) (sym none)

find-right : (m : Monomial) (q : Polynomial) → find in_turn m (merged [] q) ≡ both_found None (find in_turn m q)
find-right m [] = refl
find-right m (u ∷ us) =
    elim (eq_by_cmp in_turn m u.0) as (λ b. cond b (Some (pos 0, u.1)) (find in_turn m (merged [] us)) ≡ both_found None (cond b (Some u.1) (find in_turn m us))) [ true ↦ refl | false ↦ find-right m us ]

find-merge_in : (m : Monomial) (t : Term) (ts : Polynomial) → ((q : Polynomial) → T (is_sorted in_turn q) → find in_turn m (merged ts q) ≡ both_found (find in_turn m ts) (find in_turn m q))
    → T (is_sorted in_turn (t ∷ ts)) → (q : Polynomial) → T (is_sorted in_turn q) → find in_turn m (merge_in t (merged ts) q) ≡ both_found (find in_turn m (t ∷ ts)) (find in_turn m q)
find-merge_in m t ts rest left [] right =
    ap (cond (eq_by_cmp in_turn m t.0) (Some (t.1, pos 0))) (rest [] tt)
    ∙ elim (eq_by_cmp in_turn m t.0) as (λ b. cond b (Some (t.1, pos 0)) (both_found (find in_turn m ts) None) ≡ both_found (cond b (Some t.1) (find in_turn m ts)) None) [ true ↦ refl | false ↦ refl ]
find-merge_in m t ts rest left (u ∷ us) right =
    elim (in_turn t.0 u.0) as (λ r. in_turn t.0 u.0 ≡ r
    → find in_turn m (by_order r ((t.0, (t.1, pos 0)) ∷ merged ts (u ∷ us)) ((t.0, (t.1, u.1)) ∷ merged ts us) ((u.0, (pos 0, u.1)) ∷ merge_in t (merged ts) us))
    ≡ both_found (find in_turn m (t ∷ ts)) (find in_turn m (u ∷ us))) [
      | Less ↦ λ before. ap (cond (eq_by_cmp in_turn m t.0) (Some (t.1, pos 0))) (rest (u ∷ us) right)
          ∙ elim (eq_by_cmp in_turn m t.0) as (λ b. eq_by_cmp in_turn m t.0 ≡ b → cond b (Some (t.1, pos 0)) (both_found (find in_turn m ts) (find in_turn m (u ∷ us))) ≡ both_found (cond b (Some t.1) (find in_turn m ts)) (find in_turn m (u ∷ us))) [
            | true ↦ λ tie. left_alone t.1 (find in_turn m (u ∷ us)) (find_before m t.0 (u ∷ us) tie (below_sorted t.0 u us before right))
            | false ↦ λ other. refl
          ] refl
      | Equal ↦ λ tie. ap (cond (eq_by_cmp in_turn m t.0) (Some (t.1, u.1))) (rest us (sorted_rest u us right))
          ∙ (elim (eq_by_cmp in_turn m t.0) as (λ b. cond b (Some (t.1, u.1)) (both_found (find in_turn m ts) (find in_turn m us)) ≡ both_found (cond b (Some t.1) (find in_turn m ts)) (cond b (Some u.1) (find in_turn m us))) [ true ↦ refl | false ↦ refl ]
          ∙ ap (λ r. both_found (find in_turn m (t ∷ ts)) (cond (is_eq r) (Some u.1) (find in_turn m us))) (alike_right turn_total t.0 u.0 m tie))
      | Greater ↦ λ after. ap (cond (eq_by_cmp in_turn m u.0) (Some (pos 0, u.1))) (find-merge_in m t ts rest left us (sorted_rest u us right))
          ∙ elim (eq_by_cmp in_turn m u.0) as (λ b. eq_by_cmp in_turn m u.0 ≡ b → cond b (Some (pos 0, u.1)) (both_found (find in_turn m (t ∷ ts)) (find in_turn m us)) ≡ both_found (find in_turn m (t ∷ ts)) (cond b (Some u.1) (find in_turn m us))) [
            | true ↦ λ tie. right_alone u.1 (find in_turn m (t ∷ ts)) (find_before m u.0 (t ∷ ts) tie (below_sorted u.0 t ts (less_back t.0 u.0 after) left))
            | false ↦ λ other. refl
          ] refl
    ] refl

pub find-merged : (m : Monomial) (p q : Polynomial) → T (is_sorted in_turn p) → T (is_sorted in_turn q) → find in_turn m (merged p q) ≡ both_found (find in_turn m p) (find in_turn m q)
find-merged m [] q left right = find-right m q
find-merged m (t ∷ ts) q left right = find-merge_in m t ts (λ q right. find-merged m ts q (sorted_rest t ts left) right) left q right

-- ---- the rows are in turn

below-right : (m : Monomial) (q : Polynomial) → T (below_all in_turn m q) → T (below_all in_turn m (merged [] q))
below-right m [] below = tt
below-right m (u ∷ us) below = below_cons m (u.0, right_row u) (merged [] us) (below_first m u us below) (below-right m us (below_rest m u us below))

below-merge_in : (m : Monomial) (t : Term) (ts : Polynomial) → in_turn m t.0 ≡ Less → ((q : Polynomial) → T (below_all in_turn m q) → T (below_all in_turn m (merged ts q)))
    → (q : Polynomial) → T (below_all in_turn m q) → T (below_all in_turn m (merge_in t (merged ts) q))
below-merge_in m t ts before rest [] below = below_cons m (t.0, (t.1, pos 0)) (merged ts []) before (rest [] tt)
below-merge_in m t ts before rest (u ∷ us) below =
    elim (in_turn t.0 u.0) as (λ r. T (below_all in_turn m (by_order r ((t.0, (t.1, pos 0)) ∷ merged ts (u ∷ us)) ((t.0, (t.1, u.1)) ∷ merged ts us) ((u.0, (pos 0, u.1)) ∷ merge_in t (merged ts) us)))) [
      | Less ↦ below_cons m (t.0, (t.1, pos 0)) (merged ts (u ∷ us)) before (rest (u ∷ us) below)
      | Equal ↦ below_cons m (t.0, (t.1, u.1)) (merged ts us) before (rest us (below_rest m u us below))
      | Greater ↦ below_cons m (u.0, right_row u) (merge_in t (merged ts) us) (below_first m u us below) (below-merge_in m t ts before rest us (below_rest m u us below))
    ]

below-merged : (m : Monomial) (p q : Polynomial) → T (below_all in_turn m p) → T (below_all in_turn m q) → T (below_all in_turn m (merged p q))
below-merged m [] q left right = below-right m q right
below-merged m (t ∷ ts) q left right = below-merge_in m t ts (below_first m t ts left) (λ q right. below-merged m ts q (below_rest m t ts left) right) q right

sorted-merge_in : (t : Term) (ts : Polynomial) → ((q : Polynomial) → T (is_sorted in_turn q) → T (is_sorted in_turn (merged ts q)))
    → T (is_sorted in_turn (t ∷ ts)) → (q : Polynomial) → T (is_sorted in_turn q) → T (is_sorted in_turn (merge_in t (merged ts) q))
sorted-merge_in t ts rest left [] right = sorted_cons (t.0, (t.1, pos 0)) (merged ts []) (below-merged t.0 ts [] (sorted_first t ts left) tt) (rest [] tt)
sorted-merge_in t ts rest left (u ∷ us) right =
    elim (in_turn t.0 u.0) as (λ r. in_turn t.0 u.0 ≡ r → T (is_sorted in_turn (by_order r ((t.0, (t.1, pos 0)) ∷ merged ts (u ∷ us)) ((t.0, (t.1, u.1)) ∷ merged ts us) ((u.0, (pos 0, u.1)) ∷ merge_in t (merged ts) us)))) [
      | Less ↦ λ before. sorted_cons (t.0, (t.1, pos 0)) (merged ts (u ∷ us)) (below-merged t.0 ts (u ∷ us) (sorted_first t ts left) (below_sorted t.0 u us before right)) (rest (u ∷ us) right)
      | Equal ↦ λ tie. sorted_cons (t.0, (t.1, u.1)) (merged ts us)
          (below-merged t.0 ts us (sorted_first t ts left) (subst (λ m. T (below_all in_turn m us)) (sym (turn_same t.0 u.0 tie)) (sorted_first u us right))) (rest us (sorted_rest u us right))
      | Greater ↦ λ after. sorted_cons (u.0, right_row u) (merge_in t (merged ts) us)
          (below-merged u.0 (t ∷ ts) us (below_sorted u.0 t ts (less_back t.0 u.0 after) left) (sorted_first u us right)) (sorted-merge_in t ts rest left us (sorted_rest u us right))
    ] refl

pub is_sorted-merged : (p q : Polynomial) → T (is_sorted in_turn p) → T (is_sorted in_turn q) → T (is_sorted in_turn (merged p q))
is_sorted-merged [] q left right = is_sorted-under_keys right_row q right
is_sorted-merged (t ∷ ts) q left right = sorted-merge_in t ts (λ q right. is_sorted-merged ts q (sorted_rest t ts left) right) left q right

-- ---- the rows are the groups of the terms of both

abbrev listed : Option ℤ → List ℤ
listed None = []
listed (Some c) = c ∷ []

at-append : (m : Monomial) (ts us : List Term) → at m (ts ++ us) ≡ at m ts ++ at m us
at-append m [] us = refl
at-append m (t ∷ ts) us = elim (eq_by_cmp in_turn m t.0) as (λ b. cond b (t.1 ∷ at m (ts ++ us)) (at m (ts ++ us)) ≡ cond b (t.1 ∷ at m ts) (at m ts) ++ at m us) [
  | true ↦ ap (λ cs. t.1 ∷ cs) (at-append m ts us)
  | false ↦ at-append m ts us
]

at_below : (m : Monomial) (ts : List Term) → T (below_all in_turn m ts) → at m ts ≡ []
at_below m [] below = refl
at_below m (t ∷ ts) below = ap (λ r. cond (is_eq r) (t.1 ∷ at m ts) (at m ts)) (below_first m t ts below) ∙ at_below m ts (below_rest m t ts below)

at_found : (m : Monomial) (ts : List Term) → T (is_sorted in_turn ts) → at m ts ≡ listed (find in_turn m ts)
at_found m [] sorted = refl
at_found m (t ∷ ts) sorted =
    elim (eq_by_cmp in_turn m t.0) as (λ b. eq_by_cmp in_turn m t.0 ≡ b → cond b (t.1 ∷ at m ts) (at m ts) ≡ listed (cond b (Some t.1) (find in_turn m ts))) [
      | true ↦ λ tie. ap (λ cs. t.1 ∷ cs) (at_below m ts (subst (λ k. T (below_all in_turn k ts)) (sym (tied m t.0 tie)) (sorted_first t ts sorted)))
      | false ↦ λ other. at_found m ts (sorted_rest t ts sorted)
    ] refl

abbrev pub two : Polynomial → Polynomial → Monomial → ℤ × ℤ
two p q m = (coefficient p m, coefficient q m)

-- a pair where some number was found
abbrev if_some : Option (List ℤ) → ℤ × ℤ → Option (ℤ × ℤ)
if_some None pair = None
if_some (Some cs) pair = Some pair

both_listed : (a b : Option ℤ) → both_found a b ≡ if_some (unless_none (listed a ++ listed b)) (or_zero a, or_zero b)
both_listed None None = refl
both_listed (Some a) None = refl
both_listed None (Some b) = refl
both_listed (Some a) (Some b) = refl

abbrev pub two_of : Polynomial → Polynomial → Group → ℤ × ℤ
two_of p q g = two p q g.0

if_some_is : (p q : Polynomial) (m : Monomial) (found : Option (List ℤ)) → if_some found (two p q m) ≡ new_value (two_of p q) m found
if_some_is p q m None = refl
if_some_is p q m (Some cs) = refl

pub merged-is : (p q : Polynomial) → T (is_sorted in_turn p) → T (is_sorted in_turn q) → merged p q ≡ under_keys (two_of p q) (gathered (p ++ q))
merged-is p q left right =
    let groups = gathered (p ++ q) in
    let in_groups : (m : Monomial) → unless_none (listed (find in_turn m p) ++ listed (find in_turn m q)) ≡ find in_turn m groups =
    λ m. (λ i. unless_none (sym (at_found m p left) i ++ sym (at_found m q right) i)) ∙ (ap unless_none (sym (at-append m p q)) ∙ sym (find-gathered m (p ++ q))) in
    same_entries in_turn turn_total turn_same (merged p q) (under_keys (two_of p q) groups) (is_sorted-merged p q left right) (is_sorted-under_keys (two_of p q) groups (is_sorted-gathered (p ++ q)))
    (λ m. find-merged m p q left right ∙ (both_listed (find in_turn m p) (find in_turn m q)
    ∙ ((λ i. if_some (in_groups m i) (sym (coefficient_found p m left) i, sym (coefficient_found q m right) i))
    ∙ (if_some_is p q m (find in_turn m groups) ∙ sym (find-under_keys (two_of p q) m groups)))))
