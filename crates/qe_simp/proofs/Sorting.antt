-- A sorted list is determined by what it holds: what std's sort gives is the list in order.
use Rattle.std.proofs.Common.{◌≡◌, ◌∙◌, sym, ap, refl, subst, ℕ, suc, ◌+◌, ◌<◌, Bool, true, false, cond, List, [], ◌∷◌, map, get_or, arith}
use Rattle.std.specs.declared.cmp.Ordering.{Ordering}
use Rattle.std.specs.declared.cmp.Ordering.TheVariants.{Less, Equal, Greater}
use Rattle.std.specs.Ordering.{is_eq, is_gt, is_lt, ordering_reverse}
use Rattle.std.specs.Cmp.{tied_itself, tied_back, upto}
use Rattle.std.specs.List.{sum_by}
use Rattle.std.specs.List.Sorted.{IsPermutation, IsSorted}
use Rattle.std.proofs.lemmas.List.Sorted.{sum_by-IsPermutation, IsPermutation-map}
use Rattle.std.proofs.lemmas.List.Sums.{sum_by-cons}
use Rattle.qe_ring.proofs.Ties.{equal_tie}
use Rattle.qe_form.specs.declared.form.Form.{Form}
use Rattle.qe_form.specs.Formula.{Formula}
use Rattle.qe_form.specs.Tree.{tree}
use Rattle.qe_form.specs.Order.{formula_cmp}
use Rattle.qe_form.specs.OrderLaws.{formula_total, formula_same}
use Rattle.qe_simp.specs.Simplified.{insert, in_order}

-- f is not after g
abbrev pub IsUpTo : Formula → Formula → Type 0
IsUpTo f g = is_gt (formula_cmp f g) ≡ false

-- f is not after the first
abbrev pub IsUpToFirst : Formula → List Formula → Type 0
IsUpToFirst f [] = Unit {0}
IsUpToFirst f (g ∷ gs) = IsUpTo f g

-- no formula is after the next
abbrev pub Rising : List Formula → Type 0
Rising [] = Unit {0}
Rising (f ∷ fs) = IsUpToFirst f fs × Rising fs

-- 1 for a formula that ties with x, and 0 for others
abbrev tie : Formula → Formula → ℕ
tie x f = cond (is_eq (formula_cmp x f)) 1 0

-- ---- how often a formula stands in a list

abbrev occurs : Formula → List Formula → ℕ
occurs x [] = 0
occurs x (f ∷ fs) = tie x f + occurs x fs

occurs_is : (x : Formula) (fs : List Formula) → sum_by (tie x) fs ≡ occurs x fs
occurs_is x [] = refl
occurs_is x (f ∷ fs) = sum_by-cons (tie x) f fs ∙ ap (λ n. tie x f + n) (occurs_is x fs)

occurs-insert : (x f : Formula) (gs : List Formula) → occurs x (insert f gs) ≡ tie x f + occurs x gs
occurs-insert x f [] = refl
occurs-insert x f (g ∷ gs) = elim (is_gt (formula_cmp f g)) as (λ b. occurs x (cond b (g ∷ insert f gs) (f ∷ g ∷ gs)) ≡ tie x f + (tie x g + occurs x gs)) [
  | true ↦ omega (arith, occurs-insert x f gs)
  | false ↦ refl
]

occurs-in_order : (x : Formula) (fs : List Formula) → occurs x (in_order fs) ≡ occurs x fs
occurs-in_order x [] = refl
occurs-in_order x (f ∷ fs) = occurs-insert x f (in_order fs) ∙ ap (λ n. tie x f + n) (occurs-in_order x fs)

tie_itself : (f : Formula) → tie f f ≡ 1
tie_itself f = ap (λ r. cond (is_eq r) 1 0) (tied_itself formula_total f)

-- ---- the list in order rises

turned : (r : Ordering) → is_gt r ≡ true → is_gt (ordering_reverse r) ≡ false
turned Less after = absurd (cc)
turned Equal after = absurd (cc)
turned Greater after = refl

after_is : (f g : Formula) → is_gt (formula_cmp f g) ≡ true → IsUpTo g f
after_is f g after = ap is_gt (formula_total.antisymm g f) ∙ turned (formula_cmp f g) after

first-insert : (e f : Formula) (gs : List Formula) → IsUpTo e f → IsUpToFirst e gs → IsUpToFirst e (insert f gs)
first-insert e f [] up rest = up
first-insert e f (g ∷ gs) up rest = elim (is_gt (formula_cmp f g)) as (λ b. IsUpToFirst e (cond b (g ∷ insert f gs) (f ∷ g ∷ gs))) [ true ↦ rest | false ↦ up ]

Rising-insert : (f : Formula) (gs : List Formula) → Rising gs → Rising (insert f gs)
Rising-insert f [] rising = (tt, tt)
Rising-insert f (g ∷ gs) rising = by_test (Rising-insert f gs) (is_gt (formula_cmp f g)) refl
  where
    by_test : (Rising gs → Rising (insert f gs)) → (b : Bool) → is_gt (formula_cmp f g) ≡ b → Rising (cond b (g ∷ insert f gs) (f ∷ g ∷ gs))
    by_test again true after = (first-insert g f gs (after_is f g after) rising.0, again rising.1)
    by_test again false up = (up, rising)

pub Rising-in_order : (fs : List Formula) → Rising (in_order fs)
Rising-in_order [] = tt
Rising-in_order (f ∷ fs) = Rising-insert f (in_order fs) (Rising-in_order fs)

-- ---- rising lists with the same formulas are equal

-- the first is not after any that stands in the list
up_to_each : (f : Formula) (fs : List Formula) → Rising (f ∷ fs) → (x : Formula) → 0 < occurs x (f ∷ fs) → IsUpTo f x
up_to_each f [] rising x more = by_tie (is_eq (formula_cmp x f)) refl more
  where
    by_tie : (b : Bool) → is_eq (formula_cmp x f) ≡ b → 0 < cond b 1 0 + 0 → IsUpTo f x
    by_tie true tied some = ap is_gt (tied_back formula_total x f (equal_tie (formula_cmp x f) tied))
    by_tie false apart some = absurd (omega arith)
up_to_each f (g ∷ gs) rising x more = by_tie (up_to_each g gs rising.1 x) (is_eq (formula_cmp x f)) refl more
  where
    by_tie : (0 < occurs x (g ∷ gs) → IsUpTo g x) → (b : Bool) → is_eq (formula_cmp x f) ≡ b → 0 < cond b 1 0 + occurs x (g ∷ gs) → IsUpTo f x
    by_tie again true tied some = ap is_gt (tied_back formula_total x f (equal_tie (formula_cmp x f) tied))
    by_tie again false apart some = upto formula_total f g x rising.0 (again (omega arith))

level : (r : Ordering) → is_gt r ≡ false → is_gt (ordering_reverse r) ≡ false → r ≡ Equal
level Less up back = absurd (cc)
level Equal up back = refl
level Greater up back = absurd (cc)

both_up : (f g : Formula) → IsUpTo f g → IsUpTo g f → f ≡ g
both_up f g up back = formula_same f g (level (formula_cmp f g) up (sym (ap is_gt (formula_total.antisymm g f)) ∙ back))

same_list : (fs gs : List Formula) → Rising fs → Rising gs → ((x : Formula) → occurs x fs ≡ occurs x gs) → fs ≡ gs
same_list [] [] left right same = refl
same_list [] (g ∷ gs) left right same = absurd (omega (arith, same g, tie_itself g))
same_list (f ∷ fs) [] left right same = absurd (omega (arith, same f, tie_itself f))
same_list (f ∷ fs) (g ∷ gs) left right same =
    let first : f ≡ g = both_up f g (up_to_each f fs left g (omega (arith, same g, tie_itself g))) (up_to_each g gs right f (omega (arith, same f, tie_itself f))) in
    let rest : fs ≡ gs = same_list fs gs left.1 right.1 (λ x. (let tied : tie x f ≡ tie x g = ap (tie x) first in omega (arith, same x))) in
    λ i. first i ∷ rest i

-- ---- what the sort gives

not_less : (f g : Formula) → is_lt (formula_cmp g f) ≡ false → IsUpTo f g
not_less f g up = ap is_gt (formula_total.antisymm f g) ∙ turned_less (formula_cmp g f) up
  where
    turned_less : (r : Ordering) → is_lt r ≡ false → is_gt (ordering_reverse r) ≡ false
    turned_less Less less = absurd (cc)
    turned_less Equal less = refl
    turned_less Greater less = refl

rising_from : (fs : List Form) → IsSorted (λ f g. formula_cmp (tree f) (tree g)) fs → Rising (map tree fs)
rising_from [] sorted = tt
rising_from (f ∷ []) sorted = (tt, tt)
rising_from (f ∷ g ∷ gs) sorted = (
  not_less (tree f) (tree g) (let at : is_lt (formula_cmp (tree (get_or (f ∷ g ∷ gs) (0 + 1) f)) (tree f)) ≡ false = sorted 0 f (omega arith) (omega arith) in at),
  rising_from (g ∷ gs) (λ k d low high. (
      let next : suc k + 1 ≡ suc (k + 1) = omega arith in
      subst (λ n. is_lt (formula_cmp (tree (get_or (f ∷ g ∷ gs) n d)) (tree (get_or (g ∷ gs) k d))) ≡ false) next (sorted (suc k) d (omega arith) (omega arith)))),
)

pub sorted_is : (old new : List Form) → IsPermutation old new → IsSorted (λ f g. formula_cmp (tree f) (tree g)) new → map tree new ≡ in_order (map tree old)
sorted_is old new moved sorted = same_list (map tree new) (in_order (map tree old)) (rising_from new sorted) (Rising-in_order (map tree old))
    (λ x. sym (occurs_is x (map tree new)) ∙ (sum_by-IsPermutation (tie x) (map tree old) (map tree new) (IsPermutation-map tree old new moved) ∙ (occurs_is x (map tree old) ∙ sym (occurs-in_order x (map tree old)))))
