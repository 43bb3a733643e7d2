-- What stands in a list at each key: the signs of all parts with that key, joined. The merged parts in order are determined by it.
use Rattle.std.proofs.Common.{◌≡◌, ◌∙◌, sym, ap, refl, subst, Bool, true, false, cond, List, [], ◌∷◌, ◌++◌, Option, Some, None}
use Rattle.std.specs.declared.cmp.Ordering.{Ordering}
use Rattle.std.specs.declared.cmp.Ordering.TheVariants.{Less, Equal, Greater}
use Rattle.std.specs.Ordering.{is_eq, is_gt, ordering_reverse}
use Rattle.std.specs.Cmp.{tied_itself}
use Rattle.qe_form.specs.declared.signs.Signs.{Signs}
use Rattle.qe_form.specs.Formula.{Formula}
use Rattle.qe_form.specs.Order.{formula_cmp}
use Rattle.qe_form.specs.OrderLaws.{formula_total, formula_same}
use Rattle.qe_simp.specs.declared.connective.Connective.{Connective}
use Rattle.qe_simp.specs.Simplified.{joined_signs, insert, in_order, as_one, one_or_two, merged_from, merged_parts}
use Rattle.qe_simp.proofs.Keys.{key, signs_of, same_part, joined_comm, joined_assoc, joined_same, One, one_of, apart_of, key_up}
use Rattle.qe_ring.proofs.Ties.{equal_tie}
use Rattle.qe_simp.proofs.Sorting.{Rising, Rising-in_order}

-- ---- signs that may be missing

abbrev pub join : Connective → Option Signs → Option Signs → Option Signs
join k None t = t
join k (Some s) None = Some s
join k (Some s) (Some t) = Some (joined_signs k s t)

pub join_none : (k : Connective) (s : Option Signs) → join k s None ≡ s
join_none k None = refl
join_none k (Some s) = refl

pub join_comm : (k : Connective) (s t : Option Signs) → join k s t ≡ join k t s
join_comm k None None = refl
join_comm k None (Some t) = refl
join_comm k (Some s) None = refl
join_comm k (Some s) (Some t) = ap Some (joined_comm k s t)

pub join_assoc : (k : Connective) (s t u : Option Signs) → join k (join k s t) u ≡ join k s (join k t u)
join_assoc k None t u = refl
join_assoc k (Some s) None u = refl
join_assoc k (Some s) (Some t) None = refl
join_assoc k (Some s) (Some t) (Some u) = ap Some (joined_assoc k s t u)

pub join_same : (k : Connective) (s : Option Signs) → join k s s ≡ s
join_same k None = refl
join_same k (Some s) = ap Some (joined_same k s)

join_swap : (k : Connective) (s t u : Option Signs) → join k s (join k t u) ≡ join k t (join k s u)
join_swap k s t u = sym (join_assoc k s t u) ∙ (ap (λ v. join k v u) (join_comm k s t) ∙ join_assoc k t s u)

-- ---- contents

-- the signs of the part, where x is its key
abbrev pub at : Formula → Formula → Option Signs
at x f = cond (is_eq (formula_cmp x (key f))) (Some (signs_of f)) None

abbrev pub content : Connective → Formula → List Formula → Option Signs
content k x [] = None
content k x (f ∷ fs) = join k (at x f) (content k x fs)

pub content-append : (k : Connective) (x : Formula) (fs gs : List Formula) → content k x (fs ++ gs) ≡ join k (content k x fs) (content k x gs)
content-append k x [] gs = refl
content-append k x (f ∷ fs) gs = ap (join k (at x f)) (content-append k x fs gs) ∙ sym (join_assoc k (at x f) (content k x fs) (content k x gs))

content-insert : (k : Connective) (x f : Formula) (gs : List Formula) → content k x (insert f gs) ≡ join k (at x f) (content k x gs)
content-insert k x f [] = refl
content-insert k x f (g ∷ gs) = elim (is_gt (formula_cmp f g)) as (λ b. content k x (cond b (g ∷ insert f gs) (f ∷ g ∷ gs)) ≡ join k (at x f) (join k (at x g) (content k x gs))) [
  | true ↦ ap (join k (at x g)) (content-insert k x f gs) ∙ join_swap k (at x g) (at x f) (content k x gs)
  | false ↦ refl
]

content-in_order : (k : Connective) (x : Formula) (fs : List Formula) → content k x (in_order fs) ≡ content k x fs
content-in_order k x [] = refl
content-in_order k x (f ∷ fs) = content-insert k x f (in_order fs) ∙ ap (join k (at x f)) (content-in_order k x fs)

at_one : (k : Connective) (x f g h : Formula) → One k f g h → at x h ≡ join k (at x f) (at x g)
at_one k x f g h one =
    (λ i. cond (is_eq (formula_cmp x (one.kept i))) (Some (one.joined i)) None)
    ∙ (by_test (is_eq (formula_cmp x (key f))) ∙ ap (λ y. join k (at x f) (cond (is_eq (formula_cmp x y)) (Some (signs_of g)) None)) one.same)
  where
    by_test : (t : Bool) → cond t (Some (joined_signs k (signs_of f) (signs_of g))) None ≡ join k (cond t (Some (signs_of f)) None) (cond t (Some (signs_of g)) None)
    by_test true = refl
    by_test false = refl

content-merged_from : (k : Connective) (x f : Formula) (gs : List Formula) → content k x (merged_from k f gs) ≡ join k (at x f) (content k x gs)
content-merged_from k x f [] = refl
content-merged_from k x f (g ∷ gs) = by_one (λ h. content-merged_from k x h gs) (as_one k f g) refl
  where
    by_one : ((h : Formula) → content k x (merged_from k h gs) ≡ join k (at x h) (content k x gs)) → (o : Option Formula) → as_one k f g ≡ o → content k x (one_or_two o (λ h. merged_from k h gs) (f ∷ merged_from k g gs)) ≡ join k (at x f) (join k (at x g) (content k x gs))
    by_one again None is = ap (join k (at x f)) (again g)
    by_one again (Some h) is = again h ∙ (ap (λ o. join k o (content k x gs)) (at_one k x f g h (one_of k f g h is)) ∙ join_assoc k (at x f) (at x g) (content k x gs))

content-merged : (k : Connective) (x : Formula) (fs : List Formula) → content k x (merged_parts k fs) ≡ content k x fs
content-merged k x [] = refl
content-merged k x (f ∷ fs) = content-merged_from k x f fs

-- the parts in order, merged
abbrev pub ordered : Connective → List Formula → List Formula
ordered k fs = merged_parts k (in_order fs)

pub content-ordered : (k : Connective) (x : Formula) (fs : List Formula) → content k x (ordered k fs) ≡ content k x fs
content-ordered k x fs = content-merged k x (in_order fs) ∙ content-in_order k x fs

-- ---- lists whose keys ascend

abbrev IsBeforeFirst : Formula → List Formula → Type 0
IsBeforeFirst x [] = Unit {0}
IsBeforeFirst x (g ∷ gs) = formula_cmp x (key g) ≡ Less

abbrev pub Ascending : List Formula → Type 0
Ascending [] = Unit {0}
Ascending (f ∷ fs) = IsBeforeFirst (key f) fs × Ascending fs

before_rest : (x f : Formula) (fs : List Formula) → formula_cmp x (key f) ≡ Less → IsBeforeFirst (key f) fs → IsBeforeFirst x fs
before_rest x f [] first rest = tt
before_rest x f (g ∷ gs) first rest = formula_total.trans x (key f) (key g) first rest

no_content : (k : Connective) (x : Formula) (fs : List Formula) → IsBeforeFirst x fs → Ascending fs → content k x fs ≡ None
no_content k x [] before ascending = refl
no_content k x (f ∷ fs) before ascending =
    ap (λ r. join k (cond (is_eq r) (Some (signs_of f)) None) (content k x fs)) before ∙ no_content k x fs (before_rest x f fs before ascending.0) ascending.1

pub content_first : (k : Connective) (f : Formula) (fs : List Formula) → Ascending (f ∷ fs) → content k (key f) (f ∷ fs) ≡ Some (signs_of f)
content_first k f fs ascending =
    (λ i. join k (cond (is_eq (tied_itself formula_total (key f) i)) (Some (signs_of f)) None) (no_content k (key f) fs ascending.0 ascending.1 i))

pub content_apart : (k : Connective) (x f : Formula) (fs : List Formula) → is_eq (formula_cmp x (key f)) ≡ false → content k x (f ∷ fs) ≡ content k x fs
content_apart k x f fs test = ap (λ t. join k (cond t (Some (signs_of f)) None) (content k x fs)) test

no_none : (s : Signs) → None ≡ Some s → ⊥
no_none s same = absurd (cc)

some_same : (s t : Signs) → Some s ≡ Some t → s ≡ t
some_same s t same = cc

-- lists whose keys ascend are equal where the contents are
pub same_list : (k : Connective) (fs gs : List Formula) → Ascending fs → Ascending gs → ((x : Formula) → content k x fs ≡ content k x gs) → fs ≡ gs
same_list k [] [] left right same = refl
same_list k [] (g ∷ gs) left right same = absurd (no_none (signs_of g) (same (key g) ∙ content_first k g gs right))
same_list k (f ∷ fs) [] left right same = absurd (no_none (signs_of f) (sym (same (key f)) ∙ content_first k f fs left))
same_list k (f ∷ fs) (g ∷ gs) left right same = by_order (same_list k fs gs left.1 right.1) (formula_cmp (key f) (key g)) refl
  where
    by_order : (((x : Formula) → content k x fs ≡ content k x gs) → fs ≡ gs) → (o : Ordering) → formula_cmp (key f) (key g) ≡ o → f ∷ fs ≡ g ∷ gs
    by_order again Less o = absurd (no_none (signs_of f) (sym (no_content k (key f) (g ∷ gs) o right) ∙ (sym (same (key f)) ∙ content_first k f fs left)))
    by_order again Greater o =
        let turned : formula_cmp (key g) (key f) ≡ Less = formula_total.antisymm (key g) (key f) ∙ ap ordering_reverse o in
        absurd (no_none (signs_of g) (sym (no_content k (key g) (f ∷ fs) turned left) ∙ (same (key g) ∙ content_first k g gs right)))
    by_order again Equal o =
        let keys : key f ≡ key g = formula_same (key f) (key g) o in
        let signs : signs_of f ≡ signs_of g = some_same (signs_of f) (signs_of g) (sym (content_first k f fs left) ∙ (same (key f) ∙ (ap (λ x. content k x (g ∷ gs)) keys ∙ content_first k g gs right))) in
        let first : f ≡ g = same_part f g keys signs in
        let rest : fs ≡ gs = again (λ x. by_tie keys x (is_eq (formula_cmp x (key f))) refl) in
        λ i. first i ∷ rest i
      where
        by_tie : key f ≡ key g → (x : Formula) (t : Bool) → is_eq (formula_cmp x (key f)) ≡ t → content k x fs ≡ content k x gs
        by_tie keys x true tied =
            let here : x ≡ key f = formula_same x (key f) (equal_tie (formula_cmp x (key f)) tied) in
            (ap (λ y. content k y fs) here ∙ no_content k (key f) fs left.0 left.1) ∙ sym (ap (λ y. content k y gs) (here ∙ keys) ∙ no_content k (key g) gs right.0 right.1)
        by_tie keys x false tied =
            sym (content_apart k x f fs tied) ∙ (same x ∙ content_apart k x g gs (ap (λ y. is_eq (formula_cmp x y)) (sym keys) ∙ tied))

-- ---- the keys of the merged parts in order ascend

-- x is not after the first key
abbrev IsUpToKey : Formula → List Formula → Type 0
IsUpToKey x [] = Unit {0}
IsUpToKey x (g ∷ gs) = is_gt (formula_cmp x (key g)) ≡ false

-- no key is after the next
abbrev RisingKeys : List Formula → Type 0
RisingKeys [] = Unit {0}
RisingKeys (f ∷ fs) = IsUpToKey (key f) fs × RisingKeys fs

rising_keys : (fs : List Formula) → Rising fs → RisingKeys fs
rising_keys [] rising = tt
rising_keys (f ∷ []) rising = (tt, tt)
rising_keys (f ∷ g ∷ gs) rising = (key_up f g rising.0, rising_keys (g ∷ gs) rising.1)

before_is : (r : Ordering) → is_gt r ≡ false → is_eq r ≡ false → r ≡ Less
before_is Less up apart = refl
before_is Equal up apart = absurd (cc)
before_is Greater up apart = absurd (cc)

before_merged : (k : Connective) (x f : Formula) (gs : List Formula) → formula_cmp x (key f) ≡ Less → IsBeforeFirst x (merged_from k f gs)
before_merged k x f [] before = before
before_merged k x f (g ∷ gs) before = by_one (λ h. before_merged k x h gs) (as_one k f g) refl
  where
    by_one : ((h : Formula) → formula_cmp x (key h) ≡ Less → IsBeforeFirst x (merged_from k h gs)) → (o : Option Formula) → as_one k f g ≡ o → IsBeforeFirst x (one_or_two o (λ h. merged_from k h gs) (f ∷ merged_from k g gs))
    by_one again None is = before
    by_one again (Some h) is = again h (ap (formula_cmp x) (one_of k f g h is).kept ∙ before)

ascending_from : (k : Connective) (f : Formula) (gs : List Formula) → IsUpToKey (key f) gs → RisingKeys gs → Ascending (merged_from k f gs)
ascending_from k f [] first rising = (tt, tt)
ascending_from k f (g ∷ gs) first rising = by_one (λ h. ascending_from k h gs) (as_one k f g) refl
  where
    by_one : ((h : Formula) → IsUpToKey (key h) gs → RisingKeys gs → Ascending (merged_from k h gs)) → (o : Option Formula) → as_one k f g ≡ o → Ascending (one_or_two o (λ h. merged_from k h gs) (f ∷ merged_from k g gs))
    by_one again None is = (before_merged k (key f) g gs (before_is (formula_cmp (key f) (key g)) first (apart_of k f g is)), again g rising.0 rising.1)
    by_one again (Some h) is = let one = one_of k f g h is in again h (subst (λ x. IsUpToKey x gs) (sym (one.kept ∙ one.same)) rising.0) rising.1

pub ascending_merged : (k : Connective) (fs : List Formula) → Rising fs → Ascending (merged_parts k fs)
ascending_merged k [] rising = tt
ascending_merged k (f ∷ fs) rising = let keys = rising_keys (f ∷ fs) rising in ascending_from k f fs keys.0 keys.1

pub ascending_ordered : (k : Connective) (fs : List Formula) → Ascending (ordered k fs)
ascending_ordered k fs = ascending_merged k (in_order fs) (Rising-in_order fs)

-- ---- what follows

-- lists with the same contents are merged to the same parts
pub same_ordered : (k : Connective) (fs gs : List Formula) → ((x : Formula) → content k x fs ≡ content k x gs) → ordered k fs ≡ ordered k gs
same_ordered k fs gs same =
    same_list k (ordered k fs) (ordered k gs) (ascending_ordered k fs) (ascending_ordered k gs) (λ x. content-ordered k x fs ∙ (same x ∙ sym (content-ordered k x gs)))

-- parts whose keys ascend stay as they are
pub ordered_again : (k : Connective) (fs : List Formula) → Ascending fs → ordered k fs ≡ fs
ordered_again k fs ascending = same_list k (ordered k fs) fs (ascending_ordered k fs) ascending (λ x. content-ordered k x fs)
