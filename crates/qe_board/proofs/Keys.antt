-- Keys in lists: whether one is among them, new ones, and how many different ones there are.
use Rattle.std.proofs.Common.{ℕ, zero, suc, ◌≤◌, ◌≡◌, ◌∙◌, ◌⊎◌, inl, inr, ◌↔◌, refl, sym, ap, subst, true, false, cond, List, [], ◌∷◌, ◌++◌, length, Some, slice_get, arith}
use Rattle.std.specs.Prelude.{IsTrue}
use lib.Pointwise.{bytes_decides}
use Rattle.qe_ring.proofs.Bools.{either_tells, never_tells}
use Rattle.qe_board.specs.State.{Key, IsAmong, Distinct}
use Rattle.qe_board.specs.Machine.{same_key, among, new_keys, index_of}

-- ---- membership

abbrev pub Within : List Key → List Key → Type 0
Within xs ys = (k : Key) → IsAmong k xs → IsAmong k ys

pub same_tells : (j k : Key) → IsTrue (same_key j k) ↔ (j ≡ k)
same_tells = bytes_decides

pub among_tells : (k : Key) (ks : List Key) → IsTrue (among k ks) ↔ IsAmong k ks
among_tells k [] = never_tells
among_tells k (j ∷ js) = either_tells (same_key k j) (among k js) (same_tells k j) (among_tells k js)

pub not_among : (k : Key) (ks : List Key) → among k ks ≡ false → IsAmong k ks → ⊥
not_among k ks fails h = absurd (let holds = (among_tells k ks).1 h in cc)

pub in_append : (k : Key) (xs ys : List Key) → IsAmong k (xs ++ ys) → IsAmong k xs ⊎ IsAmong k ys
in_append k [] ys h = inr h
in_append k (x ∷ xs) ys (inl e) = inl (inl e)
in_append k (x ∷ xs) ys (inr h) = elim (in_append k xs ys h) [ inl l ↦ inl (inr l) | inr r ↦ inr r ]

pub in_left : (k : Key) (xs ys : List Key) → IsAmong k xs → IsAmong k (xs ++ ys)
in_left k [] ys h = absurd h
in_left k (x ∷ xs) ys (inl e) = inl e
in_left k (x ∷ xs) ys (inr h) = inr (in_left k xs ys h)

pub in_right : (k : Key) (xs ys : List Key) → IsAmong k ys → IsAmong k (xs ++ ys)
in_right k [] ys h = h
in_right k (x ∷ xs) ys h = inr (in_right k xs ys h)

append_assoc : (xs ys zs : List Key) → (xs ++ ys) ++ zs ≡ xs ++ (ys ++ zs)
append_assoc [] ys zs = refl
append_assoc (x ∷ xs) ys zs = ap (λ t. x ∷ t) (append_assoc xs ys zs)

-- ---- distinct keys

pub distinct_end : (xs : List Key) (k : Key) → Distinct xs → (IsAmong k xs → ⊥) → Distinct (xs ++ k ∷ [])
distinct_end [] k distinct apart = ((λ h. h), tt)
distinct_end (x ∷ xs) k distinct apart = (
  λ h. elim (in_append x xs (k ∷ []) h) [ inl l ↦ distinct.0 l | inr r ↦ elim r [ inl e ↦ apart (inl (sym e)) | inr n ↦ n ] ],
  distinct_end xs k distinct.1 (λ h. apart (inr h)),
)

-- ---- new keys

by_among : (P : List Key → Type 0) (known ks : List Key) (k : Key) → (among k known ≡ true → P (new_keys known ks)) → (among k known ≡ false → P (k ∷ new_keys (known ++ k ∷ []) ks))
    → P (new_keys known (k ∷ ks))
by_among P known ks k old new = elim (among k known) as (λ b. among k known ≡ b → P (cond b (new_keys known ks) (k ∷ new_keys (known ++ k ∷ []) ks))) [ true ↦ old | false ↦ new ] refl

-- with the new ones all are there
pub all_known : (known ks : List Key) (k : Key) → IsAmong k ks → IsAmong k (known ++ new_keys known ks)
all_known known [] k h = absurd h
all_known known (j ∷ js) k h = by_among (λ ns. IsAmong k (known ++ ns)) known js j
    (λ old. elim h [ inl e ↦ in_left k known _ (subst (λ x. IsAmong x known) (sym e) ((among_tells j known).0 old)) | inr later ↦ all_known known js k later ])
    (λ new. subst (IsAmong k) (append_assoc known (j ∷ []) (new_keys (known ++ j ∷ []) js))
    (elim h [ inl e ↦ in_left k (known ++ j ∷ []) _ (in_right k known (j ∷ []) (inl e)) | inr later ↦ all_known (known ++ j ∷ []) js k later ]))

-- a new one is one of those that come
pub new_from : (known ks : List Key) → Within (new_keys known ks) ks
new_from known [] k h = h
new_from known (j ∷ js) k h = by_among (λ ns. IsAmong k ns → IsAmong k (j ∷ js)) known js j
    (λ old n. inr (new_from known js k n))
    (λ new n. elim n [ inl e ↦ inl e | inr later ↦ inr (new_from (known ++ j ∷ []) js k later) ]) h

pub new_distinct : (known ks : List Key) → Distinct known → Distinct (known ++ new_keys known ks)
new_distinct known [] distinct = subst Distinct (sym (no_more known)) distinct
  where
    no_more : (xs : List Key) → xs ++ [] ≡ xs
    no_more [] = refl
    no_more (x ∷ xs) = ap (λ t. x ∷ t) (no_more xs)
new_distinct known (j ∷ js) distinct = by_among (λ ns. Distinct (known ++ ns)) known js j
    (λ old. new_distinct known js distinct)
    (λ new. subst Distinct (append_assoc known (j ∷ []) (new_keys (known ++ j ∷ []) js)) (new_distinct (known ++ j ∷ []) js (distinct_end known j distinct (not_among j known new))))

-- ---- distinct keys that are within a list are no more than it has

abbrev remove : Key → List Key → List Key
remove k [] = []
remove k (j ∷ js) = cond (same_key k j) js (j ∷ remove k js)

length_remove : (k : Key) (ks : List Key) → IsAmong k ks → suc (length (remove k ks)) ≡ length ks
length_remove k [] h = absurd h
length_remove k (j ∷ js) h = elim (same_key k j) as (λ b. same_key k j ≡ b → suc (length (cond b js (j ∷ remove k js))) ≡ length (j ∷ js)) [
  | true ↦ λ same. refl
  | false ↦ λ other. elim h [ inl e ↦ absurd (let same = (same_tells k j).1 e in cc) | inr later ↦ ap suc (length_remove k js later) ]
] refl

in_remove : (k x : Key) (ks : List Key) → (x ≡ k → ⊥) → IsAmong x ks → IsAmong x (remove k ks)
in_remove k x [] apart h = absurd h
in_remove k x (j ∷ js) apart h = elim (same_key k j) as (λ b. same_key k j ≡ b → IsAmong x (cond b js (j ∷ remove k js))) [
  | true ↦ λ same. elim h [ inl e ↦ absurd (apart (e ∙ sym ((same_tells k j).0 same))) | inr later ↦ later ]
  | false ↦ λ other. elim h [ inl e ↦ inl e | inr later ↦ inr (in_remove k x js apart later) ]
] refl

pub no_more_than : (xs ys : List Key) → Distinct xs → Within xs ys → length xs ≤ length ys
no_more_than [] ys distinct within = omega arith
no_more_than (x ∷ xs) ys distinct within =
    let rest = no_more_than xs (remove x ys) distinct.1 (λ k h. in_remove x k ys (λ e. distinct.0 (subst (λ z. IsAmong z xs) e h)) (within k (inr h))) in
    let less = length_remove x ys (within x (inl refl)) in omega (arith, rest, less)

-- ---- the number of a key

pub number_stands : (k : Key) (ks : List Key) → IsAmong k ks → slice_get ks (index_of k ks) ≡ Some k
number_stands k [] h = absurd h
number_stands k (j ∷ js) h = elim (same_key k j) as (λ b. same_key k j ≡ b → slice_get (j ∷ js) (cond b 0 (suc (index_of k js))) ≡ Some k) [
  | true ↦ λ same. ap (λ x. Some x) (sym ((same_tells k j).0 same))
  | false ↦ λ other. elim h [ inl e ↦ absurd (let same = (same_tells k j).1 e in cc) | inr later ↦ number_stands k js later ]
] refl

pub stands_in : (n : ℕ) (k : Key) (ks : List Key) → slice_get ks n ≡ Some k → IsAmong k ks
stands_in n k [] h = absurd (cc)
stands_in zero k (j ∷ js) h = inl (let e = h in cc)
stands_in (suc n) k (j ∷ js) h = inr (stands_in n k js h)

pub stands_still : (n : ℕ) (k : Key) (ks more : List Key) → slice_get ks n ≡ Some k → slice_get (ks ++ more) n ≡ Some k
stands_still n k [] more h = absurd (cc)
stands_still zero k (j ∷ js) more h = h
stands_still (suc n) k (j ∷ js) more h = stands_still n k js more h
