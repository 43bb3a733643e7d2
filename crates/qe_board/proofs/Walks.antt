-- The pieces of a tree: what is closed under successors has them all, and they are closed under successors.
use Rattle.std.proofs.Common.{ℕ, zero, suc, ◌≤◌, ◌<◌, ◌≡◌, ◌∙◌, ◌⊎◌, inl, inr, refl, sym, ap, subst, Bool, true, false, cond, ◌||◌, List, [], ◌∷◌, ◌++◌, map, flat_map, arith}
use Rattle.std.specs.List.{All, list_any}
use Rattle.qe_piece.specs.Meaning.{Meaning, Child, gives, fails, Descends}
use Rattle.qe_board.specs.State.{Key, IsAmong, Distinct}
use Rattle.qe_board.specs.Machine.{child_keys, among}
use Rattle.qe_board.specs.Tree.{Position, first_positions, successors_of, below, walk, positions, Falls}
use Rattle.qe_board.proofs.Keys.{Within, among_tells, in_append, in_left, in_right, not_among}

abbrev pub position_keys : List Position → List Key
position_keys ps = map (λ p. p.key) ps

keys_append : (ps qs : List Position) → position_keys (ps ++ qs) ≡ position_keys ps ++ position_keys qs
keys_append [] qs = refl
keys_append (p ∷ ps) qs = ap (λ ks. p.key ∷ ks) (keys_append ps qs)

-- ---- first places

by_met : (P : List Position → Type 0) (met : List Key) (p : Position) (ps : List Position) → (among p.key met ≡ true → P (first_positions met ps)) → (among p.key met ≡ false → P (p ∷ first_positions (met ++ p.key ∷ []) ps))
    → P (first_positions met (p ∷ ps))
by_met P met p ps old new = elim (among p.key met) as (λ b. among p.key met ≡ b → P (cond b (first_positions met ps) (p ∷ first_positions (met ++ p.key ∷ []) ps))) [ true ↦ old | false ↦ new ] refl

pub first_from : (met : List Key) (ps : List Position) → Within (position_keys (first_positions met ps)) (position_keys ps)
first_from met [] k h = h
first_from met (p ∷ ps) k h = by_met (λ qs. IsAmong k (position_keys qs) → IsAmong k (p.key ∷ position_keys ps)) met p ps
    (λ old n. inr (first_from met ps k n))
    (λ new n. elim n [ inl e ↦ inl e | inr later ↦ inr (first_from (met ++ p.key ∷ []) ps k later) ]) h

pub first_has : (met : List Key) (ps : List Position) (k : Key) → IsAmong k (position_keys ps) → IsAmong k met ⊎ IsAmong k (position_keys (first_positions met ps))
first_has met [] k h = absurd h
first_has met (p ∷ ps) k h = by_met (λ qs. IsAmong k met ⊎ IsAmong k (position_keys qs)) met p ps
    (λ old. elim h [ inl e ↦ inl (subst (λ x. IsAmong x met) (sym e) ((among_tells p.key met).0 old)) | inr later ↦ first_has met ps k later ])
    (λ new. elim h [
      | inl e ↦ inr (inl e)
      | inr later ↦ elim (first_has (met ++ p.key ∷ []) ps k later) [
        | inl m ↦ elim (in_append k met (p.key ∷ []) m) [ inl l ↦ inl l | inr r ↦ elim r [ inl e ↦ inr (inl e) | inr none ↦ absurd none ] ]
        | inr n ↦ inr (inr n)
      ]
    ])

first_apart : (met : List Key) (ps : List Position) (k : Key) → IsAmong k met → IsAmong k (position_keys (first_positions met ps)) → ⊥
first_apart met [] k old h = h
first_apart met (p ∷ ps) k old h = by_met (λ qs. IsAmong k (position_keys qs) → ⊥) met p ps
    (λ is n. first_apart met ps k old n)
    (λ new n. elim n [ inl e ↦ not_among p.key met new (subst (λ x. IsAmong x met) e old) | inr later ↦ first_apart (met ++ p.key ∷ []) ps k (in_left k met (p.key ∷ []) old) later ]) h

pub first_distinct : (met : List Key) (ps : List Position) → Distinct (position_keys (first_positions met ps))
first_distinct met [] = tt
first_distinct met (p ∷ ps) = by_met (λ qs. Distinct (position_keys qs)) met p ps
    (λ old. first_distinct met ps)
    (λ new. (first_apart (met ++ p.key ∷ []) ps p.key (in_right p.key met (p.key ∷ []) (inl refl)), first_distinct (met ++ p.key ∷ []) ps))

-- ---- a true piece among places

pub any_from : (truth : Key → Bool) (k : Key) (ps : List Position) → IsAmong k (position_keys ps) → truth k ≡ true → list_any (λ q. truth q.key) ps ≡ true
any_from truth k [] h holds = absurd h
any_from truth k (p ∷ ps) (inl e) holds = λ i. (ap truth (sym e) ∙ holds) i || list_any (λ q. truth q.key) ps
any_from truth k (p ∷ ps) (inr h) holds = right (truth p.key) (any_from truth k ps h holds)
  where
    right : {t : Bool} (b : Bool) → t ≡ true → (b || t) ≡ true
    right true e = refl
    right false e = e

-- ---- the whole tree

-- what holds of all holds of each
all_below : (P : Key → Type 0) (cs : List Child) → All (λ c. P c.key) cs → (x : Key) → IsAmong x (child_keys cs) → P x
all_below P [] all x h = absurd h
all_below P (c ∷ cs) all x (inl e) = subst P (sym e) (all 0 c (omega arith))
all_below P (c ∷ cs) all x (inr h) = all_below P cs (λ k d less. all (suc k) d (omega (arith, less))) x h

module _ {F : Type 0} (meaning : Key → Meaning F) (is_leaf truth : Key → Bool) (height : Key → ℕ) where
  abbrev under : Key → List Child
  under = below meaning is_leaf truth height

  abbrev walked : ℕ → List ℕ → Key → List Position
  walked = walk meaning is_leaf truth height

  -- the places below a piece
  abbrev walked_each : ℕ → List ℕ → List Child → List Position
  walked_each n path cs = flat_map (λ c. walked n (path ++ c.point ∷ []) c.key) cs

  -- keys that have the successors of each of them
  abbrev pub Closed : List Key → Type 0
  Closed ks = (k : Key) → IsAmong k ks → Within (child_keys (under k)) ks

  each_within : (ks : List Key) (n : ℕ) (path : List ℕ) → ((p : List ℕ) (k : Key) → IsAmong k ks → Within (position_keys (walked n p k)) ks)
      → (cs : List Child) → Within (child_keys cs) ks → Within (position_keys (walked_each n path cs)) ks
  each_within ks n path again [] within k h = absurd h
  each_within ks n path again (c ∷ cs) within k h =
      elim (in_append k (position_keys (walked n (path ++ c.point ∷ []) c.key)) (position_keys (walked_each n path cs)) (subst (IsAmong k) (keys_append (walked n (path ++ c.point ∷ []) c.key) (walked_each n path cs)) h)) [
        | inl l ↦ again (path ++ c.point ∷ []) c.key (within c.key (inl refl)) k l
        | inr r ↦ each_within ks n path again cs (λ j i. within j (inr i)) k r
      ]

  pub walk_within : (ks : List Key) → Closed ks → (n : ℕ) (path : List ℕ) (k : Key) → IsAmong k ks → Within (position_keys (walked n path k)) ks
  walk_within ks closed zero path k h j i = elim i [ inl e ↦ subst (λ x. IsAmong x ks) (sym e) h | inr none ↦ absurd none ]
  walk_within ks closed (suc n) path k h j i = elim i [
    | inl e ↦ subst (λ x. IsAmong x ks) (sym e) h
    | inr later ↦ each_within ks n path (λ p x y. walk_within ks closed n p x y) (under k) (closed k h) j later
  ]

  -- ---- its pieces have their successors among them

  module _ (falls : Falls meaning is_leaf truth height) where
    lower : (k x : Key) → IsAmong x (child_keys (under k)) → height x < height k
    lower k x h = elim (is_leaf k) as (λ b. is_leaf k ≡ b → IsAmong x (child_keys (cond b [] (successors_of meaning is_leaf truth height (meaning k)))) → height x < height k) [
      | true ↦ λ leaf i. absurd i
      | false ↦ λ inner. by_meaning (meaning k) (falls k inner)
    ] refl h
      where
        by_meaning : (m : Meaning F) → Descends height (height k) m → IsAmong x (child_keys (successors_of meaning is_leaf truth height m)) → height x < height k
        by_meaning (gives cs) all i = all_below (λ y. height y < height k) cs all x i
        by_meaning (fails f) all i = absurd i

    stands_first : (n : ℕ) (path : List ℕ) (k : Key) → IsAmong k (position_keys (walked n path k))
    stands_first zero path k = inl refl
    stands_first (suc n) path k = inl refl

    in_each : (n : ℕ) (path : List ℕ) (cs : List Child) (x : Key) → IsAmong x (child_keys cs) → IsAmong x (position_keys (walked_each n path cs))
    in_each n path [] x h = absurd h
    in_each n path (c ∷ cs) x h = subst (IsAmong x) (sym (keys_append (walked n (path ++ c.point ∷ []) c.key) (walked_each n path cs))) (elim h [
      | inl e ↦ in_left x _ _ (subst (λ y. IsAmong x (position_keys (walked n (path ++ c.point ∷ []) y))) e (stands_first n (path ++ c.point ∷ []) x))
      | inr later ↦ in_right x (position_keys (walked n (path ++ c.point ∷ []) c.key)) _ (in_each n path cs x later)
    ])

    abbrev ClosedFrom : ℕ → List Position → Type 0
    ClosedFrom n ps = (j : Key) → IsAmong j (position_keys ps) → Within (child_keys (under j)) (position_keys ps)

    each_closed : (n : ℕ) (path : List ℕ) → ((p : List ℕ) (k : Key) → height k ≤ n → ClosedFrom n (walked n p k))
        → (cs : List Child) → ((x : Key) → IsAmong x (child_keys cs) → height x ≤ n) → ClosedFrom n (walked_each n path cs)
    each_closed n path again [] low j h x i = absurd h
    each_closed n path again (c ∷ cs) low j h x i =
        let here = walked n (path ++ c.point ∷ []) c.key in let rest = walked_each n path cs in
        subst (IsAmong x) (sym (keys_append here rest)) (elim (in_append j (position_keys here) (position_keys rest) (subst (IsAmong j) (keys_append here rest) h)) [
          | inl l ↦ in_left x (position_keys here) (position_keys rest) (again (path ++ c.point ∷ []) c.key (low c.key (inl refl)) j l x i)
          | inr r ↦ in_right x (position_keys here) (position_keys rest) (each_closed n path again cs (λ y k. low y (inr k)) j r x i)
        ])

    pub walk_closed : (n : ℕ) (path : List ℕ) (k : Key) → height k ≤ n → ClosedFrom n (walked n path k)
    walk_closed zero path k low j h x i = elim h [
      | inl e ↦ absurd (let less = lower j x i in let same = ap height e in omega (arith, low, less, same))
      | inr none ↦ absurd none
    ]
    walk_closed (suc n) path k low j h x i = elim h [
      | inl e ↦ inr (in_each n path (under k) x (subst (λ y. IsAmong x (child_keys (under y))) e i))
      | inr later ↦ inr (each_closed n path (λ p y l. walk_closed n p y l) (under k) (λ y m. (let less = lower k y m in omega (arith, low, less))) j later x i)
    ]

    pub positions_closed : (root : Key) → Closed (position_keys (positions meaning is_leaf truth height root))
    positions_closed root k h = walk_closed (height root) [] root (omega arith) k h

    pub root_stands : (root : Key) → IsAmong root (position_keys (positions meaning is_leaf truth height root))
    root_stands root = stands_first (height root) [] root
