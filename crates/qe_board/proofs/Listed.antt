-- Entries as lists of pieces and of what has become of each.
use Rattle.std.proofs.Common.{ℕ, zero, suc, ◌+◌, ◌<◌, ◌≡◌, ◌↔◌, ◌≤◌, refl, sym, ap, subst, Bool, true, false, cond, not, ◌||◌, List, [], ◌∷◌, ◌++◌, length, map, take, Option, Some, None, option_map, arith}
use Rattle.std.specs.Prelude.{IsTrue, nat_lt, position, slice_get, slice_set, slice_index_or}
use lib.ListN.{get_or}
use Rattle.std.specs.List.{list_any, position_or_len}
use Rattle.std.proofs.lemmas.Bool.Decides.{nat_tests}
use Rattle.qe_board.specs.State.{Key, Condition, Entry, at}
use Rattle.qe_board.specs.Machine.{same_key, among, index_of, put}
use Rattle.qe_board.specs.declared.entries.Progress.{Progress}
use Rattle.qe_board.specs.Shown.{condition, conditions, entries_of, IsCopy, IsCopyAt, AreCopies, IsFound}
use Rattle.qe_board.specs.Recorded.{links_of, links_at}
use Rattle.qe_board.proofs.Keys.{same_tells}

module _ {N F : Type 0} (key : N → Key) where
  abbrev entry_of : N → Progress N F → Entry F
  entry_of n p = record { key = key n; condition = condition p }

  pub length_entries : (ns : List N) (ps : List (Progress N F)) → AreCopies key ns ps → length (entries_of key ns ps) ≡ length ps
  length_entries [] [] h = refl
  length_entries (n ∷ ns) (p ∷ ps) h = ap suc (length_entries ns ps h.1)
  length_entries [] (p ∷ ps) h = absurd h
  length_entries (n ∷ ns) [] h = absurd h

  pub entry_keys : (ns : List N) (ps : List (Progress N F)) → AreCopies key ns ps → map (λ e. e.key) (entries_of key ns ps) ≡ map key ns
  entry_keys [] [] h = refl
  entry_keys (n ∷ ns) (p ∷ ps) h = ap (λ ks. key n ∷ ks) (entry_keys ns ps h.1)
  entry_keys [] (p ∷ ps) h = absurd h
  entry_keys (n ∷ ns) [] h = absurd h

  pub one_more_entry : (ns : List N) (ps : List (Progress N F)) (n : N) (p : Progress N F) → AreCopies key ns ps → entries_of key (ns ++ n ∷ []) (ps ++ p ∷ []) ≡ entries_of key ns ps ++ entry_of n p ∷ []
  one_more_entry [] [] n p h = refl
  one_more_entry (m ∷ ns) (q ∷ ps) n p h = ap (λ es. entry_of m q ∷ es) (one_more_entry ns ps n p h.1)
  one_more_entry [] (q ∷ ps) n p h = absurd h
  one_more_entry (m ∷ ns) [] n p h = absurd h

  pub one_more_copy : (ns : List N) (ps : List (Progress N F)) (n : N) (p : Progress N F) → AreCopies key ns ps → IsCopy key (key n) p → AreCopies key (ns ++ n ∷ []) (ps ++ p ∷ [])
  one_more_copy [] [] n p h c = (c, tt)
  one_more_copy (m ∷ ns) (q ∷ ps) n p h c = (h.0, one_more_copy ns ps n p h.1 c)
  one_more_copy [] (q ∷ ps) n p h c = absurd h
  one_more_copy (m ∷ ns) [] n p h c = absurd h

  -- ---- some entries, or one changed

  pub first_entries : (ns : List N) (ps : List (Progress N F)) (n : ℕ) → AreCopies key ns ps → entries_of key (take n ns) (take n ps) ≡ take n (entries_of key ns ps)
  first_entries ns ps zero h = refl
  first_entries [] [] (suc n) h = refl
  first_entries (m ∷ ns) (q ∷ ps) (suc n) h = ap (λ es. entry_of m q ∷ es) (first_entries ns ps n h.1)
  first_entries [] (q ∷ ps) (suc n) h = absurd h
  first_entries (m ∷ ns) [] (suc n) h = absurd h

  pub first_copies : (ns : List N) (ps : List (Progress N F)) (n : ℕ) → AreCopies key ns ps → AreCopies key (take n ns) (take n ps)
  first_copies ns ps zero h = tt
  first_copies [] [] (suc n) h = tt
  first_copies (m ∷ ns) (q ∷ ps) (suc n) h = (h.0, first_copies ns ps n h.1)
  first_copies [] (q ∷ ps) (suc n) h = absurd h
  first_copies (m ∷ ns) [] (suc n) h = absurd h

  pub changed_entry : (ns : List N) (ps : List (Progress N F)) (n : ℕ) (p : Progress N F) → AreCopies key ns ps → entries_of key ns (slice_set ps n p) ≡ put n (condition p) (entries_of key ns ps)
  changed_entry [] [] n p h = refl
  changed_entry (m ∷ ns) (q ∷ ps) zero p h = refl
  changed_entry (m ∷ ns) (q ∷ ps) (suc n) p h = ap (λ es. entry_of m q ∷ es) (changed_entry ns ps n p h.1)
  changed_entry [] (q ∷ ps) n p h = absurd h
  changed_entry (m ∷ ns) [] n p h = absurd h

  pub changed_copies : (ns : List N) (ps : List (Progress N F)) (n : ℕ) (p : Progress N F) → AreCopies key ns ps → IsCopyAt key n (entries_of key ns ps) p → AreCopies key ns (slice_set ps n p)
  changed_copies [] [] n p h c = tt
  changed_copies (m ∷ ns) (q ∷ ps) zero p h c = (c (entry_of m q) refl, h.1)
  changed_copies (m ∷ ns) (q ∷ ps) (suc n) p h c = (h.0, changed_copies ns ps n p h.1 c)
  changed_copies [] (q ∷ ps) n p h c = absurd h
  changed_copies (m ∷ ns) [] n p h c = absurd h

  pub own_copy : (ns : List N) (ps : List (Progress N F)) (n : ℕ) (d : Progress N F) → AreCopies key ns ps → n < length ps → IsCopyAt key n (entries_of key ns ps) (slice_index_or ps n d)
  own_copy [] [] n d h less e is = absurd (omega (arith, less))
  own_copy (m ∷ ns) (q ∷ ps) zero d h less e is = subst (λ o. MatchKey q o) is h.0
    where
      MatchKey : Progress N F → Option (Entry F) → Type 0
      MatchKey q (Some e) = IsCopy key e.key q
      MatchKey q None = Unit {0}
  own_copy (m ∷ ns) (q ∷ ps) (suc n) d h less e is = own_copy ns ps n d h.1 (omega (arith, less)) e is
  own_copy [] (q ∷ ps) n d h less e is = absurd h
  own_copy (m ∷ ns) [] n d h less e is = absurd h

  pub own_condition : (ns : List N) (ps : List (Progress N F)) (n : ℕ) (d : Progress N F) → AreCopies key ns ps → n < length ps → slice_get (conditions (entries_of key ns ps)) n ≡ Some (condition (slice_index_or ps n d))
  own_condition [] [] n d h less = absurd (omega (arith, less))
  own_condition (m ∷ ns) (q ∷ ps) zero d h less = refl
  own_condition (m ∷ ns) (q ∷ ps) (suc n) d h less = own_condition ns ps n d h.1 (omega (arith, less))
  own_condition [] (q ∷ ps) n d h less = absurd h
  own_condition (m ∷ ns) [] n d h less = absurd h

  pub own_test : (p : Condition F → Bool) (ns : List N) (ps : List (Progress N F)) (n : ℕ) (d : Progress N F) → AreCopies key ns ps → n < length ps → p (condition (slice_index_or ps n d)) ≡ at p n (entries_of key ns ps)
  own_test p [] [] n d h less = absurd (omega (arith, less))
  own_test p (m ∷ ns) (q ∷ ps) zero d h less = refl
  own_test p (m ∷ ns) (q ∷ ps) (suc n) d h less = own_test p ns ps n d h.1 (omega (arith, less))
  own_test p [] (q ∷ ps) n d h less = absurd h
  own_test p (m ∷ ns) [] n d h less = absurd h

-- ---- the number of a key

pub same_bool : (a b : Bool) {P : Type 0} → IsTrue a ↔ P → IsTrue b ↔ P → a ≡ b
same_bool true true p q = refl
same_bool false false p q = refl
same_bool true false p q = absurd (let h = q.1 (p.0 refl) in cc)
same_bool false true p q = absurd (let h = p.1 (q.0 refl) in cc)

pub index_inside : (k : Key) (ks : List Key) → among k ks ≡ true → index_of k ks < length ks
index_inside k [] h = absurd (cc)
index_inside k (j ∷ js) h = by_test (same_key k j) h (index_inside k js)
  where
    by_test : (b : Bool) → (b || among k js) ≡ true → (among k js ≡ true → index_of k js < length js) → cond b 0 (suc (index_of k js)) < suc (length js)
    by_test true some again = omega arith
    by_test false some again = let less = again some in omega (arith, less)

index_outside : (k : Key) (ks : List Key) → among k ks ≡ false → index_of k ks ≡ length ks
index_outside k [] h = refl
index_outside k (j ∷ js) h = by_test (same_key k j) h (index_outside k js)
  where
    by_test : (b : Bool) → (b || among k js) ≡ false → (among k js ≡ false → index_of k js ≡ length js) → cond b 0 (suc (index_of k js)) ≡ suc (length js)
    by_test true none again = absurd (cc)
    by_test false none again = ap suc (again none)

-- more keys behind change no number of one that is there
pub index_stays : (k : Key) (ks more : List Key) → among k ks ≡ true → index_of k (ks ++ more) ≡ index_of k ks
index_stays k [] more h = absurd (cc)
index_stays k (j ∷ js) more h = by_test (same_key k j) h (index_stays k js more)
  where
    by_test : (b : Bool) → (b || among k js) ≡ true → (among k js ≡ true → index_of k (js ++ more) ≡ index_of k js) → cond b 0 (suc (index_of k (js ++ more))) ≡ cond b 0 (suc (index_of k js))
    by_test true some again = refl
    by_test false some again = ap suc (again some)

-- the number of one that comes anew
pub index_next : (k : Key) (ks more : List Key) → among k ks ≡ false → index_of k (ks ++ k ∷ more) ≡ length ks
index_next k [] more h = ap (λ b. cond b 0 (suc (index_of k more))) ((same_tells k k).1 refl)
index_next k (j ∷ js) more h = by_test (same_key k j) h (index_next k js more)
  where
    by_test : (b : Bool) → (b || among k js) ≡ false → (among k js ≡ false → index_of k (js ++ k ∷ more) ≡ length js) → cond b 0 (suc (index_of k (js ++ k ∷ more))) ≡ suc (length js)
    by_test true none again = absurd (cc)
    by_test false none again = ap suc (again none)

length_map : {A B : Type 0} (f : A → B) (xs : List A) → length (map f xs) ≡ length xs
length_map f [] = refl
length_map f (x ∷ xs) = ap suc (length_map f xs)

module _ {N : Type 0} (key : N → Key) (eq : N → N → Bool) (is_key : (x y : N) → IsTrue (eq x y) ↔ (key x ≡ key y)) (n : N) where
  tests : (x : N) → eq n x ≡ same_key (key n) (key x)
  tests x = same_bool (eq n x) (same_key (key n) (key x)) (is_key n x) (same_tells (key n) (key x))

  pub any_is : (ns : List N) → list_any (eq n) ns ≡ among (key n) (map key ns)
  any_is [] = refl
  any_is (x ∷ ns) = λ i. tests x i || any_is ns i

  place_is : (ns : List N) → position_or_len (eq n) ns ≡ index_of (key n) (map key ns)
  place_is [] = refl
  place_is (x ∷ ns) = by_test (eq n x) (same_key (key n) (key x)) (tests x) (place_is ns)
    where
      by_test : (a b : Bool) → a ≡ b → position_or_len (eq n) ns ≡ index_of (key n) (map key ns)
          → ◌≡◌ {A = ℕ} (cond (not a) (1 + position_or_len (eq n) ns) 0) (cond b 0 (suc (index_of (key n) (map key ns))))
      by_test true true same rest = refl
      by_test false false same rest = omega (arith, rest)
      by_test true false same rest = absurd (cc)
      by_test false true same rest = absurd (cc)

  pub found : (ns : List N) → IsFound (map key ns) (key n) (position (eq n) ns)
  found ns = by_test (nat_lt (position_or_len (eq n) ns) (length ns)) refl
    where
      less : (i j : ℕ) → nat_lt i j ≡ true → i < j
      less i j test = grind (arith, nat_tests)

      no_less : (i j : ℕ) → nat_lt i j ≡ false → i < j → ⊥
      no_less i j test fewer = grind (arith, nat_tests)

      inside : nat_lt (position_or_len (eq n) ns) (length ns) ≡ true → (b : Bool) → among (key n) (map key ns) ≡ b → b ≡ true
      inside h true is = refl
      inside h false is =
          let l = less (position_or_len (eq n) ns) (length ns) h in let place = place_is ns in let out = index_outside (key n) (map key ns) is in let long = length_map key ns in
          absurd (omega (arith, l, place, out, long))

      outside : nat_lt (position_or_len (eq n) ns) (length ns) ≡ false → (b : Bool) → among (key n) (map key ns) ≡ b → b ≡ false
      outside h false is = refl
      outside h true is =
          let place = place_is ns in let within = index_inside (key n) (map key ns) is in let long = length_map key ns in
          absurd (no_less (position_or_len (eq n) ns) (length ns) h (omega (arith, place, within, long)))

      by_test : (b : Bool) → nat_lt (position_or_len (eq n) ns) (length ns) ≡ b → IsFound (map key ns) (key n) (cond b (Some (position_or_len (eq n) ns)) None)
      by_test true h = (inside h (among (key n) (map key ns)) refl, place_is ns)
      by_test false h = outside h (among (key n) (map key ns)) refl

-- ---- one entry

pub mapped_get : {A B : Type 0} (f : A → B) (xs : List A) (n : ℕ) → option_map f (slice_get xs n) ≡ slice_get (map f xs) n
mapped_get f [] n = refl
mapped_get f (x ∷ xs) zero = refl
mapped_get f (x ∷ xs) (suc n) = mapped_get f xs n

-- what has become of each, in order
pub conditions_are : {N F : Type 0} (key : N → Key) (ns : List N) (ps : List (Progress N F)) → AreCopies key ns ps → conditions (entries_of key ns ps) ≡ map condition ps
conditions_are key [] [] ok = refl
conditions_are key [] (p ∷ ps) ok = absurd ok
conditions_are key (n ∷ ns) [] ok = absurd ok
conditions_are key (n ∷ ns) (p ∷ ps) ok = ap (λ cs. condition p ∷ cs) (conditions_are key ns ps ok.1)

pub got_one : {A B : Type 0} (f : A → B) (xs : List A) (n : ℕ) (x : A) → n < length xs → x ≡ get_or xs n x → slice_get (map f xs) n ≡ Some (f x)
got_one f [] n x within is = absurd (omega (arith, within))
got_one f (y ∷ xs) zero x within is = ap (λ z. Some (f z)) (sym is)
got_one f (y ∷ xs) (suc n) x within is = got_one f xs n x (omega (arith, within)) is

pub got_none : {A B : Type 0} (f : A → B) (xs : List A) (n : ℕ) → length xs ≤ n → ◌≡◌ {A = Option B} (slice_get (map f xs) n) None
got_none f [] n beyond = refl
got_none f (y ∷ xs) zero beyond = absurd (omega (arith, beyond))
got_none f (y ∷ xs) (suc n) beyond = got_none f xs n (omega (arith, beyond))

-- ---- what an entry is, by its condition

module _ {F : Type 0} where
  own_out : (c d : Condition F) → ◌≡◌ {A = Option (Condition F)} (Some c) (Some d) → c ≡ d
  own_out c d e = cc

  pub test_by : (p : Condition F → Bool) (n : ℕ) (es : List (Entry F)) (c : Condition F) → slice_get (conditions es) n ≡ Some c → p c ≡ at p n es
  test_by p n [] c is = absurd (cc)
  test_by p zero (e ∷ es) c is = ap p (sym (own_out e.condition c is))
  test_by p (suc n) (e ∷ es) c is = test_by p n es c is

  pub links_by : (n : ℕ) (es : List (Entry F)) (c : Condition F) → slice_get (conditions es) n ≡ Some c → links_of c ≡ links_at n es
  links_by n [] c is = absurd (cc)
  links_by zero (e ∷ es) c is = ap links_of (sym (own_out e.condition c is))
  links_by (suc n) (e ∷ es) c is = links_by n es c is
