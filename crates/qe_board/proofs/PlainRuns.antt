-- There is only one plain run.
use Rattle.std.proofs.Common.{ℕ, zero, suc, ◌+◌, ◌≤◌, ◌≡◌, ◌∙◌, refl, sym, ap, subst, Bool, true, false, cond, not, ◌&&◌, List, [], ◌∷◌, ◌++◌, map, Option, Some, None, arith}
use Rattle.qe_ring.proofs.Bools.{both_hold}
use Rattle.qe_piece.specs.Meaning.{Meaning, Child, gives, fails}
use Rattle.qe_board.specs.declared.event.Event.{Event}
use Rattle.qe_board.specs.declared.event.Event.TheVariants.{Take, Give, Fail, Drop, Cancel, Fill, Starve}
use Rattle.qe_board.specs.State.{Key, Condition, waiting, held, expanded, leaf, failed, dropped, Entry, State, is_waiting, is_held, is_held_by, is_unset, keys, at, count, is_done, has_true_leaf}
use Rattle.qe_board.specs.Machine.{new_keys, put, waits_first, holds, opening_entry, links, fits, meaning_at, gives_and, does_fail, is_enabled, given, failing, effect, opened, IsRunFrom, IsRun}
use Rattle.qe_board.specs.Plain.{IsNext, IsPlainFrom, IsPlain}
use Rattle.qe_board.proofs.Conditions.{held_is_held, waiting_not_held, first_waits, held_stay, count_put, count_append}

-- the first that waits is one entry
pub one_first : {F : Type 0} (n m : ℕ) (es : List (Entry F)) → waits_first n es ≡ true → waits_first m es ≡ true → n ≡ m
one_first n m [] first second = absurd (cc)
one_first zero zero (e ∷ es) first second = refl
one_first zero (suc m) (e ∷ es) first second = absurd (let k = (both_hold (not (is_waiting e.condition)) (waits_first m es) second).0 in let l = sym k ∙ ap not first in cc)
one_first (suc n) zero (e ∷ es) first second = absurd (let k = (both_hold (not (is_waiting e.condition)) (waits_first n es) first).0 in let l = sym k ∙ ap not second in cc)
one_first (suc n) (suc m) (e ∷ es) first second =
    ap suc (one_first n m es (both_hold (not (is_waiting e.condition)) (waits_first n es) first).1 (both_hold (not (is_waiting e.condition)) (waits_first m es) second).1)

-- an entry that is held counts
held_counts : {F : Type 0} (w n : ℕ) (es : List (Entry F)) → at (is_held_by w) n es ≡ true → 1 ≤ count is_held es
held_counts w n [] there = absurd (cc)
held_counts w zero (e ∷ es) there = let one : ◌≡◌ {A = ℕ} (cond (is_held e.condition) 1 0) 1 = ap (λ b. cond b 1 0) (held_is_held w e.condition there) in omega (arith, one)
held_counts w (suc n) (e ∷ es) there = let rest = held_counts w n es there in omega (arith, rest)

pub one_held : {F : Type 0} (w n m : ℕ) (es : List (Entry F)) → count is_held es ≤ 1 → at (is_held_by w) n es ≡ true → at (is_held_by w) m es ≡ true → n ≡ m
one_held w n m [] few first second = absurd (cc)
one_held w zero zero (e ∷ es) few first second = refl
one_held w zero (suc m) (e ∷ es) few first second =
    let one : ◌≡◌ {A = ℕ} (cond (is_held e.condition) 1 0) 1 = ap (λ b. cond b 1 0) (held_is_held w e.condition first) in let more = held_counts w m es second in absurd (omega (arith, few, one, more))
one_held w (suc n) zero (e ∷ es) few first second =
    let one : ◌≡◌ {A = ℕ} (cond (is_held e.condition) 1 0) 1 = ap (λ b. cond b 1 0) (held_is_held w e.condition second) in let more = held_counts w n es first in absurd (omega (arith, few, one, more))
one_held w (suc n) (suc m) (e ∷ es) few first second = ap suc (one_held w n m es (omega (arith, few)) first second)

module _ {F : Type 0} (meaning : Key → Meaning F) (is_leaf truth : Key → Bool) (limit : ℕ) where
  abbrev enabled : Event → State F → Bool
  enabled = is_enabled meaning is_leaf truth limit

  abbrev after : Event → State F → State F
  after = effect meaning is_leaf truth limit

  abbrev Next : Event → State F → Type 0
  Next = IsNext meaning is_leaf truth limit

  -- ---- at most one entry is held

  one_less : (w n : ℕ) (c : Condition F) (es : List (Entry F)) → is_held c ≡ false → at (is_held_by w) n es ≡ true → count is_held es ≤ 1 → count is_held (put n c es) ≤ 1
  one_less w n c es not_held there few =
      let e : count is_held (put n c es) + 1 ≡ count is_held es + cond (is_held c) 1 0 = count_put is_held (is_held_by w) true (held_is_held w) n c es there in
      let f : count is_held (put n c es) + 1 ≡ count is_held es + 0 = e ∙ ap (λ b. count is_held es + cond b 1 0) not_held in
      omega (arith, f, few)

  opening_not_held : (ks : List Key) → count {F = F} is_held (map (opening_entry is_leaf) ks) ≡ 0
  opening_not_held [] = refl
  opening_not_held (k ∷ ks) = by_test (is_leaf k) (opening_not_held ks)
    where
      by_test : (b : Bool) → count {F = F} is_held (map (opening_entry is_leaf) ks) ≡ 0 → ◌≡◌ {A = ℕ} (cond (is_held {F = F} (cond b leaf waiting)) 1 0 + count {F = F} is_held (map (opening_entry is_leaf) ks)) 0
      by_test true rest = omega (arith, rest)
      by_test false rest = omega (arith, rest)

  given_few : (w n : ℕ) (m : Option (Meaning F)) (s : State F) → at (is_held_by w) n s.entries ≡ true → count is_held s.entries ≤ 1 → count is_held (given meaning is_leaf truth limit n m s).entries ≤ 1
  given_few w n (Some (gives cs)) s there few =
      let ks = new_keys (keys s) (map (λ c. c.key) cs) in
      let less = one_less w n (expanded (links cs (keys s ++ ks))) s.entries refl there few in
      let both = count_append is_held (put n (expanded (links cs (keys s ++ ks))) s.entries) (map (opening_entry is_leaf) ks) in
      let none = opening_not_held ks in omega (arith, less, both, none)
  given_few w n (Some (fails f)) s there few = few
  given_few w n None s there few = few

  failing_few : (w n : ℕ) (m : Option (Meaning F)) (s : State F) → at (is_held_by w) n s.entries ≡ true → count is_held s.entries ≤ 1 → count is_held (failing meaning is_leaf truth limit n m s).entries ≤ 1
  failing_few w n (Some (gives cs)) s there few = few
  failing_few w n (Some (fails f)) s there few = one_less w n (failed f) s.entries refl there few
  failing_few w n None s there few = few

  pub few_left : (e : Event) (s : State F) → enabled e s ≡ true → Next e s → count is_held s.entries ≤ 1 → count is_held (after e s).entries ≤ 1
  few_left (Take w n) s h next few =
      let first = (both_hold (waits_first n s.entries) _ h).0 in
      let e : count is_held (put n (held w) s.entries) + 0 ≡ count is_held s.entries + 1 = count_put is_held is_waiting false waiting_not_held n (held w) s.entries (first_waits n s.entries first) in
      let none = next.1 in omega (arith, e, none)
  few_left (Give w n) s h next few = given_few w n (meaning_at meaning is_leaf truth limit n s) s (both_hold (holds w n s) _ h).0 few
  few_left (Fail w n) s h next few = failing_few w n (meaning_at meaning is_leaf truth limit n s) s (both_hold (holds w n s) _ h).0 few
  few_left (Drop w n) s h next few = absurd next
  few_left (Cancel w) s h next few = let stay = held_stay s.entries in omega (arith, stay, few)
  few_left (Fill w n) s h next few =
      let stay = held_stay (put n dropped s.entries) in let less = one_less w n dropped s.entries refl (both_hold (holds w n s) _ h).0 few in omega (arith, stay, less)
  few_left (Starve w) s h next few = absurd next

  -- ---- only one event comes next

  true_and_not : (b : Bool) → b ≡ true → b ≡ false → ⊥
  true_and_not b holds_now fails_now = absurd (let k = sym holds_now ∙ fails_now in cc)

  none_held : (w n : ℕ) (es : List (Entry F)) → at (is_held_by w) n es ≡ true → count is_held es ≡ 0 → ⊥
  none_held w n es there none = let one = held_counts w n es there in omega (arith, one, none)

  holds_by : (w v n : ℕ) (s : State F) → w ≡ v → holds w n s ≡ true → holds v n s ≡ true
  holds_by w v n s same h = subst (λ i. holds i n s ≡ true) same h

  gives_not_fails : (m : Option (Meaning F)) (p : List Child → Bool) → gives_and meaning is_leaf truth limit p m ≡ true → does_fail meaning is_leaf truth limit m ≡ true → ⊥
  gives_not_fails None p first second = absurd (cc)
  gives_not_fails (Some (gives cs)) p first second = absurd (cc)
  gives_not_fails (Some (fails f)) p first second = absurd (cc)

  fits_or_not : (m : Option (Meaning F)) (p : List Child → Bool) → gives_and meaning is_leaf truth limit p m ≡ true → gives_and meaning is_leaf truth limit (λ cs. not (p cs)) m ≡ true → ⊥
  fits_or_not None p first second = absurd (cc)
  fits_or_not (Some (fails f)) p first second = absurd (cc)
  fits_or_not (Some (gives cs)) p first second = absurd (let k = sym second ∙ ap not first in cc)

  not_true : (b : Bool) → not b ≡ true → b ≡ false
  not_true true h = absurd (cc)
  not_true false h = refl

  module _ (s : State F) (few : count is_held s.entries ≤ 1) where
    -- what an event that may come next tells
    take_waits : (w n : ℕ) → enabled (Take w n) s ≡ true → waits_first n s.entries ≡ true
    take_waits w n h = (both_hold (waits_first n s.entries) _ h).0

    take_untrue : (w n : ℕ) → enabled (Take w n) s ≡ true → has_true_leaf truth s ≡ false
    take_untrue w n h = not_true (has_true_leaf truth s) (both_hold (not (has_true_leaf truth s)) _ (both_hold (waits_first n s.entries) _ h).1).0

    holder : (w n : ℕ) (b : Bool) → (holds w n s && b) ≡ true → holds w n s ≡ true
    holder w n b h = (both_hold (holds w n s) b h).0

    fill_untrue : (w n : ℕ) → enabled (Fill w n) s ≡ true → has_true_leaf truth s ≡ false
    fill_untrue w n h = not_true (has_true_leaf truth s) (both_hold (not (has_true_leaf truth s)) _ (both_hold (is_unset s.stop) _ (both_hold (holds w n s) _ h).1).1).0

    gives_fit : (w n : ℕ) → enabled (Give w n) s ≡ true → gives_and meaning is_leaf truth limit (λ cs. fits meaning is_leaf truth limit cs s) (meaning_at meaning is_leaf truth limit n s) ≡ true
    gives_fit w n h = (both_hold (is_unset s.stop) _ (both_hold (holds w n s) _ h).1).1

    fails_there : (w n : ℕ) → enabled (Fail w n) s ≡ true → does_fail meaning is_leaf truth limit (meaning_at meaning is_leaf truth limit n s) ≡ true
    fails_there w n h = (both_hold (is_unset s.stop) _ (both_hold (holds w n s) _ h).1).1

    gives_more : (w n : ℕ) → enabled (Fill w n) s ≡ true → gives_and meaning is_leaf truth limit (λ cs. not (fits meaning is_leaf truth limit cs s)) (meaning_at meaning is_leaf truth limit n s) ≡ true
    gives_more w n h = (both_hold (not (has_true_leaf truth s)) _ (both_hold (is_unset s.stop) _ (both_hold (holds w n s) _ h).1).1).1

    -- two entries in hand are one
    same_entry : (w v n m : ℕ) → w ≡ 0 → v ≡ 0 → holds w n s ≡ true → holds v m s ≡ true → n ≡ m
    same_entry w v n m first second h k = one_held 0 n m s.entries few (holds_by w 0 n s first h) (holds_by v 0 m s second k)

    apart_meaning : (n m : ℕ) → n ≡ m → does_fail meaning is_leaf truth limit (meaning_at meaning is_leaf truth limit m s) ≡ true → does_fail meaning is_leaf truth limit (meaning_at meaning is_leaf truth limit n s) ≡ true
    apart_meaning n m same h = subst (λ i. does_fail meaning is_leaf truth limit (meaning_at meaning is_leaf truth limit i s) ≡ true) (sym same) h

    same_next : (e d : Event) → enabled e s ≡ true → Next e s → enabled d s ≡ true → Next d s → e ≡ d
    same_next (Take w n) (Take v m) h a k b = λ i. Take ((a.0 ∙ sym b.0) i) (one_first n m s.entries (take_waits w n h) (take_waits v m k) i)
    same_next (Take w n) (Give v m) h a k b = absurd (none_held v m s.entries (holder v m _ k) a.1)
    same_next (Take w n) (Fail v m) h a k b = absurd (none_held v m s.entries (holder v m _ k) a.1)
    same_next (Take w n) (Fill v m) h a k b = absurd (none_held v m s.entries (holder v m _ k) a.1)
    same_next (Take w n) (Cancel v) h a k b = absurd (true_and_not (has_true_leaf truth s) (both_hold (has_true_leaf truth s) _ k).0 (take_untrue w n h))
    same_next (Give w n) (Take v m) h a k b = absurd (none_held w n s.entries (holder w n _ h) b.1)
    same_next (Give w n) (Give v m) h a k b = λ i. Give ((a.0 ∙ sym b.0) i) (same_entry w v n m a.0 b.0 (holder w n _ h) (holder v m _ k) i)
    same_next (Give w n) (Fail v m) h a k b =
        let same = same_entry w v n m a.0 b.0 (holder w n _ h) (holder v m _ k) in absurd (gives_not_fails _ _ (gives_fit w n h) (apart_meaning n m same (fails_there v m k)))
    same_next (Give w n) (Fill v m) h a k b =
        let same = same_entry w v n m a.0 b (holder w n _ h) (holder v m _ k) in
        absurd (fits_or_not (meaning_at meaning is_leaf truth limit n s) (λ cs. fits meaning is_leaf truth limit cs s) (gives_fit w n h) (subst (λ i. gives_and meaning is_leaf truth limit (λ cs. not (fits meaning is_leaf truth limit cs s)) (meaning_at meaning is_leaf truth limit i s) ≡ true) (sym same) (gives_more v m k)))
    same_next (Give w n) (Cancel v) h a k b = absurd (true_and_not (has_true_leaf truth s) (both_hold (has_true_leaf truth s) _ k).0 a.1)
    same_next (Fail w n) (Take v m) h a k b = absurd (none_held w n s.entries (holder w n _ h) b.1)
    same_next (Fail w n) (Give v m) h a k b =
        let same = same_entry v w m n b.0 a.0 (holder v m _ k) (holder w n _ h) in absurd (gives_not_fails _ _ (gives_fit v m k) (apart_meaning m n same (fails_there w n h)))
    same_next (Fail w n) (Fail v m) h a k b = λ i. Fail ((a.0 ∙ sym b.0) i) (same_entry w v n m a.0 b.0 (holder w n _ h) (holder v m _ k) i)
    same_next (Fail w n) (Fill v m) h a k b =
        let same = same_entry v w m n b a.0 (holder v m _ k) (holder w n _ h) in absurd (gives_not_fails _ _ (gives_more v m k) (apart_meaning m n same (fails_there w n h)))
    same_next (Fail w n) (Cancel v) h a k b = absurd (true_and_not (has_true_leaf truth s) (both_hold (has_true_leaf truth s) _ k).0 a.1)
    same_next (Fill w n) (Take v m) h a k b = absurd (none_held w n s.entries (holder w n _ h) b.1)
    same_next (Fill w n) (Give v m) h a k b =
        let same = same_entry v w m n b.0 a (holder v m _ k) (holder w n _ h) in
        absurd (fits_or_not (meaning_at meaning is_leaf truth limit m s) (λ cs. fits meaning is_leaf truth limit cs s) (gives_fit v m k) (subst (λ i. gives_and meaning is_leaf truth limit (λ cs. not (fits meaning is_leaf truth limit cs s)) (meaning_at meaning is_leaf truth limit i s) ≡ true) (sym same) (gives_more w n h)))
    same_next (Fill w n) (Fail v m) h a k b =
        let same = same_entry w v n m a b.0 (holder w n _ h) (holder v m _ k) in absurd (gives_not_fails _ _ (gives_more w n h) (apart_meaning n m same (fails_there v m k)))
    same_next (Fill w n) (Fill v m) h a k b = λ i. Fill ((a ∙ sym b) i) (same_entry w v n m a b (holder w n _ h) (holder v m _ k) i)
    same_next (Fill w n) (Cancel v) h a k b = absurd (true_and_not (has_true_leaf truth s) (both_hold (has_true_leaf truth s) _ k).0 (fill_untrue w n h))
    same_next (Cancel w) (Take v m) h a k b = absurd (true_and_not (has_true_leaf truth s) (both_hold (has_true_leaf truth s) _ h).0 (take_untrue v m k))
    same_next (Cancel w) (Give v m) h a k b = absurd (true_and_not (has_true_leaf truth s) (both_hold (has_true_leaf truth s) _ h).0 b.1)
    same_next (Cancel w) (Fail v m) h a k b = absurd (true_and_not (has_true_leaf truth s) (both_hold (has_true_leaf truth s) _ h).0 b.1)
    same_next (Cancel w) (Fill v m) h a k b = absurd (true_and_not (has_true_leaf truth s) (both_hold (has_true_leaf truth s) _ h).0 (fill_untrue v m k))
    same_next (Cancel w) (Cancel v) h a k b = λ i. Cancel ((a ∙ sym b) i)
    same_next (Drop w n) d h a k b = absurd a
    same_next (Starve w) d h a k b = absurd a
    same_next e (Drop v m) h a k b = absurd b
    same_next e (Starve v) h a k b = absurd b

  -- ---- so there is only one run

  one_run : (s : State F) → count is_held s.entries ≤ 1 → (es ds : List Event) → IsPlainFrom meaning is_leaf truth limit s es → IsPlainFrom meaning is_leaf truth limit s ds → es ≡ ds
  one_run s few [] [] p q = refl
  one_run s few [] (d ∷ ds) p q = absurd (true_and_not (is_done s) p q.0)
  one_run s few (e ∷ es) [] p q = absurd (true_and_not (is_done s) q p.0)
  one_run s few (e ∷ es) (d ∷ ds) p q =
      let same = same_next s few e d p.1.0 p.1.1.0 q.1.0 q.1.1.0 in
      let rest = one_run (after e s) (few_left e s p.1.0 p.1.1.0 few) es ds p.1.1.1 (subst (λ c. IsPlainFrom meaning is_leaf truth limit (after c s) ds) (sym same) q.1.1.1) in
      (λ i. same i ∷ rest i)

  -- the plain run is a run
  plain_runs : (s : State F) (es : List Event) → IsPlainFrom meaning is_leaf truth limit s es → IsRunFrom meaning is_leaf truth limit s es
  plain_runs s [] p = tt
  plain_runs s (e ∷ es) p = (p.1.0, plain_runs (after e s) es p.1.1.1)

  pub only_one : (root : Key) (es ds : List Event) → IsPlain meaning is_leaf truth limit root es → IsPlain meaning is_leaf truth limit root ds → es ≡ ds
  only_one root es ds p q = one_run (opened meaning is_leaf truth limit root) (none (is_leaf root)) es ds p q
    where
      none : (b : Bool) → count (is_held {F = F}) (record { key = root; condition = cond b leaf waiting } ∷ []) ≤ 1
      none true = omega arith
      none false = omega arith

  pub plain_is_run : (root : Key) (es : List Event) → IsPlain meaning is_leaf truth limit root es → IsRun meaning is_leaf truth limit root es
  plain_is_run root es p = plain_runs (opened meaning is_leaf truth limit root) es p
