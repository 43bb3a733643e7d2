-- The laws of runs.
use Rattle.std.proofs.Common.{ℕ, suc, ◌+◌, ◌*◌, ◌≤◌, ◌≡◌, ◌∙◌, refl, sym, ap, subst, Bool, true, false, cond, eqb, not, ◌&&◌, List, [], ◌∷◌, ◌++◌, length, map, Option, Some, None, arith}
use Rattle.std.proofs.lemmas.Bool.{eqb-true}
use Rattle.qe_ring.proofs.Bools.{both_hold}
use Rattle.qe_piece.specs.Meaning.{Meaning, gives, fails}
use Rattle.qe_board.specs.declared.event.Event.{Event}
use Rattle.qe_board.specs.declared.event.Event.TheVariants.{Take, Give, Fail, Drop, Cancel, Fill, Starve}
use Rattle.qe_board.specs.declared.event.Stopping.{Stopping}
use Rattle.qe_board.specs.declared.event.Stopping.TheVariants.{Unset, Truth, Limit, Memory}
use Rattle.qe_board.specs.State.{Key, Condition, waiting, held, expanded, leaf, failed, dropped, Entry, State, is_waiting, is_held, is_held_by, is_unset, keys, count, is_done, has_true_leaf}
use Rattle.qe_board.specs.Machine.{new_keys, put, drop_waiting, waits_first, holds, opening_entry, opened, child_keys, links, fits, meaning_at, gives_and, does_fail, is_enabled, given, failing, effect, IsRunFrom, replay_from, replay}
use Rattle.qe_board.specs.Laws.{TakesNone, takes, StopMeans, RunLaws}
use Rattle.qe_board.proofs.PlainRuns.{plain_is_run, only_one}
use Rattle.qe_board.proofs.Conditions.{count_put, first_waits, waiting_waits, waiting_not_held, held_not_waiting, held_is_held, none_wait, held_stay, count_append, length_append, count_few, Settled, settled_put, settled_itself, settled_drop, settled_more, settled_not_first, true_put, true_drop, true_more, length_put, length_drop}

not_both : (b : Bool) → b ≡ true → not b ≡ true → ⊥
not_both b passes other = absurd (let k = sym other ∙ ap not passes in cc)

module _ {F : Type 0} (meaning : Key → Meaning F) (is_leaf truth : Key → Bool) (limit : ℕ) where
  abbrev enabled : Event → State F → Bool
  enabled = is_enabled meaning is_leaf truth limit

  abbrev after : Event → State F → State F
  after = effect meaning is_leaf truth limit

  abbrev Runs : State F → List Event → Type 0
  Runs = IsRunFrom meaning is_leaf truth limit

  abbrev opening : Key → Entry F
  opening = opening_entry is_leaf

  -- ---- a leaf that is true stays one

  given_true : (n : ℕ) (m : Option (Meaning F)) (s : State F) → has_true_leaf truth s ≡ true → has_true_leaf truth (given meaning is_leaf truth limit n m s) ≡ true
  given_true n (Some (gives cs)) s h = true_more truth _ _ (true_put truth n _ s.entries ∙ h)
  given_true n (Some (fails f)) s h = h
  given_true n None s h = h

  failing_true : (n : ℕ) (m : Option (Meaning F)) (s : State F) → has_true_leaf truth s ≡ true → has_true_leaf truth (failing meaning is_leaf truth limit n m s) ≡ true
  failing_true n (Some (gives cs)) s h = h
  failing_true n (Some (fails f)) s h = true_put truth n _ s.entries ∙ h
  failing_true n None s h = h

  true_stays : (e : Event) (s : State F) → has_true_leaf truth s ≡ true → has_true_leaf truth (after e s) ≡ true
  true_stays (Take w n) s h = true_put truth n _ s.entries ∙ h
  true_stays (Give w n) s h = given_true n (meaning_at meaning is_leaf truth limit n s) s h
  true_stays (Fail w n) s h = failing_true n (meaning_at meaning is_leaf truth limit n s) s h
  true_stays (Drop w n) s h = true_put truth n _ s.entries ∙ h
  true_stays (Cancel w) s h = true_drop truth s.entries ∙ h
  true_stays (Fill w n) s h = true_drop truth (put n dropped s.entries) ∙ (true_put truth n _ s.entries ∙ h)
  true_stays (Starve w) s h = true_drop truth s.entries ∙ h

  ends_taking : (s : State F) (es : List Event) → has_true_leaf truth s ≡ true → Runs s es → TakesNone es
  ends_taking s [] h run = tt
  ends_taking s (Take w n ∷ es) h run =
      let parts = both_hold (waits_first n s.entries) (not (has_true_leaf truth s) && is_unset s.stop) run.0 in
      not_both (has_true_leaf truth s) h (both_hold (not (has_true_leaf truth s)) (is_unset s.stop) parts.1).0
  ends_taking s (Give w n ∷ es) h run = ends_taking (after (Give w n) s) es (true_stays (Give w n) s h) run.1
  ends_taking s (Fail w n ∷ es) h run = ends_taking (after (Fail w n) s) es (true_stays (Fail w n) s h) run.1
  ends_taking s (Drop w n ∷ es) h run = ends_taking (after (Drop w n) s) es (true_stays (Drop w n) s h) run.1
  ends_taking s (Cancel w ∷ es) h run = ends_taking (after (Cancel w) s) es (true_stays (Cancel w) s h) run.1
  ends_taking s (Fill w n ∷ es) h run = ends_taking (after (Fill w n) s) es (true_stays (Fill w n) s h) run.1
  ends_taking s (Starve w ∷ es) h run = ends_taking (after (Starve w) s) es (true_stays (Starve w) s h) run.1

  -- ---- an entry that was taken is not taken again

  given_settled : (n k : ℕ) (m : Option (Meaning F)) (s : State F) → Settled k s.entries → Settled k (given meaning is_leaf truth limit n m s).entries
  given_settled n k (Some (gives cs)) s h = settled_more k _ _ (settled_put k n _ s.entries refl h)
  given_settled n k (Some (fails f)) s h = h
  given_settled n k None s h = h

  failing_settled : (n k : ℕ) (m : Option (Meaning F)) (s : State F) → Settled k s.entries → Settled k (failing meaning is_leaf truth limit n m s).entries
  failing_settled n k (Some (gives cs)) s h = h
  failing_settled n k (Some (fails f)) s h = settled_put k n _ s.entries refl h
  failing_settled n k None s h = h

  settled_stays : (e : Event) (k : ℕ) (s : State F) → Settled k s.entries → Settled k (after e s).entries
  settled_stays (Take w n) k s h = settled_put k n _ s.entries refl h
  settled_stays (Give w n) k s h = given_settled n k (meaning_at meaning is_leaf truth limit n s) s h
  settled_stays (Fail w n) k s h = failing_settled n k (meaning_at meaning is_leaf truth limit n s) s h
  settled_stays (Drop w n) k s h = settled_put k n _ s.entries refl h
  settled_stays (Cancel w) k s h = settled_drop k s.entries h
  settled_stays (Fill w n) k s h = settled_drop k (put n dropped s.entries) (settled_put k n _ s.entries refl h)
  settled_stays (Starve w) k s h = settled_drop k s.entries h

  taken_first : (w n : ℕ) (s : State F) → enabled (Take w n) s ≡ true → waits_first n s.entries ≡ true
  taken_first w n s h = (both_hold (waits_first n s.entries) (not (has_true_leaf truth s) && is_unset s.stop) h).0

  takes_no_more : (k : ℕ) (s : State F) (es : List Event) → Settled k s.entries → Runs s es → takes k es ≡ 0
  takes_no_more k s [] h run = refl
  takes_no_more k s (Take w n ∷ es) h run = by_test (eqb n k) refl (takes_no_more k (after (Take w n) s) es (settled_stays (Take w n) k s h) run.1)
    where
      by_test : (b : Bool) → eqb n k ≡ b → takes k es ≡ 0 → cond b 1 0 + takes k es ≡ 0
      by_test true same rest = absurd (settled_not_first k s.entries h (subst (λ i. waits_first i s.entries ≡ true) (eqb-true n k same) (taken_first w n s run.0)))
      by_test false apart rest = omega (arith, rest)
  takes_no_more k s (Give w n ∷ es) h run = takes_no_more k (after (Give w n) s) es (settled_stays (Give w n) k s h) run.1
  takes_no_more k s (Fail w n ∷ es) h run = takes_no_more k (after (Fail w n) s) es (settled_stays (Fail w n) k s h) run.1
  takes_no_more k s (Drop w n ∷ es) h run = takes_no_more k (after (Drop w n) s) es (settled_stays (Drop w n) k s h) run.1
  takes_no_more k s (Cancel w ∷ es) h run = takes_no_more k (after (Cancel w) s) es (settled_stays (Cancel w) k s h) run.1
  takes_no_more k s (Fill w n ∷ es) h run = takes_no_more k (after (Fill w n) s) es (settled_stays (Fill w n) k s h) run.1
  takes_no_more k s (Starve w ∷ es) h run = takes_no_more k (after (Starve w) s) es (settled_stays (Starve w) k s h) run.1

  taken_once : (k : ℕ) (s : State F) (es : List Event) → Runs s es → takes k es ≤ 1
  taken_once k s [] run = omega arith
  taken_once k s (Take w n ∷ es) run = by_test (eqb n k) refl (taken_once k (after (Take w n) s) es run.1)
    where
      by_test : (b : Bool) → eqb n k ≡ b → takes k es ≤ 1 → cond b 1 0 + takes k es ≤ 1
      by_test true same rest =
          let first = subst (λ i. waits_first i s.entries ≡ true) (eqb-true n k same) (taken_first w n s run.0) in
          let settled = subst (λ i. Settled k (put i (held w) s.entries)) (sym (eqb-true n k same)) (settled_itself k is_waiting (held w) s.entries refl (first_waits k s.entries first)) in
          let none = takes_no_more k (after (Take w n) s) es settled run.1 in omega (arith, none)
      by_test false apart rest = omega (arith, rest)
  taken_once k s (Give w n ∷ es) run = taken_once k (after (Give w n) s) es run.1
  taken_once k s (Fail w n ∷ es) run = taken_once k (after (Fail w n) s) es run.1
  taken_once k s (Drop w n ∷ es) run = taken_once k (after (Drop w n) s) es run.1
  taken_once k s (Cancel w ∷ es) run = taken_once k (after (Cancel w) s) es run.1
  taken_once k s (Fill w n ∷ es) run = taken_once k (after (Fill w n) s) es run.1
  taken_once k s (Starve w ∷ es) run = taken_once k (after (Starve w) s) es run.1

  -- ---- few events

  -- so many events came, and there is room for two for each entry that waits, one for each that is held, and one for a stop
  abbrev Room : ℕ → State F → Type 0
  Room k s = k + 2 * count is_waiting s.entries + count is_held s.entries + cond (is_unset s.stop) 1 0 ≤ 2 * length s.entries + 1

  opening_none_held : (ks : List Key) → count is_held (map opening ks) ≡ 0
  opening_none_held [] = refl
  opening_none_held (k ∷ ks) = by_test (is_leaf k) (opening_none_held ks)
    where
      by_test : (b : Bool) → count is_held (map opening ks) ≡ 0 → cond (is_held {F = F} (cond b leaf waiting)) 1 0 + count is_held (map opening ks) ≡ 0
      by_test true rest = omega (arith, rest)
      by_test false rest = omega (arith, rest)

  length_opening : (ks : List Key) → length (map opening ks) ≡ length ks
  length_opening [] = refl
  length_opening (k ∷ ks) = ap suc (length_opening ks)

  -- an entry that is held gets another condition
  module _ (k w n : ℕ) (s : State F) (room : Room k s) (there : holds w n s ≡ true) where
    waiting_put : (c : Condition F) → is_waiting c ≡ false → count is_waiting (put n c s.entries) ≡ count is_waiting s.entries
    waiting_put c not_waiting =
        let e : count is_waiting (put n c s.entries) + 0 ≡ count is_waiting s.entries + cond (is_waiting c) 1 0 = count_put is_waiting (is_held_by w) false (held_not_waiting w) n c s.entries there in
        let f : count is_waiting (put n c s.entries) + 0 ≡ count is_waiting s.entries + 0 = e ∙ ap (λ b. count is_waiting s.entries + cond b 1 0) not_waiting in
        omega (arith, f)

    held_put : (c : Condition F) → is_held c ≡ false → count is_held (put n c s.entries) + 1 ≡ count is_held s.entries
    held_put c not_held =
        let e : count is_held (put n c s.entries) + 1 ≡ count is_held s.entries + cond (is_held c) 1 0 = count_put is_held (is_held_by w) true (held_is_held w) n c s.entries there in
        let f : count is_held (put n c s.entries) + 1 ≡ count is_held s.entries + 0 = e ∙ ap (λ b. count is_held s.entries + cond b 1 0) not_held in
        omega (arith, f)

    room_put : (c : Condition F) → is_waiting c ≡ false → is_held c ≡ false → Room (suc k) (record { entries = put n c s.entries; stop = s.stop })
    room_put c not_waiting not_held =
        let waits = waiting_put c not_waiting in let holds_less = held_put c not_held in let long = length_put n c s.entries in omega (arith, room, waits, holds_less, long)

    room_given : (m : Option (Meaning F)) → gives_and meaning is_leaf truth limit (λ cs. fits meaning is_leaf truth limit cs s) m ≡ true → Room (suc k) (given meaning is_leaf truth limit n m s)
    room_given None h = absurd (cc)
    room_given (Some (fails f)) h = absurd (cc)
    room_given (Some (gives cs)) h =
        let ks = new_keys (keys s) (child_keys cs) in
        let c : Condition F = expanded (links cs (keys s ++ ks)) in
        let waits = waiting_put c refl in let holds_less = held_put c refl in let long = length_put n c s.entries in
        let more = map opening ks in
        let waits_more = count_append is_waiting (put n c s.entries) more in let holds_more = count_append is_held (put n c s.entries) more in
        let longer = length_append (put n c s.entries) more in let few = count_few is_waiting more in let none = opening_none_held ks in
        omega (arith, room, waits, holds_less, long, waits_more, holds_more, longer, few, none)

    room_failing : (m : Option (Meaning F)) → does_fail meaning is_leaf truth limit m ≡ true → Room (suc k) (failing meaning is_leaf truth limit n m s)
    room_failing None h = absurd (cc)
    room_failing (Some (fails f)) h = room_put (failed f) refl refl
    room_failing (Some (gives cs)) h = absurd (cc)

  unset_counts : (t : Stopping) → is_unset t ≡ true → ◌≡◌ {A = ℕ} (cond (is_unset t) 1 0) 1
  unset_counts t h = ap (λ b. cond b 1 0) h

  room_left : (k : ℕ) (e : Event) (s : State F) → Room k s → enabled e s ≡ true → Room (suc k) (after e s)
  room_left k (Take w n) s room h =
      let there = first_waits n s.entries (taken_first w n s h) in
      let waits : count is_waiting (put n (held w) s.entries) + 1 ≡ count is_waiting s.entries + 0 = count_put is_waiting is_waiting true waiting_waits n (held w) s.entries there in
      let more_held : count is_held (put n (held w) s.entries) + 0 ≡ count is_held s.entries + 1 = count_put is_held is_waiting false waiting_not_held n (held w) s.entries there in
      let long = length_put n (held w) s.entries in omega (arith, room, waits, more_held, long)
  room_left k (Give w n) s room h =
      let parts = both_hold (holds w n s) _ h in
      room_given k w n s room parts.0 (meaning_at meaning is_leaf truth limit n s) (both_hold (is_unset s.stop) _ parts.1).1
  room_left k (Fail w n) s room h =
      let parts = both_hold (holds w n s) _ h in
      room_failing k w n s room parts.0 (meaning_at meaning is_leaf truth limit n s) (both_hold (is_unset s.stop) _ parts.1).1
  room_left k (Drop w n) s room h = room_put k w n s room (both_hold (holds w n s) _ h).0 dropped refl refl
  room_left k (Cancel w) s room h =
      let one = unset_counts s.stop (both_hold (has_true_leaf truth s) _ h).1 in
      let waits = none_wait s.entries in let stay = held_stay s.entries in let long = length_drop s.entries in omega (arith, room, one, waits, stay, long)
  room_left k (Fill w n) s room h =
      let parts = both_hold (holds w n s) _ h in
      let one = unset_counts s.stop (both_hold (is_unset s.stop) _ parts.1).0 in
      let waits = none_wait (put n dropped s.entries) in let stay = held_stay (put n dropped s.entries) in let long = length_drop (put n dropped s.entries) in
      let long_too = length_put n dropped s.entries in let holds_less = held_put k w n s room parts.0 dropped refl in
      omega (arith, room, one, waits, stay, long, long_too, holds_less)
  room_left k (Starve w) s room h =
      let one = unset_counts s.stop (both_hold (not (has_true_leaf truth s)) _ h).1 in
      let waits = none_wait s.entries in let stay = held_stay s.entries in let long = length_drop s.entries in omega (arith, room, one, waits, stay, long)

  few_from : (k : ℕ) (s : State F) (es : List Event) → Room k s → Runs s es → k + length es ≤ 2 * length (replay_from meaning is_leaf truth limit s es).entries + 1
  few_from k s [] room run = omega (arith, room)
  few_from k s (e ∷ es) room run = let rest = few_from (suc k) (after e s) es (room_left k e s room run.0) run.1 in omega (arith, rest)

  room_opened : (root : Key) → Room 0 (opened meaning is_leaf truth limit root)
  room_opened root = by_test (is_leaf root)
    where
      by_test : (b : Bool) → Room 0 (record { entries = record { key = root; condition = cond b leaf waiting } ∷ []; stop = Unset })
      by_test true = omega arith
      by_test false = omega arith

  few_events : (root : Key) (es : List Event) → Runs (opened meaning is_leaf truth limit root) es → length es ≤ 2 * length (replay meaning is_leaf truth limit root es).entries + 1
  few_events root es run = let few = few_from 0 (opened meaning is_leaf truth limit root) es (room_opened root) run in omega (arith, few)

  -- ---- what a stop means

  abbrev Means : State F → Type 0
  Means s = StopMeans s.stop (count is_waiting s.entries) (has_true_leaf truth s)

  unset_means : (t : Stopping) (n : ℕ) (b : Bool) → is_unset t ≡ true → StopMeans t n b
  unset_means Unset n b h = tt
  unset_means Truth n b h = absurd (cc)
  unset_means Limit n b h = absurd (cc)
  unset_means Memory n b h = absurd (cc)

  is_false : (b : Bool) → not b ≡ true → b ≡ false
  is_false true h = absurd (cc)
  is_false false h = refl

  given_means : (n : ℕ) (m : Option (Meaning F)) (s : State F) → is_unset s.stop ≡ true → Means (given meaning is_leaf truth limit n m s)
  given_means n (Some (gives cs)) s h = unset_means s.stop _ _ h
  given_means n (Some (fails f)) s h = unset_means s.stop _ _ h
  given_means n None s h = unset_means s.stop _ _ h

  failing_means : (n : ℕ) (m : Option (Meaning F)) (s : State F) → is_unset s.stop ≡ true → Means (failing meaning is_leaf truth limit n m s)
  failing_means n (Some (gives cs)) s h = unset_means s.stop _ _ h
  failing_means n (Some (fails f)) s h = unset_means s.stop _ _ h
  failing_means n None s h = unset_means s.stop _ _ h

  means_left : (e : Event) (s : State F) → Means s → enabled e s ≡ true → Means (after e s)
  means_left (Take w n) s means h =
      let parts = both_hold (waits_first n s.entries) (not (has_true_leaf truth s) && is_unset s.stop) h in
      unset_means s.stop _ _ (both_hold (not (has_true_leaf truth s)) (is_unset s.stop) parts.1).1
  means_left (Give w n) s means h = given_means n (meaning_at meaning is_leaf truth limit n s) s (both_hold (is_unset s.stop) _ (both_hold (holds w n s) _ h).1).0
  means_left (Fail w n) s means h = failing_means n (meaning_at meaning is_leaf truth limit n s) s (both_hold (is_unset s.stop) _ (both_hold (holds w n s) _ h).1).0
  means_left (Drop w n) s means h =
      let there = (both_hold (holds w n s) _ h).0 in
      let e : count is_waiting (put n dropped s.entries) + 0 ≡ count is_waiting s.entries + 0 = count_put is_waiting (is_held_by w) false (held_not_waiting w) n dropped s.entries there in
      let f : count is_waiting s.entries ≡ count is_waiting (put n dropped s.entries) = omega (arith, e) in
      subst (λ b. StopMeans s.stop (count is_waiting (put n dropped s.entries)) b) (sym (true_put truth n dropped s.entries)) (subst (λ i. StopMeans s.stop i (has_true_leaf truth s)) f means)
  means_left (Cancel w) s means h = (none_wait s.entries, true_drop truth s.entries ∙ (both_hold (has_true_leaf truth s) _ h).0)
  means_left (Fill w n) s means h =
      let parts = both_hold (is_unset s.stop) _ (both_hold (holds w n s) _ h).1 in
      (none_wait (put n dropped s.entries), true_drop truth (put n dropped s.entries) ∙ (true_put truth n dropped s.entries ∙ is_false (has_true_leaf truth s) (both_hold (not (has_true_leaf truth s)) _ parts.1).0))
  means_left (Starve w) s means h = (none_wait s.entries, true_drop truth s.entries ∙ is_false (has_true_leaf truth s) (both_hold (not (has_true_leaf truth s)) _ h).0)

  means_from : (s : State F) (es : List Event) → Means s → Runs s es → Means (replay_from meaning is_leaf truth limit s es)
  means_from s [] means run = means
  means_from s (e ∷ es) means run = means_from (after e s) es (means_left e s means run.0) run.1

  -- ---- what is done stays done

  done_parts : (s : State F) → is_done s ≡ true → (count is_waiting s.entries ≡ 0) × (count is_held s.entries ≡ 0)
  done_parts s h = let parts = both_hold (eqb (count is_waiting s.entries) 0) (eqb (count is_held s.entries) 0) h in (eqb-true (count is_waiting s.entries) 0 parts.0, eqb-true (count is_held s.entries) 0 parts.1)

  done_again : (es : List (Entry F)) (t : Stopping) → count is_held es ≡ 0 → is_done (record { entries = drop_waiting es; stop = t }) ≡ true
  done_again es t none = λ i. eqb (none_wait es i) 0 && eqb ((held_stay es ∙ none) i) 0

  held_somewhere : (w n : ℕ) (s : State F) → holds w n s ≡ true → count is_held s.entries ≡ 0 → ⊥
  held_somewhere w n s there none =
      let e : count is_held (put n dropped s.entries) + 1 ≡ count is_held s.entries + 0 = count_put is_held (is_held_by w) true (held_is_held w) n dropped s.entries there in omega (arith, e, none)

  done_stays : (s : State F) (e : Event) → is_done s ≡ true → enabled e s ≡ true → is_done (after e s) ≡ true
  done_stays s (Take w n) done h =
      let there = first_waits n s.entries (taken_first w n s h) in
      let e : count is_waiting (put n dropped s.entries) + 1 ≡ count is_waiting s.entries + 0 = count_put is_waiting is_waiting true waiting_waits n dropped s.entries there in
      let none = (done_parts s done).0 in absurd (omega (arith, e, none))
  done_stays s (Give w n) done h = absurd (held_somewhere w n s (both_hold (holds w n s) _ h).0 (done_parts s done).1)
  done_stays s (Fail w n) done h = absurd (held_somewhere w n s (both_hold (holds w n s) _ h).0 (done_parts s done).1)
  done_stays s (Drop w n) done h = absurd (held_somewhere w n s (both_hold (holds w n s) _ h).0 (done_parts s done).1)
  done_stays s (Cancel w) done h = done_again s.entries Truth (done_parts s done).1
  done_stays s (Fill w n) done h = absurd (held_somewhere w n s (both_hold (holds w n s) _ h).0 (done_parts s done).1)
  done_stays s (Starve w) done h = done_again s.entries Memory (done_parts s done).1

  pub run_laws : RunLaws meaning is_leaf truth limit
  run_laws = record {
    plain_is_run = plain_is_run meaning is_leaf truth limit;
    one_plain_run = only_one meaning is_leaf truth limit;
    truth_ends_taking = ends_taking;
    taken_once = λ root es run n. taken_once n (opened meaning is_leaf truth limit root) es run;
    few_events = few_events;
    stops_mean = λ root es run. means_from (opened meaning is_leaf truth limit root) es tt run;
    done_stays = done_stays;
  }
