-- The history of a container as it grows by an event.
use Rattle.std.proofs.Common.{ℕ, zero, suc, ◌+◌, ◌*◌, ◌≤◌, ◌<◌, ◌≡◌, ◌∙◌, refl, sym, ap, subst, Bool, true, false, cond, List, [], ◌∷◌, ◌++◌, length, map, Option, Some, None, Fits, w32, arith}
use Rattle.std.specs.Prelude.{leb}
use Rattle.std.proofs.lemmas.Bool.Decides.{nat_tests}
use Rattle.qe_ring.proofs.Bools.{both_hold}
use Rattle.qe_piece.specs.Meaning.{Meaning, gives, fails}
use Rattle.qe_board.specs.declared.event.Event.{Event}
use Rattle.qe_board.specs.declared.event.Event.TheVariants.{Take, Give, Fail, Drop, Cancel, Fill, Starve}
use Rattle.qe_board.specs.State.{Key, Link, Condition, waiting, held, expanded, leaf, failed, dropped, Entry, State, is_waiting, is_held, is_held_by, is_unset, keys, at, count}
use Rattle.qe_board.specs.Machine.{new_keys, put, drop_waiting, waits_first, holds, opening_entry, child_keys, links, fits, meaning_at, gives_and, is_enabled, given, failing, effect, opened, IsRunFrom, replay_from}
use Rattle.qe_board.specs.History.{History, grown, first_key, to_come, state_of, IsLawful, IsKept}
use Rattle.qe_board.proofs.Conditions.{count_put, first_waits, waiting_waits, waiting_not_held, held_not_waiting, held_is_held, none_wait, held_stay, count_append, length_append, length_put, length_drop, count_few}
use Rattle.qe_board.proofs.Counting.{length_keys}

-- the history that a container's fields show
abbrev pub history_of : {F : Type 0} → State F → ℕ → List Event → History
history_of s limit js = record { root = first_key s.entries; limit = limit; journal = js }

-- ---- entries to come

pub opening_counts : (F : Type 0) (is_leaf : Key → Bool) (ks : List Key) → count {F = F} is_held (map (opening_entry is_leaf) ks) ≡ 0
opening_counts F is_leaf [] = refl
opening_counts F is_leaf (k ∷ ks) = by_test (is_leaf k) (opening_counts F is_leaf ks)
  where
    by_test : (b : Bool) → count {F = F} is_held (map (opening_entry is_leaf) ks) ≡ 0 → ◌≡◌ {A = ℕ} (cond (is_held {F = F} (cond b leaf waiting)) 1 0 + count {F = F} is_held (map (opening_entry is_leaf) ks)) 0
    by_test true rest = omega (arith, rest)
    by_test false rest = omega (arith, rest)

length_opening : (F : Type 0) (is_leaf : Key → Bool) (ks : List Key) → length {A = Entry F} (map (opening_entry is_leaf) ks) ≡ length ks
length_opening F is_leaf [] = refl
length_opening F is_leaf (k ∷ ks) = ap suc (length_opening F is_leaf ks)

module _ {F : Type 0} where
  -- ---- the root stays

  pub first_put : (n : ℕ) (c : Condition F) (es : List (Entry F)) → first_key (put n c es) ≡ first_key es
  first_put n c [] = refl
  first_put zero c (e ∷ es) = refl
  first_put (suc n) c (e ∷ es) = refl

  pub first_drop : (es : List (Entry F)) → first_key (drop_waiting es) ≡ first_key es
  first_drop [] = refl
  first_drop (e ∷ es) = refl

  pub first_more : (q : Condition F → Bool) (n : ℕ) (es more : List (Entry F)) → at q n es ≡ true → first_key (es ++ more) ≡ first_key es
  first_more q n [] more there = absurd (cc)
  first_more q n (e ∷ es) more there = refl

  -- ---- room for one event

  -- the entry that waits is held
  pub take_less : (w n : ℕ) (s : State F) → waits_first n s.entries ≡ true → suc (to_come (record { entries = put n (held w) s.entries; stop = s.stop })) ≤ to_come s
  take_less w n s first =
      let there = first_waits n s.entries first in
      let e : count is_waiting (put n (held w) s.entries) + 1 ≡ count is_waiting s.entries + 0 = count_put is_waiting is_waiting true waiting_waits n (held w) s.entries there in
      let f : count is_held (put n (held w) s.entries) + 0 ≡ count is_held s.entries + 1 = count_put is_held is_waiting false waiting_not_held n (held w) s.entries there in
      omega (arith, e, f)

  -- the entry that is held neither waits nor is held any more
  pub put_less : (w n : ℕ) (c : Condition F) (s : State F) → is_waiting c ≡ false → is_held c ≡ false → holds w n s ≡ true → suc (to_come (record { entries = put n c s.entries; stop = s.stop })) ≤ to_come s
  put_less w n c s not_waiting not_held there =
      let e : count is_waiting (put n c s.entries) + 0 ≡ count is_waiting s.entries + 0 = count_put is_waiting (is_held_by w) false (held_not_waiting w) n c s.entries there ∙ ap (λ b. count is_waiting s.entries + cond b 1 0) not_waiting in
      let f : count is_held (put n c s.entries) + 1 ≡ count is_held s.entries + 0 = count_put is_held (is_held_by w) true (held_is_held w) n c s.entries there ∙ ap (λ b. count is_held s.entries + cond b 1 0) not_held in
      omega (arith, e, f)

  -- what waits is dropped, where no stop was set
  pub stop_less : (s t : State F) → t.entries ≡ drop_waiting s.entries → is_unset t.stop ≡ false → is_unset s.stop ≡ true → suc (to_come t) ≤ to_come s
  stop_less s t drops set unset =
      let w : count is_waiting t.entries ≡ 0 = ap (count is_waiting) drops ∙ none_wait s.entries in
      let h : count is_held t.entries ≡ count is_held s.entries = ap (count is_held) drops ∙ held_stay s.entries in
      let a : ◌≡◌ {A = ℕ} (cond (is_unset t.stop) 2 0) 0 = ap (λ b. cond b 2 0) set in
      let b : ◌≡◌ {A = ℕ} (cond (is_unset s.stop) 2 0) 2 = ap (λ b. cond b 2 0) unset in
      omega (arith, w, h, a, b)

  -- the successors that are new wait, or are leaves
  pub give_room : (is_leaf : Key → Bool) (w n : ℕ) (ls : List Link) (s : State F) (ks : List Key) → holds w n s ≡ true
      → suc (to_come (record { entries = put n (expanded ls) s.entries ++ map (opening_entry is_leaf) ks; stop = s.stop })) ≤ to_come s + 2 * length ks
  give_room is_leaf w n ls s ks there =
      let es = put n (expanded ls) s.entries in
      let more : List (Entry F) = map (opening_entry is_leaf) ks in
      let e : count is_waiting es + 0 ≡ count is_waiting s.entries + 0 = count_put is_waiting (is_held_by w) false (held_not_waiting w) n (expanded ls) s.entries there in
      let f : count is_held es + 1 ≡ count is_held s.entries + 0 = count_put is_held (is_held_by w) true (held_is_held w) n (expanded ls) s.entries there in
      let a = count_append is_waiting es more in
      let b = count_append is_held es more in
      let c = count_few is_waiting more in
      let d = opening_counts F is_leaf ks in
      let l = length_opening F is_leaf ks in
      omega (arith, e, f, a, b, c, d, l)

module _ {F : Type 0} (meaning : Key → Meaning F) (is_leaf truth : Key → Bool) where
  -- ---- one event more

  pub run_more : (limit : ℕ) (s : State F) (es : List Event) (e : Event) → IsRunFrom meaning is_leaf truth limit s es → is_enabled meaning is_leaf truth limit e (replay_from meaning is_leaf truth limit s es) ≡ true
      → IsRunFrom meaning is_leaf truth limit s (es ++ e ∷ [])
  run_more limit s [] e run may = (may, tt)
  run_more limit s (d ∷ es) e run may = (run.0, run_more limit (effect meaning is_leaf truth limit d s) es e run.1 may)

  pub replay_more : (limit : ℕ) (s : State F) (es : List Event) (e : Event) → replay_from meaning is_leaf truth limit s (es ++ e ∷ []) ≡ effect meaning is_leaf truth limit e (replay_from meaning is_leaf truth limit s es)
  replay_more limit s [] e = refl
  replay_more limit s (d ∷ es) e = replay_more limit (effect meaning is_leaf truth limit d s) es e

  pub length_more : (js : List Event) (e : Event) → length (js ++ e ∷ []) ≡ suc (length js)
  length_more [] e = refl
  length_more (j ∷ js) e = ap suc (length_more js e)

  -- the state before and after an event
  module _ (s t : State F) (limit capacity : ℕ) (js ks : List Event) (e : Event) where
    -- the event may come, and makes the second state of the first
    pub record Goes : Type 0 where
      pub kept : IsKept meaning is_leaf truth (history_of s limit js) s capacity
      pub enabled : is_enabled meaning is_leaf truth limit e s ≡ true
      pub state : t ≡ effect meaning is_leaf truth limit e s
      pub root : first_key t.entries ≡ first_key s.entries
      pub journal : ks ≡ js ++ e ∷ []

    pub grown_by : Goes → history_of t limit ks ≡ grown (history_of s limit js) (e ∷ [])
    grown_by goes = λ i. record { root = goes.root i; limit = limit; journal = goes.journal i }

    pub kept_by : Goes → (room : ℕ) → suc (length js + to_come t) ≤ room → IsKept meaning is_leaf truth (history_of t limit ks) t room
    kept_by goes room enough =
        let law = goes.kept.lawful in
        let is = goes.kept.replayed in
        let long = length_more js e in
        subst (λ h. IsKept meaning is_leaf truth h t room) (sym (grown_by goes)) (record {
          lawful = record {
            run = run_more limit (opened meaning is_leaf truth limit (first_key s.entries)) js e law.run (ap (is_enabled meaning is_leaf truth limit e) (sym is) ∙ goes.enabled);
            some = law.some;
            small = law.small;
          };
          replayed = goes.state ∙ (ap (effect meaning is_leaf truth limit e) is ∙ sym (replay_more limit (opened meaning is_leaf truth limit (first_key s.entries)) js e));
          room = omega (arith, enough, long);
        })

    pub kept_less : Goes → suc (to_come t) ≤ to_come s → IsKept meaning is_leaf truth (history_of t limit ks) t capacity
    kept_less goes less = let had = goes.kept.room in kept_by goes capacity (omega (arith, had, less))

  -- ---- what a kept history tells

  -- the state that its fields hold is the one that the journal leaves
  pub state_shown : (s : State F) (limit capacity : ℕ) (js : List Event) (h : History) → IsKept meaning is_leaf truth (history_of s limit js) s capacity → history_of s limit js ≡ h → s ≡ state_of meaning is_leaf truth h
  state_shown s limit capacity js h kept shown = kept.replayed ∙ ap (state_of meaning is_leaf truth) shown

  pub lawful_shown : (s : State F) (limit capacity : ℕ) (js : List Event) (h : History) → IsKept meaning is_leaf truth (history_of s limit js) s capacity → history_of s limit js ≡ h → IsLawful meaning is_leaf truth h
  lawful_shown s limit capacity js h kept shown = subst (IsLawful meaning is_leaf truth) shown kept.lawful

  -- ---- there are no more entries than the limit

  module _ (limit : ℕ) where
    abbrev Few : State F → Type 0
    Few s = length s.entries ≤ limit

    give_few : (n : ℕ) (s : State F) → Few s → (m : Option (Meaning F)) → gives_and meaning is_leaf truth limit (λ cs. fits meaning is_leaf truth limit cs s) m ≡ true → Few (given meaning is_leaf truth limit n m s)
    give_few n s few None h = few
    give_few n s few (Some (fails f)) h = few
    give_few n s few (Some (gives cs)) h =
        let ks = new_keys (keys s) (child_keys cs) in
        let es = put n (expanded (links cs (keys s ++ ks))) s.entries in
        let a = length_append es (map (opening_entry is_leaf) ks) in
        let b = length_put n (expanded (links cs (keys s ++ ks))) s.entries in
        let c = length_opening F is_leaf ks in
        let d = keys_long (keys s) ks in
        let k = length_keys s.entries in
        let most = at_most (length (keys s ++ ks)) h in
        omega (arith, a, b, c, d, k, most)
      where
        at_most : (i : ℕ) → leb i limit ≡ true → i ≤ limit
        at_most i test = grind (arith, nat_tests)

        keys_long : (xs ys : List Key) → length (xs ++ ys) ≡ length xs + length ys
        keys_long [] ys = omega arith
        keys_long (x ∷ xs) ys = let rest = keys_long xs ys in omega (arith, rest)

    fail_few : (n : ℕ) (s : State F) → Few s → (m : Option (Meaning F)) → Few (failing meaning is_leaf truth limit n m s)
    fail_few n s few None = few
    fail_few n s few (Some (gives cs)) = few
    fail_few n s few (Some (fails f)) = let l = length_put n (failed f) s.entries in omega (arith, few, l)

    few_left : (e : Event) (s : State F) → Few s → is_enabled meaning is_leaf truth limit e s ≡ true → Few (effect meaning is_leaf truth limit e s)
    few_left (Take w n) s few h = let l = length_put n (held w) s.entries in omega (arith, few, l)
    few_left (Give w n) s few h = give_few n s few (meaning_at meaning is_leaf truth limit n s) (both_hold (is_unset s.stop) _ (both_hold (holds w n s) _ h).1).1
    few_left (Fail w n) s few h = fail_few n s few (meaning_at meaning is_leaf truth limit n s)
    few_left (Drop w n) s few h = let l = length_put n dropped s.entries in omega (arith, few, l)
    few_left (Cancel w) s few h = let l = length_drop s.entries in omega (arith, few, l)
    few_left (Fill w n) s few h = let l = length_put n dropped s.entries in let k = length_drop (put n dropped s.entries) in omega (arith, few, l, k)
    few_left (Starve w) s few h = let l = length_drop s.entries in omega (arith, few, l)

    pub few_from : (s : State F) (es : List Event) → Few s → IsRunFrom meaning is_leaf truth limit s es → Few (replay_from meaning is_leaf truth limit s es)
    few_from s [] few run = few
    few_from s (e ∷ es) few run = few_from (effect meaning is_leaf truth limit e s) es (few_left e s few run.0) run.1

  pub few_kept : (h : History) (s : State F) (capacity : ℕ) → IsKept meaning is_leaf truth h s capacity → length s.entries ≤ h.limit
  few_kept h s capacity kept =
      subst (λ t. length t.entries ≤ h.limit) (sym kept.replayed)
      (few_from h.limit (opened meaning is_leaf truth h.limit h.root) h.journal kept.lawful.some kept.lawful.run)

  -- the number of an entry fits 32 bits
  pub number_fits : (h : History) (s : State F) (capacity : ℕ) → IsKept meaning is_leaf truth h s capacity → (n : ℕ) → n < length s.entries → Fits w32 n
  number_fits h s capacity kept n within = let few = few_kept h s capacity kept in let small = kept.lawful.small in omega (arith, few, small, within)

  pub count_fits : (h : History) (s : State F) (capacity : ℕ) → IsKept meaning is_leaf truth h s capacity → (n : ℕ) → n ≤ length s.entries → Fits w32 n
  count_fits h s capacity kept n within = let few = few_kept h s capacity kept in let small = kept.lawful.small in omega (arith, few, small, within)
