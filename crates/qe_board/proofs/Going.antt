-- What each call of the container does to its history.
use Rattle.std.proofs.Common.{ℕ, zero, suc, ◌+◌, ◌*◌, ◌≤◌, ◌<◌, ◌≡◌, ◌∙◌, refl, sym, ap, subst, Bool, true, false, cond, not, ◌&&◌, ◌||◌, List, [], ◌∷◌, ◌++◌, length, map, Option, Some, None, slice_get, arith}
use Rattle.std.specs.Prelude.{option_map, eqb}
use Rattle.std.specs.Option.{is_some}
use Rattle.std.proofs.lemmas.Bool.Decides.{nat_tests}
use Rattle.qe_piece.specs.Meaning.{Meaning, Child, gives, fails}
use Rattle.qe_board.specs.declared.event.Event.{Event}
use Rattle.qe_board.specs.declared.event.Event.TheVariants.{Take, Give, Fail, Drop, Cancel, Fill, Starve}
use Rattle.qe_board.specs.declared.event.Stopping.TheVariants.{Truth, Limit, Memory}
use Rattle.qe_board.specs.State.{Key, Link, Condition, waiting, held, expanded, leaf, failed, dropped, Entry, State, is_waiting, is_held_by, is_unset, keys, at, has_true_leaf}
use Rattle.qe_board.specs.Machine.{new_keys, put, drop_waiting, waits_first, holds, opening_entry, child_keys, links, fits, meaning_at, gives_and, does_fail, given, failing}
use Rattle.qe_board.specs.Shown.{condition, conditions, IsCopy, IsCopyAt}
use Rattle.qe_board.specs.declared.entries.Progress.{Progress}
use Rattle.qe_board.specs.declared.entries.Progress.TheVariants as progress
use Rattle.qe_board.specs.Kept.{IsFit, AreFit, Keeps}
use Rattle.qe_board.specs.Tree.{Falls}
use Rattle.qe_board.proofs.Verdicts.{tree_laws}
use Rattle.qe_board.specs.Counted.{first_true}
use Rattle.qe_board.specs.History.{History, Holding, grown, first_key, to_come, state_of, IsKept}
use Rattle.qe_board.specs.Calls.{IsHeldIn, is_over, IsTaken}
use Rattle.qe_board.proofs.Conditions.{first_waits, any_true}
use Rattle.qe_board.proofs.Counting.{keys_put}
use Rattle.qe_board.proofs.Histories.{history_of, first_put, first_drop, take_less, first_more, put_less, stop_less, give_room, Goes, grown_by, kept_by, kept_less, state_shown}

-- the first true key is one of the keys
pub first_true_within : (truth : Key → Bool) (ks : List Key) (n : ℕ) → first_true truth ks ≡ Some n → n < length ks
first_true_within truth [] n is = absurd (cc)
first_true_within truth (k ∷ ks) n is = by_test (truth k) (first_true truth ks) (first_true_within truth ks) is
  where
    by_test : (b : Bool) (o : Option ℕ) → ((m : ℕ) → o ≡ Some m → m < length ks) → cond b (Some zero) (option_map (λ i. suc i) o) ≡ Some n → n < suc (length ks)
    by_test true o rest h = let e : zero ≡ n = out zero n h in omega (arith, e)
      where
        out : (i j : ℕ) → ◌≡◌ {A = Option ℕ} (Some i) (Some j) → i ≡ j
        out i j e = cc
    by_test false None rest h = absurd (cc)
    by_test false (Some m) rest h = let less = rest m refl in let e : suc m ≡ n = out (suc m) n h in omega (arith, less, e)
      where
        out : (i j : ℕ) → ◌≡◌ {A = Option ℕ} (Some i) (Some j) → i ≡ j
        out i j e = cc

-- a leaf is true where there is a first one
there_later : (o : Option ℕ) → is_some (option_map (λ i. suc i) o) ≡ is_some o
there_later None = refl
there_later (Some n) = refl

pub first_true_there : {F : Type 0} (truth : Key → Bool) (es : List (Entry F)) → is_some (first_true truth (map (λ e. e.key) es)) ≡ any_true truth es
first_true_there truth [] = refl
first_true_there truth (e ∷ es) = by_test (truth e.key) (first_true_there truth es)
  where
    by_test : (b : Bool) → is_some (first_true truth (map (λ e. e.key) es)) ≡ any_true truth es
        → is_some (cond b (Some zero) (option_map (λ i. suc i) (first_true truth (map (λ e. e.key) es)))) ≡ (b || any_true truth es)
    by_test true rest = refl
    by_test false rest = there_later (first_true truth (map (λ e. e.key) es)) ∙ rest

module _ {F : Type 0} where
  -- ---- what an entry's piece is

  -- the worker holds the entry that it was handed
  pub holds_put : (w n : ℕ) (q : Condition F → Bool) (es : List (Entry F)) → at q n es ≡ true → at (is_held_by w) n (put n (held w) es) ≡ true
  holds_put w n q [] there = absurd (cc)
  holds_put w zero q (e ∷ es) there = same w
    where
      same : (v : ℕ) → eqb v v ≡ true
      same v = grind (arith, nat_tests)
  holds_put w (suc n) q (e ∷ es) there = holds_put w n q es there

  -- an entry that is there has a key
  pub key_there : (n : ℕ) (es : List (Entry F)) (k : Key) → n < length es → ((e : Entry F) → slice_get es n ≡ Some e → k ≡ e.key) → slice_get (map (λ e. e.key) es) n ≡ Some k
  key_there n [] k within is = absurd (omega (arith, within))
  key_there zero (e ∷ es) k within is = ap Some (sym (is e refl))
  key_there (suc n) (e ∷ es) k within is = key_there n es k (omega (arith, within)) is

  -- one that passes a test passes what all pass, whatever becomes of it
  pub any_put : (q : Condition F → Bool) (n : ℕ) (c : Condition F) (es : List (Entry F)) → at q n es ≡ true → at (λ d. true) n (put n c es) ≡ true
  any_put q n c [] there = absurd (cc)
  any_put q zero c (e ∷ es) there = refl
  any_put q (suc n) c (e ∷ es) there = any_put q n c es there

  -- one that passes a test is there
  pub passes_within : (q : Condition F → Bool) (n : ℕ) (es : List (Entry F)) → at q n es ≡ true → n < length es
  passes_within q n [] there = absurd (cc)
  passes_within q zero (e ∷ es) there = omega arith
  passes_within q (suc n) (e ∷ es) there = let rest = passes_within q n es there in omega (arith, rest)

  -- what becomes of one that passes
  pub passes_condition : (q : Condition F → Bool) (n : ℕ) (es : List (Entry F)) (c : Condition F) → at q n es ≡ true → slice_get (conditions es) n ≡ Some c → q c ≡ true
  passes_condition q n [] c there is = absurd (cc)
  passes_condition q zero (e ∷ es) c there is = ap q (sym (out e.condition c is)) ∙ there
    where
      out : (a b : Condition F) → ◌≡◌ {A = Option (Condition F)} (Some a) (Some b) → a ≡ b
      out a b e = cc
  passes_condition q (suc n) (e ∷ es) c there is = passes_condition q n es c there is

  -- the meaning of an entry's piece
  pub meaning_is : (meaning : Key → Meaning F) (is_leaf truth : Key → Bool) (limit n : ℕ) (s : State F) (k : Key) → slice_get (keys s) n ≡ Some k → meaning_at meaning is_leaf truth limit n s ≡ Some (meaning k)
  meaning_is meaning is_leaf truth limit n s k is = from n s.entries is
    where
      from : (n : ℕ) (es : List (Entry F)) → slice_get (map (λ e. e.key) es) n ≡ Some k → elim (slice_get es n) [ Some e ↦ Some (meaning e.key) | None ↦ None ] ≡ Some (meaning k)
      from n [] is = absurd (cc)
      from zero (e ∷ es) is = ap (λ j. Some (meaning j)) (out e.key k is)
        where
          out : (a b : Key) → ◌≡◌ {A = Option Key} (Some a) (Some b) → a ≡ b
          out a b e = cc
      from (suc n) (e ∷ es) is = from n es is

-- a copy that is handed out has the key of its entry
pub key_copied : {N F : Type 0} (key : N → Key) (n : ℕ) (es : List (Entry F)) (m : N) (p : Progress N F) → p ≡ progress.Waiting m → IsCopyAt key n es p → n < length es → slice_get (map (λ e. e.key) es) n ≡ Some (key m)
key_copied key n es m p is copy within = key_there n es (key m) within (λ e there. subst (IsCopy key e.key) is (copy e there))

-- what waits or is held is no leaf
module _ {F : Type 0} (meaning : Key → Meaning F) (is_leaf truth : Key → Bool) (height : Key → ℕ) where
  waits_inner : (ks : List Key) (unset : Bool) (n : ℕ) (es : List (Entry F)) (k : Key) → AreFit meaning is_leaf truth height ks unset es → at is_waiting n es ≡ true → slice_get (map (λ e. e.key) es) n ≡ Some k → is_leaf k ≡ false
  waits_inner ks unset n [] k fit there is = absurd (cc)
  waits_inner ks unset zero (e ∷ es) k fit there is = ap is_leaf (sym (out e.key k is)) ∙ by_condition e.condition there fit.0
    where
      out : (a b : Key) → ◌≡◌ {A = Option Key} (Some a) (Some b) → a ≡ b
      out a b e = cc

      by_condition : (c : Condition F) → is_waiting c ≡ true → IsFit meaning is_leaf truth height ks unset c e.key → is_leaf e.key ≡ false
      by_condition waiting h fit = fit
      by_condition (held w) h fit = fit
      by_condition (expanded ls) h fit = absurd (cc)
      by_condition leaf h fit = absurd (cc)
      by_condition (failed f) h fit = absurd (cc)
      by_condition dropped h fit = absurd (cc)
  waits_inner ks unset (suc n) (e ∷ es) k fit there is = waits_inner ks unset n es k fit.1 there is

  -- the same in a kept history
  pub waiting_inner : Falls meaning is_leaf truth height → (s : State F) (h : History) (capacity : ℕ) → IsKept meaning is_leaf truth h s capacity → (n : ℕ) (k : Key) → waits_first n s.entries ≡ true → slice_get (keys s) n ≡ Some k → is_leaf k ≡ false
  waiting_inner falls s h capacity kept n k first is =
      let keeps = (tree_laws meaning is_leaf truth height h.limit falls kept.lawful.some).states_keep h.root h.journal kept.lawful.run in
      let here = subst (λ u. Keeps meaning is_leaf truth height h.root u) (sym kept.replayed) keeps in
      waits_inner (keys s) (is_unset s.stop) n s.entries k here.fit (first_waits n s.entries first) is

-- only `Waiting` is what waits
pub only_waiting : {N F : Type 0} (p : Progress N F) → ((m : N) → p ≡ progress.Waiting m → ⊥) → is_waiting (condition p) ≡ true → ⊥
only_waiting (progress.Waiting m) never waits = never m refl
only_waiting (progress.Held w) never waits = absurd (cc)
only_waiting (progress.Expanded ls) never waits = absurd (cc)
only_waiting progress.Leaf never waits = absurd (cc)
only_waiting (progress.Failed f) never waits = absurd (cc)
only_waiting progress.Dropped never waits = absurd (cc)

pub both_true : (a b : Bool) → a ≡ true → b ≡ true → (a && b) ≡ true
both_true true b h k = k
both_true false b h k = absurd (cc)

pub not_true : (a : Bool) → a ≡ false → not a ≡ true
not_true a h = ap not h

pub neither : (a b : Bool) → (a || not b) ≡ false → (a ≡ false) × (b ≡ true)
neither true b h = absurd (cc)
neither false true h = (refl, refl)
neither false false h = absurd (cc)

module _ {F : Type 0} (meaning : Key → Meaning F) (is_leaf truth : Key → Bool) where
  abbrev Kept : State F → ℕ → ℕ → List Event → Type 0
  Kept s limit capacity js = IsKept meaning is_leaf truth (history_of s limit js) s capacity

  -- what the journal's state tells, its fields tell
  pub going : (s : State F) (limit capacity : ℕ) (js : List Event) (h : History) → Kept s limit capacity js → history_of s limit js ≡ h → is_over truth (state_of meaning is_leaf truth h) ≡ false → is_over truth s ≡ false
  going s limit capacity js h kept shown over = ap (is_over truth) (state_shown meaning is_leaf truth s limit capacity js h kept shown) ∙ over

  -- ---- take

  module _ (w n limit capacity : ℕ) (s t : State F) (js ks : List Event) (kept : Kept s limit capacity js) (goes_on : is_over truth s ≡ false) (first : waits_first n s.entries ≡ true)
      (is : t ≡ record { entries = put n (held w) s.entries; stop = s.stop }) (more : ks ≡ js ++ Take w n ∷ []) where
    take_goes : Goes meaning is_leaf truth s t limit capacity js ks (Take w n)
    take_goes = record {
      kept = kept;
      enabled = both_true (waits_first n s.entries) _ first (both_true (not (has_true_leaf truth s)) (is_unset s.stop) (not_true (has_true_leaf truth s) (neither (has_true_leaf truth s) (is_unset s.stop) goes_on).0) (neither (has_true_leaf truth s) (is_unset s.stop) goes_on).1);
      state = is;
      root = ap (λ u. first_key u.entries) is ∙ first_put n (held w) s.entries;
      journal = more;
    }

    pub take_kept : Kept t limit capacity ks
    take_kept = kept_less meaning is_leaf truth s t limit capacity js ks (Take w n) take_goes (subst (λ u. suc (to_come u) ≤ to_come s) (sym is) (take_less w n s first))

    pub take_taken : (k : Key) → slice_get (keys s) n ≡ Some k → is_leaf k ≡ false → (old : History) → history_of s limit js ≡ old
        → IsTaken meaning is_leaf truth old w (record { worker = w; entry = n; key = k }) (history_of t limit ks)
    take_taken k key inner old shown =
        let before = state_shown meaning is_leaf truth s limit capacity js old kept shown in
        let after = take_kept.replayed in
        record {
          goes_on = ap (is_over truth) (sym before) ∙ goes_on;
          first = ap (λ u. waits_first n u.entries) (sym before) ∙ first;
          to = refl;
          inner = inner;
          event = grown_by meaning is_leaf truth s t limit capacity js ks (Take w n) take_goes ∙ ap (λ h. grown h (Take w n ∷ [])) shown;
          held = subst (λ u. IsHeldIn u (record { worker = w; entry = n; key = k })) (sym is ∙ after) (record {
            held = holds_put w n is_waiting s.entries (first_waits n s.entries first);
            piece = ap (λ js. slice_get js n) (keys_put n (held w) s.entries) ∙ key;
          });
        }

  -- ---- an entry that is held goes back

  -- what the journal's state holds, its fields hold
  pub held_here : (s : State F) (limit capacity : ℕ) (js : List Event) (old : History) (h g : Holding) → Kept s limit capacity js → history_of s limit js ≡ old → h ≡ g → IsHeldIn (state_of meaning is_leaf truth old) g → IsHeldIn s h
  held_here s limit capacity js old h g kept shown is there = subst (λ x. IsHeldIn s x) (sym is) (subst (λ u. IsHeldIn u g) (sym (state_shown meaning is_leaf truth s limit capacity js old kept shown)) there)

  pub unset_here : (s : State F) (limit capacity : ℕ) (js : List Event) (old : History) → Kept s limit capacity js → history_of s limit js ≡ old → (b : Bool) → is_unset (state_of meaning is_leaf truth old).stop ≡ b → is_unset s.stop ≡ b
  unset_here s limit capacity js old kept shown b is = ap (λ u. is_unset u.stop) (state_shown meaning is_leaf truth s limit capacity js old kept shown) ∙ is

  -- there is room for its event
  pub held_room : (s : State F) (limit capacity : ℕ) (js : List Event) (h : Holding) → Kept s limit capacity js → IsHeldIn s h → suc (length js) ≤ capacity
  held_room s limit capacity js h kept there = let less = put_less h.worker h.entry dropped s refl refl there.held in let room = kept.room in omega (arith, less, room)

  module _ (h : Holding) (limit capacity : ℕ) (s t : State F) (js ks : List Event) (kept : Kept s limit capacity js) (there : IsHeldIn s h) where
    module _ (stopped : is_unset s.stop ≡ false) (is : t ≡ record { entries = put h.entry dropped s.entries; stop = s.stop }) (more : ks ≡ js ++ Drop h.worker h.entry ∷ []) where
      drop_goes : Goes meaning is_leaf truth s t limit capacity js ks (Drop h.worker h.entry)
      drop_goes = record {
        kept = kept;
        enabled = both_true (holds h.worker h.entry s) (not (is_unset s.stop)) there.held (not_true (is_unset s.stop) stopped);
        state = is;
        root = ap (λ u. first_key u.entries) is ∙ first_put h.entry dropped s.entries;
        journal = more;
      }

      pub drop_kept : Kept t limit capacity ks
      drop_kept = kept_less meaning is_leaf truth s t limit capacity js ks (Drop h.worker h.entry) drop_goes (subst (λ u. suc (to_come u) ≤ to_come s) (sym is) (put_less h.worker h.entry dropped s refl refl there.held))

      pub drop_grown : history_of t limit ks ≡ grown (history_of s limit js) (Drop h.worker h.entry ∷ [])
      drop_grown = grown_by meaning is_leaf truth s t limit capacity js ks (Drop h.worker h.entry) drop_goes

    module _ (f : F) (unset : is_unset s.stop ≡ true) (means : meaning h.key ≡ fails f) (is : t ≡ record { entries = put h.entry (failed f) s.entries; stop = s.stop }) (more : ks ≡ js ++ Fail h.worker h.entry ∷ []) where
      fail_means : meaning_at meaning is_leaf truth limit h.entry s ≡ Some (fails f)
      fail_means = meaning_is meaning is_leaf truth limit h.entry s h.key there.piece ∙ ap (λ m. Some m) means

      fail_goes : Goes meaning is_leaf truth s t limit capacity js ks (Fail h.worker h.entry)
      fail_goes = record {
        kept = kept;
        enabled = both_true (holds h.worker h.entry s) _ there.held (both_true (is_unset s.stop) _ unset (ap (does_fail meaning is_leaf truth limit) fail_means));
        state = is ∙ ap (λ m. failing meaning is_leaf truth limit h.entry m s) (sym fail_means);
        root = ap (λ u. first_key u.entries) is ∙ first_put h.entry (failed f) s.entries;
        journal = more;
      }

      pub fail_kept : Kept t limit capacity ks
      fail_kept = kept_less meaning is_leaf truth s t limit capacity js ks (Fail h.worker h.entry) fail_goes (subst (λ u. suc (to_come u) ≤ to_come s) (sym is) (put_less h.worker h.entry (failed f) s refl refl there.held))

      pub fail_grown : history_of t limit ks ≡ grown (history_of s limit js) (Fail h.worker h.entry ∷ [])
      fail_grown = grown_by meaning is_leaf truth s t limit capacity js ks (Fail h.worker h.entry) fail_goes

    module _ (cs : List Child) (unset : is_unset s.stop ≡ true) (means : meaning h.key ≡ gives cs) where
      give_means : meaning_at meaning is_leaf truth limit h.entry s ≡ Some (gives cs)
      give_means = meaning_is meaning is_leaf truth limit h.entry s h.key there.piece ∙ ap (λ m. Some m) means

      module _ (false_leaf : has_true_leaf truth s ≡ false) (many : fits meaning is_leaf truth limit cs s ≡ false)
          (is : t ≡ record { entries = drop_waiting (put h.entry dropped s.entries); stop = Limit }) (more : ks ≡ js ++ Fill h.worker h.entry ∷ []) where
        fill_goes : Goes meaning is_leaf truth s t limit capacity js ks (Fill h.worker h.entry)
        fill_goes = record {
          kept = kept;
          enabled = both_true (holds h.worker h.entry s) _ there.held (both_true (is_unset s.stop) _ unset (both_true (not (has_true_leaf truth s)) _ (not_true (has_true_leaf truth s) false_leaf)
              (ap (gives_and meaning is_leaf truth limit (λ ds. not (fits meaning is_leaf truth limit ds s))) give_means ∙ not_true (fits meaning is_leaf truth limit cs s) many)));
          state = is;
          root = ap (λ u. first_key u.entries) is ∙ (first_drop (put h.entry dropped s.entries) ∙ first_put h.entry dropped s.entries);
          journal = more;
        }

        fill_less : suc (to_come t) ≤ to_come s
        fill_less =
            let less = put_less h.worker h.entry dropped s refl refl there.held in
            let then = stop_less (record { entries = put h.entry dropped s.entries; stop = s.stop }) t (ap (λ u. u.entries) is) (ap (λ u. is_unset u.stop) is) unset in
            omega (arith, less, then)

        pub fill_kept : Kept t limit capacity ks
        fill_kept = kept_less meaning is_leaf truth s t limit capacity js ks (Fill h.worker h.entry) fill_goes fill_less

        pub fill_grown : history_of t limit ks ≡ grown (history_of s limit js) (Fill h.worker h.entry ∷ [])
        fill_grown = grown_by meaning is_leaf truth s t limit capacity js ks (Fill h.worker h.entry) fill_goes

      module _ (fitting : fits meaning is_leaf truth limit cs s ≡ true) (is : t ≡ given meaning is_leaf truth limit h.entry (Some (gives cs)) s) (more : ks ≡ js ++ Give h.worker h.entry ∷ []) where
        pub give_goes : Goes meaning is_leaf truth s t limit capacity js ks (Give h.worker h.entry)
        give_goes = record {
          kept = kept;
          enabled = both_true (holds h.worker h.entry s) _ there.held (both_true (is_unset s.stop) _ unset
              (ap (gives_and meaning is_leaf truth limit (λ ds. fits meaning is_leaf truth limit ds s)) give_means ∙ fitting));
          state = is ∙ ap (λ m. given meaning is_leaf truth limit h.entry m s) (sym give_means);
          root = ap (λ u. first_key u.entries) is ∙ (first_more (λ d. true) h.entry (put h.entry (expanded ls) s.entries) (map (opening_entry is_leaf) ns) here ∙ first_put h.entry (expanded ls) s.entries);
          journal = more;
        }
          where
            ns : List Key
            ns = new_keys (keys s) (child_keys cs)

            ls : List Link
            ls = links cs (keys s ++ ns)

            here : at (λ d. true) h.entry (put h.entry (expanded ls) s.entries) ≡ true
            here = any_put (is_held_by h.worker) h.entry (expanded ls) s.entries there.held

        -- with room for two events of each new entry
        pub give_kept : (room : ℕ) → length js + to_come s + 2 * length (new_keys (keys s) (child_keys cs)) ≤ room → Kept t limit room ks
        give_kept room enough =
            kept_by meaning is_leaf truth s t limit capacity js ks (Give h.worker h.entry) give_goes room
            (let less : suc (to_come t) ≤ to_come s + 2 * length (new_keys (keys s) (child_keys cs)) =
            subst (λ u. suc (to_come u) ≤ to_come s + 2 * length (new_keys (keys s) (child_keys cs))) (sym is)
            (give_room is_leaf h.worker h.entry (links cs (keys s ++ new_keys (keys s) (child_keys cs))) s (new_keys (keys s) (child_keys cs)) there.held) in omega (arith, less, enough))

        pub give_grown : history_of t limit ks ≡ grown (history_of s limit js) (Give h.worker h.entry ∷ [])
        give_grown = grown_by meaning is_leaf truth s t limit capacity js ks (Give h.worker h.entry) give_goes

  -- ---- what waits is dropped

  module _ (w limit capacity : ℕ) (s t : State F) (js ks : List Event) (kept : Kept s limit capacity js) (unset : is_unset s.stop ≡ true) where
    module _ (leaf : has_true_leaf truth s ≡ true) (is : t ≡ record { entries = drop_waiting s.entries; stop = Truth }) (more : ks ≡ js ++ Cancel w ∷ []) where
      cancel_goes : Goes meaning is_leaf truth s t limit capacity js ks (Cancel w)
      cancel_goes = record {
        kept = kept;
        enabled = both_true (has_true_leaf truth s) (is_unset s.stop) leaf unset;
        state = is;
        root = ap (λ u. first_key u.entries) is ∙ first_drop s.entries;
        journal = more;
      }

      pub cancel_kept : Kept t limit capacity ks
      cancel_kept = kept_less meaning is_leaf truth s t limit capacity js ks (Cancel w) cancel_goes (stop_less s t (ap (λ u. u.entries) is) (ap (λ u. is_unset u.stop) is) unset)

      pub cancel_grown : history_of t limit ks ≡ grown (history_of s limit js) (Cancel w ∷ [])
      cancel_grown = grown_by meaning is_leaf truth s t limit capacity js ks (Cancel w) cancel_goes

    module _ (leaf : has_true_leaf truth s ≡ false) (is : t ≡ record { entries = drop_waiting s.entries; stop = Memory }) (more : ks ≡ js ++ Starve w ∷ []) where
      starve_goes : Goes meaning is_leaf truth s t limit capacity js ks (Starve w)
      starve_goes = record {
        kept = kept;
        enabled = both_true (not (has_true_leaf truth s)) (is_unset s.stop) (not_true (has_true_leaf truth s) leaf) unset;
        state = is;
        root = ap (λ u. first_key u.entries) is ∙ first_drop s.entries;
        journal = more;
      }

      pub starve_kept : Kept t limit capacity ks
      starve_kept = kept_less meaning is_leaf truth s t limit capacity js ks (Starve w) starve_goes (stop_less s t (ap (λ u. u.entries) is) (ap (λ u. is_unset u.stop) is) unset)

      pub starve_grown : history_of t limit ks ≡ grown (history_of s limit js) (Starve w ∷ [])
      starve_grown = grown_by meaning is_leaf truth s t limit capacity js ks (Starve w) starve_goes

    -- there is room for the event
    pub stop_room : suc (length js) ≤ capacity
    stop_room = let b : ◌≡◌ {A = ℕ} (cond (is_unset s.stop) 2 0) 2 = ap (λ b. cond b 2 0) unset in let room = kept.room in omega (arith, b, room)
