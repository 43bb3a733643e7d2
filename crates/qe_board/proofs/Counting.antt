-- Counts of a state's entries, as the entries change.
use Rattle.std.proofs.Common.{ℕ, zero, suc, ◌+◌, ◌-◌, ◌<◌, ◌≤◌, ◌^◌, ◌≡◌, ◌∙◌, refl, sym, ap, subst, Bool, true, false, cond, not, ◌&&◌, List, [], ◌∷◌, ◌++◌, length, map, take, Option, Some, None, slice_get, Fits, w64, arith}
use Rattle.std.specs.Prelude.{option_map, min, nat_lt, eqb, IfSome, IfNone}
use Rattle.std.proofs.lemmas.Bool.{eqb-true}
use Rattle.std.proofs.lemmas.Bool.Decides.{nat_tests}
use Rattle.qe_board.specs.declared.event.Stopping.{Stopping}
use Rattle.std.specs.Option.{unwrap_or}
use mir.Val.{bool_byte}
use Rattle.qe_board.specs.State.{Key, Condition, dropped, Entry, State, is_waiting, is_held, keys, at, count}
use Rattle.qe_board.specs.Machine.{put, drop_waiting, waits_first}
use Rattle.qe_board.specs.Shown.{conditions}
use Rattle.qe_board.specs.Counted.{first_true, if_below, IsCounted}
use Rattle.qe_board.proofs.Conditions.{count_append, length_append, length_put, length_drop, none_wait, held_stay, count_few}

pub byte_is : (b : Bool) → ◌≡◌ {A = ℕ} (bool_byte b) (cond b 1 0)
byte_is true = refl
byte_is false = refl

-- ---- the first true key

-- the first of these, or else one more at the end
abbrev pub or_last : Option ℕ → Bool → ℕ → Option ℕ
or_last (Some n) b m = Some n
or_last None b m = cond b (Some m) None

pub first_more : (truth : Key → Bool) (ks : List Key) (k : Key) → first_true truth (ks ++ k ∷ []) ≡ or_last (first_true truth ks) (truth k) (length ks)
first_more truth [] k = by_test (truth k)
  where
    by_test : (b : Bool) → cond b (Some zero) (option_map (λ n. suc n) None) ≡ cond b (Some zero) None
    by_test true = refl
    by_test false = refl
first_more truth (j ∷ ks) k = by_test (truth j) (first_more truth ks k)
  where
    later : (o : Option ℕ) (b : Bool) → option_map (λ n. suc n) (or_last o b (length ks)) ≡ or_last (option_map (λ n. suc n) o) b (suc (length ks))
    later (Some n) b = refl
    later None true = refl
    later None false = refl

    by_test : (b : Bool) → first_true truth (ks ++ k ∷ []) ≡ or_last (first_true truth ks) (truth k) (length ks)
        → cond b (Some zero) (option_map (λ n. suc n) (first_true truth (ks ++ k ∷ []))) ≡ or_last (cond b (Some zero) (option_map (λ n. suc n) (first_true truth ks))) (truth k) (suc (length ks))
    by_test true rest = refl
    by_test false rest = ap (option_map (λ n. suc n)) rest ∙ later (first_true truth ks) (truth k)

-- the first of those that stay
first_cut : (truth : Key → Bool) (n : ℕ) (ks : List Key) → if_below n (first_true truth ks) ≡ first_true truth (take n ks)
first_cut truth zero ks = none (first_true truth ks)
  where
    none : (o : Option ℕ) → if_below zero o ≡ None
    none None = refl
    none (Some m) = by_test (nat_lt m zero) refl
      where
        by_test : (b : Bool) → nat_lt m zero ≡ b → cond b (Some m) None ≡ None
        by_test true less = absurd (grind (arith, nat_tests))
        by_test false more = refl
first_cut truth (suc n) [] = refl
first_cut truth (suc n) (k ∷ ks) = by_test (truth k) (first_cut truth n ks)
  where
    next : (o : Option ℕ) → if_below (suc n) (option_map (λ i. suc i) o) ≡ option_map (λ i. suc i) (if_below n o)
    next None = refl
    next (Some m) = by_less (nat_lt m n) (nat_lt (suc m) (suc n)) (grind (arith, nat_tests))
      where
        by_less : (a b : Bool) → a ≡ b → cond b (Some (suc m)) None ≡ option_map (λ i. suc i) (cond a (Some m) None)
        by_less true true same = refl
        by_less false false same = refl
        by_less true false same = absurd (cc)
        by_less false true same = absurd (cc)

    by_test : (b : Bool) → if_below n (first_true truth ks) ≡ first_true truth (take n ks)
        → if_below (suc n) (cond b (Some zero) (option_map (λ i. suc i) (first_true truth ks))) ≡ cond b (Some zero) (option_map (λ i. suc i) (first_true truth (take n ks)))
    by_test true rest = let less : nat_lt zero (suc n) ≡ true = grind (arith, nat_tests) in ap (λ b. cond b (Some zero) None) less
    by_test false rest = next (first_true truth ks) ∙ ap (option_map (λ i. suc i)) rest

module _ {F : Type 0} where
  -- ---- keys

  keys_take : (n : ℕ) (es : List (Entry F)) → map (λ e. e.key) (take n es) ≡ take n (map (λ e. e.key) es)
  keys_take zero es = refl
  keys_take (suc n) [] = refl
  keys_take (suc n) (e ∷ es) = ap (λ ks. e.key ∷ ks) (keys_take n es)

  at_take : (p : Condition F → Bool) (m n : ℕ) (es : List (Entry F)) → at p m es ≡ false → at p m (take n es) ≡ false
  at_take p m zero es old = refl
  at_take p m (suc n) [] old = old
  at_take p zero (suc n) (e ∷ es) old = old
  at_take p (suc m) (suc n) (e ∷ es) old = at_take p m n es old

  within_take : (next n : ℕ) (es : List (Entry F)) → next ≤ length es → next ≤ n → next ≤ length (take n es)
  within_take next zero es inside fewer = omega (arith, fewer)
  within_take next (suc n) [] inside fewer = inside
  within_take zero (suc n) (e ∷ es) inside fewer = omega arith
  within_take (suc next) (suc n) (e ∷ es) inside fewer = let rest = within_take next n es (omega (arith, inside)) (omega (arith, fewer)) in omega (arith, rest)

  pub keys_put : (n : ℕ) (c : Condition F) (es : List (Entry F)) → map (λ e. e.key) (put n c es) ≡ map (λ e. e.key) es
  keys_put n c [] = refl
  keys_put zero c (e ∷ es) = refl
  keys_put (suc n) c (e ∷ es) = ap (λ ks. e.key ∷ ks) (keys_put n c es)

  pub keys_drop : (es : List (Entry F)) → map (λ e. e.key) (drop_waiting es) ≡ map (λ e. e.key) es
  keys_drop [] = refl
  keys_drop (e ∷ es) = ap (λ ks. e.key ∷ ks) (keys_drop es)

  pub keys_append : (es more : List (Entry F)) → map (λ e. e.key) (es ++ more) ≡ map (λ e. e.key) es ++ map (λ e. e.key) more
  keys_append [] more = refl
  keys_append (e ∷ es) more = ap (λ ks. e.key ∷ ks) (keys_append es more)

  pub length_keys : (es : List (Entry F)) → length (map (λ e. e.key) es) ≡ length es
  length_keys [] = refl
  length_keys (e ∷ es) = ap suc (length_keys es)

  -- ---- one entry in another condition

  pub count_set : (p : Condition F → Bool) (n : ℕ) (c d : Condition F) (es : List (Entry F)) → slice_get (conditions es) n ≡ Some d → count p (put n c es) + cond (p d) 1 0 ≡ count p es + cond (p c) 1 0
  count_set p n c d [] is = absurd (cc)
  count_set p zero c d (e ∷ es) is = ap (λ x. cond (p c) 1 0 + count p es + cond (p x) 1 0) (sym (out is)) ∙ turned (cond (p c) 1 0) (count p es) (cond (p e.condition) 1 0)
    where
      out : ◌≡◌ {A = Option (Condition F)} (Some e.condition) (Some d) → e.condition ≡ d
      out h = cc

      turned : (i j k : ℕ) → i + j + k ≡ k + j + i
      turned i j k = omega arith
  count_set p (suc n) c d (e ∷ es) is = let rest = count_set p n c d es is in omega (arith, rest)

  at_put : (p : Condition F → Bool) (m n : ℕ) (c : Condition F) (es : List (Entry F)) → at p m es ≡ false → (p c ≡ true → m < n) → at p m (put n c es) ≡ false
  at_put p m n c [] old new = old
  at_put p zero zero c (e ∷ es) old new = by_test (p c) (λ h. absurd (let less = new h in omega (arith, less)))
    where
      by_test : (b : Bool) → (b ≡ true → b ≡ false) → b ≡ false
      by_test true h = h refl
      by_test false h = refl
  at_put p zero (suc n) c (e ∷ es) old new = old
  at_put p (suc m) zero c (e ∷ es) old new = old
  at_put p (suc m) (suc n) c (e ∷ es) old new = at_put p m n c es old (λ h. let less = new h in omega (arith, less))

  at_more : (p : Condition F → Bool) (m : ℕ) (es more : List (Entry F)) → at p m es ≡ false → m < length es → at p m (es ++ more) ≡ false
  at_more p m [] more old less = absurd (omega (arith, less))
  at_more p zero (e ∷ es) more old less = old
  at_more p (suc m) (e ∷ es) more old less = at_more p m es more old (omega (arith, less))

  at_dropped : (m : ℕ) (es : List (Entry F)) → at is_waiting m (drop_waiting es) ≡ false
  at_dropped m [] = refl
  at_dropped zero (e ∷ es) = by_test (is_waiting e.condition) refl
    where
      by_test : (b : Bool) → is_waiting e.condition ≡ b → is_waiting (cond b dropped e.condition) ≡ false
      by_test true is = refl
      by_test false is = is
  at_dropped (suc m) (e ∷ es) = at_dropped m es

  -- ---- what waits

  pub waits_here : (n : ℕ) (es : List (Entry F)) → ((m : ℕ) → m < n → at is_waiting m es ≡ false) → at is_waiting n es ≡ true → waits_first n es ≡ true
  waits_here n [] before here = absurd (cc)
  waits_here zero (e ∷ es) before here = here
  waits_here (suc n) (e ∷ es) before here =
      both (is_waiting e.condition) (waits_first n es) (before zero (omega arith)) (waits_here n es (λ m less. before (suc m) (omega (arith, less))) here)
    where
      both : (a b : Bool) → a ≡ false → b ≡ true → (not a && b) ≡ true
      both true b off on = absurd (cc)
      both false b off on = on

  pub none_before : (n m : ℕ) (es : List (Entry F)) → waits_first n es ≡ true → m < n → at is_waiting m es ≡ false
  none_before n m [] first less = refl
  none_before zero m (e ∷ es) first less = absurd (omega (arith, less))
  none_before (suc n) zero (e ∷ es) first less = head (is_waiting e.condition) (waits_first n es) first
    where
      head : (a b : Bool) → (not a && b) ≡ true → a ≡ false
      head true b h = absurd (cc)
      head false b h = refl
  none_before (suc n) (suc m) (e ∷ es) first less = none_before n m es (tail (is_waiting e.condition) (waits_first n es) first) (omega (arith, less))
    where
      tail : (a b : Bool) → (not a && b) ≡ true → b ≡ true
      tail true b h = absurd (cc)
      tail false b h = h

  pub none_count : (es : List (Entry F)) → ((m : ℕ) → m < length es → at is_waiting m es ≡ false) → count is_waiting es ≡ 0
  none_count [] none = refl
  none_count (e ∷ es) none = by_test (is_waiting e.condition) (none zero (omega arith)) (none_count es (λ m less. none (suc m) (omega (arith, less))))
    where
      by_test : (b : Bool) → b ≡ false → count is_waiting es ≡ 0 → cond b 1 0 + count is_waiting es ≡ 0
      by_test true off rest = absurd (cc)
      by_test false off rest = omega (arith, rest)

  pub none_at : (es : List (Entry F)) → count is_waiting es ≡ 0 → (m : ℕ) → at is_waiting m es ≡ false
  none_at [] none m = refl
  none_at (e ∷ es) none zero = by_test (is_waiting e.condition) none
    where
      by_test : (b : Bool) → cond b 1 0 + count is_waiting es ≡ 0 → b ≡ false
      by_test true h = absurd (omega (arith, h))
      by_test false h = refl
  none_at (e ∷ es) none (suc m) = none_at es (by_test (is_waiting e.condition) none) m
    where
      by_test : (b : Bool) → cond b 1 0 + count is_waiting es ≡ 0 → count is_waiting es ≡ 0
      by_test true h = absurd (omega (arith, h))
      by_test false h = omega (arith, h)

  -- where nothing waits nothing is dropped
  pub drop_none : (es : List (Entry F)) → ((m : ℕ) → m < length es → at is_waiting m es ≡ false) → drop_waiting es ≡ es
  drop_none [] none = refl
  drop_none (e ∷ es) none = by_test (is_waiting e.condition) (none zero (omega arith)) (drop_none es (λ m less. none (suc m) (omega (arith, less))))
    where
      by_test : (b : Bool) → b ≡ false → drop_waiting es ≡ es → record { key = e.key; condition = cond b dropped e.condition } ∷ drop_waiting es ≡ e ∷ es
      by_test true off rest = absurd (cc)
      by_test false off rest = ap (λ more. e ∷ more) rest

  -- one that waits is dropped first
  pub drop_one : (n : ℕ) (es : List (Entry F)) → at is_waiting n es ≡ true → drop_waiting (put n dropped es) ≡ drop_waiting es
  drop_one n [] here = refl
  drop_one zero (e ∷ es) here = ap (λ b. record { key = e.key; condition = cond b dropped e.condition } ∷ drop_waiting es) (sym here)
  drop_one (suc n) (e ∷ es) here = ap (λ more. record { key = e.key; condition = cond (is_waiting e.condition) dropped e.condition } ∷ more) (drop_one n es here)

  at_new : (p : Condition F → Bool) (n : ℕ) (c : Condition F) (es : List (Entry F)) → p c ≡ false → at p n (put n c es) ≡ false
  at_new p n c [] new = refl
  at_new p zero c (e ∷ es) new = new
  at_new p (suc n) c (e ∷ es) new = at_new p n c es new

  -- entries that wait are dropped one by one: what is left to drop, how many there are, and none before this one waits
  abbrev pub Dropping : (n : ℕ) (es old : List (Entry F)) → Type 0
  Dropping n es old = (drop_waiting es ≡ drop_waiting old) × ((length es ≡ length old) × ((m : ℕ) → m < n → at is_waiting m es ≡ false))

  up_to : (n : ℕ) (es : List (Entry F)) → ((m : ℕ) → m < n → at is_waiting m es ≡ false) → at is_waiting n es ≡ false → (m : ℕ) → m < n + 1 → at is_waiting m es ≡ false
  up_to n es earlier here m less = by_test (eqb m n) refl
    where
      by_test : (b : Bool) → eqb m n ≡ b → at is_waiting m es ≡ false
      by_test true same = subst (λ i. at is_waiting i es ≡ false) (sym (eqb-true m n same)) here
      by_test false apart = earlier m (grind (arith, nat_tests))

  pub drops_one : (n : ℕ) (es old more : List (Entry F)) → Dropping n es old → at is_waiting n es ≡ true → more ≡ put n dropped es → Dropping (n + 1) more old
  drops_one n es old more so_far here is = subst (λ xs. Dropping (n + 1) xs old) (sym is) (
    drop_one n es here ∙ so_far.0,
    (
      length_put n dropped es ∙ so_far.1.0,
      up_to n (put n dropped es) (λ m less. at_put is_waiting m n dropped es (so_far.1.1 m less) (λ h. absurd (cc))) (at_new is_waiting n dropped es refl),
    ),
  )

  pub passes_one : (n : ℕ) (es old : List (Entry F)) → Dropping n es old → at is_waiting n es ≡ false → Dropping (n + 1) es old
  passes_one n es old so_far here = (so_far.0, (so_far.1.0, up_to n es so_far.1.1 here))

  pub all_dropped : (n : ℕ) (es old : List (Entry F)) → Dropping n es old → length old ≤ n → es ≡ drop_waiting old
  all_dropped n es old so_far end = sym (drop_none es (λ m less. so_far.1.1 m (let same = so_far.1.0 in omega (arith, less, same, end)))) ∙ so_far.0

  -- ---- the counts of a state that changes

  module _ (truth : Key → Bool) (s : State F) (next waits holds : ℕ) (true_leaf : Option ℕ) (counted : IsCounted truth s next waits holds true_leaf) where
    pub counted_append : (k : Key) (c : Condition F) (es : List (Entry F)) → es ≡ s.entries ++ record { key = k; condition = c } ∷ []
        → (a b : ℕ) → a ≡ cond (is_waiting c) 1 0 → b ≡ cond (is_held c) 1 0
        → (o : Option ℕ) → o ≡ first_true truth (keys s ++ k ∷ [])
        → IsCounted truth (record { entries = es; stop = s.stop }) next (waits + a) (holds + b) o
    counted_append k c es is a b one other o last = subst (λ xs. IsCounted truth (record { entries = xs; stop = s.stop }) next (waits + a) (holds + b) o) (sym is) (record {
      waiting = let w = counted.waiting in let more = count_append is_waiting s.entries (record { key = k; condition = c } ∷ []) in omega (arith, w, more, one);
      held = let h = counted.held in let more = count_append is_held s.entries (record { key = k; condition = c } ∷ []) in omega (arith, h, more, other);
      within = let within = counted.within in let more = length_append s.entries (record { key = k; condition = c } ∷ []) in omega (arith, within, more);
      passed = λ n less. at_more is_waiting n s.entries _ (counted.passed n less) (let within = counted.within in omega (arith, less, within));
      first = last ∙ ap (first_true truth) (sym (keys_append s.entries (record { key = k; condition = c } ∷ [])));
    })

    pub counted_set : (n : ℕ) (c d : Condition F) (es : List (Entry F)) → slice_get (conditions s.entries) n ≡ Some d → es ≡ put n c s.entries
        → (a b i j : ℕ) → a ≡ cond (is_waiting c) 1 0 → b ≡ cond (is_held c) 1 0 → i ≡ cond (is_waiting d) 1 0 → j ≡ cond (is_held d) 1 0
        → (first : ℕ) → first ≤ next → (is_waiting c ≡ true → first ≤ n)
        → IsCounted truth (record { entries = es; stop = s.stop }) first (waits + a - i) (holds + b - j) true_leaf
    counted_set n c d es was is a b i j one other before earlier first less within = subst (λ xs. IsCounted truth (record { entries = xs; stop = s.stop }) first (waits + a - i) (holds + b - j) true_leaf) (sym is) (record {
      waiting = let w = counted.waiting in let more = count_set is_waiting n c d s.entries was in omega (arith, w, more, one, before);
      held = let h = counted.held in let more = count_set is_held n c d s.entries was in omega (arith, h, more, other, earlier);
      within = let inside = counted.within in let same = length_put n c s.entries in omega (arith, inside, same, less);
      passed = λ m fewer. at_put is_waiting m n c s.entries (counted.passed m (omega (arith, fewer, less))) (λ h. let no_later = within h in omega (arith, no_later, fewer));
      first = counted.first ∙ ap (first_true truth) (sym (keys_put n c s.entries));
    })

    pub counted_cut : (n : ℕ) → count is_waiting (take n s.entries) ≡ count is_waiting s.entries → count is_held (take n s.entries) ≡ count is_held s.entries
        → (es : List (Entry F)) → es ≡ take n s.entries → (m : ℕ) → m ≡ min next n → (o : Option ℕ) → o ≡ if_below n true_leaf
        → IsCounted truth (record { entries = es; stop = s.stop }) m waits holds o
    counted_cut n same same_held es is m least o leaf_is = subst (λ xs. IsCounted truth (record { entries = xs; stop = s.stop }) m waits holds o) (sym is) (record {
      waiting = counted.waiting ∙ sym same;
      held = counted.held ∙ sym same_held;
      within = within_take m n s.entries (let within = counted.within in omega (arith, within, least)) (omega (arith, least));
      passed = λ i less. at_take is_waiting i n s.entries (counted.passed i (omega (arith, less, least)));
      first = leaf_is ∙ (ap (if_below n) counted.first ∙ (first_cut truth n (keys s) ∙ ap (first_true truth) (sym (keys_take n s.entries))));
    })

    pub counted_stop : (es : List (Entry F)) → es ≡ drop_waiting s.entries → (stop : Stopping) → IsCounted truth (record { entries = es; stop = stop }) next 0 holds true_leaf
    counted_stop es is stop = subst (λ xs. IsCounted truth (record { entries = xs; stop = stop }) next 0 holds true_leaf) (sym is) (record {
      waiting = sym (none_wait s.entries);
      held = counted.held ∙ sym (held_stay s.entries);
      within = let within = counted.within in let long = length_drop s.entries in omega (arith, within, long);
      passed = λ n less. at_dropped n s.entries;
      first = counted.first ∙ ap (first_true truth) (sym (keys_drop s.entries));
    })

    -- the first that waits is where to look next, and the end where none does
    pub counted_on : (o : Option ℕ) → IfSome o (λ n. waits_first n s.entries ≡ true) → IfSome o (λ n. n < length s.entries) → IfNone o (count is_waiting s.entries ≡ 0)
        → (end : ℕ) → end ≡ length s.entries → (m : ℕ) → m ≡ unwrap_or o end → IsCounted truth s m waits holds true_leaf
    counted_on (Some n) first inside none end is m here = record {
      waiting = counted.waiting;
      held = counted.held;
      first = counted.first;
      within = let m_is : m ≡ n = here in omega (arith, inside, m_is);
      passed = λ i less. none_before n i s.entries first (let m_is : m ≡ n = here in omega (arith, less, m_is));
    }
    counted_on None first inside none end is m here = record {
      waiting = counted.waiting;
      held = counted.held;
      first = counted.first;
      within = let m_is : m ≡ end = here in omega (arith, is, m_is);
      passed = λ i less. none_at s.entries none i;
    }

    -- a condition that is taken back is among those that are counted
    pub counts_one : (n : ℕ) (c d : Condition F) → slice_get (conditions s.entries) n ≡ Some d → (a b i j : ℕ) → a ≡ cond (is_waiting c) 1 0 → b ≡ cond (is_held c) 1 0 → i ≡ cond (is_waiting d) 1 0 → j ≡ cond (is_held d) 1 0
        → (i ≤ waits + a) × (j ≤ holds + b)
    counts_one n c d was a b i j one other before earlier =
        let w = counted.waiting in let h = counted.held in
        let more = count_set is_waiting n c d s.entries was in let more_held = count_set is_held n c d s.entries was in
        (omega (arith, w, more, one, before), omega (arith, h, more_held, other, earlier))

  -- a count and one more fit a word
  pub one_more_fits : (p : Condition F → Bool) (es : List (Entry F)) → length es < 2 ^ 63 → (w : ℕ) → w ≡ count p es → (b : Bool) (a : ℕ) → a ≡ bool_byte b → Fits w64 (w + a)
  one_more_fits p es few w is b a byte = by_test b byte
    where
      by_test : (t : Bool) → a ≡ bool_byte t → Fits w64 (w + a)
      by_test true one = let most = count_few p es in let more : a ≡ 1 = one in omega (arith, most, few, is, more)
      by_test false one = let most = count_few p es in let more : a ≡ 0 = one in omega (arith, most, few, is, more)
