-- What a run keeps: entries are distinct pieces of the tree, and each is what its condition says.
use Rattle.std.proofs.Common.{ℕ, zero, suc, ◌≤◌, ◌<◌, ◌≡◌, ◌∙◌, inl, inr, refl, sym, ap, subst, Bool, true, false, cond, leb, not, List, [], ◌∷◌, ◌++◌, length, map, Option, Some, None, slice_get, arith}
use Rattle.std.proofs.lemmas.Bool.Decides.{nat_tests}
use Rattle.qe_ring.proofs.Bools.{both_hold}
use Rattle.qe_piece.specs.Meaning.{Meaning, Child, gives, fails}
use Rattle.qe_board.specs.declared.event.Event.{Event}
use Rattle.qe_board.specs.declared.event.Event.TheVariants.{Take, Give, Fail, Drop, Cancel, Fill, Starve}
use Rattle.qe_board.specs.declared.event.Stopping.{Stopping}
use Rattle.qe_board.specs.declared.event.Stopping.TheVariants.{Truth, Limit, Memory}
use Rattle.qe_board.specs.State.{Key, IsAmong, Distinct, Link, Condition, waiting, held, expanded, leaf, failed, dropped, Entry, State, is_waiting, is_held_by, is_unset, keys, at, has_true_leaf}
use Rattle.qe_board.specs.Machine.{new_keys, put, drop_waiting, waits_first, holds, opening_entry, opened, links, fits, meaning_at, gives_and, does_fail, is_enabled, given, failing, effect, IsRunFrom, replay_from}
use Rattle.qe_board.specs.Tree.{Position, positions, nodes, Falls}
use Rattle.qe_board.specs.Kept.{AreLinks, IsFit, AreFit}
use Rattle.qe_board.proofs.Counting.{keys_put, keys_drop, keys_append}
use Rattle.qe_board.proofs.Keys.{Within, in_left, in_append, all_known, new_from, new_distinct, no_more_than, number_stands, stands_still}
use Rattle.qe_board.proofs.Walks.{position_keys, positions_closed, root_stands, first_has}
use Rattle.qe_board.proofs.Conditions.{first_waits}

module _ {F : Type 0} (meaning : Key → Meaning F) (is_leaf truth : Key → Bool) (height : Key → ℕ) (limit : ℕ) where
  abbrev keys_of : List Child → List Key
  keys_of cs = map (λ c. c.key) cs

  abbrev Fit : List Key → Bool → Condition F → Key → Type 0
  Fit = IsFit meaning is_leaf truth height

  abbrev AllFit : List Key → Bool → List (Entry F) → Type 0
  AllFit = AreFit meaning is_leaf truth height

  -- what stands at a number still stands there
  abbrev Still : List Key → List Key → Type 0
  Still ks js = (n : ℕ) (k : Key) → slice_get ks n ≡ Some k → slice_get js n ≡ Some k

  abbrev entry_keys : List (Entry F) → List Key
  entry_keys es = map (λ e. e.key) es

  pub record IsSound (root : Key) (s : State F) : Type 0 where
    pub fit : AllFit (keys s) (is_unset s.stop) s.entries
    pub root_in : IsAmong root (keys s)
    pub distinct : Distinct (keys s)
    pub within : Within (keys s) (position_keys (positions meaning is_leaf truth height root))
    pub few : length (keys s) ≤ limit
    pub beyond : s.stop ≡ Limit → limit < length (nodes meaning is_leaf truth height root)

  -- ---- conditions that change

  -- more keys, and a stop that is set
  links_more : (ks js : List Key) → Still ks js → (ls : List Link) (cs : List Child) → AreLinks ls cs ks → AreLinks ls cs js
  links_more ks js more [] [] h = tt
  links_more ks js more (l ∷ ls) (c ∷ cs) h = (h.0, more l.entry c.key h.1, links_more ks js more ls cs h.2)
  links_more ks js more [] (c ∷ cs) h = absurd h
  links_more ks js more (l ∷ ls) [] h = absurd h

  links_are : (ks : List Key) (cs : List Child) → Within (keys_of cs) ks → AreLinks (links cs ks) cs ks
  links_are ks [] within = tt
  links_are ks (c ∷ cs) within = (refl, number_stands c.key ks (within c.key (inl refl)), links_are ks cs (λ x i. within x (inr i)))

  fit_more : (ks js : List Key) (b : Bool) → Still ks js → (c : Condition F) (k : Key) → Fit ks b c k → Fit js b c k
  fit_more ks js b more waiting k h = h
  fit_more ks js b more (held w) k h = h
  fit_more ks js b more (expanded ls) k h = (h.0, (h.1.0, (h.1.1.0, links_more ks js more ls h.1.0 h.1.1.1)))
  fit_more ks js b more leaf k h = h
  fit_more ks js b more (failed f) k h = h
  fit_more ks js b more dropped k h = h

  all_fit_more : (ks js : List Key) (b : Bool) → Still ks js → (es : List (Entry F)) → AllFit ks b es → AllFit js b es
  all_fit_more ks js b more [] h = tt
  all_fit_more ks js b more (e ∷ es) h = (fit_more ks js b more e.condition e.key h.0, all_fit_more ks js b more es h.1)

  fit_stopped : (ks : List Key) (b : Bool) (c : Condition F) (k : Key) → Fit ks b c k → Fit ks false c k
  fit_stopped ks b waiting k h = h
  fit_stopped ks b (held w) k h = h
  fit_stopped ks b (expanded ls) k h = h
  fit_stopped ks b leaf k h = h
  fit_stopped ks b (failed f) k h = h
  fit_stopped ks b dropped k h = refl

  fit_drop : (ks : List Key) (b : Bool) (es : List (Entry F)) → AllFit ks b es → AllFit ks false (drop_waiting es)
  fit_drop ks b [] h = tt
  fit_drop ks b (e ∷ es) h = (
    elim (is_waiting e.condition) as (λ t. Fit ks false (cond t dropped e.condition) e.key) [ true ↦ refl | false ↦ fit_stopped ks b e.condition e.key h.0 ],
    fit_drop ks b es h.1,
  )

  fit_append : (ks : List Key) (b : Bool) (es more : List (Entry F)) → AllFit ks b es → AllFit ks b more → AllFit ks b (es ++ more)
  fit_append ks b [] more h k = k
  fit_append ks b (e ∷ es) more h k = (h.0, fit_append ks b es more h.1 k)

  -- an entry in another condition, which fits what is known of it
  fit_put : (ks : List Key) (b : Bool) (q : Condition F → Bool) (n : ℕ) (c : Condition F) (es : List (Entry F)) → AllFit ks b es → at q n es ≡ true
      → ((e : Entry F) → slice_get es n ≡ Some e → q e.condition ≡ true → Fit ks b e.condition e.key → Fit ks b c e.key) → AllFit ks b (put n c es)
  fit_put ks b q n c [] h there turn = tt
  fit_put ks b q zero c (e ∷ es) h there turn = (turn e refl there h.0, h.1)
  fit_put ks b q (suc n) c (e ∷ es) h there turn = (h.0, fit_put ks b q n c es h.1 there turn)

  held_inner : (ks : List Key) (b : Bool) (w : ℕ) (d : Condition F) (k : Key) → is_held_by w d ≡ true → Fit ks b d k → is_leaf k ≡ false
  held_inner ks b w waiting k h fit = absurd (cc)
  held_inner ks b w (held v) k h fit = fit
  held_inner ks b w (expanded ls) k h fit = absurd (cc)
  held_inner ks b w leaf k h fit = absurd (cc)
  held_inner ks b w (failed f) k h fit = absurd (cc)
  held_inner ks b w dropped k h fit = absurd (cc)

  waiting_inner : (ks : List Key) (b : Bool) (d : Condition F) (k : Key) → is_waiting d ≡ true → Fit ks b d k → is_leaf k ≡ false
  waiting_inner ks b waiting k h fit = fit
  waiting_inner ks b (held v) k h fit = absurd (cc)
  waiting_inner ks b (expanded ls) k h fit = absurd (cc)
  waiting_inner ks b leaf k h fit = absurd (cc)
  waiting_inner ks b (failed f) k h fit = absurd (cc)
  waiting_inner ks b dropped k h fit = absurd (cc)

  opening_fit : (ks js : List Key) (b : Bool) → AllFit ks b (map (opening_entry is_leaf) js)
  opening_fit ks [] b = tt
  opening_fit ks (j ∷ js) b = (elim (is_leaf j) as (λ t. is_leaf j ≡ t → Fit ks b (cond t leaf waiting) j) [ true ↦ λ e. e | false ↦ λ e. e ] refl, opening_fit ks js b)

  pub opening_keys : (js : List Key) → entry_keys (map (opening_entry is_leaf) js) ≡ js
  opening_keys [] = refl
  opening_keys (j ∷ js) = ap (λ ks. j ∷ ks) (opening_keys js)

  all_fit_stopped : (ks : List Key) (b : Bool) (es : List (Entry F)) → AllFit ks b es → AllFit ks false es
  all_fit_stopped ks b [] h = tt
  all_fit_stopped ks b (e ∷ es) h = (fit_stopped ks b e.condition e.key h.0, all_fit_stopped ks b es h.1)

  -- the entry with a number whose condition passes a test
  record Found (q : Condition F → Bool) (ks : List Key) (b : Bool) (n : ℕ) (es : List (Entry F)) : Type 0 where
    entry : Entry F
    there : slice_get es n ≡ Some entry
    passes : q entry.condition ≡ true
    fit : Fit ks b entry.condition entry.key
    inside : IsAmong entry.key (entry_keys es)

  found : (q : Condition F → Bool) (ks : List Key) (b : Bool) (n : ℕ) (es : List (Entry F)) → AllFit ks b es → at q n es ≡ true → Found q ks b n es
  found q ks b n [] fit there = absurd (cc)
  found q ks b zero (e ∷ es) fit there = record { entry = e; there = refl; passes = there; fit = fit.0; inside = inl refl }
  found q ks b (suc n) (e ∷ es) fit there = let f = found q ks b n es fit.1 there in record { entry = f.entry; there = f.there; passes = f.passes; fit = f.fit; inside = inr f.inside }

  -- ---- each event keeps it

  abbrev enabled : Event → State F → Bool
  enabled = is_enabled meaning is_leaf truth limit

  abbrev after : Event → State F → State F
  after = effect meaning is_leaf truth limit

  abbrev TooMany : Key → Type 0
  TooMany root = limit < length (nodes meaning is_leaf truth height root)

  same_keys : (root : Key) (s : State F) → IsSound root s → (es : List (Entry F)) (t : Stopping) → entry_keys es ≡ keys s → AllFit (keys s) (is_unset t) es → (t ≡ Limit → TooMany root)
      → IsSound root (record { entries = es; stop = t })
  same_keys root s sound es t same fit beyond = record {
    fit = subst (λ ks. AllFit ks (is_unset t) es) (sym same) fit;
    root_in = subst (IsAmong root) (sym same) sound.root_in;
    distinct = subst Distinct (sym same) sound.distinct;
    within = subst (λ ks. Within ks (position_keys (positions meaning is_leaf truth height root))) (sym same) sound.within;
    few = subst (λ ks. length ks ≤ limit) (sym same) sound.few;
    beyond = beyond;
  }

  meaning_found : (s : State F) (n : ℕ) (e : Entry F) (m : Option (Meaning F)) → slice_get s.entries n ≡ Some e → meaning_at meaning is_leaf truth limit n s ≡ m → Some (meaning e.key) ≡ m
  meaning_found s n e m there is = sym (ap (λ o. elim o as (λ p. Option (Meaning F)) [ Some d ↦ Some (meaning d.key) | None ↦ None ]) there) ∙ is

  some_same : {A : Type 0} (x y : A) → ◌≡◌ {A = Option A} (Some x) (Some y) → x ≡ y
  some_same x y e = cc

  fails_now : (b : Bool) → not b ≡ true → b ≡ false
  fails_now true h = absurd (cc)
  fails_now false h = refl

  module _ (falls : Falls meaning is_leaf truth height) (root : Key) where
    abbrev tree_keys : List Key
    tree_keys = position_keys (positions meaning is_leaf truth height root)

    -- the successors of an entry are pieces of the tree
    children_within : (s : State F) → IsSound root s → (k : Key) (cs : List Child) → IsAmong k (keys s) → is_leaf k ≡ false → meaning k ≡ gives cs → Within (keys_of cs) tree_keys
    children_within s sound k cs inside inner is x i =
        positions_closed meaning is_leaf truth height falls root k (sound.within k inside) x
        (subst (λ m. IsAmong x (map (λ c. c.key) (cond (is_leaf k) [] (elim m as (λ n. List Child) [ gives ds ↦ ds | fails f ↦ [] ])))) (sym is)
        (subst (λ b. IsAmong x (map (λ c. c.key) (cond b [] cs))) (sym inner) i))

    grown_within : (s : State F) → IsSound root s → (cs : List Child) → Within (keys_of cs) tree_keys → Within (keys s ++ new_keys (keys s) (keys_of cs)) tree_keys
    grown_within s sound cs within x i = elim (in_append x (keys s) (new_keys (keys s) (keys_of cs)) i) [
      | inl l ↦ sound.within x l
      | inr r ↦ within x (new_from (keys s) (keys_of cs) x r)
    ]

    length_keys : (ps : List Position) → length (position_keys ps) ≡ length ps
    length_keys [] = refl
    length_keys (p ∷ ps) = ap suc (length_keys ps)

    -- distinct pieces of the tree are no more than it has
    pub no_more_nodes : (ks : List Key) → Distinct ks → Within ks tree_keys → length ks ≤ length (nodes meaning is_leaf truth height root)
    no_more_nodes ks distinct within =
        let most = no_more_than ks (position_keys (nodes meaning is_leaf truth height root)) distinct (λ x i. elim (first_has [] (positions meaning is_leaf truth height root) x (within x i)) [ inl none ↦ absurd none | inr h ↦ h ]) in
        let long = length_keys (nodes meaning is_leaf truth height root) in omega (arith, most, long)

    give_left : (w n : ℕ) (s : State F) → IsSound root s → at (is_held_by w) n s.entries ≡ true → (m : Option (Meaning F)) → meaning_at meaning is_leaf truth limit n s ≡ m
        → gives_and meaning is_leaf truth limit (λ cs. fits meaning is_leaf truth limit cs s) m ≡ true → IsSound root (given meaning is_leaf truth limit n m s)
    give_left w n s sound there None is h = absurd (cc)
    give_left w n s sound there (Some (fails f)) is h = absurd (cc)
    give_left w n s sound there (Some (gives cs)) is h =
        let f = found (is_held_by w) (keys s) (is_unset s.stop) n s.entries sound.fit there in
        let inner = held_inner (keys s) (is_unset s.stop) w f.entry.condition f.entry.key f.passes f.fit in
        let means = some_same (meaning f.entry.key) (gives cs) (meaning_found s n f.entry (Some (gives cs)) f.there is) in
        let ks = new_keys (keys s) (keys_of cs) in
        let c : Condition F = expanded (links cs (keys s ++ ks)) in
        let grown : entry_keys (put n c s.entries ++ map (opening_entry is_leaf) ks) ≡ keys s ++ ks =
        keys_append (put n c s.entries) (map (opening_entry is_leaf) ks) ∙ (λ i. keys_put n c s.entries i ++ opening_keys ks i) in
        let known : AllFit (keys s ++ ks) (is_unset s.stop) s.entries = all_fit_more (keys s) (keys s ++ ks) (is_unset s.stop) (λ i x at. stands_still i x (keys s) ks at) s.entries sound.fit in
        let now : AllFit (keys s ++ ks) (is_unset s.stop) (put n c s.entries ++ map (opening_entry is_leaf) ks) =
        fit_append (keys s ++ ks) (is_unset s.stop) (put n c s.entries) _
        (fit_put (keys s ++ ks) (is_unset s.stop) (is_held_by w) n c s.entries known there
        (λ e at passes fit. (held_inner (keys s ++ ks) (is_unset s.stop) w e.condition e.key passes fit, (cs, (some_same (meaning e.key) (gives cs) (meaning_found s n e (Some (gives cs)) at is), links_are (keys s ++ ks) cs (all_known (keys s) (keys_of cs)))))))
        (opening_fit (keys s ++ ks) ks (is_unset s.stop)) in
        record {
          fit = subst (λ js. AllFit js (is_unset s.stop) (put n c s.entries ++ map (opening_entry is_leaf) ks)) (sym grown) now;
          root_in = subst (IsAmong root) (sym grown) (in_left root (keys s) ks sound.root_in);
          distinct = subst Distinct (sym grown) (new_distinct (keys s) (keys_of cs) sound.distinct);
          within = subst (λ js. Within js tree_keys) (sym grown) (grown_within s sound cs (children_within s sound f.entry.key cs f.inside inner means));
          few = subst (λ js. length js ≤ limit) (sym grown) (at_most (length (keys s ++ ks)) h);
          beyond = sound.beyond;
        }
      where
        at_most : (i : ℕ) → leb i limit ≡ true → i ≤ limit
        at_most i test = grind (arith, nat_tests)

    fill_beyond : (w n : ℕ) (s : State F) → IsSound root s → at (is_held_by w) n s.entries ≡ true → (m : Option (Meaning F)) → meaning_at meaning is_leaf truth limit n s ≡ m
        → gives_and meaning is_leaf truth limit (λ cs. not (fits meaning is_leaf truth limit cs s)) m ≡ true → TooMany root
    fill_beyond w n s sound there None is h = absurd (cc)
    fill_beyond w n s sound there (Some (fails f)) is h = absurd (cc)
    fill_beyond w n s sound there (Some (gives cs)) is h =
        let f = found (is_held_by w) (keys s) (is_unset s.stop) n s.entries sound.fit there in
        let inner = held_inner (keys s) (is_unset s.stop) w f.entry.condition f.entry.key f.passes f.fit in
        let means = some_same (meaning f.entry.key) (gives cs) (meaning_found s n f.entry (Some (gives cs)) f.there is) in
        let most = no_more_nodes (keys s ++ new_keys (keys s) (keys_of cs)) (new_distinct (keys s) (keys_of cs) sound.distinct)
        (grown_within s sound cs (children_within s sound f.entry.key cs f.inside inner means)) in
        let more = over (length (keys s ++ new_keys (keys s) (keys_of cs))) (fails_now _ h) in omega (arith, most, more)
      where
        over : (i : ℕ) → leb i limit ≡ false → limit < i
        over i test = grind (arith, nat_tests)

    fail_left : (w n : ℕ) (s : State F) → IsSound root s → at (is_held_by w) n s.entries ≡ true → (m : Option (Meaning F)) → meaning_at meaning is_leaf truth limit n s ≡ m
        → does_fail meaning is_leaf truth limit m ≡ true → IsSound root (failing meaning is_leaf truth limit n m s)
    fail_left w n s sound there None is h = absurd (cc)
    fail_left w n s sound there (Some (gives cs)) is h = absurd (cc)
    fail_left w n s sound there (Some (fails f)) is h = same_keys root s sound (put n (failed f) s.entries) s.stop (keys_put n (failed f) s.entries)
        (fit_put (keys s) (is_unset s.stop) (is_held_by w) n (failed f) s.entries sound.fit there
        (λ e at passes fit. (held_inner (keys s) (is_unset s.stop) w e.condition e.key passes fit, some_same (meaning e.key) (fails f) (meaning_found s n e (Some (fails f)) at is)))) sound.beyond

    pub sound_left : (e : Event) (s : State F) → IsSound root s → enabled e s ≡ true → IsSound root (after e s)
    sound_left (Take w n) s sound h =
        let first = (both_hold (waits_first n s.entries) _ h).0 in
        same_keys root s sound (put n (held w) s.entries) s.stop (keys_put n (held w) s.entries)
        (fit_put (keys s) (is_unset s.stop) is_waiting n (held w) s.entries sound.fit (first_waits n s.entries first) (λ e at passes fit. waiting_inner (keys s) (is_unset s.stop) e.condition e.key passes fit)) sound.beyond
    sound_left (Give w n) s sound h =
        let parts = both_hold (holds w n s) _ h in give_left w n s sound parts.0 (meaning_at meaning is_leaf truth limit n s) refl (both_hold (is_unset s.stop) _ parts.1).1
    sound_left (Fail w n) s sound h =
        let parts = both_hold (holds w n s) _ h in fail_left w n s sound parts.0 (meaning_at meaning is_leaf truth limit n s) refl (both_hold (is_unset s.stop) _ parts.1).1
    sound_left (Drop w n) s sound h =
        let parts = both_hold (holds w n s) _ h in
        same_keys root s sound (put n dropped s.entries) s.stop (keys_put n dropped s.entries)
        (fit_put (keys s) (is_unset s.stop) (is_held_by w) n dropped s.entries sound.fit parts.0 (λ e at passes fit. fails_now (is_unset s.stop) parts.1)) sound.beyond
    sound_left (Cancel w) s sound h =
        same_keys root s sound (drop_waiting s.entries) Truth (keys_drop s.entries) (fit_drop (keys s) (is_unset s.stop) s.entries sound.fit) (λ e. absurd (cc))
    sound_left (Fill w n) s sound h =
        let parts = both_hold (holds w n s) _ h in let rest = both_hold (is_unset s.stop) _ parts.1 in let last = both_hold (not (has_true_leaf truth s)) _ rest.1 in
        same_keys root s sound (drop_waiting (put n dropped s.entries)) Limit (keys_drop (put n dropped s.entries) ∙ keys_put n dropped s.entries)
        (fit_drop (keys s) false (put n dropped s.entries) (fit_put (keys s) false (is_held_by w) n dropped s.entries (all_fit_stopped (keys s) (is_unset s.stop) s.entries sound.fit) parts.0 (λ e at passes fit. refl)))
        (λ e. fill_beyond w n s sound parts.0 (meaning_at meaning is_leaf truth limit n s) refl last.1)
    sound_left (Starve w) s sound h =
        same_keys root s sound (drop_waiting s.entries) Memory (keys_drop s.entries) (fit_drop (keys s) (is_unset s.stop) s.entries sound.fit) (λ e. absurd (cc))

    sound_from : (s : State F) (es : List Event) → IsSound root s → IsRunFrom meaning is_leaf truth limit s es → IsSound root (replay_from meaning is_leaf truth limit s es)
    sound_from s [] sound run = sound
    sound_from s (e ∷ es) sound run = sound_from (after e s) es (sound_left e s sound run.0) run.1

    pub sound_run : 1 ≤ limit → (es : List Event) → IsRunFrom meaning is_leaf truth limit (opened meaning is_leaf truth limit root) es
        → IsSound root (replay_from meaning is_leaf truth limit (opened meaning is_leaf truth limit root) es)
    sound_run some es run = sound_from (opened meaning is_leaf truth limit root) es (record {
      fit = opening_fit (root ∷ []) (root ∷ []) true;
      root_in = inl refl;
      distinct = ((λ h. h), tt);
      within = λ x i. elim i [ inl e ↦ subst (λ y. IsAmong y tree_keys) (sym e) (root_stands meaning is_leaf truth height falls root) | inr none ↦ absurd none ];
      few = some;
      beyond = λ e. absurd (cc);
    }) run
