-- In every state of a run the root is the first entry, and each other entry is linked to from an earlier one: so each can be reached.
use Rattle.std.proofs.Common.{ℕ, zero, suc, ◌≤◌, ◌<◌, ◌≡◌, ◌∙◌, ◌⊎◌, inl, inr, refl, sym, ap, subst, Bool, true, false, cond, List, [], ◌∷◌, ◌++◌, length, map, Option, Some, None, slice_get, arith}
use Rattle.std.specs.Prelude.{IsSome, nat_lt}
use Rattle.std.proofs.lemmas.Bool.Decides.{nat_tests}
use Rattle.std.specs.List.{All}
use Rattle.qe_ring.proofs.Bools.{both_hold}
use Rattle.qe_piece.specs.Meaning.{Meaning, Child, gives, fails, Descends}
use Rattle.qe_board.specs.declared.event.Event.{Event}
use Rattle.qe_board.specs.declared.event.Event.TheVariants.{Take, Give, Fail, Drop, Cancel, Fill, Starve}
use Rattle.qe_board.specs.declared.event.Stopping.TheVariants.{Truth, Limit, Memory}
use Rattle.qe_board.specs.State.{Key, IsAmong, Distinct, Link, Condition, waiting, held, expanded, leaf, failed, dropped, Entry, State, is_waiting, is_held_by, is_unset, keys, at}
use Rattle.qe_board.specs.Machine.{same_key, index_of, new_keys, put, drop_waiting, waits_first, holds, opening_entry, child_keys, links, opened, meaning_at, is_enabled, given, failing, effect, IsRunFrom, replay_from}
use Rattle.qe_board.specs.Tree.{Falls}
use Rattle.qe_board.specs.Kept.{AreLinks, IsFit, AreFit}
use Rattle.qe_board.specs.Visited.{standing}
use Rattle.qe_board.specs.Recorded.{links_of, links_at, key_at, spots, spot_at, GoBelow, LinksFall}
use Rattle.qe_board.specs.Places.{AlwaysSpotted}
use Rattle.qe_board.proofs.Keys.{same_tells, stands_in, stands_still, new_from, new_distinct}
use Rattle.qe_board.proofs.Conditions.{first_waits}
use Rattle.qe_board.proofs.Linked.{IsIn, LinksIn, from, stands_first, from_closed, first_has, some_spot}
use Rattle.qe_board.proofs.Sound.{IsSound, opening_keys, sound_left, sound_run}
use Rattle.qe_board.proofs.Counting.{keys_put, keys_drop, keys_append}

-- ---- links to an entry

abbrev pub IsLinked : ℕ → List Link → Type 0
IsLinked n [] = ⊥
IsLinked n (l ∷ ls) = (n ≡ l.entry) ⊎ IsLinked n ls

-- each entry but the first has a link from an earlier one
abbrev pub AreLinked : {F : Type 0} → List (Entry F) → Type 0
AreLinked es = (n : ℕ) → n < length es → (n ≡ 0) ⊎ ((m : ℕ) × ((m < n) × IsLinked n (links_at m es)))

-- all links of the first are links of the others
abbrev KeepLinks : {F : Type 0} → List (Entry F) → List (Entry F) → Type 0
KeepLinks es ds = (m n : ℕ) → IsLinked n (links_at m es) → IsLinked n (links_at m ds)

-- ---- lists

get_some : {A : Type 0} (n : ℕ) (xs : List A) → n < length xs → (x : A) × (slice_get xs n ≡ Some x)
get_some n [] less = absurd (omega (arith, less))
get_some zero (x ∷ xs) less = (x, refl)
get_some (suc n) (x ∷ xs) less = get_some n xs (omega (arith, less))

in_second : (n : ℕ) (k : Key) (xs ys : List Key) → slice_get (xs ++ ys) n ≡ Some k → length xs ≤ n → IsAmong k ys
in_second n k [] ys h least = stands_in n k ys h
in_second zero k (x ∷ xs) ys h least = absurd (omega (arith, least))
in_second (suc n) k (x ∷ xs) ys h least = in_second n k xs ys h (omega (arith, least))

own_index : (n : ℕ) (k : Key) (ks : List Key) → Distinct ks → slice_get ks n ≡ Some k → index_of k ks ≡ n
own_index n k [] distinct h = absurd (cc)
own_index zero k (j ∷ js) distinct h = let same = (same_tells k j).1 (let e = h in cc) in ap (λ b. cond b 0 (suc (index_of k js))) same
own_index (suc n) k (j ∷ js) distinct h = elim (same_key k j) as (λ b. same_key k j ≡ b → cond b 0 (suc (index_of k js)) ≡ suc n) [
  | true ↦ λ same. absurd (distinct.0 (subst (λ x. IsAmong x js) ((same_tells k j).0 same) (stands_in n k js h)))
  | false ↦ λ other. ap suc (own_index n k js distinct.1 h)
] refl

module _ {F : Type 0} where
  length_keys : (es : List (Entry F)) → length (map (λ e. e.key) es) ≡ length es
  length_keys [] = refl
  length_keys (e ∷ es) = ap suc (length_keys es)

  pub key_there : (n : ℕ) (k : Key) (es : List (Entry F)) → slice_get (map (λ e. e.key) es) n ≡ Some k → (n < length es) × (key_at n es ≡ k)
  key_there n k [] h = absurd (cc)
  key_there zero k (e ∷ es) h = (omega arith, let f = h in cc)
  key_there (suc n) k (e ∷ es) h = let rest = key_there n k es h in (let less = rest.0 in omega (arith, less), rest.1)

  -- ---- entries that change

  at_within : (q : Condition F → Bool) (n : ℕ) (es : List (Entry F)) → at q n es ≡ true → n < length es
  at_within q n [] h = absurd (cc)
  at_within q zero (e ∷ es) h = omega arith
  at_within q (suc n) (e ∷ es) h = let less = at_within q n es h in omega (arith, less)

  length_put : (n : ℕ) (c : Condition F) (es : List (Entry F)) → length (put n c es) ≡ length es
  length_put n c [] = refl
  length_put zero c (e ∷ es) = refl
  length_put (suc n) c (e ∷ es) = ap suc (length_put n c es)

  length_drop : (es : List (Entry F)) → length (drop_waiting es) ≡ length es
  length_drop [] = refl
  length_drop (e ∷ es) = ap suc (length_drop es)

  kept_put : (q : Condition F → Bool) → ((d : Condition F) → q d ≡ true → links_of d ≡ []) → (n : ℕ) (c : Condition F) (es : List (Entry F)) → at q n es ≡ true → KeepLinks es (put n c es)
  kept_put q none n c [] there m k h = absurd h
  kept_put q none zero c (e ∷ es) there zero k h = absurd (subst (IsLinked k) (none e.condition there) h)
  kept_put q none zero c (e ∷ es) there (suc m) k h = h
  kept_put q none (suc n) c (e ∷ es) there zero k h = h
  kept_put q none (suc n) c (e ∷ es) there (suc m) k h = kept_put q none n c es there m k h

  same_links : (c : Condition F) → links_of c ≡ links_of (cond (is_waiting c) dropped c)
  same_links waiting = refl
  same_links (held w) = refl
  same_links (expanded ls) = refl
  same_links leaf = refl
  same_links (failed f) = refl
  same_links dropped = refl

  kept_drop : (es : List (Entry F)) → KeepLinks es (drop_waiting es)
  kept_drop [] m k h = h
  kept_drop (e ∷ es) zero k h = subst (IsLinked k) (same_links e.condition) h
  kept_drop (e ∷ es) (suc m) k h = kept_drop es m k h

  kept_more : (es more : List (Entry F)) → KeepLinks es (es ++ more)
  kept_more [] more m k h = absurd h
  kept_more (e ∷ es) more zero k h = h
  kept_more (e ∷ es) more (suc m) k h = kept_more es more m k h

  put_links : (q : Condition F → Bool) (n : ℕ) (c : Condition F) (es more : List (Entry F)) → at q n es ≡ true → links_at n (put n c es ++ more) ≡ links_of c
  put_links q n c [] more there = absurd (cc)
  put_links q zero c (e ∷ es) more there = refl
  put_links q (suc n) c (e ∷ es) more there = put_links q n c es more there

  linked_kept : (es ds : List (Entry F)) → length ds ≡ length es → KeepLinks es ds → AreLinked es → AreLinked ds
  linked_kept es ds same kept linked n less = elim (linked n (omega (arith, same, less))) [ inl e ↦ inl e | inr l ↦ inr (l.0, (l.1.0, kept l.0 n l.1.1)) ]

  held_none : (w : ℕ) (d : Condition F) → is_held_by w d ≡ true → links_of d ≡ []
  held_none w waiting h = absurd (cc)
  held_none w (held v) h = refl
  held_none w (expanded ls) h = absurd (cc)
  held_none w leaf h = absurd (cc)
  held_none w (failed f) h = absurd (cc)
  held_none w dropped h = absurd (cc)

  waiting_none : (d : Condition F) → is_waiting d ≡ true → links_of d ≡ []
  waiting_none waiting h = refl
  waiting_none (held v) h = absurd (cc)
  waiting_none (expanded ls) h = absurd (cc)
  waiting_none leaf h = absurd (cc)
  waiting_none (failed f) h = absurd (cc)
  waiting_none dropped h = absurd (cc)

child_linked : (k : Key) (n : ℕ) (cs : List Child) (ks : List Key) → IsAmong k (child_keys cs) → index_of k ks ≡ n → IsLinked n (links cs ks)
child_linked k n [] ks h is = absurd h
child_linked k n (c ∷ cs) ks (inl e) is = inl (sym is ∙ ap (λ x. index_of x ks) e)
child_linked k n (c ∷ cs) ks (inr h) is = inr (child_linked k n cs ks h is)

-- ---- runs

module _ {F : Type 0} (meaning : Key → Meaning F) (is_leaf truth : Key → Bool) (height : Key → ℕ) (limit : ℕ) where
  record IsRooted (root : Key) (s : State F) : Type 0 where
    first : slice_get (keys s) 0 ≡ Some root
    linked : AreLinked s.entries

  abbrev Sound : Key → State F → Type 0
  Sound = IsSound meaning is_leaf truth height limit

  abbrev same_put : (n : ℕ) (c : Condition F) (es : List (Entry F)) → map (λ e. e.key) (put n c es) ≡ map (λ e. e.key) es
  same_put = keys_put

  abbrev same_drop : (es : List (Entry F)) → map (λ e. e.key) (drop_waiting es) ≡ map (λ e. e.key) es
  same_drop = keys_drop

  -- what entries are linked once one gives its successors
  module _ (n : ℕ) (q : Condition F → Bool) (none : (d : Condition F) → q d ≡ true → links_of d ≡ []) (es : List (Entry F)) (there : at q n es ≡ true) (linked : AreLinked es) (cs : List Child) (distinct : Distinct (map (λ e. e.key) es)) where
    abbrev old : List Key
    old = map (λ e. e.key) es

    abbrev added : List Key
    added = new_keys old (child_keys cs)

    abbrev own : Condition F
    own = expanded (links cs (old ++ added))

    abbrev now : List (Entry F)
    now = put n own es ++ map (opening_entry is_leaf) added

    now_keys : map (λ e. e.key) now ≡ old ++ added
    now_keys = keys_append (put n own es) (map (opening_entry is_leaf) added) ∙ (λ i. same_put n own es i ++ opening_keys meaning is_leaf truth height limit added i)

    old_linked : (i : ℕ) → i < length es → (i ≡ 0) ⊎ ((m : ℕ) × ((m < i) × IsLinked i (links_at m now)))
    old_linked i less = elim (linked i less) [
      | inl e ↦ inl e
      | inr l ↦ inr (l.0, (l.1.0, kept_more (put n own es) (map (opening_entry is_leaf) added) l.0 i (kept_put q none n own es there l.0 i l.1.1)))
    ]

    new_linked : (i : ℕ) → length es ≤ i → i < length now → (i ≡ 0) ⊎ ((m : ℕ) × ((m < i) × IsLinked i (links_at m now)))
    new_linked i least less =
        let long : length (old ++ added) ≡ length now = ap length (sym now_keys) ∙ length_keys now in
        let k = get_some i (old ++ added) (omega (arith, long, less)) in
        let short = length_keys es in
        let child = new_from old (child_keys cs) k.0 (in_second i k.0 old added k.1 (omega (arith, short, least))) in
        let index = own_index i k.0 (old ++ added) (new_distinct old (child_keys cs) distinct) k.1 in
        let within = at_within q n es there in
        inr (n, (omega (arith, within, least), subst (IsLinked i) (sym (put_links q n own es (map (opening_entry is_leaf) added) there)) (child_linked k.0 i cs (old ++ added) child index)))

    given_linked : AreLinked now
    given_linked i less = elim (nat_lt i (length es)) as (λ b. nat_lt i (length es) ≡ b → (i ≡ 0) ⊎ ((m : ℕ) × ((m < i) × IsLinked i (links_at m now)))) [
      | true ↦ λ test. old_linked i (below i (length es) test)
      | false ↦ λ test. new_linked i (above i (length es) test) less
    ] refl
      where
        below : (a b : ℕ) → nat_lt a b ≡ true → a < b
        below a b test = grind (arith, nat_tests)

        above : (a b : ℕ) → nat_lt a b ≡ false → b ≤ a
        above a b test = grind (arith, nat_tests)

  -- ---- each event keeps it

  same_rooted : (root : Key) (s : State F) → IsRooted root s → (t : State F) → keys t ≡ keys s → AreLinked t.entries → IsRooted root t
  same_rooted root s rooted t same linked = record { first = subst (λ ks. slice_get ks 0 ≡ Some root) (sym same) rooted.first; linked = linked }

  put_rooted : (root : Key) (s : State F) → IsRooted root s → (q : Condition F → Bool) → ((d : Condition F) → q d ≡ true → links_of d ≡ []) → (n : ℕ) → at q n s.entries ≡ true → (c : Condition F)
      → (t : State F) → t.entries ≡ put n c s.entries → IsRooted root t
  put_rooted root s rooted q none n there c t is =
      same_rooted root s rooted t (ap (map (λ e. e.key)) is ∙ same_put n c s.entries)
      (subst AreLinked (sym is) (linked_kept s.entries (put n c s.entries) (length_put n c s.entries) (kept_put q none n c s.entries there) rooted.linked))

  drop_rooted : (root : Key) (s : State F) → IsRooted root s → (t : State F) → t.entries ≡ drop_waiting s.entries → IsRooted root t
  drop_rooted root s rooted t is =
      same_rooted root s rooted t (ap (map (λ e. e.key)) is ∙ same_drop s.entries)
      (subst AreLinked (sym is) (linked_kept s.entries (drop_waiting s.entries) (length_drop s.entries) (kept_drop s.entries) rooted.linked))

  give_rooted : (root : Key) (w n : ℕ) (s : State F) → Sound root s → IsRooted root s → at (is_held_by w) n s.entries ≡ true → (m : Option (Meaning F)) → IsRooted root (given meaning is_leaf truth limit n m s)
  give_rooted root w n s sound rooted there None = rooted
  give_rooted root w n s sound rooted there (Some (fails f)) = rooted
  give_rooted root w n s sound rooted there (Some (gives cs)) = record {
    first = subst (λ ks. slice_get ks 0 ≡ Some root) (sym (now_keys n (is_held_by w) (held_none w) s.entries there rooted.linked cs sound.distinct))
        (stands_still 0 root (keys s) (new_keys (keys s) (child_keys cs)) rooted.first);
    linked = given_linked n (is_held_by w) (held_none w) s.entries there rooted.linked cs sound.distinct;
  }

  fail_rooted : (root : Key) (w n : ℕ) (s : State F) → IsRooted root s → at (is_held_by w) n s.entries ≡ true → (m : Option (Meaning F)) → IsRooted root (failing meaning is_leaf truth limit n m s)
  fail_rooted root w n s rooted there None = rooted
  fail_rooted root w n s rooted there (Some (gives cs)) = rooted
  fail_rooted root w n s rooted there (Some (fails f)) = put_rooted root s rooted (is_held_by w) (held_none w) n there (failed f) (record { entries = put n (failed f) s.entries; stop = s.stop }) refl

  module _ (falls : Falls meaning is_leaf truth height) (root : Key) where
    rooted_left : (e : Event) (s : State F) → Sound root s → IsRooted root s → is_enabled meaning is_leaf truth limit e s ≡ true → IsRooted root (effect meaning is_leaf truth limit e s)
    rooted_left (Take w n) s sound rooted h = put_rooted root s rooted is_waiting waiting_none n (first_waits n s.entries (both_hold (waits_first n s.entries) _ h).0) (held w) (record { entries = put n (held w) s.entries; stop = s.stop }) refl
    rooted_left (Give w n) s sound rooted h = give_rooted root w n s sound rooted (both_hold (holds w n s) _ h).0 (meaning_at meaning is_leaf truth limit n s)
    rooted_left (Fail w n) s sound rooted h = fail_rooted root w n s rooted (both_hold (holds w n s) _ h).0 (meaning_at meaning is_leaf truth limit n s)
    rooted_left (Drop w n) s sound rooted h = put_rooted root s rooted (is_held_by w) (held_none w) n (both_hold (holds w n s) _ h).0 dropped (record { entries = put n dropped s.entries; stop = s.stop }) refl
    rooted_left (Cancel w) s sound rooted h = drop_rooted root s rooted (record { entries = drop_waiting s.entries; stop = Truth }) refl
    rooted_left (Fill w n) s sound rooted h =
        let first = put_rooted root s rooted (is_held_by w) (held_none w) n (both_hold (holds w n s) _ h).0 dropped (record { entries = put n dropped s.entries; stop = s.stop }) refl in
        drop_rooted root (record { entries = put n dropped s.entries; stop = s.stop }) first (record { entries = drop_waiting (put n dropped s.entries); stop = Limit }) refl
    rooted_left (Starve w) s sound rooted h = drop_rooted root s rooted (record { entries = drop_waiting s.entries; stop = Memory }) refl

    rooted_from : (s : State F) (events : List Event) → Sound root s → IsRooted root s → IsRunFrom meaning is_leaf truth limit s events → IsRooted root (replay_from meaning is_leaf truth limit s events)
    rooted_from s [] sound rooted run = rooted
    rooted_from s (e ∷ events) sound rooted run =
        rooted_from (effect meaning is_leaf truth limit e s) events (sound_left meaning is_leaf truth height limit falls root e s sound run.0) (rooted_left e s sound rooted run.0) run.1

    opened_linked : AreLinked (opened meaning is_leaf truth limit root).entries
    opened_linked n less = inl (omega (arith, less))

    -- ---- where links go

    below_links : (es : List (Entry F)) (bound : ℕ) (ls : List Link) (cs : List Child) → AreLinks ls cs (map (λ e. e.key) es) → All (λ child. height child.key < bound) cs → GoBelow height es bound ls
    below_links es bound [] [] are all = tt
    below_links es bound (l ∷ ls) (c ∷ cs) are all =
        let there = key_there l.entry c.key es are.1 in
        let less : height c.key < bound = all 0 c (omega arith) in
        (there.0, subst (λ k. height k < bound) (sym there.1) less, below_links es bound ls cs are.2 (λ k d few. all (suc k) d (omega (arith, few))))
    below_links es bound [] (c ∷ cs) are all = tt
    below_links es bound (l ∷ ls) [] are all = absurd are

    below_meaning : (es : List (Entry F)) (bound : ℕ) (ls : List Link) (cs : List Child) → AreLinks ls cs (map (λ e. e.key) es) → (m : Meaning F) → m ≡ gives cs → Descends height bound m → GoBelow height es bound ls
    below_meaning es bound ls cs are m is down = below_links es bound ls cs are (subst (Descends height bound) is down)

    below_condition : (es : List (Entry F)) (unset : Bool) (c : Condition F) (k : Key) → IsFit meaning is_leaf truth height (map (λ e. e.key) es) unset c k → GoBelow height es (height k) (links_of c)
    below_condition es unset waiting k fit = tt
    below_condition es unset (held w) k fit = tt
    below_condition es unset (expanded ls) k fit = below_meaning es (height k) ls fit.1.0 fit.1.1.1 (meaning k) fit.1.1.0 (falls k fit.0)
    below_condition es unset leaf k fit = tt
    below_condition es unset (failed f) k fit = tt
    below_condition es unset dropped k fit = tt

    links_below : (es : List (Entry F)) (unset : Bool) (ds : List (Entry F)) → AreFit meaning is_leaf truth height (map (λ e. e.key) es) unset ds → (n : ℕ) → GoBelow height es (height (key_at n ds)) (links_at n ds)
    links_below es unset [] fit n = tt
    links_below es unset (d ∷ ds) fit zero = below_condition es unset d.condition d.key fit.0
    links_below es unset (d ∷ ds) fit (suc n) = links_below es unset ds fit.1 n

    pub fit_falls : (es : List (Entry F)) (unset : Bool) → AreFit meaning is_leaf truth height (map (λ e. e.key) es) unset es → LinksFall height es
    fit_falls es unset fit = links_below es unset es fit

-- ---- each entry has a spot

module _ {F : Type 0} (height : Key → ℕ) (es : List (Entry F)) (falls : LinksFall height es) (linked : AreLinked es) where
  linked_in : (n : ℕ) (ls : List Link) (ms : List ℕ) → LinksIn ls ms → IsLinked n ls → IsIn n ms
  linked_in n [] ms inside h = absurd h
  linked_in n (l ∷ ls) ms inside (inl e) = subst (λ x. IsIn x ms) (sym e) inside.0
  linked_in n (l ∷ ls) ms inside (inr h) = linked_in n ls ms inside.1 h

  reached : (bound n : ℕ) → n < bound → n < length es → IsIn n (standing (from height es falls [] 0))
  reached zero n less few = absurd (omega (arith, less))
  reached (suc bound) n less few = elim (linked n few) [
    | inl e ↦ subst (λ x. IsIn x (standing (from height es falls [] 0))) (sym e) (stands_first height es falls [] 0)
    | inr l ↦ let before = l.1.0 in
        linked_in n (links_at l.0 es) (standing (from height es falls [] 0)) (from_closed height es falls [] 0 l.0 (reached bound l.0 (omega (arith, before, less)) (omega (arith, before, few)))) l.1.1
  ]

  pub each_spotted : (n : ℕ) → n < length es → IsSome (spot_at n (spots height es))
  each_spotted n less = some_spot n (spots height es) (elim (first_has [] (from height es falls [] 0) n (reached (suc n) n (omega arith) less)) [ inl none ↦ absurd none | inr h ↦ h ])

module _ {F : Type 0} (meaning : Key → Meaning F) (is_leaf truth : Key → Bool) (height : Key → ℕ) (limit : ℕ) (falls : Falls meaning is_leaf truth height) (some : 1 ≤ limit) where
  pub always_spotted : (root : Key) (events : List Event) → IsRunFrom meaning is_leaf truth limit (opened meaning is_leaf truth limit root) events
      → AlwaysSpotted meaning is_leaf truth height limit root (replay_from meaning is_leaf truth limit (opened meaning is_leaf truth limit root) events)
  always_spotted root events run =
      let s : State F = replay_from meaning is_leaf truth limit (opened meaning is_leaf truth limit root) events in
      let sound = sound_run meaning is_leaf truth height limit falls root some events run in
      let rooted = rooted_from meaning is_leaf truth height limit falls root (opened meaning is_leaf truth limit root) events
      (sound_run meaning is_leaf truth height limit falls root some [] tt) (record { first = refl; linked = opened_linked meaning is_leaf truth height limit falls root }) run in
      let down = fit_falls meaning is_leaf truth height limit falls root s.entries (is_unset s.stop) sound.fit in
      record { first = rooted.first; links_fall = down; each = each_spotted height s.entries down rooted.linked }
