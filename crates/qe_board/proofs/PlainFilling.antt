-- One worker alone makes the plain run.
use Rattle.std.proofs.Common.{ℕ, suc, ◌+◌, ◌-◌, ◌*◌, ◌≤◌, ◌<◌, ◌≡◌, ◌∙◌, refl, sym, ap, subst, Bool, true, false, cond, not, ◌&&◌, ◌||◌, eqb, if◌then◌else◌, inl, inr, List, [], ◌∷◌, ◌++◌, length, map, Option, Some, None, arith}
use Rattle.std.proofs.lemmas.Bool.Decides.{nat_tests}
use Rattle.qe_ring.proofs.Bools.{both_hold}
use Rattle.qe_piece.specs.Meaning.{Meaning, Child, gives, fails, child_of}
use Rattle.qe_piece.specs.declared.maker.Next.{Next}
use Rattle.qe_board.specs.declared.event.Event.{Event}
use Rattle.qe_board.specs.declared.event.Event.TheVariants.{Take, Give, Fail, Drop, Cancel, Fill, Starve}
use Rattle.qe_board.specs.declared.event.Stopping.{Stopping}
use Rattle.qe_board.specs.declared.event.Stopping.TheVariants.{Unset, Truth, Limit, Memory}
use Rattle.qe_board.specs.State.{Key, Condition, held, expanded, failed, dropped, State, is_waiting, is_held, is_held_by, is_unset, keys, at, count, is_done, has_true_leaf}
use Rattle.qe_board.specs.Machine.{new_keys, put, waits_first, holds, opening_entry, links, child_keys, fits, meaning_at, gives_and, does_fail, is_enabled, given, failing, effect, opened, IsRunFrom, replay_from}
use Rattle.qe_board.specs.History.{History, Holding, grown, state_of}
use Rattle.qe_board.specs.Calls.{IsHeldIn, is_over, failing_event, IsTaken, IsTook, IsGave}
use Rattle.qe_board.specs.declared.held.Gave.{Gave}
use Rattle.qe_board.specs.declared.held.Gave.TheVariants as gave
use Rattle.qe_board.specs.declared.held.Took.{Took}
use Rattle.qe_board.specs.declared.held.Took.TheVariants as took
use Rattle.qe_board.specs.Plain.{IsNext, IsPlainFrom, IsPlain, IsExpansion, IsExpanded}
use Rattle.qe_board.specs.Laws.{StopMeans}
use Rattle.qe_board.proofs.Runs.{run_laws}
use Rattle.qe_board.proofs.Conditions.{count_put, count_append, first_waits, waiting_waits, waiting_not_held, held_is_held, held_stay, true_put}
use Rattle.qe_board.proofs.Histories.{opening_counts, length_more, few_from}
use Rattle.qe_board.proofs.Going.{both_true, not_true, neither, meaning_is}
use Rattle.qe_board.proofs.Giving.{state_after}

module _ {F : Type 0} (meaning : Key → Meaning F) (is_leaf truth : Key → Bool) where
  abbrev now : History → State F
  now = state_of meaning is_leaf truth

  module _ (limit : ℕ) where
    abbrev enabled : Event → State F → Bool
    enabled = is_enabled meaning is_leaf truth limit

    abbrev after : Event → State F → State F
    after = effect meaning is_leaf truth limit

    -- each of the events is the next of the plain run
    abbrev pub PlainPart : State F → List Event → Type 0
    PlainPart s [] = Unit {0}
    PlainPart s (e ∷ es) = (is_done s ≡ false) × ((enabled e s ≡ true) × (IsNext meaning is_leaf truth limit e s × PlainPart (after e s) es))

    pub part_more : (s : State F) (es : List Event) (e : Event) → PlainPart s es → is_done (replay_from meaning is_leaf truth limit s es) ≡ false → enabled e (replay_from meaning is_leaf truth limit s es) ≡ true
        → IsNext meaning is_leaf truth limit e (replay_from meaning is_leaf truth limit s es) → PlainPart s (es ++ e ∷ [])
    part_more s [] e part going may next = (going, (may, (next, tt)))
    part_more s (d ∷ es) e part going may next = (part.0, (part.1.0, (part.1.1.0, part_more (after d s) es e part.1.1.1 going may next)))

    pub part_run : (s : State F) (es : List Event) → PlainPart s es → IsRunFrom meaning is_leaf truth limit s es
    part_run s [] part = tt
    part_run s (e ∷ es) part = (part.1.0, part_run (after e s) es part.1.1.1)

    pub part_end : (s : State F) (es : List Event) → PlainPart s es → is_done (replay_from meaning is_leaf truth limit s es) ≡ true → IsPlainFrom meaning is_leaf truth limit s es
    part_end s [] part done = done
    part_end s (e ∷ es) part done = (part.0, (part.1.0, (part.1.1.0, part_end (after e s) es part.1.1.1 done)))

  -- the events so far are those of the plain run, and nothing is held
  pub record Plainly (first h : History) : Type 0 where
    pub root : h.root ≡ first.root
    pub limit : h.limit ≡ first.limit
    pub part : PlainPart h.limit (opened meaning is_leaf truth h.limit h.root) h.journal
    pub idle : count is_held (now h).entries ≡ 0

  -- ---- one event more

  opened_holds_none : (limit : ℕ) (root : Key) → count is_held (opened meaning is_leaf truth limit root).entries ≡ 0
  opened_holds_none limit root = opening_counts F is_leaf (root ∷ [])

  pub plainly_opened : (h : History) → h.journal ≡ [] → Plainly h h
  plainly_opened h empty = record {
    root = refl;
    limit = refl;
    part = subst (λ js. PlainPart h.limit (opened meaning is_leaf truth h.limit h.root) js) (sym empty) tt;
    idle = ap (λ js. count is_held (replay_from meaning is_leaf truth h.limit (opened meaning is_leaf truth h.limit h.root) js).entries) empty ∙ opened_holds_none h.limit h.root;
  }

  part_grown : (h new : History) (e : Event) → PlainPart h.limit (opened meaning is_leaf truth h.limit h.root) h.journal → is_done (now h) ≡ false → is_enabled meaning is_leaf truth h.limit e (now h) ≡ true
      → IsNext meaning is_leaf truth h.limit e (now h) → new ≡ grown h (e ∷ []) → PlainPart new.limit (opened meaning is_leaf truth new.limit new.root) new.journal
  part_grown h new e part going may next is =
      subst (λ x. PlainPart x.limit (opened meaning is_leaf truth x.limit x.root) x.journal) (sym is) (part_more h.limit (opened meaning is_leaf truth h.limit h.root) h.journal e part going may next)

  not_done : (s : State F) (n : ℕ) → waits_first n s.entries ≡ true → is_done s ≡ false
  not_done s n first = by_count (count is_waiting s.entries) (count is_held s.entries) one
    where
      there : at is_waiting n s.entries ≡ true
      there = first_waits n s.entries first

      one : 1 ≤ count is_waiting s.entries
      one = let e : count is_waiting (put n dropped s.entries) + 1 ≡ count is_waiting s.entries + 0 = count_put is_waiting is_waiting true waiting_waits n dropped s.entries there in omega (arith, e)

      by_count : (i j : ℕ) → 1 ≤ i → (eqb i 0 && eqb j 0) ≡ false
      by_count i j some = let f : eqb i 0 ≡ false = grind (arith, nat_tests) in ap (λ b. b && eqb j 0) f

  held_not_done : (s : State F) → count is_held s.entries ≡ 1 → is_done s ≡ false
  held_not_done s one = by_count (count is_waiting s.entries) (count is_held s.entries) one
    where
      by_second : (a b : Bool) → b ≡ false → (a && b) ≡ false
      by_second true b h = h
      by_second false b h = refl

      by_count : (i j : ℕ) → j ≡ 1 → (eqb i 0 && eqb j 0) ≡ false
      by_count i j is = let f : eqb j 0 ≡ false = grind (arith, nat_tests) in by_second (eqb i 0) (eqb j 0) f

  -- ---- what is taken is expanded

  module _ (first old mid new : History) (h : Holding) (so_far : Plainly first old) (taken : IsTaken meaning is_leaf truth old 0 h mid) (done : IsExpanded meaning is_leaf truth mid h new) where
    taken_state : now mid ≡ effect meaning is_leaf truth old.limit (Take 0 h.entry) (now old)
    taken_state = ap now taken.event ∙ state_after meaning is_leaf truth old (Take 0 h.entry)

    one_held : count is_held (now mid).entries ≡ 1
    one_held =
        let e : count is_held (put h.entry (held 0) (now old).entries) + 0 ≡ count is_held (now old).entries + 1 = count_put is_held is_waiting false waiting_not_held h.entry (held 0) (now old).entries (first_waits h.entry (now old).entries taken.first) in
        let f : count is_held (now mid).entries ≡ count is_held (put h.entry (held 0) (now old).entries) = ap (λ s. count is_held s.entries) taken_state in
        let none = so_far.idle in omega (arith, e, f, none)

    goes : (has_true_leaf truth (now old) ≡ false) × (is_unset (now old).stop ≡ true)
    goes = neither (has_true_leaf truth (now old)) (is_unset (now old).stop) taken.goes_on

    mid_untrue : has_true_leaf truth (now mid) ≡ false
    mid_untrue = ap (has_true_leaf truth) taken_state ∙ (true_put truth h.entry (held 0) (now old).entries ∙ goes.0)

    mid_part : PlainPart mid.limit (opened meaning is_leaf truth mid.limit mid.root) mid.journal
    mid_part =
        part_grown old mid (Take 0 h.entry) so_far.part (not_done (now old) h.entry taken.first)
        (both_true (waits_first h.entry (now old).entries) _ taken.first (both_true (not (has_true_leaf truth (now old))) (is_unset (now old).stop) (not_true (has_true_leaf truth (now old)) goes.0) goes.1))
        (refl, so_far.idle) taken.event

    worker_is : h.worker ≡ 0
    worker_is = taken.to

    next_is : (e : Event) → IsExpansion e h → IsNext meaning is_leaf truth mid.limit e (now mid)
    next_is (Give w n) is = (is.0 ∙ worker_is, mid_untrue)
    next_is (Fail w n) is = (is.0 ∙ worker_is, mid_untrue)
    next_is (Fill w n) is = is.0 ∙ worker_is
    next_is (Take w n) is = absurd is
    next_is (Drop w n) is = absurd is
    next_is (Cancel w) is = absurd is
    next_is (Starve w) is = absurd is

    -- the entry is held no more
    put_none : (w n : ℕ) (c : Condition F) → is_held c ≡ false → holds w n (now mid) ≡ true → count is_held (put n c (now mid).entries) ≡ 0
    put_none w n c not_held there =
        let e : count is_held (put n c (now mid).entries) + 1 ≡ count is_held (now mid).entries + 0 = count_put is_held (is_held_by w) true (held_is_held w) n c (now mid).entries there ∙ ap (λ b. count is_held (now mid).entries + cond b 1 0) not_held in
        let one = one_held in omega (arith, e, one)

    given_none : (w n : ℕ) (m : Option (Meaning F)) (p : List Child → Bool) → gives_and meaning is_leaf truth mid.limit p m ≡ true → holds w n (now mid) ≡ true → count is_held (given meaning is_leaf truth mid.limit n m (now mid)).entries ≡ 0
    given_none w n None p may there = absurd (cc)
    given_none w n (Some (fails f)) p may there = absurd (cc)
    given_none w n (Some (gives cs)) p may there =
        let ks = new_keys (keys (now mid)) (child_keys cs) in
        let c : Condition F = expanded (links cs (keys (now mid) ++ ks)) in
        let a = put_none w n c refl there in
        let b = opening_counts F is_leaf ks in
        let s = count_append is_held (put n c (now mid).entries) (map (opening_entry is_leaf) ks) in
        omega (arith, a, b, s)

    failing_none : (w n : ℕ) (m : Option (Meaning F)) → does_fail meaning is_leaf truth mid.limit m ≡ true → holds w n (now mid) ≡ true → count is_held (failing meaning is_leaf truth mid.limit n m (now mid)).entries ≡ 0
    failing_none w n None may there = absurd (cc)
    failing_none w n (Some (gives cs)) may there = absurd (cc)
    failing_none w n (Some (fails f)) may there = put_none w n (failed f) refl there

    after_none : (e : Event) → IsExpansion e h → is_enabled meaning is_leaf truth mid.limit e (now mid) ≡ true → count is_held (effect meaning is_leaf truth mid.limit e (now mid)).entries ≡ 0
    after_none (Give w n) is may = let parts = both_hold (holds w n (now mid)) _ may in given_none w n (meaning_at meaning is_leaf truth mid.limit n (now mid)) _ (both_hold (is_unset (now mid).stop) _ parts.1).1 parts.0
    after_none (Fail w n) is may = let parts = both_hold (holds w n (now mid)) _ may in failing_none w n (meaning_at meaning is_leaf truth mid.limit n (now mid)) (both_hold (is_unset (now mid).stop) _ parts.1).1 parts.0
    after_none (Fill w n) is may = held_stay (put n dropped (now mid).entries) ∙ put_none w n dropped refl (both_hold (holds w n (now mid)) _ may).0
    after_none (Take w n) is may = absurd is
    after_none (Drop w n) is may = absurd is
    after_none (Cancel w) is may = absurd is
    after_none (Starve w) is may = absurd is

    pub plainly_expanded : Plainly first new
    plainly_expanded = record {
      root = ap (λ x. x.root) done.1.1.1 ∙ (ap (λ x. x.root) taken.event ∙ so_far.root);
      limit = ap (λ x. x.limit) done.1.1.1 ∙ (ap (λ x. x.limit) taken.event ∙ so_far.limit);
      part = part_grown mid new done.0 mid_part (held_not_done (now mid) one_held) done.1.1.0 (next_is done.0 done.1.0) done.1.1.1;
      idle = ap (λ x. count is_held (now x).entries) done.1.1.1 ∙ (ap (λ s. count is_held s.entries) (state_after meaning is_leaf truth mid done.0) ∙ after_none done.0 done.1.0 done.1.1.0);
    }

    pub longer_expanded : length old.journal < length new.journal
    longer_expanded =
        let a : length mid.journal ≡ suc (length old.journal) = ap (λ x. length x.journal) taken.event ∙ length_more meaning is_leaf truth old.journal (Take 0 h.entry) in
        let b : length new.journal ≡ suc (length mid.journal) = ap (λ x. length x.journal) done.1.1.1 ∙ length_more meaning is_leaf truth mid.journal done.0 in
        omega (arith, a, b)

  -- ---- what waits is dropped, since a leaf is true

  module _ (first old new : History) (b : Bool) (so_far : Plainly first old) (over : is_over truth (now old) ≡ true) (going : is_done (now old) ≡ false) (cancels : b ≡ (has_true_leaf truth (now old) && is_unset (now old).stop))
      (is : new ≡ (if b then grown old (Cancel 0 ∷ []) else old)) where
    waits_still : (i j : ℕ) → (eqb i 0 && eqb j 0) ≡ false → j ≡ 0 → i ≡ 0 → ⊥
    waits_still i j h none zero_waits = absurd (let e : eqb i 0 ≡ true = grind (arith, nat_tests) in let f : eqb j 0 ≡ true = grind (arith, nat_tests) in let k = sym h ∙ both_true (eqb i 0) (eqb j 0) e f in cc)

    unset_by : (t : Stopping) → StopMeans t (count is_waiting (now old).entries) (has_true_leaf truth (now old)) → is_unset t ≡ true
    unset_by Unset means = refl
    unset_by Truth means = absurd (waits_still (count is_waiting (now old).entries) (count is_held (now old).entries) going so_far.idle means.0)
    unset_by Limit means = absurd (waits_still (count is_waiting (now old).entries) (count is_held (now old).entries) going so_far.idle means.0)
    unset_by Memory means = absurd (waits_still (count is_waiting (now old).entries) (count is_held (now old).entries) going so_far.idle means.0)

    unset : is_unset (now old).stop ≡ true
    unset = unset_by (now old).stop ((run_laws meaning is_leaf truth old.limit).stops_mean old.root old.journal (part_run old.limit (opened meaning is_leaf truth old.limit old.root) old.journal so_far.part))

    leaf : has_true_leaf truth (now old) ≡ true
    leaf = by_test (has_true_leaf truth (now old)) (is_unset (now old).stop) over unset
      where
        by_test : (a u : Bool) → (a || not u) ≡ true → u ≡ true → a ≡ true
        by_test true u h k = refl
        by_test false u h k = absurd (let e = sym h ∙ ap not k in cc)

    event : new ≡ grown old (Cancel 0 ∷ [])
    event = is ∙ ap (λ c. if c then grown old (Cancel 0 ∷ []) else old) (cancels ∙ both_true (has_true_leaf truth (now old)) (is_unset (now old).stop) leaf unset)

    pub plainly_cancelled : Plainly first new
    plainly_cancelled = record {
      root = ap (λ x. x.root) event ∙ so_far.root;
      limit = ap (λ x. x.limit) event ∙ so_far.limit;
      part = part_grown old new (Cancel 0) so_far.part going (both_true (has_true_leaf truth (now old)) (is_unset (now old).stop) leaf unset) refl event;
      idle = ap (λ x. count is_held (now x).entries) event ∙ (ap (λ s. count is_held s.entries) (state_after meaning is_leaf truth old (Cancel 0)) ∙ (held_stay (now old).entries ∙ so_far.idle));
    }

    pub longer_cancelled : length old.journal < length new.journal
    longer_cancelled = let a : length new.journal ≡ suc (length old.journal) = ap (λ x. length x.journal) event ∙ length_more meaning is_leaf truth old.journal (Cancel 0) in omega (arith, a)

  -- ---- what is held is expanded by one event

  module _ (old new : History) (h : Holding) (there : IsHeldIn (now old) h) (goes_on : is_over truth (now old) ≡ false) where
    old_goes : (has_true_leaf truth (now old) ≡ false) × (is_unset (now old).stop ≡ true)
    old_goes = neither (has_true_leaf truth (now old)) (is_unset (now old).stop) goes_on

    means_at : (m : Meaning F) → meaning h.key ≡ m → meaning_at meaning is_leaf truth old.limit h.entry (now old) ≡ Some m
    means_at m means = meaning_is meaning is_leaf truth old.limit h.entry (now old) h.key there.piece ∙ ap (λ x. Some x) means

    may_give : (cs : List Child) → meaning h.key ≡ gives cs → fits meaning is_leaf truth old.limit cs (now old) ≡ true → is_enabled meaning is_leaf truth old.limit (Give h.worker h.entry) (now old) ≡ true
    may_give cs means fitting =
        both_true (holds h.worker h.entry (now old)) _ there.held (both_true (is_unset (now old).stop) _ old_goes.1
        (ap (gives_and meaning is_leaf truth old.limit (λ ds. fits meaning is_leaf truth old.limit ds (now old))) (means_at (gives cs) means) ∙ fitting))

    may_fill : (cs : List Child) → meaning h.key ≡ gives cs → fits meaning is_leaf truth old.limit cs (now old) ≡ false → is_enabled meaning is_leaf truth old.limit (Fill h.worker h.entry) (now old) ≡ true
    may_fill cs means many =
        both_true (holds h.worker h.entry (now old)) _ there.held (both_true (is_unset (now old).stop) _ old_goes.1 (both_true (not (has_true_leaf truth (now old))) _ (not_true (has_true_leaf truth (now old)) old_goes.0)
        (ap (gives_and meaning is_leaf truth old.limit (λ ds. not (fits meaning is_leaf truth old.limit ds (now old)))) (means_at (gives cs) means) ∙ not_true (fits meaning is_leaf truth old.limit cs (now old)) many)))

    true_not : (b : Bool) → b ≡ true → b ≡ false → ⊥
    true_not b h k = absurd (let e = sym h ∙ k in cc)

    pub gave_expanded : {N : Type 0} (key : N → Key) (list : List (Next N)) (r : Gave N F) → ((g : Holding) (back : _) → r ≡ gave.OutOfMemory g back → ⊥) → meaning h.key ≡ gives (map (child_of key) list)
        → IsGave meaning is_leaf truth key old h list r new → IsExpanded meaning is_leaf truth old h new
    gave_expanded key list gave.Kept kept means is = (Give h.worker h.entry, ((refl, refl), (may_give (map (child_of key) list) means is.fits, is.event)))
    gave_expanded key list gave.Truth kept means is = (Give h.worker h.entry, ((refl, refl), (may_give (map (child_of key) list) means is.fits, is.event)))
    gave_expanded key list gave.Full kept means is = (Fill h.worker h.entry, ((refl, refl), (may_fill (map (child_of key) list) means is.0.many, is.1)))
    gave_expanded key list gave.Stopped kept means (inl is) = absurd (true_not (is_unset (now old).stop) old_goes.1 is.0)
    gave_expanded key list gave.Stopped kept means (inr is) = absurd (true_not (has_true_leaf truth (now old)) is.0.leaf old_goes.0)
    gave_expanded key list (gave.OutOfMemory g back) kept means is = absurd (kept g back refl)

    pub failed_expanded : (f : F) → meaning h.key ≡ fails f → new ≡ grown old (failing_event (is_unset (now old).stop) h ∷ []) → IsExpanded meaning is_leaf truth old h new
    failed_expanded f means is = (
      Fail h.worker h.entry,
      (
        (refl, refl),
        (
          both_true (holds h.worker h.entry (now old)) _ there.held (both_true (is_unset (now old).stop) _ old_goes.1 (ap (does_fail meaning is_leaf truth old.limit) (means_at (fails f) means))),
          is ∙ ap (λ b. grown old (failing_event b h ∷ [])) old_goes.1,
        ),
      ),
    )

  -- ---- nothing is taken

  taken_keeps : (old mid : History) (w : ℕ) (h : Holding) → IsTaken meaning is_leaf truth old w h mid → mid ≡ grown old (Take w h.entry ∷ []) → is_over truth (now mid) ≡ false
  taken_keeps old mid w h taken event =
      let is = ap now event ∙ state_after meaning is_leaf truth old (Take w h.entry) in
      ap (is_over truth) is ∙ (ap (λ b. b || not (is_unset (now old).stop)) (true_put truth h.entry (held w) (now old).entries) ∙ taken.goes_on)

  -- what is taken goes on
  pub taken_goes_on : (old mid : History) (w : ℕ) (h : Holding) → IsTaken meaning is_leaf truth old w h mid → is_over truth (now mid) ≡ false
  taken_goes_on old mid w h taken = taken_keeps old mid w h taken (taken.event ∙ ap (λ v. grown old (Take v h.entry ∷ [])) refl)

  nothing_left : (i j : ℕ) → (eqb i 0 && eqb j 0) ≡ false → j ≡ 0 → i ≡ 0 → ⊥
  nothing_left i j h none zero_waits = absurd (let e : eqb i 0 ≡ true = grind (arith, nat_tests) in let f : eqb j 0 ≡ true = grind (arith, nat_tests) in let k = sym h ∙ both_true (eqb i 0) (eqb j 0) e f in cc)

  -- where nothing is taken though it is not done, nothing changes, and it is over
  not_taken : {N : Type 0} (first old mid : History) (r : Took N F) → ((h : Holding) → r ≡ took.Piece h → ⊥) → IsTook meaning is_leaf truth old 0 r mid → Plainly first old → is_done (now old) ≡ false
      → (mid ≡ old) × (is_over truth (now old) ≡ true)
  not_taken first old mid (took.Piece h) other was so_far going = absurd (other h refl)
  not_taken first old mid took.Empty other was so_far going = absurd (nothing_left (count is_waiting (now old).entries) (count is_held (now old).entries) going so_far.idle was.3)
  not_taken first old mid took.Done other was so_far going = absurd (let k = sym going ∙ was.1 in cc)
  not_taken first old mid took.Stopped other was so_far going = (was.0, was.2)

  module _ {N : Type 0} (first old mid new : History) (r : Took N F) (other : (h : Holding) → r ≡ took.Piece h → ⊥) (was : IsTook meaning is_leaf truth old 0 r mid) (so_far : Plainly first old) (going : is_done (now old) ≡ false)
      (b : Bool) (cancels : b ≡ (has_true_leaf truth (now mid) && is_unset (now mid).stop)) (is : new ≡ (if b then grown mid (Cancel 0 ∷ []) else mid)) where
    same : mid ≡ old
    same = (not_taken first old mid r other was so_far going).0

    still : Plainly first mid
    still = subst (Plainly first) (sym same) so_far

    over : is_over truth (now mid) ≡ true
    over = ap (λ x. is_over truth (now x)) same ∙ (not_taken first old mid r other was so_far going).1

    still_going : is_done (now mid) ≡ false
    still_going = ap (λ x. is_done (now x)) same ∙ going

    pub plainly_over : Plainly first new
    plainly_over = plainly_cancelled first mid new b still over still_going cancels is

    pub longer_over : length old.journal < length new.journal
    longer_over = subst (λ x. length x.journal < length new.journal) same (longer_cancelled first mid new b still over still_going cancels is)

  -- ---- the end

  abbrev pub left_to_do : (first h : History) → ℕ
  left_to_do first h = 2 * first.limit + 2 - length h.journal

  -- the journal has at most two events an entry, and one more
  pub less_to_do : (first old new : History) → 1 ≤ old.limit → Plainly first old → Plainly first new → length old.journal < length new.journal → left_to_do first new < left_to_do first old
  less_to_do first old new some before so_far longer =
      let run = part_run new.limit (opened meaning is_leaf truth new.limit new.root) new.journal so_far.part in
      let few = (run_laws meaning is_leaf truth new.limit).few_events new.root new.journal run in
      let a = before.limit in
      let b = so_far.limit in
      let most = few_from meaning is_leaf truth new.limit (opened meaning is_leaf truth new.limit new.root) new.journal (omega (arith, some, a, b)) run in
      omega (arith, few, most, b, longer)

  pub plainly_ends : (first h : History) → Plainly first h → is_done (now h) ≡ true → IsPlain meaning is_leaf truth h.limit h.root h.journal
  plainly_ends first h so_far done = part_end h.limit (opened meaning is_leaf truth h.limit h.root) h.journal so_far.part done
