-- What a worker holds it still holds after what another does.
use Rattle.std.proofs.Common.{ℕ, zero, suc, ◌≡◌, ◌∙◌, refl, sym, ap, subst, Bool, true, false, ◌||◌, not, List, [], ◌∷◌, ◌++◌, map, Option, Some, None, slice_get, arith, if◌then◌else◌}
use Rattle.std.proofs.lemmas.Bool.{eqb-true}
use Rattle.qe_piece.specs.Meaning.{Meaning, gives, fails}
use Rattle.qe_piece.specs.declared.maker.Made.{Made}
use Rattle.qe_piece.specs.declared.maker.Made.TheVariants as made
use Rattle.qe_board.specs.declared.event.Event.{Event}
use Rattle.qe_board.specs.declared.event.Event.TheVariants.{Take, Give, Fail, Drop, Cancel, Fill, Starve}
use Rattle.qe_board.specs.declared.settle.Left.{Left}
use Rattle.qe_board.specs.declared.settle.Left.TheVariants.{Kept, Truth, Full, Stopped, Starved}
use Rattle.qe_board.specs.State.{Key, Condition, waiting, held, expanded, leaf, failed, dropped, Entry, State, is_waiting, is_held_by, is_unset, keys, at, has_true_leaf}
use Rattle.qe_board.specs.Machine.{put, drop_waiting, new_keys, child_keys, links, opening_entry, meaning_at, given, failing, effect}
use Rattle.qe_board.specs.History.{History, Holding, grown, state_of}
use Rattle.qe_board.specs.Calls.{IsHeldIn, is_over, failing_event, IsTaken}
use Rattle.qe_board.specs.Settled.{let_go, LetsGo, IsLeft}
use Rattle.qe_board.proofs.Conditions.{first_waits, held_not_waiting}
use Rattle.qe_board.proofs.Counting.{keys_put}
use Rattle.qe_board.proofs.Giving.{held_still, grown_twice, state_after}
use Rattle.qe_board.proofs.Keys.{stands_still}

module _ {F : Type 0} where
  -- no condition passes both tests
  abbrev Apart : (p q : Condition F → Bool) → Type 0
  Apart p q = (c : Condition F) → p c ≡ true → q c ≡ true → ⊥

  held_apart : (v w : ℕ) → (v ≡ w → ⊥) → Apart (is_held_by v) (is_held_by w)
  held_apart v w other waiting h k = absurd (cc)
  held_apart v w other (held u) h k = other (sym (eqb-true u v h) ∙ eqb-true u w k)
  held_apart v w other (expanded ls) h k = absurd (cc)
  held_apart v w other leaf h k = absurd (cc)
  held_apart v w other (failed f) h k = absurd (cc)
  held_apart v w other dropped h k = absurd (cc)

  held_not_wait : (v : ℕ) → Apart (is_held_by v) is_waiting
  held_not_wait v c h k = absurd (let e = sym k ∙ held_not_waiting v c h in cc)

  -- one of two entries changes, and the other one still passes
  put_apart : (p q : Condition F → Bool) → Apart p q → (n m : ℕ) (c : Condition F) (es : List (Entry F)) → at p n es ≡ true → at q m es ≡ true → at p n (put m c es) ≡ true
  put_apart p q apart n m c [] h k = absurd (cc)
  put_apart p q apart zero zero c (e ∷ es) h k = absurd (apart e.condition h k)
  put_apart p q apart zero (suc m) c (e ∷ es) h k = h
  put_apart p q apart (suc n) zero c (e ∷ es) h k = h
  put_apart p q apart (suc n) (suc m) c (e ∷ es) h k = put_apart p q apart n m c es h k

  more_pass : (p : Condition F → Bool) (n : ℕ) (es more : List (Entry F)) → at p n es ≡ true → at p n (es ++ more) ≡ true
  more_pass p n [] more h = absurd (cc)
  more_pass p zero (e ∷ es) more h = h
  more_pass p (suc n) (e ∷ es) more h = more_pass p n es more h

  more_keys : (es more : List (Entry F)) → map (λ e. e.key) (es ++ more) ≡ map (λ e. e.key) es ++ map (λ e. e.key) more
  more_keys [] more = refl
  more_keys (e ∷ es) more = ap (λ ks. e.key ∷ ks) (more_keys es more)

  -- the same of what is held
  held_put : (q : Condition F → Bool) (s t : State F) (g : Holding) (m : ℕ) (c : Condition F) → Apart (is_held_by g.worker) q → at q m s.entries ≡ true → t.entries ≡ put m c s.entries → IsHeldIn s g → IsHeldIn t g
  held_put q s t g m c apart there is has = record {
    held = ap (at (is_held_by g.worker) g.entry) is ∙ put_apart (is_held_by g.worker) q apart g.entry m c s.entries has.held there;
    piece = ap (λ es. slice_get (map (λ e. e.key) es) g.entry) is ∙ (ap (λ ks. slice_get ks g.entry) (keys_put m c s.entries) ∙ has.piece);
  }

  held_more : (s t : State F) (g : Holding) (more : List (Entry F)) → t.entries ≡ s.entries ++ more → IsHeldIn s g → IsHeldIn t g
  held_more s t g more is has = record {
    held = ap (at (is_held_by g.worker) g.entry) is ∙ more_pass (is_held_by g.worker) g.entry s.entries more has.held;
    piece = ap (λ es. slice_get (map (λ e. e.key) es) g.entry) is ∙ (ap (λ ks. slice_get ks g.entry) (more_keys s.entries more) ∙ stands_still g.entry g.key (keys s) (map (λ e. e.key) more) has.piece);
  }

module _ {F : Type 0} (meaning : Key → Meaning F) (is_leaf truth : Key → Bool) where
  abbrev now : History → State F
  now h = state_of meaning is_leaf truth h

  -- another entry is taken
  pub held_taken : (old new : History) (w : ℕ) (h g : Holding) → IsTaken meaning is_leaf truth old w h new → IsHeldIn (now old) g → IsHeldIn (now new) g
  held_taken old new w h g taken has =
      held_put is_waiting (now old) (now new) g h.entry (held w) (held_not_wait g.worker) (first_waits h.entry (now old).entries taken.first)
      (ap (λ x. (now x).entries) taken.event ∙ ap (λ s. s.entries) (state_after meaning is_leaf truth old (Take w h.entry))) has

  -- the entry of another changes
  module _ (old : History) (h g : Holding) (other : g.worker ≡ h.worker → ⊥) (there : IsHeldIn (now old) h) (has : IsHeldIn (now old) g) where
    after : (new : History) (e : Event) → new ≡ grown old (e ∷ []) → now new ≡ effect meaning is_leaf truth old.limit e (now old)
    after new e is = ap now is ∙ state_after meaning is_leaf truth old e

    changed : (t : State F) (c : Condition F) → t.entries ≡ put h.entry c (now old).entries → IsHeldIn t g
    changed t c is = held_put (is_held_by h.worker) (now old) t g h.entry c (held_apart g.worker h.worker other) there.held is has

    given_still : (m : Option (Meaning F)) → IsHeldIn (given meaning is_leaf truth old.limit h.entry m (now old)) g
    given_still None = has
    given_still (Some (fails f)) = has
    given_still (Some (gives cs)) =
        let ks = new_keys (keys (now old)) (child_keys cs) in
        let c = expanded (links cs (keys (now old) ++ ks)) in
        held_more (record { entries = put h.entry c (now old).entries; stop = (now old).stop }) _ g (map (opening_entry is_leaf) ks) refl
        (changed (record { entries = put h.entry c (now old).entries; stop = (now old).stop }) c refl)

    failing_still : (m : Option (Meaning F)) → IsHeldIn (failing meaning is_leaf truth old.limit h.entry m (now old)) g
    failing_still None = has
    failing_still (Some (gives cs)) = has
    failing_still (Some (fails f)) = changed _ (failed f) refl

    gave_still : (new : History) → new ≡ grown old (Give h.worker h.entry ∷ []) → IsHeldIn (now new) g
    gave_still new is = subst (λ s. IsHeldIn s g) (sym (after new (Give h.worker h.entry) is)) (given_still (meaning_at meaning is_leaf truth old.limit h.entry (now old)))

    filled_still : (new : History) → new ≡ grown old (Fill h.worker h.entry ∷ []) → IsHeldIn (now new) g
    filled_still new is =
        let mid : State F = record { entries = put h.entry dropped (now old).entries; stop = (now old).stop } in
        held_still mid g (now new) (ap (λ s. s.entries) (after new (Fill h.worker h.entry) is)) (changed mid dropped refl)

    dropped_still : (new : History) → new ≡ grown old (Drop h.worker h.entry ∷ []) → IsHeldIn (now new) g
    dropped_still new is = changed (now new) dropped (ap (λ s. s.entries) (after new (Drop h.worker h.entry) is))

    failed_still : (new : History) (b : Bool) → new ≡ grown old (failing_event b h ∷ []) → IsHeldIn (now new) g
    failed_still new true is = subst (λ s. IsHeldIn s g) (sym (after new (Fail h.worker h.entry) is)) (failing_still (meaning_at meaning is_leaf truth old.limit h.entry (now old)))
    failed_still new false is = dropped_still new is

  -- it is let go, and what waits is dropped
  let_go_still : (old : History) (h g : Holding) → (g.worker ≡ h.worker → ⊥) → IsHeldIn (now old) h → IsHeldIn (now old) g
      → (e : Event) → ((s : State F) → (effect meaning is_leaf truth old.limit e s).entries ≡ drop_waiting s.entries) → (new : History) (b : Bool) → new ≡ grown old (let_go b e h) → IsHeldIn (now new) g
  let_go_still old h g other there has e drops new false is = dropped_still old h g other there has new is
  let_go_still old h g other there has e drops new true is =
      let mid = grown old (e ∷ []) in
      let after_it = ap (λ s. s.entries) (state_after meaning is_leaf truth old e) ∙ drops (now old) in
      dropped_still mid h g other (held_still (now old) h (now mid) after_it there) (held_still (now old) g (now mid) after_it has) new (is ∙ sym (grown_twice old e (Drop h.worker h.entry)))

  -- whatever comes of it
  pub held_left : {N : Type 0} (key : N → Key) (old : History) (h g : Holding) → (g.worker ≡ h.worker → ⊥) → IsHeldIn (now old) h → IsHeldIn (now old) g
      → (new : History) (m : Made N F) (left : Left) → IsLeft meaning is_leaf truth key old h m left new → IsHeldIn (now new) g
  held_left key old h g other there has new m left is = by m left is
    where
      by_cancel : LetsGo meaning is_leaf truth old (Cancel h.worker) h new → IsHeldIn (now new) g
      by_cancel go = let_go_still old h g other there has (Cancel h.worker) (λ s. refl) new (is_unset (now old).stop) go

      by_starve : LetsGo meaning is_leaf truth old (Starve h.worker) h new → IsHeldIn (now new) g
      by_starve go = let_go_still old h g other there has (Starve h.worker) (λ s. refl) new (is_unset (now old).stop) go

      by : (m : Made _ F) (left : Left) → IsLeft meaning is_leaf truth key old h m left new → IsHeldIn (now new) g
      by (made.Successors list) Kept is = gave_still old h g other there has new is.event
      by (made.Successors list) Truth is = gave_still old h g other there has new is.event
      by (made.Successors list) Full is = filled_still old h g other there has new is.1
      by (made.Successors list) Stopped is = by_cancel is.1
      by (made.Successors list) Starved is = by_starve is.1
      by (made.Failed f) left is = failed_still old h g other there has new (is_unset (now old).stop) is.1
      by made.Stopped left is = by_cancel is.1
      by made.OutOfMemory Stopped is = by_cancel is.1
      by made.OutOfMemory Starved is = by_starve is.1
      by made.OutOfMemory Kept is = absurd is
      by made.OutOfMemory Truth is = absurd is
      by made.OutOfMemory Full is = absurd is

-- what two workers took is held by two
pub two_workers : (v w : ℕ) → v ≡ 0 → w ≡ 1 → v ≡ w → ⊥
two_workers v w first second same = absurd (omega (arith, first, second, same))

module _ {F : Type 0} (meaning : Key → Meaning F) (is_leaf truth : Key → Bool) where
  -- where it starves what is held stays held, and a stop is set
  pub held_starved : (old new : History) (w : ℕ) (h : Holding) (b : Bool) → b ≡ true → new ≡ (if b then grown old (Starve w ∷ []) else old) → IsHeldIn (state_of meaning is_leaf truth old) h
      → IsHeldIn (state_of meaning is_leaf truth new) h × (is_unset (state_of meaning is_leaf truth new).stop ≡ false)
  held_starved old new w h false is event has = absurd (cc)
  held_starved old new w h true is event has =
      let after : state_of meaning is_leaf truth new ≡ effect meaning is_leaf truth old.limit (Starve w) (state_of meaning is_leaf truth old) = ap (state_of meaning is_leaf truth) event ∙ state_after meaning is_leaf truth old (Starve w) in
      (held_still (state_of meaning is_leaf truth old) h (state_of meaning is_leaf truth new) (ap (λ s. s.entries) after) has, ap (λ s. is_unset s.stop) after)

  -- where a leaf is true it is over
  pub over_by_truth : (s : State F) → has_true_leaf truth s ≡ true → is_over truth s ≡ true
  over_by_truth s holds = ap (λ b. b || not (is_unset s.stop)) holds
