-- What giving successors does to the history of a container.
use Rattle.std.proofs.Common.{ℕ, zero, suc, ◌+◌, ◌*◌, ◌≤◌, ◌≡◌, ◌∙◌, refl, sym, ap, subst, Bool, true, false, cond, ◌&&◌, List, [], ◌∷◌, ◌++◌, length, map, Some, slice_get, arith}
use Rattle.std.specs.Prelude.{min, leb}
use Rattle.std.proofs.lemmas.Bool.Decides.{nat_tests}
use Rattle.qe_piece.specs.Meaning.{Meaning, Child, gives, child_of}
use Rattle.qe_piece.specs.declared.maker.Next.{Next}
use Rattle.qe_board.specs.declared.event.Event.{Event}
use Rattle.qe_board.specs.declared.event.Event.TheVariants.{Give, Cancel, Fill}
use Rattle.qe_board.specs.declared.event.Stopping.TheVariants.{Truth, Limit}
use Rattle.qe_board.specs.State.{Key, Condition, dropped, Entry, State, is_waiting, is_held_by, is_unset, keys, at, has_true_leaf}
use Rattle.qe_board.specs.Machine.{among, new_keys, put, drop_waiting, child_keys, fits, given, effect, opened}
use Rattle.qe_board.specs.History.{History, Holding, grown, to_come, state_of, IsKept}
use Rattle.qe_board.specs.Calls.{IsHeldIn, IsGiven, PassesLimit}
use Rattle.qe_board.proofs.Conditions.{held_not_waiting}
use Rattle.qe_board.proofs.Counting.{keys_drop}
use Rattle.qe_board.proofs.Histories.{history_of, replay_more, state_shown}
use Rattle.qe_board.proofs.Going.{held_here, fill_kept, give_goes, give_kept, give_grown}

-- the new ones are no more than all
new_few : (known ks : List Key) → length (new_keys known ks) ≤ length ks
new_few known [] = omega arith
new_few known (k ∷ ks) = by_test (among k known) (new_few known ks) (new_few (known ++ k ∷ []) ks)
  where
    by_test : (b : Bool) → length (new_keys known ks) ≤ length ks → length (new_keys (known ++ k ∷ []) ks) ≤ length ks
        → length (cond b (new_keys known ks) (k ∷ new_keys (known ++ k ∷ []) ks)) ≤ suc (length ks)
    by_test true some more = omega (arith, some)
    by_test false some more = omega (arith, more)

below_both : (x a b : ℕ) → x ≤ a → x ≤ b → x ≤ min a b
below_both x a b some more = grind (arith, nat_tests)

long_sum : (xs ys : List Key) → length (xs ++ ys) ≡ length xs + length ys
long_sum [] ys = omega arith
long_sum (x ∷ xs) ys = let rest = long_sum xs ys in omega (arith, rest)

child_count : (cs : List Child) → length (child_keys cs) ≡ length cs
child_count [] = refl
child_count (c ∷ cs) = ap suc (child_count cs)

next_count : {N : Type 0} (key : N → Key) (list : List (Next N)) → length (map (child_of key) list) ≡ length list
next_count key [] = refl
next_count key (x ∷ list) = ap suc (next_count key list)

module _ {F : Type 0} where
  -- what is held stays held where what waits is dropped
  pub held_at : (w n : ℕ) (es : List (Entry F)) → at (is_held_by w) n es ≡ true → at (is_held_by w) n (drop_waiting es) ≡ true
  held_at w n [] there = absurd (cc)
  held_at w zero (e ∷ es) there = by_test (is_waiting e.condition) refl
    where
      by_test : (b : Bool) → is_waiting e.condition ≡ b → is_held_by w (cond b dropped e.condition) ≡ true
      by_test false is = there
      by_test true is = absurd (let both = waits_not w e.condition there in let k = sym is ∙ both in cc)
        where
          waits_not : (w : ℕ) (c : Condition F) → is_held_by w c ≡ true → is_waiting c ≡ false
          waits_not = held_not_waiting
  held_at w (suc n) (e ∷ es) there = held_at w n es there

  pub held_still : (s : State F) (h : Holding) (t : State F) → t.entries ≡ drop_waiting s.entries → IsHeldIn s h → IsHeldIn t h
  held_still s h t is there = record {
    held = ap (at (is_held_by h.worker) h.entry) is ∙ held_at h.worker h.entry s.entries there.held;
    piece = ap (λ es. slice_get (map (λ e. e.key) es) h.entry) is ∙ (ap (λ ks. slice_get ks h.entry) (keys_drop s.entries) ∙ there.piece);
  }

-- two events, one after the other
pub grown_twice : (h : History) (a b : Event) → grown (grown h (a ∷ [])) (b ∷ []) ≡ grown h (a ∷ b ∷ [])
grown_twice h a b = λ i. record { root = h.root; limit = h.limit; journal = joined h.journal i }
  where
    joined : (js : List Event) → (js ++ a ∷ []) ++ b ∷ [] ≡ js ++ a ∷ b ∷ []
    joined [] = refl
    joined (j ∷ js) = ap (λ xs. j ∷ xs) (joined js)

module _ {F : Type 0} (meaning : Key → Meaning F) (is_leaf truth : Key → Bool) where
  abbrev now : History → State F
  now = state_of meaning is_leaf truth

  -- the state after one event more
  pub state_after : (h : History) (e : Event) → now (grown h (e ∷ [])) ≡ effect meaning is_leaf truth h.limit e (now h)
  state_after h e = replay_more meaning is_leaf truth h.limit (opened meaning is_leaf truth h.limit h.root) h.journal e

  pub cancelled : (old new : History) (w : ℕ) → new ≡ grown old (Cancel w ∷ []) → now new ≡ record { entries = drop_waiting (now old).entries; stop = Truth }
  cancelled old new w is = ap now is ∙ state_after old (Cancel w)

  pub cancelled_held : (old new : History) (w : ℕ) (h : Holding) → new ≡ grown old (Cancel w ∷ []) → IsHeldIn (now old) h → IsHeldIn (now new) h
  cancelled_held old new w h is there = held_still (now old) h (now new) (ap (λ s. s.entries) (cancelled old new w is)) there

  pub cancelled_stop : (old new : History) (w : ℕ) → new ≡ grown old (Cancel w ∷ []) → is_unset (now new).stop ≡ false
  cancelled_stop old new w is = ap (λ s. is_unset s.stop) (cancelled old new w is)

  -- ---- give

  module _ {N : Type 0} (key : N → Key) (list : List (Next N)) (h : Holding) (limit capacity : ℕ) (s t : State F) (js ks : List Event) (kept : IsKept meaning is_leaf truth (history_of s limit js) s capacity)
      (there : IsHeldIn s h) (unset : is_unset s.stop ≡ true) (means : meaning h.key ≡ gives (map (child_of key) list)) (fitting : fits meaning is_leaf truth limit (map (child_of key) list) s ≡ true)
      (is : t ≡ given meaning is_leaf truth limit h.entry (Some (gives (map (child_of key) list))) s) (more : ks ≡ js ++ Give h.worker h.entry ∷ []) (old : History) (shown : history_of s limit js ≡ old) where
    abbrev cs : List Child
    cs = map (child_of key) list

    -- the new entries are no more than the successors, nor than the limit
    new_within : length (new_keys (keys s) (child_keys cs)) ≤ min (length list) limit
    new_within =
        below_both (length (new_keys (keys s) (child_keys cs))) (length list) limit
        (let few = new_few (keys s) (child_keys cs) in let many = child_count cs in let next = next_count key list in omega (arith, few, many, next))
        (let all = at_most (length (keys s ++ new_keys (keys s) (child_keys cs))) fitting in let sum = long_sum (keys s) (new_keys (keys s) (child_keys cs)) in omega (arith, all, sum))
      where
        at_most : (i : ℕ) → leb i limit ≡ true → i ≤ limit
        at_most i test = grind (arith, nat_tests)

    pub given_kept : (room long : ℕ) → long ≡ length js → (wanted many : ℕ) → many ≡ length list → to_come (now old) + 2 * min many old.limit ≤ wanted → long + wanted ≤ room → IsKept meaning is_leaf truth (history_of t limit ks) t room
    given_kept room long is_long wanted many is_many enough there_is =
        give_kept meaning is_leaf truth h limit capacity s t js ks kept there cs unset means fitting is more room
        (let want : to_come s + 2 * min (length list) limit ≤ wanted = subst (λ l. to_come s + 2 * min (length list) l ≤ wanted) (ap (λ x. x.limit) (sym shown)) (subst (λ u. to_come u + 2 * min (length list) old.limit ≤ wanted) (sym before) (subst (λ n. to_come (now old) + 2 * min n old.limit ≤ wanted) is_many enough)) in
        let few = new_within in omega (arith, is_long, want, few, there_is))
      where
        before : s ≡ now old
        before = state_shown meaning is_leaf truth s limit capacity js old kept shown

    pub given_given : (b : Bool) → has_true_leaf truth t ≡ b → IsGiven meaning is_leaf truth old h cs b (history_of t limit ks)
    given_given b leaf_is =
        let before = state_shown meaning is_leaf truth s limit capacity js old kept shown in
        let event = give_grown meaning is_leaf truth h limit capacity s t js ks kept there cs unset means fitting is more in
        record {
          goes_on = ap (λ u. is_unset u.stop) (sym before) ∙ unset;
          fits = (λ i. fits meaning is_leaf truth (sym shown i).limit cs (sym before i)) ∙ fitting;
          event = event ∙ ap (λ x. grown x (Give h.worker h.entry ∷ [])) shown;
          leaf = ap (has_true_leaf truth) (after event before) ∙ leaf_is;
        }
      where
        after : history_of t limit ks ≡ grown (history_of s limit js) (Give h.worker h.entry ∷ []) → s ≡ now old → now (history_of t limit ks) ≡ t
        after event before =
            ap now event ∙ (state_after (history_of s limit js) (Give h.worker h.entry) ∙ (ap (effect meaning is_leaf truth limit (Give h.worker h.entry)) (sym kept.replayed)
            ∙ sym (give_goes meaning is_leaf truth h limit capacity s t js ks kept there cs unset means fitting is more).state))

  -- ---- where the successors would pass the limit

  not_first : (a b : Bool) → (a && b) ≡ false → b ≡ true → a ≡ false
  not_first true b h k = absurd (let e = sym k ∙ h in cc)
  not_first false b h k = refl

  module _ (h g : Holding) (limit capacity : ℕ) (s t : State F) (js ks : List Event) (old : History) (kept : IsKept meaning is_leaf truth (history_of s limit js) s capacity) (shown : history_of s limit js ≡ old) (is_held : h ≡ g)
      (there : IsHeldIn (now old) g) (unset : is_unset (now old).stop ≡ true) (many : PassesLimit meaning is_leaf truth old g.key) (cancels : (has_true_leaf truth (now old) && is_unset (now old).stop) ≡ false)
      (is : t ≡ record { entries = drop_waiting (put h.entry dropped s.entries); stop = Limit }) (more : ks ≡ js ++ Fill h.worker h.entry ∷ []) where
    is_state : s ≡ now old
    is_state = state_shown meaning is_leaf truth s limit capacity js old kept shown

    pub filled_kept : IsKept meaning is_leaf truth (history_of t limit ks) t capacity
    filled_kept =
        fill_kept meaning is_leaf truth h limit capacity s t js ks kept (held_here meaning is_leaf truth s limit capacity js old h g kept shown is_held there) many.0
        (ap (λ u. is_unset u.stop) is_state ∙ unset) (ap (λ x. meaning x.key) is_held ∙ many.1.0)
        (ap (has_true_leaf truth) is_state ∙ not_first (has_true_leaf truth (now old)) (is_unset (now old).stop) cancels unset)
        ((λ i. fits meaning is_leaf truth (shown i).limit many.0 (is_state i)) ∙ many.1.1) is more
