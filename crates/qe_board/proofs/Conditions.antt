-- Entries whose conditions change: what they keep, and how many wait or are held.
use Rattle.std.proofs.Common.{ℕ, zero, suc, ◌+◌, ◌≤◌, ◌≡◌, ◌∙◌, refl, sym, ap, Bool, true, false, cond, not, ◌&&◌, ◌||◌, List, [], ◌∷◌, ◌++◌, length, arith}
use Rattle.std.specs.List.{list_any}
use Rattle.qe_board.specs.State.{Key, Condition, waiting, held, expanded, leaf, failed, dropped, Entry, is_waiting, is_held, is_held_by, at, count}
use Rattle.qe_board.specs.Machine.{put, drop_waiting, waits_first}

module _ {F : Type 0} where
  -- ---- keys

  pub length_put : (n : ℕ) (c : Condition F) (es : List (Entry F)) → length (put n c es) ≡ length es
  length_put n c [] = refl
  length_put zero c (e ∷ es) = refl
  length_put (suc n) c (e ∷ es) = ap suc (length_put n c es)

  pub length_drop : (es : List (Entry F)) → length (drop_waiting es) ≡ length es
  length_drop [] = refl
  length_drop (e ∷ es) = ap suc (length_drop es)

  module _ (truth : Key → Bool) where
    abbrev pub any_true : List (Entry F) → Bool
    any_true es = list_any (λ e. truth e.key) es

    pub true_put : (n : ℕ) (c : Condition F) (es : List (Entry F)) → any_true (put n c es) ≡ any_true es
    true_put n c [] = refl
    true_put zero c (e ∷ es) = refl
    true_put (suc n) c (e ∷ es) = ap (λ b. truth e.key || b) (true_put n c es)

    pub true_drop : (es : List (Entry F)) → any_true (drop_waiting es) ≡ any_true es
    true_drop [] = refl
    true_drop (e ∷ es) = ap (λ b. truth e.key || b) (true_drop es)

    -- more entries lose no true leaf
    pub true_more : (es more : List (Entry F)) → any_true es ≡ true → any_true (es ++ more) ≡ true
    true_more [] more holds = absurd (cc)
    true_more (e ∷ es) more holds = by_head (truth e.key) (true_more es more) holds
      where
        by_head : (b : Bool) → (any_true es ≡ true → any_true (es ++ more) ≡ true) → (b || any_true es) ≡ true → (b || any_true (es ++ more)) ≡ true
        by_head true again h = refl
        by_head false again h = again h

  -- ---- conditions

  abbrev pub Passes : (Condition F → Bool) → Bool → (Condition F → Bool) → Type 0
  Passes q b p = (d : Condition F) → q d ≡ true → p d ≡ b

  -- one entry in another condition
  pub count_put : (p q : Condition F → Bool) (b : Bool) → Passes q b p → (n : ℕ) (c : Condition F) (es : List (Entry F)) → at q n es ≡ true
      → count p (put n c es) + cond b 1 0 ≡ count p es + cond (p c) 1 0
  count_put p q b passes n c [] there = absurd (cc)
  count_put p q b passes zero c (e ∷ es) there =
      ap (λ t. cond (p c) 1 0 + count p es + cond t 1 0) (sym (passes e.condition there)) ∙ turned (cond (p c) 1 0) (count p es) (cond (p e.condition) 1 0)
    where
      turned : (i j k : ℕ) → i + j + k ≡ k + j + i
      turned i j k = omega arith
  count_put p q b passes (suc n) c (e ∷ es) there =
      let rest = count_put p q b passes n c es there in omega (arith, rest)

  pub first_waits : (n : ℕ) (es : List (Entry F)) → waits_first n es ≡ true → at is_waiting n es ≡ true
  first_waits n [] h = absurd (cc)
  first_waits zero (e ∷ es) h = h
  first_waits (suc n) (e ∷ es) h = first_waits n es (second (not (is_waiting e.condition)) (waits_first n es) h)
    where
      second : (a b : Bool) → (a && b) ≡ true → b ≡ true
      second true b holds = holds
      second false b holds = absurd (cc)

  -- what waits is not held, and what is held does not wait
  pub waiting_waits : Passes is_waiting true is_waiting
  waiting_waits d h = h

  pub waiting_not_held : Passes is_waiting false is_held
  waiting_not_held waiting h = refl
  waiting_not_held (held w) h = absurd (cc)
  waiting_not_held (expanded ls) h = absurd (cc)
  waiting_not_held leaf h = absurd (cc)
  waiting_not_held (failed f) h = absurd (cc)
  waiting_not_held dropped h = absurd (cc)

  pub held_not_waiting : (w : ℕ) → Passes (is_held_by w) false is_waiting
  held_not_waiting w waiting h = absurd (cc)
  held_not_waiting w (held v) h = refl
  held_not_waiting w (expanded ls) h = refl
  held_not_waiting w leaf h = refl
  held_not_waiting w (failed f) h = refl
  held_not_waiting w dropped h = refl

  pub held_is_held : (w : ℕ) → Passes (is_held_by w) true is_held
  held_is_held w waiting h = absurd (cc)
  held_is_held w (held v) h = refl
  held_is_held w (expanded ls) h = absurd (cc)
  held_is_held w leaf h = absurd (cc)
  held_is_held w (failed f) h = absurd (cc)
  held_is_held w dropped h = absurd (cc)

  pub none_wait : (es : List (Entry F)) → count is_waiting (drop_waiting es) ≡ 0
  none_wait [] = refl
  none_wait (e ∷ es) = by_test (none_wait es) (is_waiting e.condition) refl
    where
      by_test : count is_waiting (drop_waiting es) ≡ 0 → (b : Bool) → is_waiting e.condition ≡ b → cond (is_waiting (cond b dropped e.condition)) 1 0 + count is_waiting (drop_waiting es) ≡ 0
      by_test rest true t = omega (arith, rest)
      by_test rest false t = ap (λ b. cond b 1 0 + count is_waiting (drop_waiting es)) t ∙ (let r = rest in omega arith)

  pub held_stay : (es : List (Entry F)) → count is_held (drop_waiting es) ≡ count is_held es
  held_stay [] = refl
  held_stay (e ∷ es) = by_test (held_stay es) (is_waiting e.condition) refl
    where
      by_test : count is_held (drop_waiting es) ≡ count is_held es → (b : Bool) → is_waiting e.condition ≡ b
          → cond (is_held (cond b dropped e.condition)) 1 0 + count is_held (drop_waiting es) ≡ cond (is_held e.condition) 1 0 + count is_held es
      by_test rest true t = (λ i. cond (sym (waiting_not_held e.condition t) i) 1 0 + rest i)
      by_test rest false t = ap (λ k. cond (is_held e.condition) 1 0 + k) rest

  pub count_append : (p : Condition F → Bool) (es more : List (Entry F)) → count p (es ++ more) ≡ count p es + count p more
  count_append p [] more = omega arith
  count_append p (e ∷ es) more = let rest = count_append p es more in omega (arith, rest)

  pub length_append : (es more : List (Entry F)) → length (es ++ more) ≡ length es + length more
  length_append [] more = omega arith
  length_append (e ∷ es) more = let rest = length_append es more in omega (arith, rest)

  -- there are no more that pass than there are
  pub count_few : (p : Condition F → Bool) (es : List (Entry F)) → count p es ≤ length es
  count_few p [] = omega arith
  count_few p (e ∷ es) = let rest = count_few p es in by_test (p e.condition) rest
    where
      by_test : (b : Bool) → count p es ≤ length es → cond b 1 0 + count p es ≤ suc (length es)
      by_test true rest = omega arith
      by_test false rest = omega arith

  -- ---- what has stopped waiting never waits again

  abbrev pub Settled : ℕ → List (Entry F) → Type 0
  Settled n es = at (λ c. not (is_waiting c)) n es ≡ true

  pub settled_put : (n m : ℕ) (c : Condition F) (es : List (Entry F)) → is_waiting c ≡ false → Settled n es → Settled n (put m c es)
  settled_put n m c [] new old = old
  settled_put zero zero c (e ∷ es) new old = ap not new
  settled_put zero (suc m) c (e ∷ es) new old = old
  settled_put (suc n) zero c (e ∷ es) new old = old
  settled_put (suc n) (suc m) c (e ∷ es) new old = settled_put n m c es new old

  pub settled_itself : (n : ℕ) (q : Condition F → Bool) (c : Condition F) (es : List (Entry F)) → is_waiting c ≡ false → at q n es ≡ true → Settled n (put n c es)
  settled_itself n q c [] new there = absurd (cc)
  settled_itself zero q c (e ∷ es) new there = ap not new
  settled_itself (suc n) q c (e ∷ es) new there = settled_itself n q c es new there

  pub settled_drop : (n : ℕ) (es : List (Entry F)) → Settled n es → Settled n (drop_waiting es)
  settled_drop n [] old = old
  settled_drop zero (e ∷ es) old = elim (is_waiting e.condition) as (λ b. is_waiting e.condition ≡ b → not (is_waiting (cond b dropped e.condition)) ≡ true) [ true ↦ λ t. refl | false ↦ λ t. ap not t ] refl
  settled_drop (suc n) (e ∷ es) old = settled_drop n es old

  pub settled_more : (n : ℕ) (es more : List (Entry F)) → Settled n es → Settled n (es ++ more)
  settled_more n [] more old = absurd (cc)
  settled_more zero (e ∷ es) more old = old
  settled_more (suc n) (e ∷ es) more old = settled_more n es more old

  pub settled_not_first : (n : ℕ) (es : List (Entry F)) → Settled n es → waits_first n es ≡ true → ⊥
  settled_not_first n [] old h = absurd (cc)
  settled_not_first zero (e ∷ es) old h = absurd (let k = sym old ∙ ap not h in cc)
  settled_not_first (suc n) (e ∷ es) old h = settled_not_first n es old (second (not (is_waiting e.condition)) (waits_first n es) h)
    where
      second : (a b : Bool) → (a && b) ≡ true → b ≡ true
      second true b holds = holds
      second false b holds = absurd (cc)
