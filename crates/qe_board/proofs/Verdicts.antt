-- A done run that is not stopped, or stopped by truth, has the verdict of the tree.
use Rattle.std.proofs.Common.{ℕ, suc, ◌+◌, ◌≤◌, ◌<◌, ◌≡◌, ◌∙◌, ◌⊎◌, inl, inr, refl, sym, ap, subst, Bool, true, false, cond, eqb, ◌||◌, List, [], ◌∷◌, length, map, Option, Some, None, arith}
use Rattle.std.specs.List.{list_any}
use Rattle.std.proofs.lemmas.Bool.{eqb-true}
use Rattle.qe_ring.proofs.Bools.{both_hold}
use Rattle.qe_piece.specs.Meaning.{Meaning, Child}
use Rattle.qe_board.specs.declared.event.Event.{Event}
use Rattle.qe_board.specs.declared.event.Stopping.{Stopping}
use Rattle.qe_board.specs.declared.event.Stopping.TheVariants.{Unset, Truth, Limit, Memory}
use Rattle.qe_board.specs.State.{Key, IsAmong, Link, Condition, waiting, held, expanded, leaf, failed, dropped, Entry, State, is_waiting, is_held, is_unset, keys, count, is_done, has_true_leaf}
use Rattle.qe_board.specs.Machine.{child_keys, same_key, IsRun, replay}
use Rattle.qe_board.specs.Tree.{Position, Verdict, holds, fails_at, has_leaves, successors_of, below, fault_of, fault, positions, nodes, leaf_positions, first_fault, verdict, Falls}
use Rattle.qe_board.specs.Verdict.{condition_of, fault_in, is_leaf_in, leaves_in, first_fault_in, verdict_in}
use Rattle.qe_board.specs.Laws.{StopMeans, TreeLaws}
use Rattle.qe_board.proofs.Keys.{Within, same_tells, no_more_than, stands_in}
use Rattle.qe_board.proofs.Walks.{position_keys, Closed, walk_within, first_from, first_has, first_distinct, any_from}
use Rattle.qe_board.proofs.Runs.{run_laws}
use Rattle.qe_board.specs.Kept.{AreLinks, IsFit, AreFit}
use Rattle.qe_board.proofs.Sound.{IsSound, sound_run}

-- a piece that is true, where there is one
any_entry : {F : Type 0} (truth : Key → Bool) (es : List (Entry F)) → list_any (λ e. truth e.key) es ≡ true → (k : Key) × (IsAmong k (map (λ e. e.key) es) × (truth k ≡ true))
any_entry truth [] h = absurd (cc)
any_entry truth (e ∷ es) h = by_head (truth e.key) refl h (any_entry truth es)
  where
    by_head : (b : Bool) → truth e.key ≡ b → (b || list_any (λ d. truth d.key) es) ≡ true → (list_any (λ d. truth d.key) es ≡ true → (k : Key) × (IsAmong k (map (λ d. d.key) es) × (truth k ≡ true)))
        → (k : Key) × (IsAmong k (e.key ∷ map (λ d. d.key) es) × (truth k ≡ true))
    by_head true is some again = (e.key, (inl refl, is))
    by_head false is some again = let r = again some in (r.0, (inr r.1.0, r.1.1))

any_position : (truth : Key → Bool) (ps : List Position) → list_any (λ p. truth p.key) ps ≡ true → (k : Key) × (IsAmong k (position_keys ps) × (truth k ≡ true))
any_position truth [] h = absurd (cc)
any_position truth (p ∷ ps) h = by_head (truth p.key) refl h (any_position truth ps)
  where
    by_head : (b : Bool) → truth p.key ≡ b → (b || list_any (λ q. truth q.key) ps) ≡ true → (list_any (λ q. truth q.key) ps ≡ true → (k : Key) × (IsAmong k (position_keys ps) × (truth k ≡ true)))
        → (k : Key) × (IsAmong k (p.key ∷ position_keys ps) × (truth k ≡ true))
    by_head true is some again = (p.key, (inl refl, is))
    by_head false is some again = let r = again some in (r.0, (inr r.1.0, r.1.1))

entry_from : {F : Type 0} (truth : Key → Bool) (k : Key) (es : List (Entry F)) → IsAmong k (map (λ e. e.key) es) → truth k ≡ true → list_any (λ e. truth e.key) es ≡ true
entry_from truth k [] h passes = absurd h
entry_from truth k (e ∷ es) (inl same) passes = λ i. (ap truth (sym same) ∙ passes) i || list_any (λ d. truth d.key) es
entry_from truth k (e ∷ es) (inr h) passes = right (truth e.key) (entry_from truth k es h passes)
  where
    right : {t : Bool} (b : Bool) → t ≡ true → (b || t) ≡ true
    right true e = refl
    right false e = e

-- what is linked is among the keys
links_within : (ks : List Key) (ls : List Link) (cs : List Child) → AreLinks ls cs ks → Within (child_keys cs) ks
links_within ks [] [] h x i = absurd i
links_within ks (l ∷ ls) (c ∷ cs) h x (inl e) = subst (λ y. IsAmong y ks) (sym e) (stands_in l.entry c.key ks h.1)
links_within ks (l ∷ ls) (c ∷ cs) h x (inr i) = links_within ks ls cs h.2 x i
links_within ks [] (c ∷ cs) h x i = absurd h
links_within ks (l ∷ ls) [] h x i = absurd h

module _ {F : Type 0} (meaning : Key → Meaning F) (is_leaf truth : Key → Bool) (height : Key → ℕ) (limit : ℕ) where
  abbrev pub Fit : List Key → Bool → List (Entry F) → Type 0
  Fit = AreFit meaning is_leaf truth height

  abbrev under : Key → List Child
  under = below meaning is_leaf truth height

  abbrev why : Key → Option F
  why = fault meaning is_leaf truth height

  -- ---- an entry that neither waits nor is held nor was dropped

  -- what it tells of the tree there
  record Tells (ks : List Key) (c : Condition F) (k : Key) : Type 0 where
    children : Within (child_keys (under k)) ks
    fault_is : why k ≡ fault_in (Some c)
    leaf_is : is_leaf k ≡ is_leaf_in (Some c)

  tells : (ks : List Key) (c : Condition F) (k : Key) → is_waiting c ≡ false → is_held c ≡ false → IsFit meaning is_leaf truth height ks true c k → Tells ks c k
  tells ks waiting k no_wait no_hold fit = absurd (cc)
  tells ks (held w) k no_wait no_hold fit = absurd (cc)
  tells ks (expanded ls) k no_wait no_hold fit = record {
    children = λ x i. links_within ks ls fit.1.0 fit.1.1.1 x (subst (λ m. IsAmong x (child_keys (successors_of meaning is_leaf truth height m))) fit.1.1.0 (subst (λ b. IsAmong x (child_keys (cond b [] (successors_of meaning is_leaf truth height (meaning k))))) fit.0 i));
    fault_is = ap (λ b. cond b None (fault_of meaning is_leaf truth height (meaning k))) fit.0 ∙ ap (fault_of meaning is_leaf truth height) fit.1.1.0;
    leaf_is = fit.0;
  }
  tells ks leaf k no_wait no_hold fit = record {
    children = λ x i. absurd (subst (λ b. IsAmong x (child_keys (cond b [] (successors_of meaning is_leaf truth height (meaning k))))) fit i);
    fault_is = ap (λ b. cond b None (fault_of meaning is_leaf truth height (meaning k))) fit;
    leaf_is = fit;
  }
  tells ks (failed f) k no_wait no_hold fit = record {
    children = λ x i. absurd (subst (λ m. IsAmong x (child_keys (successors_of meaning is_leaf truth height m))) fit.1 (subst (λ b. IsAmong x (child_keys (cond b [] (successors_of meaning is_leaf truth height (meaning k))))) fit.0 i));
    fault_is = ap (λ b. cond b None (fault_of meaning is_leaf truth height (meaning k))) fit.0 ∙ ap (fault_of meaning is_leaf truth height) fit.1;
    leaf_is = fit.0;
  }
  tells ks dropped k no_wait no_hold fit = absurd (cc)

  first_zero : (b : Bool) (n : ℕ) → ◌≡◌ {A = ℕ} (cond b 1 0 + n) 0 → (b ≡ false) × (n ≡ 0)
  first_zero true n h = absurd (omega (arith, h))
  first_zero false n h = (refl, omega (arith, h))

  -- the first entry with a key
  at_key : (ks : List Key) (es : List (Entry F)) → Fit ks true es → count is_waiting es ≡ 0 → count is_held es ≡ 0 → (k : Key) → IsAmong k (map (λ e. e.key) es)
      → (c : Condition F) × ((condition_of k es ≡ Some c) × Tells ks c k)
  at_key ks [] fit no_wait no_hold k h = absurd h
  at_key ks (e ∷ es) fit no_wait no_hold k h =
      let waits = first_zero (is_waiting e.condition) (count is_waiting es) no_wait in
      let holds = first_zero (is_held e.condition) (count is_held es) no_hold in
      elim (same_key k e.key) as (λ b. same_key k e.key ≡ b → (c : Condition F) × ((cond b (Some e.condition) (condition_of k es) ≡ Some c) × Tells ks c k)) [
        | true ↦ λ same. (e.condition, (refl, subst (Tells ks e.condition) (sym ((same_tells k e.key).0 same)) (tells ks e.condition e.key waits.0 holds.0 fit.0)))
        | false ↦ λ other. elim h [
          | inl is ↦ absurd (let same = (same_tells k e.key).1 is in cc)
          | inr later ↦ at_key ks es fit.1 waits.1 holds.1 k later
        ]
      ] refl

  -- ---- over a list of places whose pieces are all entries

  module _ (ks : List Key) (es : List (Entry F)) (fit : Fit ks true es) (no_wait : count is_waiting es ≡ 0) (no_hold : count is_held es ≡ 0) where
    closed : ks ≡ map (λ e. e.key) es → Closed meaning is_leaf truth height ks
    closed same k h = (at_key ks es fit no_wait no_hold k (subst (IsAmong k) same h)).1.1.children

    leaves_same : (ps : List Position) → Within (position_keys ps) (map (λ e. e.key) es) → leaves_in es ps ≡ leaf_positions meaning is_leaf truth height ps
    leaves_same [] within = refl
    leaves_same (p ∷ ps) within =
        let a = at_key ks es fit no_wait no_hold p.key (within p.key (inl refl)) in
        let rest = leaves_same ps (λ x i. within x (inr i)) in
        (λ i. cond ((ap is_leaf_in a.1.0 ∙ sym a.1.1.leaf_is) i) (p ∷ rest i) (rest i))

    faults_same : (ps : List Position) → Within (position_keys ps) (map (λ e. e.key) es) → (x y : Verdict F) → x ≡ y → first_fault_in es ps x ≡ first_fault meaning is_leaf truth height ps y
    faults_same [] within x y same = same
    faults_same (p ∷ ps) within x y same =
        let a = at_key ks es fit no_wait no_hold p.key (within p.key (inl refl)) in
        let rest = faults_same ps (λ z i. within z (inr i)) x y same in
        (λ i. elim ((ap fault_in a.1.0 ∙ sym a.1.1.fault_is) i) as (λ o. Verdict F) [ Some f ↦ fails_at p.path f | None ↦ rest i ])

  -- ---- the laws

  module _ (falls : Falls meaning is_leaf truth height) (some : 1 ≤ limit) (root : Key) (events : List Event) (run : IsRun meaning is_leaf truth limit root events) where
    abbrev pub s : State F
    s = replay meaning is_leaf truth limit root events

    abbrev pub tree : List Position
    tree = nodes meaning is_leaf truth height root

    pub sound : IsSound meaning is_leaf truth height limit root s
    sound = sound_run meaning is_leaf truth height limit falls root some events run

    means : StopMeans s.stop (count is_waiting s.entries) (has_true_leaf truth s)
    means = (run_laws meaning is_leaf truth limit).stops_mean root events run

    -- a true entry is a true piece of the tree
    pub true_in_tree : has_true_leaf truth s ≡ true → list_any (λ p. truth p.key) tree ≡ true
    true_in_tree h =
        let k = any_entry truth s.entries h in
        any_from truth k.0 tree (elim (first_has [] (positions meaning is_leaf truth height root) k.0 (sound.within k.0 k.1.0)) [ inl none ↦ absurd none | inr i ↦ i ]) k.1.1

    pub done_parts : is_done s ≡ true → (count is_waiting s.entries ≡ 0) × (count is_held s.entries ≡ 0)
    done_parts h = let parts = both_hold (eqb (count is_waiting s.entries) 0) (eqb (count is_held s.entries) 0) h in (eqb-true (count is_waiting s.entries) 0 parts.0, eqb-true (count is_held s.entries) 0 parts.1)

    pub fit_unset : s.stop ≡ Unset → Fit (keys s) true s.entries
    fit_unset unset = subst (λ t. Fit (keys s) (is_unset t) s.entries) unset sound.fit

    -- where nothing is left to do all pieces of the tree are entries
    all_entries : is_done s ≡ true → s.stop ≡ Unset → Within (position_keys tree) (keys s)
    all_entries done unset k h =
        let parts = done_parts done in
        walk_within meaning is_leaf truth height (keys s) (closed (keys s) s.entries (fit_unset unset) parts.0 parts.1 refl) (height root) [] root sound.root_in k
        (first_from [] (positions meaning is_leaf truth height root) k h)

    pub no_truth : has_true_leaf truth s ≡ false → is_done s ≡ true → s.stop ≡ Unset → list_any (λ p. truth p.key) tree ≡ false
    no_truth none done unset = by_test (list_any (λ p. truth p.key) tree) refl
      where
        by_test : (b : Bool) → list_any (λ p. truth p.key) tree ≡ b → b ≡ false
        by_test true h = absurd (let k = any_position truth tree h in let yes = entry_from truth k.0 s.entries (all_entries done unset k.0 k.1.0) k.1.1 in cc)
        by_test false h = refl

    unset_where : (t : Stopping) → StopMeans t (count is_waiting s.entries) (has_true_leaf truth s) → has_true_leaf truth s ≡ false → (t ≡ Unset) ⊎ (t ≡ Truth) → t ≡ Unset
    unset_where t m none (inl unset) = unset
    unset_where t m none (inr is) = absurd (let h = (subst (λ u. StopMeans u (count is_waiting s.entries) (has_true_leaf truth s)) is m).1 in let k = sym none ∙ h in cc)

    one_verdict : is_done s ≡ true → (s.stop ≡ Unset) ⊎ (s.stop ≡ Truth) → verdict_in meaning is_leaf truth height root s ≡ verdict meaning is_leaf truth height root
    one_verdict done ended = by_truth (has_true_leaf truth s) refl
      where
        by_truth : (b : Bool) → has_true_leaf truth s ≡ b → verdict_in meaning is_leaf truth height root s ≡ verdict meaning is_leaf truth height root
        by_truth true h =
            ap (λ b. cond b holds (first_fault_in s.entries tree (has_leaves (leaves_in s.entries tree)))) h
            ∙ sym (ap (λ b. cond b holds (first_fault meaning is_leaf truth height tree (has_leaves (leaf_positions meaning is_leaf truth height tree)))) (true_in_tree h))
        by_truth false h =
            let unset = unset_where s.stop means h ended in let parts = done_parts done in let within = all_entries done unset in
            ap (λ b. cond b holds (first_fault_in s.entries tree (has_leaves (leaves_in s.entries tree)))) h
            ∙ (faults_same (keys s) s.entries (fit_unset unset) parts.0 parts.1 tree within _ _ (ap has_leaves (leaves_same (keys s) s.entries (fit_unset unset) parts.0 parts.1 tree within))
            ∙ sym (ap (λ b. cond b holds (first_fault meaning is_leaf truth height tree (has_leaves (leaf_positions meaning is_leaf truth height tree)))) (no_truth h done unset)))

    length_keys : (es : List (Entry F)) → length (map (λ e. e.key) es) ≡ length es
    length_keys [] = refl
    length_keys (e ∷ es) = ap suc (length_keys es)

    length_positions : (ps : List Position) → length (position_keys ps) ≡ length ps
    length_positions [] = refl
    length_positions (p ∷ ps) = ap suc (length_positions ps)

    few_entries : length s.entries ≤ limit
    few_entries = let few = sound.few in let same = length_keys s.entries in omega (arith, few, same)

    too_many_stop : is_done s ≡ true → limit < length tree → list_any (λ p. truth p.key) tree ≡ false → (s.stop ≡ Limit) ⊎ (s.stop ≡ Memory)
    too_many_stop done more none = by_stop s.stop refl means
      where
        by_stop : (t : Stopping) → s.stop ≡ t → StopMeans t (count is_waiting s.entries) (has_true_leaf truth s) → (t ≡ Limit) ⊎ (t ≡ Memory)
        by_stop Unset is m =
            let most = no_more_than (position_keys tree) (keys s) (first_distinct [] (positions meaning is_leaf truth height root)) (all_entries done is) in
            let few = few_entries in let long = length_keys s.entries in let longer = length_positions tree in absurd (omega (arith, more, most, few, long, longer))
        by_stop Truth is m = absurd (let yes = true_in_tree m.1 in cc)
        by_stop Limit is m = inl refl
        by_stop Memory is m = inr refl

  pub tree_laws : Falls meaning is_leaf truth height → 1 ≤ limit → TreeLaws meaning is_leaf truth height limit
  tree_laws falls some = record {
    states_keep = λ root es run. (let kept = sound falls some root es run in record { fit = kept.fit; distinct = kept.distinct; pieces = kept.within });
    one_verdict = λ root es run. one_verdict falls some root es run;
    limit_means = λ root es run. (sound falls some root es run).beyond;
    too_many_stop = λ root es run. too_many_stop falls some root es run;
    few_entries = λ root es run. few_entries falls some root es run;
  }
