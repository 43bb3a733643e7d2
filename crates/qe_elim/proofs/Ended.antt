-- What a filled container tells of the tree of a block.
use Rattle.std.proofs.Common.{ℕ, zero, suc, ◌≡◌, ◌∙◌, sym, ap, refl, subst, ◌<◌, ◌≤◌, Bool, true, false, cond, inl, inr, ◌⊎◌, List, [], ◌∷◌, map, length, Option, Some, None, arith}
use Rattle.std.specs.Prelude.{leb}
use Rattle.std.proofs.lemmas.Bool.Decides.{nat_tests}
use Rattle.std.specs.Option.{option_map, is_some}
use Rattle.qe_form.specs.Formula.{Formula}
use Rattle.qe_form.specs.declared.form.Form.{Form}
use Rattle.qe_form.specs.Tree as formula
use Rattle.qe_tree.specs.Tree as tree
use Rattle.qe_tree.specs.Tree.{Step, Place}
use Rattle.qe_tree.specs.Sound.{IsSound}
use Rattle.qe_piece.specs.Meaning.{Meaning, gives, fails}
use Rattle.qe_node.specs.declared.stop.NodeStop.{NodeStop}
use Rattle.qe_node.specs.key.Code.{sight_of}
use Rattle.qe_node.specs.lemmas.Code.{sight-back}
use Rattle.qe_node.specs.lemmas.Piece.{descends}
use Rattle.qe_node.specs.Successors.{expansion}
use Rattle.qe_board.specs.declared.event.Event.{Event}
use Rattle.qe_board.specs.declared.event.Event.TheVariants.{Take, Give, Fail, Drop, Cancel, Fill, Starve}
use Rattle.qe_board.specs.declared.event.Stopping.{Stopping}
use Rattle.qe_board.specs.declared.event.Stopping.TheVariants.{Unset, Truth, Limit, Memory}
use Rattle.qe_board.specs.declared.visits.Place as code
use Rattle.qe_board.specs.State.{Condition, Entry, State, at, count, is_waiting, keys, is_done, has_true_leaf}
use Rattle.qe_board.specs.Machine.{meaning_at, given, failing, effect, opened, IsRun, replay_from}
use Rattle.qe_board.specs.Counted.{first_true}
use Rattle.qe_board.specs.Plain.{IsNext, IsPlainFrom, IsPlain}
use Rattle.qe_board.specs.Laws.{StopMeans}
use Rattle.qe_board.specs.History.{History, state_of}
use Rattle.qe_board.specs.Tree as keyed
use Rattle.qe_board.specs.Tree.{Position, Verdict, holds, fails_at, has_leaves}
use Rattle.qe_board.specs.Verdict.{leaves_in, first_fault_in}
use Rattle.qe_board.specs.Recorded as recorded
use Rattle.qe_board.specs.Recorded.{Spot, has_failed, fault_at, key_at, spots, leaf_spots, failed_spot}
use Rattle.qe_board.specs.Visited.{spot_of}
use Rattle.qe_board.specs.Places.{position_of, fault_told, told, FinallySpotted}
use Rattle.qe_board.proofs.Runs.{run_laws}
use Rattle.qe_board.proofs.PlainRuns.{plain_is_run}
use Rattle.qe_board.proofs.Verdicts.{tree_laws}
use Rattle.qe_board.proofs.Spotted.{place_laws}
use Rattle.qe_board.proofs.Going.{first_true_there}
use Rattle.qe_elim.specs.declared.step.Fault.{Fault}
use Rattle.qe_elim.specs.Keys.{meaning, is_leaf, truth, height, node_of, key_of, is_limit, EndsPlainly}
use Rattle.qe_elim.specs.Search.{fault_of, steps_of}
use Rattle.qe_elim.specs.Steps.{steps_along}
use Rattle.qe_elim.specs.Found.{AreThere, form_at, HasRoot, IsFaultAt}
use Rattle.qe_elim.proofs.Bridge.{points, nodes_same, truth_same, verdict_by, failure_same, leaves_same, length_same}
use Rattle.qe_elim.proofs.Paths.{failure_told}
use Rattle.qe_elim.proofs.Found.{some_out}

-- ---- the plain run

abbrev is_memory : Stopping → Bool
is_memory Memory = true
is_memory s = false

module _ (limit : ℕ) where
  abbrev after : Event → State NodeStop → State NodeStop
  after = effect meaning is_leaf truth limit

  given_memory : (n : ℕ) (m : Option (Meaning NodeStop)) (s : State NodeStop) → is_memory (given meaning is_leaf truth limit n m s).stop ≡ is_memory s.stop
  given_memory n (Some (gives cs)) s = refl
  given_memory n (Some (fails f)) s = refl
  given_memory n None s = refl

  failing_memory : (n : ℕ) (m : Option (Meaning NodeStop)) (s : State NodeStop) → is_memory (failing meaning is_leaf truth limit n m s).stop ≡ is_memory s.stop
  failing_memory n (Some (gives cs)) s = refl
  failing_memory n (Some (fails f)) s = refl
  failing_memory n None s = refl

  never_memory : (e : Event) (s : State NodeStop) → IsNext meaning is_leaf truth limit e s → is_memory s.stop ≡ false → is_memory (after e s).stop ≡ false
  never_memory (Take w n) s next h = h
  never_memory (Give w n) s next h = given_memory n (meaning_at meaning is_leaf truth limit n s) s ∙ h
  never_memory (Fail w n) s next h = failing_memory n (meaning_at meaning is_leaf truth limit n s) s ∙ h
  never_memory (Drop w n) s next h = absurd next
  never_memory (Cancel w) s next h = refl
  never_memory (Fill w n) s next h = refl
  never_memory (Starve w) s next h = absurd next

  plain_memory : (s : State NodeStop) (es : List Event) → IsPlainFrom meaning is_leaf truth limit s es → is_memory s.stop ≡ false → is_memory (replay_from meaning is_leaf truth limit s es).stop ≡ false
  plain_memory s [] plain h = h
  plain_memory s (e ∷ es) plain h = plain_memory (after e s) es plain.1.1.1 (never_memory e s plain.1.1.0 h)

  plain_done : (s : State NodeStop) (es : List Event) → IsPlainFrom meaning is_leaf truth limit s es → is_done (replay_from meaning is_leaf truth limit s es) ≡ true
  plain_done s [] plain = plain
  plain_done s (e ∷ es) plain = plain_done (after e s) es plain.1.1.1

-- ---- verdicts

true_not : (b : Bool) → b ≡ true → b ≡ false → ⊥
true_not b h k = absurd (let e = sym h ∙ k in cc)

not_holds : (ps : List Position) (ls : List Position) → keyed.first_fault meaning is_leaf truth height ps (has_leaves ls) ≡ holds → ⊥
not_holds [] ls same = absurd (cc)
not_holds (p ∷ ps) ls same = by_fault (keyed.fault meaning is_leaf truth height p.key) (not_holds ps ls) same
  where
    by_fault : (o : Option NodeStop) → (keyed.first_fault meaning is_leaf truth height ps (has_leaves ls) ≡ holds → ⊥)
        → ◌≡◌ {A = Verdict NodeStop} (elim o [ Some f ↦ fails_at p.path f | None ↦ keyed.first_fault meaning is_leaf truth height ps (has_leaves ls) ]) holds → ⊥
    by_fault (Some f) rest same = absurd (cc)
    by_fault None rest same = rest same

not_told : (es : List (Entry NodeStop)) (ss : List Spot) → told es ss ≡ holds → ⊥
not_told es ss = by_spot (failed_spot es ss)
  where
    by_fault : (s : Spot) (o : Option NodeStop) → ◌≡◌ {A = Verdict NodeStop} (elim o [ Some f ↦ fails_at s.path f | None ↦ has_leaves (map (position_of es) (leaf_spots es ss)) ]) holds → ⊥
    by_fault s (Some f) same = absurd (cc)
    by_fault s None same = absurd (cc)

    by_spot : (o : Option Spot) → fault_told es o (has_leaves (map (position_of es) (leaf_spots es ss))) ≡ holds → ⊥
    by_spot None same = absurd (cc)
    by_spot (Some s) same = by_fault s (fault_at s.entry es) same

-- ---- spots

failed_there : (es : List (Entry NodeStop)) (ss : List Spot) (s : Spot) → failed_spot es ss ≡ Some s → at has_failed s.entry es ≡ true
failed_there es [] s is = absurd (cc)
failed_there es (t ∷ ss) s is = by_test (at has_failed t.entry es) refl (failed_there es ss s) is
  where
    by_test : (b : Bool) → at has_failed t.entry es ≡ b → (failed_spot es ss ≡ Some s → at has_failed s.entry es ≡ true) → cond b (Some t) (failed_spot es ss) ≡ Some s → at has_failed s.entry es ≡ true
    by_test true h rest same = subst (λ u. at has_failed u.entry es ≡ true) (some_out t s same) h
    by_test false h rest same = rest same

within : (q : Condition NodeStop → Bool) (n : ℕ) (es : List (Entry NodeStop)) → at q n es ≡ true → n < length es
within q n [] there = absurd (cc)
within q zero (e ∷ es) there = omega arith
within q (suc n) (e ∷ es) there = let rest = within q n es there in omega (arith, rest)

leaves_there : (es : List (Entry NodeStop)) (ss : List Spot) (ps : List code.Place) → map spot_of ps ≡ leaf_spots es ss → AreThere (length es) ps
leaves_there es [] [] is = tt
leaves_there es [] (p ∷ ps) is = absurd (cc)
leaves_there es (s ∷ ss) ps is = by_test (at recorded.is_leaf s.entry es) refl ps is (λ qs. leaves_there es ss qs)
  where
    by_test : (b : Bool) → at recorded.is_leaf s.entry es ≡ b → (qs : List code.Place) → map spot_of qs ≡ cond b (s ∷ leaf_spots es ss) (leaf_spots es ss) → ((rs : List code.Place) → map spot_of rs ≡ leaf_spots es ss → AreThere (length es) rs) → AreThere (length es) qs
    by_test false h qs same rest = rest qs same
    by_test true h [] same rest = absurd (cc)
    by_test true h (q ∷ qs) same rest =
        let first : spot_of q ≡ s = cc in
        let others : map spot_of qs ≡ leaf_spots es ss = cc in
        (subst (λ u. u.entry < length es) (sym first) (within recorded.is_leaf s.entry es h), rest qs others)

-- ---- what is filled

module _ (Good : Formula → Type 0) (sound : IsSound Good expansion) (vars : List ℕ) (f : Formula) (good : Good f) (limit : ℕ) (some : 1 ≤ limit) (h : History) (root : h.root ≡ key_of vars f) (most : h.limit ≡ limit)
    (plain : IsPlain meaning is_leaf truth h.limit h.root h.journal) where
  abbrev now : State NodeStop
  now = state_of meaning is_leaf truth h

  run : IsRun meaning is_leaf truth h.limit h.root h.journal
  run = plain_is_run meaning is_leaf truth h.limit h.root h.journal plain

  limited : 1 ≤ h.limit
  limited = omega (arith, some, most)

  pub done : is_done now ≡ true
  done = plain_done h.limit (opened meaning is_leaf truth h.limit h.root) h.journal plain

  means : StopMeans now.stop (count is_waiting now.entries) (has_true_leaf truth now)
  means = (run_laws meaning is_leaf truth h.limit).stops_mean h.root h.journal run

  no_memory : is_memory now.stop ≡ false
  no_memory = plain_memory h.limit (opened meaning is_leaf truth h.limit h.root) h.journal plain refl

  pub ends : (b : Bool) → is_limit now.stop ≡ b → EndsPlainly vars f limit b
  ends b is = record {
    journal = h.journal;
    plain = subst (λ l. IsPlain meaning is_leaf truth l (key_of vars f) h.journal) most (subst (λ k. IsPlain meaning is_leaf truth h.limit k h.journal) root plain);
    ends = ap (λ x. is_limit (state_of meaning is_leaf truth x).stop) (λ i. record { root = sym root i; limit = sym most i; journal = h.journal }) ∙ is;
  }

  size_is : length (keyed.nodes meaning is_leaf truth height h.root) ≡ length (tree.nodes expansion vars f)
  size_is = ap (λ k. length (keyed.nodes meaning is_leaf truth height k)) root ∙ (ap length (nodes_same Good sound vars f good) ∙ length_same Good sound vars (tree.nodes expansion vars f))

  is_the_limit : (t : Stopping) → is_limit t ≡ true → t ≡ Limit
  is_the_limit Limit is = refl
  is_the_limit Unset is = absurd (cc)
  is_the_limit Truth is = absurd (cc)
  is_the_limit Memory is = absurd (cc)

  -- the limit is passed only by a tree that has more nodes
  pub ends_limit : is_limit now.stop ≡ true → (limit < length (tree.nodes expansion vars f)) × EndsPlainly vars f limit true
  ends_limit is =
      let more = (tree_laws meaning is_leaf truth height h.limit descends limited).limit_means h.root h.journal run (is_the_limit now.stop is) in
      let size = size_is in
      (omega (arith, more, size, most), ends true is)

  -- ---- a leaf is True

  true_here : is_some (first_true truth (keys now)) ≡ true → has_true_leaf truth now ≡ true
  true_here there = sym (first_true_there truth now.entries) ∙ there

  pub untrue_here : is_some (first_true truth (keys now)) ≡ false → has_true_leaf truth now ≡ false
  untrue_here there = sym (first_true_there truth now.entries) ∙ there

  true_stop : (t : Stopping) → StopMeans t (count is_waiting now.entries) (has_true_leaf truth now) → is_memory t ≡ false → has_true_leaf truth now ≡ true → (is_limit t ≡ false) × ((t ≡ Unset) ⊎ (t ≡ Truth))
  true_stop Unset m not_memory leaf = (refl, inl refl)
  true_stop Truth m not_memory leaf = (refl, inr refl)
  true_stop Limit m not_memory leaf = absurd (true_not (has_true_leaf truth now) leaf m.1)
  true_stop Memory m not_memory leaf = absurd (cc)

  tree_true : keyed.has_truth meaning is_leaf truth height (keyed.nodes meaning is_leaf truth height h.root) ≡ tree.has_true_leaf expansion vars (tree.nodes expansion vars f)
  tree_true =
      ap (λ k. keyed.has_truth meaning is_leaf truth height (keyed.nodes meaning is_leaf truth height k)) root
      ∙ (ap (keyed.has_truth meaning is_leaf truth height) (nodes_same Good sound vars f good) ∙ truth_same Good sound vars (tree.nodes expansion vars f))

  holds_true : (b : Bool) (ps : List Position) (ls : List Position) → cond b holds (keyed.first_fault meaning is_leaf truth height ps (has_leaves ls)) ≡ holds → b ≡ true
  holds_true true ps ls same = refl
  holds_true false ps ls same = absurd (not_holds ps ls same)

  pub ends_true : is_some (first_true truth (keys now)) ≡ true → (tree.has_true_leaf expansion vars (tree.nodes expansion vars f) ≡ true) × EndsPlainly vars f limit false
  ends_true there =
      let leaf = true_here there in
      let stops = true_stop now.stop means no_memory leaf in
      let same = (tree_laws meaning is_leaf truth height h.limit descends limited).one_verdict h.root h.journal run done stops.1 in
      let ps = keyed.nodes meaning is_leaf truth height h.root in (
        sym tree_true ∙ holds_true (keyed.has_truth meaning is_leaf truth height ps) ps (keyed.leaf_positions meaning is_leaf truth height ps)
            (sym same ∙ ap (λ b. cond b holds (first_fault_in now.entries ps (has_leaves (leaves_in now.entries ps)))) leaf),
        ends false stops.0,
      )

  -- ---- no leaf is True

  unset_by : (t : Stopping) → StopMeans t (count is_waiting now.entries) (has_true_leaf truth now) → is_memory t ≡ false → has_true_leaf truth now ≡ false → is_limit t ≡ false → t ≡ Unset
  unset_by Unset m not_memory leaf not_limit = refl
  unset_by Truth m not_memory leaf not_limit = absurd (true_not (has_true_leaf truth now) m.1 leaf)
  unset_by Limit m not_memory leaf not_limit = absurd (cc)
  unset_by Memory m not_memory leaf not_limit = absurd (cc)

  pub unset : is_some (first_true truth (keys now)) ≡ false → is_limit now.stop ≡ false → now.stop ≡ Unset
  unset there not_limit = unset_by now.stop means no_memory (untrue_here there) not_limit

  pub root_first : HasRoot h
  root_first = ((place_laws meaning is_leaf truth height h.limit descends limited).always h.root h.journal run).first

  module _ (there : is_some (first_true truth (keys now)) ≡ false) (not_limit : is_limit now.stop ≡ false) where
    abbrev all_spots : List Spot
    all_spots = spots height now.entries

    final : FinallySpotted meaning is_leaf truth height h.limit h.root now
    final = (place_laws meaning is_leaf truth height h.limit descends limited).finally h.root h.journal run done (unset there not_limit)

    by_told : (b : Bool) (v : Verdict NodeStop) → (v ≡ holds → ⊥) → (o : Verdict NodeStop) → cond b holds o ≡ v → b ≡ false
    by_told true v other o same = absurd (other (sym same))
    by_told false v other o same = refl

    pub untrue : tree.has_true_leaf expansion vars (tree.nodes expansion vars f) ≡ false
    untrue =
        sym tree_true ∙ by_told _ (told now.entries all_spots) (not_told now.entries all_spots) _ (final.verdict_is ∙ ap (λ b. cond b holds (told now.entries all_spots)) (untrue_here there))

    no_stop : (t : Stopping) → t ≡ Unset → (t ≡ Limit) ⊎ (t ≡ Memory) → ⊥
    no_stop t is (inl other) = absurd (let e = sym is ∙ other in cc)
    no_stop t is (inr other) = absurd (let e = sym is ∙ other in cc)

    not_more : h.limit < length (keyed.nodes meaning is_leaf truth height h.root) → ⊥
    not_more more =
        no_stop now.stop (unset there not_limit)
        ((tree_laws meaning is_leaf truth height h.limit descends limited).too_many_stop h.root h.journal run done more (tree_true ∙ untrue))

    -- the tree has no more nodes than the limit
    pub within_limit : length (tree.nodes expansion vars f) ≤ limit
    within_limit = by_size (length (tree.nodes expansion vars f)) limit (λ more. not_more (let size = size_is in omega (arith, more, size, most)))
      where
        by_size : (n m : ℕ) → (m < n → ⊥) → n ≤ m
        by_size n m never = elim (leb n m) as (λ b. leb n m ≡ b → n ≤ m) [ true ↦ λ test. grind (arith, nat_tests) | false ↦ λ test. absurd (never (grind (arith, nat_tests))) ] refl

    abbrev nothing : Verdict NodeStop
    nothing = has_leaves []

    failure_is : fault_told now.entries (failed_spot now.entries all_spots) nothing ≡ verdict_by Good sound vars (tree.first_failure expansion vars (tree.nodes expansion vars f)) nothing
    failure_is =
        final.fault nothing
        ∙ (ap (λ k. keyed.first_fault meaning is_leaf truth height (keyed.nodes meaning is_leaf truth height k) nothing) root
        ∙ (ap (λ ps. keyed.first_fault meaning is_leaf truth height ps nothing) (nodes_same Good sound vars f good) ∙ failure_same Good sound vars (tree.nodes expansion vars f) nothing))

    -- the first node that fails
    pub failed_at : (o : Option code.Place) (place : code.Place) → o ≡ Some place → option_map spot_of o ≡ failed_spot now.entries all_spots → at has_failed place.entry now.entries ≡ true
    failed_at o place is found = failed_there now.entries all_spots (spot_of place) (sym found ∙ ap (option_map spot_of) is)

    pub failed_is : (o : Option code.Place) (place : code.Place) → o ≡ Some place → option_map spot_of o ≡ failed_spot now.entries all_spots → (fault : Fault) → IsFaultAt h place fault
        → tree.first_failure expansion vars (tree.nodes expansion vars f) ≡ Some (fault_of fault)
    failed_is o place is found fault fault_is = by_failure (tree.first_failure expansion vars (tree.nodes expansion vars f)) refl same
      where
        same : fails_at place.path fault.stop ≡ verdict_by Good sound vars (tree.first_failure expansion vars (tree.nodes expansion vars f)) nothing
        same =
            sym (ap (λ u. elim u [ Some s ↦ fails_at place.path s | None ↦ nothing ]) fault_is.0)
            ∙ (ap (λ u. fault_told now.entries u nothing) (ap (option_map spot_of) (sym is) ∙ found) ∙ failure_is)

        out : (ps qs : List ℕ) (s t : NodeStop) → ◌≡◌ {A = Verdict NodeStop} (fails_at ps s) (fails_at qs t) → (ps ≡ qs) × (s ≡ t)
        out ps qs s t e = (cc, cc)

        by_failure : (u : Option (List Step × NodeStop)) → tree.first_failure expansion vars (tree.nodes expansion vars f) ≡ u → fails_at place.path fault.stop ≡ verdict_by Good sound vars u nothing → u ≡ Some (fault_of fault)
        by_failure None first e = absurd (cc)
        by_failure (Some e) first e_same =
            let parts = out place.path (points e.0) fault.stop e.1 e_same in
            let told_steps = failure_told Good sound vars f good e.0 e.1 first in
            let steps : e.0 ≡ steps_of fault.path.items =
            told_steps ∙ ((λ i. steps_along (sym parts.0 i) (sym (ap sight_of root ∙ sight-back (node_of vars f)) i)) ∙ sym fault_is.1) in
            λ i. Some (steps i, sym parts.1 i)

    -- no node fails
    pub none_fails : (o : Option code.Place) → o ≡ None → option_map spot_of o ≡ failed_spot now.entries all_spots → tree.first_failure expansion vars (tree.nodes expansion vars f) ≡ None
    none_fails o is found = by_failure (tree.first_failure expansion vars (tree.nodes expansion vars f)) (ap (λ u. fault_told now.entries u nothing) (ap (option_map spot_of) (sym is) ∙ found) ∙ failure_is)
      where
        by_failure : (u : Option (List Step × NodeStop)) → nothing ≡ verdict_by Good sound vars u nothing → u ≡ None
        by_failure None e = refl
        by_failure (Some x) e = absurd (cc)

    pub all_there : (ps : List code.Place) → map spot_of ps ≡ leaf_spots now.entries all_spots → AreThere (length now.entries) ps
    all_there ps = leaves_there now.entries all_spots ps

    forms_spots : (ps : List code.Place) → map (λ p. form_at p.entry now.entries) ps ≡ map (λ q. (sight_of q.key).form) (map (position_of now.entries) (map spot_of ps))
    forms_spots [] = refl
    forms_spots (p ∷ ps) = ap (λ gs. form_at p.entry now.entries ∷ gs) (forms_spots ps)

    -- the leaves
    pub leaves_are : (ps : List code.Place) (forms : List Form) → map spot_of ps ≡ leaf_spots now.entries all_spots → map formula.tree forms ≡ map (λ p. form_at p.entry now.entries) ps
        → tree.leaves expansion vars (tree.nodes expansion vars f) ≡ map formula.tree forms
    leaves_are ps forms found are =
        sym (leaves_same Good sound vars (tree.nodes expansion vars f))
        ∙ (ap (λ qs. map (λ q. (sight_of q.key).form) (keyed.leaf_positions meaning is_leaf truth height qs)) (sym (nodes_same Good sound vars f good))
        ∙ (ap (λ k. map (λ q. (sight_of q.key).form) (keyed.leaf_positions meaning is_leaf truth height (keyed.nodes meaning is_leaf truth height k))) (sym root)
        ∙ (ap (map (λ q. (sight_of q.key).form)) (sym final.leaves)
        ∙ (ap (λ ss. map (λ q. (sight_of q.key).form) (map (position_of now.entries) ss)) (sym found) ∙ (sym (forms_spots ps) ∙ sym are)))))
