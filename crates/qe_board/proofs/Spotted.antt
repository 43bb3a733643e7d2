-- Where nothing is left to do and no stop is set, the first spots of the entries are the first places of the tree's pieces.
use Rattle.std.proofs.Common.{ℕ, zero, suc, ◌+◌, ◌≤◌, ◌<◌, ◌≡◌, ◌∙◌, refl, sym, ap, subst, Bool, true, false, cond, eqb, ◌||◌, List, [], ◌∷◌, ◌++◌, length, map, flat_map, Option, Some, None, slice_get, arith}
use Rattle.std.proofs.lemmas.Bool.{eqb-true}
use Rattle.std.proofs.lemmas.Bool.Decides.{nat_tests}
use Rattle.std.specs.Prelude.{IsTrue}
use Rattle.std.specs.List.{list_any}
use Rattle.std.specs.Option.{is_some}
use Rattle.qe_piece.specs.Meaning.{Meaning, Child, gives, fails}
use Rattle.qe_board.specs.declared.event.Event.{Event}
use Rattle.qe_board.specs.declared.event.Stopping.TheVariants.{Unset}
use Rattle.qe_board.specs.State.{Key, Distinct, Link, Condition, waiting, held, expanded, leaf, failed, dropped, Entry, State, is_waiting, is_held, keys, at, count, is_done, has_true_leaf}
use Rattle.qe_board.specs.Machine.{same_key, among, IsRun, replay}
use Rattle.qe_board.specs.Tree.{Position, Verdict, holds, fails_at, has_leaves, first_positions, successors_of, below, fault_of, fault, walk, nodes, leaf_positions, first_fault, Falls}
use Rattle.qe_board.specs.Kept.{AreLinks, IsFit, AreFit}
use Rattle.qe_board.specs.Recorded as recorded
use Rattle.qe_board.specs.Recorded.{Spot, AreWithin, is_met, first_spots, links_of, links_at, fault_at, key_at, spots_from, spots, leaf_spots, has_failed, failed_spot, LinksFall}
use Rattle.qe_board.specs.Places.{position_of, fault_told, FinallySpotted, PlaceLaws}
use Rattle.qe_board.proofs.Keys.{same_tells, stands_in}
use Rattle.qe_board.proofs.Listed.{same_bool}
use Rattle.qe_board.proofs.Linked.{first_inside, all_inside}
use Rattle.qe_board.proofs.Reached.{key_there, always_spotted}
use Rattle.qe_board.proofs.Verdicts as verdicts

-- ---- numbers of distinct keys

module _ {F : Type 0} where
  key_stands : (n : ℕ) (es : List (Entry F)) → n < length es → slice_get (map (λ e. e.key) es) n ≡ Some (key_at n es)
  key_stands n [] less = absurd (omega (arith, less))
  key_stands zero (e ∷ es) less = refl
  key_stands (suc n) (e ∷ es) less = key_stands n es (omega (arith, less))

  one_number : (n m : ℕ) (es : List (Entry F)) → Distinct (map (λ e. e.key) es) → n < length es → m < length es → key_at n es ≡ key_at m es → n ≡ m
  one_number n m [] distinct one two same = absurd (omega (arith, one))
  one_number zero zero (e ∷ es) distinct one two same = refl
  one_number zero (suc m) (e ∷ es) distinct one two same = absurd (distinct.0 (stands_in m e.key (map (λ d. d.key) es) (key_stands m es (omega (arith, two)) ∙ ap (λ k. Some k) (sym same))))
  one_number (suc n) zero (e ∷ es) distinct one two same = absurd (distinct.0 (stands_in n e.key (map (λ d. d.key) es) (key_stands n es (omega (arith, one)) ∙ ap (λ k. Some k) same)))
  one_number (suc n) (suc m) (e ∷ es) distinct one two same = ap suc (one_number n m es distinct.1 (omega (arith, one)) (omega (arith, two)) same)

module _ {F : Type 0} (es : List (Entry F)) (distinct : Distinct (map (λ e. e.key) es)) where
  abbrev InsideAll : List ℕ → Type 0
  InsideAll [] = Unit {0}
  InsideAll (n ∷ ns) = (n < length es) × InsideAll ns

  same_test : (n m : ℕ) → n < length es → m < length es → eqb n m ≡ same_key (key_at n es) (key_at m es)
  same_test n m one two =
      let tells = same_tells (key_at n es) (key_at m es) in
      same_bool (eqb n m) (same_key (key_at n es) (key_at m es)) {P = n ≡ m} (eqb-true n m, λ e. test n m e) (λ h. one_number n m es distinct one two (tells.0 h), λ e. tells.1 (ap (λ k. key_at k es) e))
    where
      test : (a b : ℕ) → a ≡ b → IsTrue (eqb a b)
      test a b e = grind (arith, nat_tests)

  met_same : (n : ℕ) (met : List ℕ) → n < length es → InsideAll met → is_met n met ≡ among (key_at n es) (map (λ m. key_at m es) met)
  met_same n [] less inside = refl
  met_same n (m ∷ met) less inside = λ i. same_test n m less inside.0 i || met_same n met less inside.1 i

  inside_more : (met : List ℕ) (n : ℕ) → InsideAll met → n < length es → InsideAll (met ++ n ∷ [])
  inside_more [] n inside less = (less, tt)
  inside_more (m ∷ met) n inside less = (inside.0, inside_more met n inside.1 less)

  keys_more : (met : List ℕ) (n : ℕ) → map (λ m. key_at m es) (met ++ n ∷ []) ≡ map (λ m. key_at m es) met ++ key_at n es ∷ []
  keys_more [] n = refl
  keys_more (m ∷ met) n = ap (λ ks. key_at m es ∷ ks) (keys_more met n)

  -- first spots of distinct keys are first places
  pub first_same : (met : List ℕ) (ss : List Spot) → InsideAll met → AreWithin (length es) ss → map (position_of es) (first_spots met ss) ≡ first_positions (map (λ m. key_at m es) met) (map (position_of es) ss)
  first_same met [] known inside = refl
  first_same met (s ∷ ss) known inside =
      by_head (is_met s.entry met)
      ∙ (λ i. cond (met_same s.entry met inside.0 known i) (first_same met ss known inside.1 i) (position_of es s ∷ (first_same (met ++ s.entry ∷ []) ss (inside_more met s.entry known inside.0) inside.1
      ∙ ap (λ ks. first_positions ks (map (position_of es) ss)) (keys_more met s.entry)) i))
    where
      by_head : (b : Bool) → map (position_of es) (cond b (first_spots met ss) (s ∷ first_spots (met ++ s.entry ∷ []) ss))
          ≡ cond b (map (position_of es) (first_spots met ss)) (position_of es s ∷ map (position_of es) (first_spots (met ++ s.entry ∷ []) ss))
      by_head true = refl
      by_head false = refl

-- ---- entries that neither wait nor are held nor were dropped

module _ {F : Type 0} (meaning : Key → Meaning F) (is_leaf truth : Key → Bool) (height : Key → ℕ) where
  abbrev under : Key → List Child
  under = below meaning is_leaf truth height

  abbrev why : Key → Option F
  why = fault meaning is_leaf truth height

  -- what an entry records is what its piece means
  record Tells (ks : List Key) (c : Condition F) (k : Key) : Type 0 where
    links_are : AreLinks (links_of c) (under k) ks
    fault_is : why k ≡ recorded.fault_of c
    leaf_is : is_leaf k ≡ recorded.is_leaf c

  under_is : (k : Key) (m : Meaning F) → is_leaf k ≡ false → meaning k ≡ m → under k ≡ successors_of meaning is_leaf truth height m
  under_is k m inner is = ap (λ b. cond b [] (successors_of meaning is_leaf truth height (meaning k))) inner ∙ ap (successors_of meaning is_leaf truth height) is

  why_is : (k : Key) (m : Meaning F) → is_leaf k ≡ false → meaning k ≡ m → why k ≡ fault_of meaning is_leaf truth height m
  why_is k m inner is = ap (λ b. cond b None (fault_of meaning is_leaf truth height (meaning k))) inner ∙ ap (fault_of meaning is_leaf truth height) is

  tells : (ks : List Key) (c : Condition F) (k : Key) → is_waiting c ≡ false → is_held c ≡ false → IsFit meaning is_leaf truth height ks true c k → Tells ks c k
  tells ks waiting k no_wait no_hold fit = absurd (cc)
  tells ks (held w) k no_wait no_hold fit = absurd (cc)
  tells ks (expanded ls) k no_wait no_hold fit = record {
    links_are = subst (λ cs. AreLinks ls cs ks) (sym (under_is k (gives fit.1.0) fit.0 fit.1.1.0)) fit.1.1.1;
    fault_is = why_is k (gives fit.1.0) fit.0 fit.1.1.0;
    leaf_is = fit.0;
  }
  tells ks leaf k no_wait no_hold fit = record {
    links_are = subst (λ cs. AreLinks [] cs ks) (sym (ap (λ b. cond b [] (successors_of meaning is_leaf truth height (meaning k))) fit)) tt;
    fault_is = ap (λ b. cond b None (fault_of meaning is_leaf truth height (meaning k))) fit;
    leaf_is = fit;
  }
  tells ks (failed f) k no_wait no_hold fit = record {
    links_are = subst (λ cs. AreLinks [] cs ks) (sym (under_is k (fails f) fit.0 fit.1)) tt;
    fault_is = why_is k (fails f) fit.0 fit.1;
    leaf_is = fit.0;
  }
  tells ks dropped k no_wait no_hold fit = absurd (cc)

  -- what it records by its number
  record TellsAt (ks : List Key) (n : ℕ) (es : List (Entry F)) : Type 0 where
    links_are : AreLinks (links_at n es) (under (key_at n es)) ks
    fault_is : why (key_at n es) ≡ fault_at n es
    leaf_is : is_leaf (key_at n es) ≡ at recorded.is_leaf n es

  first_zero : (b : Bool) (n : ℕ) → ◌≡◌ {A = ℕ} (cond b 1 0 + n) 0 → (b ≡ false) × (n ≡ 0)
  first_zero true n h = absurd (omega (arith, h))
  first_zero false n h = (refl, omega (arith, h))

  tells_at : (ks : List Key) (es : List (Entry F)) → AreFit meaning is_leaf truth height ks true es → count is_waiting es ≡ 0 → count is_held es ≡ 0 → (n : ℕ) → n < length es → TellsAt ks n es
  tells_at ks [] fit no_wait no_hold n less = absurd (omega (arith, less))
  tells_at ks (e ∷ es) fit no_wait no_hold zero less =
      let waits = first_zero (is_waiting e.condition) (count is_waiting es) no_wait in
      let holds = first_zero (is_held e.condition) (count is_held es) no_hold in
      let t = tells ks e.condition e.key waits.0 holds.0 fit.0 in
      record { links_are = t.links_are; fault_is = t.fault_is; leaf_is = t.leaf_is }
  tells_at ks (e ∷ es) fit no_wait no_hold (suc n) less =
      let waits = first_zero (is_waiting e.condition) (count is_waiting es) no_wait in
      let holds = first_zero (is_held e.condition) (count is_held es) no_hold in
      let t = tells_at ks es fit.1 waits.1 holds.1 n (omega (arith, less)) in
      record { links_are = t.links_are; fault_is = t.fault_is; leaf_is = t.leaf_is }

  -- ---- spots and places

  module _ (es : List (Entry F)) (all : (n : ℕ) → n < length es → TellsAt (map (λ e. e.key) es) n es) where
    abbrev places : List Spot → List Position
    places ss = map (position_of es) ss

    places_append : (ss ts : List Spot) → places (ss ++ ts) ≡ places ss ++ places ts
    places_append [] ts = refl
    places_append (s ∷ ss) ts = ap (λ ps. position_of es s ∷ ps) (places_append ss ts)

    abbrev walked : ℕ → List ℕ → Key → List Position
    walked = walk meaning is_leaf truth height

    each_same : (d : ℕ) (path : List ℕ) → ((p : List ℕ) (n : ℕ) → n < length es → places (spots_from es d p n) ≡ walked d p (key_at n es))
        → (ls : List Link) (cs : List Child) → AreLinks ls cs (map (λ e. e.key) es) → places (flat_map (λ l. spots_from es d (path ++ l.point ∷ []) l.entry) ls) ≡ flat_map (λ c. walked d (path ++ c.point ∷ []) c.key) cs
    each_same d path again [] [] are = refl
    each_same d path again (l ∷ ls) (c ∷ cs) are =
        let there = key_there l.entry c.key es are.1 in
        let here : places (spots_from es d (path ++ l.point ∷ []) l.entry) ≡ walked d (path ++ c.point ∷ []) c.key =
        again (path ++ l.point ∷ []) l.entry there.0 ∙ (λ i. walked d (path ++ are.0 i ∷ []) (there.1 i)) in
        places_append (spots_from es d (path ++ l.point ∷ []) l.entry) (flat_map (λ k. spots_from es d (path ++ k.point ∷ []) k.entry) ls)
        ∙ (λ i. here i ++ each_same d path again ls cs are.2 i)
    each_same d path again [] (c ∷ cs) are = absurd are
    each_same d path again (l ∷ ls) [] are = absurd are

    walk_same : (d : ℕ) (path : List ℕ) (n : ℕ) → n < length es → places (spots_from es d path n) ≡ walked d path (key_at n es)
    walk_same zero path n less = refl
    walk_same (suc d) path n less =
        ap (λ ps. record { path = path; key = key_at n es } ∷ ps) (each_same d path (λ p m few. walk_same d p m few) (links_at n es) (under (key_at n es)) (all n less).links_are)

    leaves_same : (ss : List Spot) → AreWithin (length es) ss → places (leaf_spots es ss) ≡ leaf_positions meaning is_leaf truth height (places ss)
    leaves_same [] inside = refl
    leaves_same (s ∷ ss) inside =
        by_head (at recorded.is_leaf s.entry es)
        ∙ (λ i. cond (sym (all s.entry inside.0).leaf_is i) (position_of es s ∷ leaves_same ss inside.1 i) (leaves_same ss inside.1 i))
      where
        by_head : (b : Bool) → places (cond b (s ∷ leaf_spots es ss) (leaf_spots es ss)) ≡ cond b (position_of es s ∷ places (leaf_spots es ss)) (places (leaf_spots es ss))
        by_head true = refl
        by_head false = refl

    failed_tells : (c : Condition F) → has_failed c ≡ is_some (recorded.fault_of c)
    failed_tells waiting = refl
    failed_tells (held w) = refl
    failed_tells (expanded ls) = refl
    failed_tells leaf = refl
    failed_tells (failed f) = refl
    failed_tells dropped = refl

    failed_at : (n : ℕ) (ds : List (Entry F)) → at has_failed n ds ≡ is_some (fault_at n ds)
    failed_at n [] = refl
    failed_at zero (e ∷ ds) = failed_tells e.condition
    failed_at (suc n) (e ∷ ds) = failed_at n ds

    faults_same : (otherwise : Verdict F) (ss : List Spot) → AreWithin (length es) ss → fault_told es (failed_spot es ss) otherwise ≡ first_fault meaning is_leaf truth height (places ss) otherwise
    faults_same otherwise [] inside = refl
    faults_same otherwise (s ∷ ss) inside =
        ap (λ b. fault_told es (cond b (Some s) (failed_spot es ss)) otherwise) (failed_at s.entry es)
        ∙ (by_fault (faults_same otherwise ss inside.1) (fault_at s.entry es) refl
        ∙ ap (λ o. elim o as (λ p. Verdict F) [ Some f ↦ fails_at s.path f | None ↦ first_fault meaning is_leaf truth height (places ss) otherwise ]) (sym (all s.entry inside.0).fault_is))
      where
        by_fault : fault_told es (failed_spot es ss) otherwise ≡ first_fault meaning is_leaf truth height (places ss) otherwise → (o : Option F) → fault_at s.entry es ≡ o → fault_told es (cond (is_some o) (Some s) (failed_spot es ss)) otherwise
            ≡ elim o as (λ p. Verdict F) [ Some f ↦ fails_at s.path f | None ↦ first_fault meaning is_leaf truth height (places ss) otherwise ]
        by_fault rest (Some f) is = ap (λ o. elim o as (λ p. Verdict F) [ Some g ↦ fails_at s.path g | None ↦ otherwise ]) is
        by_fault rest None is = rest

-- ---- the law

module _ {F : Type 0} (meaning : Key → Meaning F) (is_leaf truth : Key → Bool) (height : Key → ℕ) (limit : ℕ) (falls : Falls meaning is_leaf truth height) (some : 1 ≤ limit) where
  module _ (root : Key) (events : List Event) (run : IsRun meaning is_leaf truth limit root events) where
    abbrev s : State F
    s = replay meaning is_leaf truth limit root events

    abbrev tree : List Position
    tree = nodes meaning is_leaf truth height root

    abbrev found : List Spot
    found = spots height s.entries

    rooted : (0 < length s.entries) × (key_at 0 s.entries ≡ root)
    rooted = key_there 0 root s.entries (always_spotted meaning is_leaf truth height limit falls some root events run).first

    inside : AreWithin (length s.entries) (spots_from s.entries (height (key_at 0 s.entries)) [] 0)
    inside = all_inside height s.entries (always_spotted meaning is_leaf truth height limit falls some root events run).links_fall (height (key_at 0 s.entries)) [] 0 rooted.0

    finally_spotted : is_done s ≡ true → s.stop ≡ Unset → FinallySpotted meaning is_leaf truth height limit root s
    finally_spotted done unset =
        let parts = verdicts.done_parts meaning is_leaf truth height limit falls some root events run done in
        let fit = verdicts.fit_unset meaning is_leaf truth height limit falls some root events run unset in
        let all = tells_at meaning is_leaf truth height (keys s) s.entries fit parts.0 parts.1 in
        let within = first_inside (length s.entries) [] (spots_from s.entries (height (key_at 0 s.entries)) [] 0) inside in
        let places_are : map (position_of s.entries) found ≡ tree =
        first_same s.entries (verdicts.sound meaning is_leaf truth height limit falls some root events run).distinct [] (spots_from s.entries (height (key_at 0 s.entries)) [] 0) tt inside
        ∙ ap (first_positions []) (walk_same meaning is_leaf truth height s.entries all (height (key_at 0 s.entries)) [] 0 rooted.0 ∙ (λ i. walk meaning is_leaf truth height (height (rooted.1 i)) [] (rooted.1 i))) in
        let leaves_are : map (position_of s.entries) (leaf_spots s.entries found) ≡ leaf_positions meaning is_leaf truth height tree =
        leaves_same meaning is_leaf truth height s.entries all found within ∙ ap (leaf_positions meaning is_leaf truth height) places_are in
        let faults_are = λ (otherwise : Verdict F). faults_same meaning is_leaf truth height s.entries all otherwise found within ∙ ap (λ ps. first_fault meaning is_leaf truth height ps otherwise) places_are in
        record {
          places = places_are;
          leaves = leaves_are;
          fault = faults_are;
          verdict_is = λ i. cond (truth_same (has_true_leaf truth s) refl done unset i) holds
              ((ap (λ ls. first_fault meaning is_leaf truth height tree (has_leaves ls)) (sym leaves_are) ∙ sym (faults_are (has_leaves (map (position_of s.entries) (leaf_spots s.entries found))))) i);
        }
      where
        truth_same : (b : Bool) → has_true_leaf truth s ≡ b → is_done s ≡ true → s.stop ≡ Unset → list_any (λ p. truth p.key) tree ≡ b
        truth_same true is finished none = verdicts.true_in_tree meaning is_leaf truth height limit falls some root events run is
        truth_same false is finished none = verdicts.no_truth meaning is_leaf truth height limit falls some root events run is finished none

pub place_laws : {F : Type 0} (meaning : Key → Meaning F) (is_leaf truth : Key → Bool) (height : Key → ℕ) (limit : ℕ) → Falls meaning is_leaf truth height → 1 ≤ limit → PlaceLaws meaning is_leaf truth height limit
place_laws meaning is_leaf truth height limit falls some = record {
  always = always_spotted meaning is_leaf truth height limit falls some;
  finally = finally_spotted meaning is_leaf truth height limit falls some;
}
