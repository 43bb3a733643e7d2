-- What is found in a container of nodes, entry by entry.
use Rattle.std.proofs.Common.{ℕ, zero, suc, ◌≡◌, ◌∙◌, sym, ap, refl, subst, ◌<◌, true, List, [], ◌∷◌, ◌++◌, map, drop, length, Option, Some, None, slice_get, get_or, append_assoc, arith}
use Rattle.std.proofs.Math.Seq.{drop-cons}
use Rattle.std.proofs.lemmas.List.{map-append}
use Rattle.qe_form.specs.declared.form.Form.{Form}
use Rattle.qe_form.specs.Tree.{tree}
use Rattle.qe_node.specs.declared.stop.NodeStop.{NodeStop}
use Rattle.qe_node.specs.Node.{Sight}
use Rattle.qe_node.specs.key.Code.{sight_key, sight_of}
use Rattle.qe_node.specs.lemmas.Code.{sight-back}
use Rattle.qe_board.specs.State.{Key, Condition, waiting, held, expanded, leaf, failed, dropped, Entry, at}
use Rattle.qe_board.specs.Shown.{conditions}
use Rattle.qe_board.specs.Verdict.{fault_in}
use Rattle.qe_board.specs.Recorded.{has_failed, fault_of, fault_at, key_at}
use Rattle.qe_board.specs.declared.visits.Place.{Place}
use Rattle.qe_elim.specs.Found.{AreThere, form_at}

pub some_out : {A : Type 0} (a b : A) → ◌≡◌ {A = Option A} (Some a) (Some b) → a ≡ b
some_out a b e = cc

module _ {F : Type 0} where
  -- ---- faults

  own_fault : (c : Condition F) → fault_in (Some c) ≡ fault_of c
  own_fault waiting = refl
  own_fault (held w) = refl
  own_fault (expanded ls) = refl
  own_fault leaf = refl
  own_fault (failed f) = refl
  own_fault dropped = refl

  pub fault_same : (n : ℕ) (es : List (Entry F)) → fault_in (slice_get (conditions es) n) ≡ fault_at n es
  fault_same n [] = refl
  fault_same zero (e ∷ es) = own_fault e.condition
  fault_same (suc n) (e ∷ es) = fault_same n es

  own_failed : (c : Condition F) → has_failed c ≡ true → fault_of c ≡ None → ⊥
  own_failed (failed f) h none = absurd (cc)
  own_failed waiting h none = absurd (cc)
  own_failed (held w) h none = absurd (cc)
  own_failed (expanded ls) h none = absurd (cc)
  own_failed leaf h none = absurd (cc)
  own_failed dropped h none = absurd (cc)

  pub fault_there : (n : ℕ) (es : List (Entry F)) → at has_failed n es ≡ true → fault_at n es ≡ None → ⊥
  fault_there n [] h none = absurd (cc)
  fault_there zero (e ∷ es) h none = own_failed e.condition h none
  fault_there (suc n) (e ∷ es) h none = fault_there n es h none

  -- ---- keys

  pub key_is : (n : ℕ) (es : List (Entry F)) (k : Key) → slice_get (map (λ e. e.key) es) n ≡ Some k → key_at n es ≡ k
  key_is n [] k is = absurd (cc)
  key_is zero (e ∷ es) k is = some_out e.key k is
  key_is (suc n) (e ∷ es) k is = key_is n es k is

  pub none_beyond : (n : ℕ) (es : List (Entry F)) → n < length es → ◌≡◌ {A = Option Key} None (slice_get (map (λ e. e.key) es) n) → ⊥
  none_beyond n [] within none = absurd (omega (arith, within))
  none_beyond zero (e ∷ es) within none = absurd (cc)
  none_beyond (suc n) (e ∷ es) within none = none_beyond n es (omega (arith, within)) none

-- the node of an entry
pub node_form : (n : ℕ) (es : List (Entry NodeStop)) (m : Sight) → Some (sight_key m) ≡ slice_get (map (λ e. e.key) es) n → form_at n es ≡ m.form
node_form n es m is = ap (λ k. (sight_of k).form) (key_is n es (sight_key m) (sym is)) ∙ ap (λ s. s.form) (sight-back m)

-- ---- the formulas of leaves, one after another

pub there_next : (len : ℕ) (ps : List Place) (i j : ℕ) (p : Place) → j ≡ suc i → i < length ps → p ≡ get_or ps i p → AreThere len (drop i ps) → (p.entry < len) × AreThere len (drop j ps)
there_next len ps i j p next within is there =
    let now = subst (AreThere len) (drop-cons ps i p within) there in (subst (λ q. q.entry < len) (sym is) now.0, subst (λ k. AreThere len (drop k ps)) (sym next) now.1)

pub forms_next : (es : List (Entry NodeStop)) (ps : List Place) (i j : ℕ) (p : Place) (fs more : List Form) (f : Form) → j ≡ suc i → i < length ps → p ≡ get_or ps i p → more ≡ fs ++ f ∷ [] → tree f ≡ form_at p.entry es
    → map tree more ++ map (λ q. form_at q.entry es) (drop j ps) ≡ map tree fs ++ map (λ q. form_at q.entry es) (drop i ps)
forms_next es ps i j p fs more f next within is grown same =
    ap (λ k. map tree more ++ map (λ q. form_at q.entry es) (drop k ps)) next
    ∙ (ap (λ gs. map tree gs ++ map (λ q. form_at q.entry es) (drop (suc i) ps)) grown
    ∙ (ap (λ gs. gs ++ map (λ q. form_at q.entry es) (drop (suc i) ps)) (map-append tree fs (f ∷ []))
    ∙ (append_assoc (map tree fs) (tree f ∷ []) (map (λ q. form_at q.entry es) (drop (suc i) ps))
    ∙ (ap (λ g. map tree fs ++ g ∷ map (λ q. form_at q.entry es) (drop (suc i) ps)) (same ∙ ap (λ q. form_at q.entry es) is)
    ∙ ap (λ qs. map tree fs ++ map (λ q. form_at q.entry es) qs) (sym (drop-cons ps i p within))))))
