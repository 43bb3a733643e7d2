-- No node of a tree over small linear polynomials fails.
use Rattle.std.proofs.Common.{ℕ, zero, suc, ◌+◌, ◌*◌, ◌≡◌, ◌≤◌, refl, sym, ap, subst, ◌∙◌, Bool, true, false, cond, List, [], ◌∷◌, ◌++◌, length, None, arith}
use Rattle.std.specs.List.{flat_map}
use Rattle.qe_form.specs.Formula.{Formula, True, Or}
use Rattle.qe_form.specs.Tree.{trees_of}
use Rattle.qe_simp.specs.Simplified.{simplified}
use Rattle.qe_simp.specs.Shape.{IsSimplified}
use Rattle.qe_tree.specs.Variables.{remaining}
use Rattle.qe_tree.specs.Expanded.{successors}
use Rattle.qe_tree.specs.Tree.{Step, Place, form, unless_leaf, grown, failure_of, below, failure, walk, places, is_among, first_places, nodes, leaves, or_fails, first_failure, or_form, has_true_leaf, inner}
use Rattle.qe_tree.specs.Sound.{Each, forms_of}
use Rattle.qe_tree.proofs.Walks.{EachForm, EachForm-append, height_of, IsBelow, all_below, walks_same}
use Rattle.qe_node.specs.declared.stop.NodeStop.{NodeStop}
use Rattle.qe_node.specs.Successors.{expansion}
use Rattle.qe_node.proofs.Sound.{expansion_sound}
use Rattle.qe_linear.proofs.Values.{next}
use Rattle.qe_linear.proofs.Substituting.{IsRoomy}
use Rattle.qe_linear.proofs.Expanding.{IsFit, expansion_grows}

-- the bounds leave room for so many steps
abbrev pub Lasts : (steps s size : ℕ) → Type 0
Lasts zero s size = Unit {0}
Lasts (suc n) s size = IsRoomy s × (6 * size ≤ 65536) × Lasts n (next s) (6 * size + 2)

module _ (vars : List ℕ) where
  abbrev Succeeds : Formula → Type 0
  Succeeds f = failure expansion vars f ≡ None

  abbrev Left : Formula → ℕ
  Left f = height_of IsSimplified expansion expansion_sound vars f

  -- ---- a node

  record IsStep (s size : ℕ) (f : Formula) : Type 0 where
    succeeds : Succeeds f
    fit : Each (λ p. IsFit (next s) (6 * size + 2) p.1) (below expansion vars f)

  with_points : (P : Formula → Type 0) (x : ℕ) (parts : List (ℕ × Formula)) → Each P (forms_of parts) → Each (λ p. P p.1) (grown {F = NodeStop} (successors x parts))
  with_points P x [] h = tt
  with_points P x (p ∷ parts) h = (h.0, with_points P x parts h.1)

  step : (s size : ℕ) → IsRoomy s → 6 * size ≤ 65536 → (f : Formula) → IsFit s size f → IsStep s size f
  step s size roomy few f fit = by (remaining vars f) refl
    where
      by : (l : List ℕ) → remaining vars f ≡ l → IsStep s size f
      by [] left = record {
        succeeds = ap (λ l. unless_leaf l None (failure_of (expansion.becomes (remaining vars f) f))) left;
        fit = subst (Each (λ p. IsFit (next s) (6 * size + 2) p.1)) (sym (ap (λ l. unless_leaf l [] (grown (expansion.becomes (remaining vars f) f))) left)) tt;
      }
      by (x ∷ xs) left =
          let g = expansion_grows s size roomy few x xs f fit in
          record {
            succeeds = ap (λ l. unless_leaf l None (failure_of (expansion.becomes l f))) left ∙ ap failure_of g.grows;
            fit = subst (Each (λ p. IsFit (next s) (6 * size + 2) p.1)) (sym (ap (λ l. unless_leaf l [] (grown (expansion.becomes l f))) left ∙ ap grown g.grows)) (with_points (IsFit (next s) (6 * size + 2)) g.var g.parts g.fit);
          }

  -- a node without variables is a leaf
  leaf_succeeds : (f : Formula) → Left f ≤ 0 → Succeeds f
  leaf_succeeds f none = by (remaining vars f) none
    where
      by : (l : List ℕ) → length l ≤ 0 → unless_leaf l None (failure_of (expansion.becomes (remaining vars f) f)) ≡ None
      by [] none = refl
      by (x ∷ xs) none = absurd (omega (arith, none))

  -- ---- a tree

  abbrev WalkSucceeds : (steps s size : ℕ) → Type 0
  WalkSucceeds n s size = (path : List Step) (f : Formula) → IsSimplified f → Left f ≤ n → IsFit s size f → EachForm Succeeds (walk expansion vars n path f)

  each_below : (n s size : ℕ) → WalkSucceeds n s size → (path : List Step) (f : Formula) → Left f ≤ suc n → (ss : List (Step × Formula))
      → Each (λ p. IsBelow IsSimplified expansion expansion_sound vars f p.1) ss → Each (λ p. IsFit s size p.1) ss
      → EachForm Succeeds (flat_map (λ p. walk expansion vars n (path ++ p.0 ∷ []) p.1) ss)
  each_below n s size again path f left [] down fit = tt
  each_below n s size again path f left (p ∷ ss) down fit =
      let less = down.0.less in
      EachForm-append Succeeds (walk expansion vars n (path ++ p.0 ∷ []) p.1) (flat_map (λ p. walk expansion vars n (path ++ p.0 ∷ []) p.1) ss)
      (again (path ++ p.0 ∷ []) p.1 down.0.good (omega (arith, less, left)) fit.0)
      (each_below n s size again path f left ss down.1 fit.1)

  walk_succeeds : (n s size : ℕ) → Lasts n s size → WalkSucceeds n s size
  walk_succeeds zero s size lasts path f good left fit = (leaf_succeeds f left, tt)
  walk_succeeds (suc n) s size lasts path f good left fit =
      let here = step s size lasts.0 lasts.1 f fit in
      (here.succeeds, each_below n (next s) (6 * size + 2) (walk_succeeds n (next s) (6 * size + 2) lasts.2) path f left (below expansion vars f) (all_below IsSimplified expansion expansion_sound vars f good) here.fit)

  -- ---- what the tree gives

  firsts_succeed : (met : List Formula) (ps : List Place) → EachForm Succeeds ps → EachForm Succeeds (first_places met ps)
  firsts_succeed met [] h = tt
  firsts_succeed met (p ∷ ps) h = elim (is_among p.form met) as (λ b. EachForm Succeeds (cond b (first_places met ps) (p ∷ first_places (met ++ p.form ∷ []) ps))) [
    | true ↦ firsts_succeed met ps h.1
    | false ↦ (h.0, firsts_succeed (met ++ p.form ∷ []) ps h.1)
  ]

  none_fails : (ps : List Place) → EachForm Succeeds ps → first_failure expansion vars ps ≡ None
  none_fails [] h = refl
  none_fails (p ∷ ps) h = ap (λ o. or_fails expansion vars p.path o (first_failure expansion vars ps)) h.0 ∙ none_fails ps h.1

  pub gives_formula : (n s size : ℕ) → Lasts n s size → (f : Formula) → IsSimplified f → Left f ≤ n → IsFit s size f → (g : Formula) × (inner expansion vars f ≡ form g)
  gives_formula n s size lasts f good left fit =
      let all : EachForm Succeeds (places expansion vars f) = subst (EachForm Succeeds) (walks_same IsSimplified expansion expansion_sound vars n (Left f) [] f good left (omega arith)) (walk_succeeds n s size lasts [] f good left fit) in
      by (has_true_leaf expansion vars (nodes expansion vars f)) (none_fails (nodes expansion vars f) (firsts_succeed [] (places expansion vars f) all))
    where
      others : Formula
      others = simplified (Or (trees_of (leaves expansion vars (nodes expansion vars f))))

      by : (b : Bool) → first_failure expansion vars (nodes expansion vars f) ≡ None
          → (g : Formula) × (cond b (form True) (or_form expansion vars (first_failure expansion vars (nodes expansion vars f)) (simplified (Or (trees_of (leaves expansion vars (nodes expansion vars f)))))) ≡ form g)
      by true none = (True, refl)
      by false none = (others, ap (λ o. or_form expansion vars o others) none)
