-- The tree of a block over the keys of its nodes is its tree over formulas.
use Rattle.std.proofs.Common.{ℕ, zero, suc, ◌≡◌, ◌≢◌, ◌∙◌, sym, ap, refl, subst, Bool, true, false, cond, ◌||◌, ◌&&◌, List, [], ◌∷◌, ◌++◌, map, length, Option, Some, None, ◌↔◌}
use Rattle.std.specs.List.{flat_map}
use Rattle.std.specs.Prelude.{IsTrue}
use Rattle.std.specs.Ordering.{is_eq}
use Rattle.std.specs.declared.cmp.Ordering.TheVariants.{Less, Equal, Greater}
use Rattle.std.specs.Cmp.{eq_by_cmp_equiv}
use Rattle.std.specs.declared.cmp.Ordering.{Ordering}
use Rattle.std.proofs.lemmas.List.{map-append}
use Rattle.qe_form.specs.Formula.{Formula, True}
use Rattle.qe_form.specs.Measures.{Has}
use Rattle.qe_form.specs.Making.{is_true}
use Rattle.qe_form.specs.Order.{formula_cmp}
use Rattle.qe_form.specs.OrderLaws.{formula_total, formula_same}
use Rattle.qe_tree.specs.Variables.{remaining}
use Rattle.qe_tree.specs.Expanded.{Expanded, successors, failed}
use Rattle.qe_tree.specs.Tree as tree
use Rattle.qe_tree.specs.Tree.{Step, Place, is_empty, unless_leaf}
use Rattle.qe_tree.specs.Sound.{Each, IsSound}
use Rattle.qe_tree.proofs.Walks.{with_step, IsBelow, each_below}
use Rattle.qe_tree.proofs.Leaves.{is_true_is}
use Rattle.qe_piece.specs.Meaning.{Child}
use Rattle.qe_node.specs.declared.stop.NodeStop.{NodeStop}
use Rattle.qe_node.specs.Node.{Sight}
use Rattle.qe_node.specs.Piece.{is_leaf_node, is_true_node, meaning_of, by_keys}
use Rattle.qe_node.specs.key.Code.{sight_key, sight_of}
use Rattle.qe_node.specs.lemmas.Code.{sight-back}
use Rattle.qe_node.specs.Successors.{expansion}
use Rattle.qe_node.specs.Answer.{others, with_nodes}
use Rattle.qe_node.proofs.Remaining.{left_of_successor}
use Rattle.qe_board.specs.Machine.{same_key, among}
use Rattle.qe_board.specs.Tree as keyed
use Rattle.qe_board.specs.Tree.{Position, first_positions, Verdict, fails_at}
use Rattle.qe_board.proofs.Keys.{same_tells}
use Rattle.qe_elim.specs.Keys.{meaning, is_leaf, truth, height, node_of, key_of}

-- nodes with one key are one node
pub same_node : (m n : Sight) → sight_key m ≡ sight_key n → m ≡ n
same_node m n same = sym (sight-back m) ∙ (ap sight_of same ∙ sight-back n)

-- the numbers of the points along steps
abbrev pub points : List Step → List ℕ
points path = map (λ s. s.point) path

module _ (vars : List ℕ) where
  -- what is told of a key is told of its node
  told : {A : Type 0} (read : Sight → A) (f : Formula) → read (sight_of (key_of vars f)) ≡ read (node_of vars f)
  told read f = ap read (sight-back (node_of vars f))

  -- a place as a place over keys
  abbrev pub as_position : Place → Position
  as_position t = record { path = points t.path; key = key_of vars t.form }

  -- ---- below a node

  -- the three kinds of nodes
  pub data Sort (f : Formula) : Type 0 where
    none_left : remaining vars f ≡ [] → Sort f
    cannot : (y : ℕ) (ys : List ℕ) → remaining vars f ≡ y ∷ ys → (s : NodeStop) → expansion.becomes (remaining vars f) f ≡ failed s → Sort f
    can : (y : ℕ) (ys : List ℕ) → remaining vars f ≡ y ∷ ys → (x : ℕ) (parts : List (ℕ × Formula)) → expansion.becomes (remaining vars f) f ≡ successors x parts → Sort f

  pub sort_of : (f : Formula) → Sort f
  sort_of f = by_left (remaining vars f) refl
    where
      by_expanded : (y : ℕ) (ys : List ℕ) → remaining vars f ≡ y ∷ ys → (e : Expanded NodeStop) → expansion.becomes (remaining vars f) f ≡ e → Sort f
      by_expanded y ys left (failed s) is = cannot y ys left s is
      by_expanded y ys left (successors x parts) is = can y ys left x parts is

      by_left : (l : List ℕ) → remaining vars f ≡ l → Sort f
      by_left [] left = none_left left
      by_left (y ∷ ys) left = by_expanded y ys left (expansion.becomes (remaining vars f) f) refl

  abbrev pub children_below : Formula → List Child
  children_below f = keyed.below meaning is_leaf truth height (key_of vars f)

  abbrev pub steps_below : Formula → List (Step × Formula)
  steps_below f = tree.below expansion vars f

  leaf_is : (f : Formula) → is_leaf (key_of vars f) ≡ is_empty (remaining vars f)
  leaf_is f = told is_leaf_node f

  means : (f : Formula) → meaning (key_of vars f) ≡ by_keys (with_nodes (remaining vars f) (expansion.becomes (remaining vars f) f))
  means f = told meaning_of f

  -- a successor, by its key
  abbrev pub child : ℕ × Formula → Child
  child s = record { point = s.0; key = key_of vars s.1 }

  child_same : (f : Formula) (x : ℕ) (parts : List (ℕ × Formula)) → Each (λ s. (y : ℕ) → Has y s.1 → Has y f × (y ≢ x)) parts
      → ◌≡◌ {A = List Child} (map {A = ℕ × Sight} (λ s. record { point = s.0; key = sight_key s.1 }) (map {A = ℕ × Formula} (λ s. (s.0, record { vars = remaining (others x (remaining vars f)) s.1; form = s.1 })) parts)) (map child parts)
  child_same f x [] each = refl
  child_same f x (s ∷ parts) each = λ i. record { point = s.0; key = sight_key (record { vars = left_of_successor vars f s.1 x each.0 i; form = s.1 }) } ∷ child_same f x parts each.1 i

module _ (Good : Formula → Type 0) (sound : IsSound Good expansion) (vars : List ℕ) where
  pub fewer : (x : ℕ) (f : Formula) (parts : List (ℕ × Formula)) → Each (λ g. (y : ℕ) → Has y g → Has y f × (y ≢ x)) (map (λ s. s.1) parts) → Each (λ s. (y : ℕ) → Has y s.1 → Has y f × (y ≢ x)) parts
  fewer x f [] each = tt
  fewer x f (s ∷ parts) each = (each.0, fewer x f parts each.1)

  -- what stands below, over keys and over formulas
  pub none_below : (f : Formula) → remaining vars f ≡ [] → (children_below vars f ≡ []) × (steps_below vars f ≡ [])
  none_below f left = (
    ap (λ b. cond b [] (keyed.successors_of meaning is_leaf truth height (meaning (key_of vars f)))) (leaf_is vars f ∙ ap is_empty left),
    ap (λ l. unless_leaf l [] (tree.grown (expansion.becomes (remaining vars f) f))) left,
  )

  pub fails_below : (f : Formula) (y : ℕ) (ys : List ℕ) → remaining vars f ≡ y ∷ ys → (s : NodeStop) → expansion.becomes (remaining vars f) f ≡ failed s → (children_below vars f ≡ []) × (steps_below vars f ≡ [])
  fails_below f y ys left s is = (
    ap (λ b. cond b [] (keyed.successors_of meaning is_leaf truth height (meaning (key_of vars f)))) (leaf_is vars f ∙ ap is_empty left)
        ∙ (ap (keyed.successors_of meaning is_leaf truth height) (means vars f) ∙ ap (λ e. keyed.successors_of meaning is_leaf truth height (by_keys (with_nodes (remaining vars f) e))) is),
    ap (λ l. unless_leaf l [] (tree.grown (expansion.becomes (remaining vars f) f))) left ∙ ap tree.grown is,
  )

  pub grows_below : (f : Formula) → Good f → (y : ℕ) (ys : List ℕ) → remaining vars f ≡ y ∷ ys → (x : ℕ) (parts : List (ℕ × Formula)) → expansion.becomes (remaining vars f) f ≡ successors x parts
      → (children_below vars f ≡ map (child vars) parts) × (steps_below vars f ≡ map (with_step x) parts)
  grows_below f good y ys left x parts is = (
    ap (λ b. cond b [] (keyed.successors_of meaning is_leaf truth height (meaning (key_of vars f)))) (leaf_is vars f ∙ ap is_empty left)
        ∙ (ap (keyed.successors_of meaning is_leaf truth height) (means vars f)
        ∙ (ap (λ e. keyed.successors_of meaning is_leaf truth height (by_keys (with_nodes (remaining vars f) e))) is
        ∙ child_same vars f x parts (fewer x f parts (sound.grows vars f good x parts is).fewer))),
    ap (λ l. unless_leaf l [] (tree.grown (expansion.becomes (remaining vars f) f))) left ∙ ap tree.grown is,
  )

  -- ---- walks

  pub points_more : (path : List Step) (s : Step) → points (path ++ s ∷ []) ≡ points path ++ s.point ∷ []
  points_more [] s = refl
  points_more (t ∷ path) s = ap (λ ps. t.point ∷ ps) (points_more path s)

  abbrev SameWalk : ℕ → Type 0
  SameWalk n = (path : List Step) (f : Formula) → Good f → keyed.walk meaning is_leaf truth height n (points path) (key_of vars f) ≡ map (as_position vars) (tree.walk expansion vars n path f)

  flat_same : (n : ℕ) → SameWalk n → (path : List Step) (f : Formula) (x : ℕ) (parts : List (ℕ × Formula)) → Each (λ s. IsBelow Good expansion sound vars f s.1) parts
      → flat_map (λ c. keyed.walk meaning is_leaf truth height n (points path ++ c.point ∷ []) c.key) (map (child vars) parts)
      ≡ map (as_position vars) (flat_map (λ s. tree.walk expansion vars n (path ++ s.0 ∷ []) s.1) (map (with_step x) parts))
  flat_same n same path f x [] each = refl
  flat_same n same path f x (s ∷ parts) each =
      (λ i. (ap (λ ps. keyed.walk meaning is_leaf truth height n ps (key_of vars s.1)) (sym (points_more path (record { var = x; point = s.0 }))) ∙ same (path ++ record { var = x; point = s.0 } ∷ []) s.1 each.0.good) i ++ flat_same n same path f x parts each.1 i)
      ∙ sym (map-append (as_position vars) (tree.walk expansion vars n (path ++ record { var = x; point = s.0 } ∷ []) s.1) (flat_map (λ s. tree.walk expansion vars n (path ++ s.0 ∷ []) s.1) (map (with_step x) parts)))

  pub walk_same : (n : ℕ) → SameWalk n
  walk_same zero path f good = refl
  walk_same (suc n) path f good = ap (λ ps. as_position vars (record { path = path; form = f }) ∷ ps) (by_sort (walk_same n) (sort_of vars f))
    where
      by_sort : SameWalk n → Sort vars f → flat_map (λ c. keyed.walk meaning is_leaf truth height n (points path ++ c.point ∷ []) c.key) (children_below vars f)
          ≡ map (as_position vars) (flat_map (λ s. tree.walk expansion vars n (path ++ s.0 ∷ []) s.1) (steps_below vars f))
      by_sort below (none_left left) = let b = none_below f left in ap (λ cs. flat_map (λ c. keyed.walk meaning is_leaf truth height n (points path ++ c.point ∷ []) c.key) cs) b.0 ∙ ap (λ ss. map (as_position vars) (flat_map (λ s. tree.walk expansion vars n (path ++ s.0 ∷ []) s.1) ss)) (sym b.1)
      by_sort below (cannot y ys left s is) = let b = fails_below f y ys left s is in ap (λ cs. flat_map (λ c. keyed.walk meaning is_leaf truth height n (points path ++ c.point ∷ []) c.key) cs) b.0 ∙ ap (λ ss. map (as_position vars) (flat_map (λ s. tree.walk expansion vars n (path ++ s.0 ∷ []) s.1) ss)) (sym b.1)
      by_sort below (can y ys left x parts is) = let b = grows_below f good y ys left x parts is in ap (λ cs. flat_map (λ c. keyed.walk meaning is_leaf truth height n (points path ++ c.point ∷ []) c.key) cs) b.0 ∙ (flat_same n below path f x parts (each_below Good expansion sound vars f good x parts is) ∙ ap (λ ss. map (as_position vars) (flat_map (λ s. tree.walk expansion vars n (path ++ s.0 ∷ []) s.1) ss)) (sym b.1))

  -- ---- first places

  -- keys are told apart as formulas are
  key_tells : (f g : Formula) → IsTrue (same_key (key_of vars f) (key_of vars g)) ↔ (f ≡ g)
  key_tells f g = (
    λ same. sym (ap (λ n. n.form) (sight-back (node_of vars f))) ∙ (ap (λ k. (sight_of k).form) ((same_tells (key_of vars f) (key_of vars g)).0 same) ∙ ap (λ n. n.form) (sight-back (node_of vars g))),
    λ same. (same_tells (key_of vars f) (key_of vars g)).1 (ap (key_of vars) same),
  )

  tie : (r : Ordering) → is_eq r ≡ true → r ≡ Equal
  tie Less h = absurd (cc)
  tie Equal h = refl
  tie Greater h = absurd (cc)

  form_tells : (f g : Formula) → IsTrue (is_eq (formula_cmp f g)) ↔ (f ≡ g)
  form_tells f g = (
    λ same. formula_same f g (tie (formula_cmp f g) same),
    λ same. subst (λ h. is_eq (formula_cmp f h) ≡ true) same ((eq_by_cmp_equiv formula_total).refl f),
  )

  same_bool : {P : Type 0} (a b : Bool) → IsTrue a ↔ P → IsTrue b ↔ P → a ≡ b
  same_bool true true s t = refl
  same_bool false false s t = refl
  same_bool true false s t = sym (t.1 (s.0 refl))
  same_bool false true s t = s.1 (t.0 refl)

  same_test : (f g : Formula) → same_key (key_of vars f) (key_of vars g) ≡ is_eq (formula_cmp f g)
  same_test f g = same_bool (same_key (key_of vars f) (key_of vars g)) (is_eq (formula_cmp f g)) (key_tells f g) (form_tells f g)

  among_same : (f : Formula) (gs : List Formula) → among (key_of vars f) (map (key_of vars) gs) ≡ tree.is_among f gs
  among_same f [] = refl
  among_same f (g ∷ gs) = λ i. same_test f g i || among_same f gs i

  pub firsts_same : (met : List Formula) (ps : List Place) → first_positions (map (key_of vars) met) (map (as_position vars) ps) ≡ map (as_position vars) (tree.first_places met ps)
  firsts_same met [] = refl
  firsts_same met (p ∷ ps) =
      ap (λ b. cond b (first_positions (map (key_of vars) met) (map (as_position vars) ps)) (as_position vars p ∷ first_positions (map (key_of vars) met ++ key_of vars p.form ∷ []) (map (as_position vars) ps))) (among_same p.form met)
      ∙ by_test (tree.is_among p.form met) (firsts_same met ps) (ap (λ ks. first_positions ks (map (as_position vars) ps)) (sym (map-append (key_of vars) met (p.form ∷ []))) ∙ firsts_same (met ++ p.form ∷ []) ps)
    where
      by_test : (b : Bool) → first_positions (map (key_of vars) met) (map (as_position vars) ps) ≡ map (as_position vars) (tree.first_places met ps)
          → first_positions (map (key_of vars) met ++ key_of vars p.form ∷ []) (map (as_position vars) ps) ≡ map (as_position vars) (tree.first_places (met ++ p.form ∷ []) ps)
          → cond b (first_positions (map (key_of vars) met) (map (as_position vars) ps)) (as_position vars p ∷ first_positions (map (key_of vars) met ++ key_of vars p.form ∷ []) (map (as_position vars) ps))
          ≡ map (as_position vars) (cond b (tree.first_places met ps) (p ∷ tree.first_places (met ++ p.form ∷ []) ps))
      by_test true old new = old
      by_test false old new = ap (λ qs. as_position vars p ∷ qs) new

  height_is : (f : Formula) → height (key_of vars f) ≡ length (remaining vars f)
  height_is f = told vars (λ n. length n.vars) f

  -- the distinct nodes, each at its first place
  pub nodes_same : (f : Formula) → Good f → keyed.nodes meaning is_leaf truth height (key_of vars f) ≡ map (as_position vars) (tree.nodes expansion vars f)
  nodes_same f good =
      ap (λ n. first_positions [] (keyed.walk meaning is_leaf truth height n [] (key_of vars f))) (height_is f)
      ∙ (ap (first_positions []) (walk_same (length (remaining vars f)) [] f good) ∙ firsts_same [] (tree.places expansion vars f))

  -- ---- what the nodes come to

  true_none : (f : Formula) → is_true f ≡ true → is_empty (remaining vars f) ≡ true
  true_none f is = subst (λ g. is_empty (remaining vars g) ≡ true) (sym (is_true_is f is)) (none vars)
    where
      none : (xs : List ℕ) → is_empty (remaining xs True) ≡ true
      none [] = refl
      none (x ∷ xs) = none xs

  truth_is : (f : Formula) → truth (key_of vars f) ≡ is_true f
  truth_is f = told vars is_true_node f ∙ by_test (is_true f) (is_empty (remaining vars f)) (true_none f)
    where
      by_test : (b e : Bool) → (b ≡ true → e ≡ true) → (e && b) ≡ b
      by_test true e h = ap (λ x. x && true) (h refl)
      by_test false true h = refl
      by_test false false h = refl

  pub truth_same : (ps : List Place) → keyed.has_truth meaning is_leaf truth height (map (as_position vars) ps) ≡ tree.has_true_leaf expansion vars ps
  truth_same [] = refl
  truth_same (p ∷ ps) = λ i. truth_is p.form i || truth_same ps i

  fault_is : (f : Formula) → keyed.fault meaning is_leaf truth height (key_of vars f) ≡ tree.failure expansion vars f
  fault_is f = by_sort (sort_of vars f)
    where
      by_sort : Sort vars f → keyed.fault meaning is_leaf truth height (key_of vars f) ≡ tree.failure expansion vars f
      by_sort (none_left left) =
          ap (λ b. cond b None (keyed.fault_of meaning is_leaf truth height (meaning (key_of vars f)))) (leaf_is vars f ∙ ap is_empty left)
          ∙ sym (ap (λ l. unless_leaf l None (tree.failure_of (expansion.becomes (remaining vars f) f))) left)
      by_sort (cannot y ys left s is) =
          ap (λ b. cond b None (keyed.fault_of meaning is_leaf truth height (meaning (key_of vars f)))) (leaf_is vars f ∙ ap is_empty left)
          ∙ (ap (keyed.fault_of meaning is_leaf truth height) (means vars f) ∙ (ap (λ e. keyed.fault_of meaning is_leaf truth height (by_keys (with_nodes (remaining vars f) e))) is
          ∙ sym (ap (λ l. unless_leaf l None (tree.failure_of (expansion.becomes (remaining vars f) f))) left ∙ ap tree.failure_of is)))
      by_sort (can y ys left x parts is) =
          ap (λ b. cond b None (keyed.fault_of meaning is_leaf truth height (meaning (key_of vars f)))) (leaf_is vars f ∙ ap is_empty left)
          ∙ (ap (keyed.fault_of meaning is_leaf truth height) (means vars f) ∙ (ap (λ e. keyed.fault_of meaning is_leaf truth height (by_keys (with_nodes (remaining vars f) e))) is
          ∙ sym (ap (λ l. unless_leaf l None (tree.failure_of (expansion.becomes (remaining vars f) f))) left ∙ ap tree.failure_of is)))

  -- the first failure as the verdict has it
  abbrev pub verdict_by : Option (List Step × NodeStop) → Verdict NodeStop → Verdict NodeStop
  verdict_by None otherwise = otherwise
  verdict_by (Some e) otherwise = fails_at (points e.0) e.1

  pub failure_same : (ps : List Place) (otherwise : Verdict NodeStop) → keyed.first_fault meaning is_leaf truth height (map (as_position vars) ps) otherwise ≡ verdict_by (tree.first_failure expansion vars ps) otherwise
  failure_same [] otherwise = refl
  failure_same (p ∷ ps) otherwise =
      ap (λ o. elim o [ Some s ↦ fails_at (points p.path) s | None ↦ keyed.first_fault meaning is_leaf truth height (map (as_position vars) ps) otherwise ]) (fault_is p.form)
      ∙ by_failure (tree.failure expansion vars p.form) (failure_same ps otherwise)
    where
      by_failure : (o : Option NodeStop) → keyed.first_fault meaning is_leaf truth height (map (as_position vars) ps) otherwise ≡ verdict_by (tree.first_failure expansion vars ps) otherwise
          → elim o [ Some s ↦ fails_at (points p.path) s | None ↦ keyed.first_fault meaning is_leaf truth height (map (as_position vars) ps) otherwise ] ≡ verdict_by (tree.or_fails expansion vars p.path o (tree.first_failure expansion vars ps)) otherwise
      by_failure (Some s) rest = refl
      by_failure None rest = rest

  -- the formulas of the leaves, by their keys
  pub leaves_same : (ps : List Place) → map (λ p. (sight_of p.key).form) (keyed.leaf_positions meaning is_leaf truth height (map (as_position vars) ps)) ≡ tree.leaves expansion vars ps
  leaves_same [] = refl
  leaves_same (p ∷ ps) =
      ap (λ b. map (λ q. (sight_of q.key).form) (cond b (as_position vars p ∷ keyed.leaf_positions meaning is_leaf truth height (map (as_position vars) ps)) (keyed.leaf_positions meaning is_leaf truth height (map (as_position vars) ps)))) (leaf_is vars p.form)
      ∙ by_test (is_empty (remaining vars p.form)) (leaves_same ps)
    where
      by_test : (b : Bool) → map (λ q. (sight_of q.key).form) (keyed.leaf_positions meaning is_leaf truth height (map (as_position vars) ps)) ≡ tree.leaves expansion vars ps
          → map (λ q. (sight_of q.key).form) (cond b (as_position vars p ∷ keyed.leaf_positions meaning is_leaf truth height (map (as_position vars) ps)) (keyed.leaf_positions meaning is_leaf truth height (map (as_position vars) ps)))
          ≡ cond b (p.form ∷ tree.leaves expansion vars ps) (tree.leaves expansion vars ps)
      by_test true rest = λ i. told vars (λ n. n.form) p.form i ∷ rest i
      by_test false rest = rest

  pub length_same : (ps : List Place) → length (map (as_position vars) ps) ≡ length ps
  length_same [] = refl
  length_same (p ∷ ps) = ap suc (length_same ps)
