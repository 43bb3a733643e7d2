-- The steps to a place of a block's tree are told by the numbers of their points.
use Rattle.std.proofs.Common.{ℕ, zero, suc, ◌≤◌, ◌≡◌, ◌≢◌, ◌∙◌, sym, ap, refl, subst, Bool, true, false, cond, eqb, List, [], ◌∷◌, ◌++◌, map, length, Option, Some, None, Result, Ok, Err, append_assoc, append-nil, arith}
use Rattle.std.specs.List.{flat_map}
use Rattle.std.proofs.lemmas.Bool.Decides.{nat_tests}
use Rattle.qe_form.specs.Formula.{Formula}
use Rattle.qe_form.specs.Measures.{Has}
use Rattle.qe_form.specs.Making.{is_true}
use Rattle.qe_points.specs.declared.candidate.Candidate.{Candidate}
use Rattle.qe_poly.specs.declared.monomial.Var.{Var}
use Rattle.qe_points.specs.Candidates.{candidates}
use Rattle.qe_points.specs.Choice.{choice}
use Rattle.qe_tree.specs.Variables.{remaining}
use Rattle.qe_tree.specs.Expanded.{Expanded, successors}
use Rattle.qe_tree.specs.Tree as tree
use Rattle.qe_tree.specs.Tree.{Step, Place}
use Rattle.qe_tree.specs.Sound.{Each, IsSound}
use Rattle.qe_tree.proofs.Walks.{with_step, IsBelow, each_below}
use Rattle.qe_node.specs.declared.stop.NodeStop.{NodeStop}
use Rattle.qe_node.specs.Node.{Sight}
use Rattle.qe_node.specs.Successors.{Tried, fails, skipped, gives, tried, before, and_then, given_by, at_variable, at_choice, as_vars, expansion}
use Rattle.qe_node.specs.Answer.{others, below}
use Rattle.qe_node.proofs.Remaining.{left_of_successor}
use Rattle.qe_elim.specs.Keys.{node_of}
use Rattle.qe_elim.specs.Steps.{numbered, with_var, descent_by, after_descent, steps_along}
use Rattle.qe_elim.proofs.Bridge.{points, points_more, fewer, Sort, none_left, cannot, can, sort_of, none_below, fails_below, grows_below}

-- ---- the numbers of successors ascend

abbrev Ascends : ℕ → List (ℕ × Formula) → Type 0
Ascends n [] = Unit {0}
Ascends n (s ∷ parts) = (n ≤ s.0) × Ascends (suc s.0) parts

ascends_less : (m n : ℕ) (parts : List (ℕ × Formula)) → m ≤ n → Ascends n parts → Ascends m parts
ascends_less m n [] less h = tt
ascends_less m n (s ∷ parts) less h = (let least = h.0 in omega (arith, less, least), h.1)

module _ (x : ℕ) (f : Formula) where
  tried_ascend : (n : ℕ) (t : Tried) (rest : Result (List (ℕ × Formula)) NodeStop) → ((parts : List (ℕ × Formula)) → rest ≡ Ok parts → Ascends (suc n) parts)
      → (parts : List (ℕ × Formula)) → and_then n t rest ≡ Ok parts → Ascends n parts
  tried_ascend n (fails s) rest later parts is = absurd (cc)
  tried_ascend n skipped rest later parts is = ascends_less n (suc n) parts (omega arith) (later parts is)
  tried_ascend n (gives g) rest later parts is = by_test (is_true g) rest later is
    where
      out : (a b : List (ℕ × Formula)) → ◌≡◌ {A = Result (List (ℕ × Formula)) NodeStop} (Ok a) (Ok b) → a ≡ b
      out a b e = cc

      by_test : (b : Bool) (r : Result (List (ℕ × Formula)) NodeStop) → ((ps : List (ℕ × Formula)) → r ≡ Ok ps → Ascends (suc n) ps) → cond b (Ok ((n, g) ∷ [])) (before (n, g) r) ≡ Ok parts → Ascends n parts
      by_test true r later is = subst (Ascends n) (out ((n, g) ∷ []) parts is) (omega arith, tt)
      by_test false (Ok ps) later is = subst (Ascends n) (out ((n, g) ∷ ps) parts is) (omega arith, later ps refl)
      by_test false (Err e) later is = absurd (cc)

  given_ascend : (n : ℕ) (cs : List Candidate) (parts : List (ℕ × Formula)) → given_by x f n cs ≡ Ok parts → Ascends n parts
  given_ascend n [] parts is = subst (Ascends n) (out [] parts is) tt
    where
      out : (a b : List (ℕ × Formula)) → ◌≡◌ {A = Result (List (ℕ × Formula)) NodeStop} (Ok a) (Ok b) → a ≡ b
      out a b e = cc
  given_ascend n (c ∷ cs) parts is = tried_ascend n (tried x f n c) (given_by x f (suc n) cs) (given_ascend (suc n) cs) parts is

expansion_ascends : (vars : List ℕ) (f : Formula) (x : ℕ) (parts : List (ℕ × Formula)) → expansion.becomes vars f ≡ successors x parts → Ascends 0 parts
expansion_ascends vars f x parts = by_choice (choice f (as_vars vars))
  where
    by_given : (v : ℕ) (r : Result (List (ℕ × Formula)) NodeStop) → ((ps : List (ℕ × Formula)) → r ≡ Ok ps → Ascends 0 ps) → at_variable v r ≡ successors x parts → Ascends 0 parts
    by_given v (Ok ps) ascends is = subst (Ascends 0) (out v x ps parts is) (ascends ps refl)
      where
        out : (u w : ℕ) (a b : List (ℕ × Formula)) → ◌≡◌ {A = Expanded NodeStop} (successors u a) (successors w b) → a ≡ b
        out u w a b e = cc
    by_given v (Err s) ascends is = absurd (cc)

    by_choice : (o : Option Var) → at_choice f o ≡ successors x parts → Ascends 0 parts
    by_choice None is = absurd (cc)
    by_choice (Some v) is = by_given v.0 (given_by v.0 f 0 (candidates v.0 f)) (given_ascend v.0 f 0 (candidates v.0 f)) is

-- ---- each successor is found by its number

module _ (vars : List ℕ) where
  -- a successor with its node
  abbrev with_node : ℕ × Formula → ℕ × Sight
  with_node s = (s.0, node_of vars s.1)

  itself : (n : ℕ) → eqb n n ≡ true
  itself n = grind (arith, nat_tests)

  apart : (m n : ℕ) → suc m ≤ n → eqb m n ≡ false
  apart m n less = grind (arith, nat_tests)

  abbrev AllFound : List (ℕ × Formula) → List (ℕ × Formula) → Type 0
  AllFound parts some = Each (λ s. numbered s.0 (map with_node parts) ≡ Some (node_of vars s.1)) some

  pass_over : (s : ℕ × Formula) (parts some : List (ℕ × Formula)) → Ascends (suc s.0) some → AllFound parts some → AllFound (s ∷ parts) some
  pass_over s parts [] ascends found = tt
  pass_over s parts (t ∷ some) ascends found = (
    ap (λ b. cond b (Some (node_of vars s.1)) (numbered t.0 (map with_node parts))) (apart s.0 t.0 ascends.0) ∙ found.0,
    pass_over s parts some (ascends_less (suc s.0) (suc t.0) some (let less = ascends.0 in omega (arith, less)) ascends.1) found.1,
  )

  all_found : (n : ℕ) (parts : List (ℕ × Formula)) → Ascends n parts → AllFound parts parts
  all_found n [] ascends = tt
  all_found n (s ∷ parts) ascends = (
    ap (λ b. cond b (Some (node_of vars s.1)) (numbered s.0 (map with_node parts))) (itself s.0),
    pass_over s parts parts ascends.1 (all_found (suc s.0) parts ascends.1),
  )

  -- the nodes below are those of the formulas
  below_same : (f : Formula) (x : ℕ) (parts : List (ℕ × Formula)) → Each (λ s. (y : ℕ) → Has y s.1 → Has y f × (y ≢ x)) parts → below (others x (remaining vars f)) parts ≡ map with_node parts
  below_same f x [] each = refl
  below_same f x (s ∷ parts) each = λ i. (s.0, record { vars = left_of_successor vars f s.1 x each.0 i; form = s.1 }) ∷ below_same f x parts each.1 i

-- ---- the steps to a place

abbrev pub EachPlace : (Place → Type 0) → List Place → Type 0
EachPlace P [] = Unit {0}
EachPlace P (t ∷ ts) = P t × EachPlace P ts

each_append : (P : Place → Type 0) (ps qs : List Place) → EachPlace P ps → EachPlace P qs → EachPlace P (ps ++ qs)
each_append P [] qs a b = b
each_append P (p ∷ ps) qs a b = (a.0, each_append P ps qs a.1 b)

each_weaker : (P Q : Place → Type 0) → ((t : Place) → P t → Q t) → (ps : List Place) → EachPlace P ps → EachPlace Q ps
each_weaker P Q then [] each = tt
each_weaker P Q then (p ∷ ps) each = (then p each.0, each_weaker P Q then ps each.1)

each_first : (P : Place → Type 0) (met : List Formula) (ps : List Place) → EachPlace P ps → EachPlace P (tree.first_places met ps)
each_first P met [] each = tt
each_first P met (p ∷ ps) each = by_test (tree.is_among p.form met) (each_first P met ps each.1) (each_first P (met ++ p.form ∷ []) ps each.1)
  where
    by_test : (b : Bool) → EachPlace P (tree.first_places met ps) → EachPlace P (tree.first_places (met ++ p.form ∷ []) ps) → EachPlace P (cond b (tree.first_places met ps) (p ∷ tree.first_places (met ++ p.form ∷ []) ps))
    by_test true old new = old
    by_test false old new = (each.0, new)

module _ (Good : Formula → Type 0) (sound : IsSound Good expansion) (vars : List ℕ) where
  -- the steps to a place go on from a path as its points tell
  abbrev Along : List Step → Formula → Place → Type 0
  Along path f t = (qs : List ℕ) × ((points t.path ≡ points path ++ qs) × (t.path ≡ path ++ steps_along qs (node_of vars f)))

  along_step : (path : List Step) (f : Formula) (x : ℕ) (parts : List (ℕ × Formula)) → expansion.becomes (remaining vars f) f ≡ successors x parts → Each (λ s. (y : ℕ) → Has y s.1 → Has y f × (y ≢ x)) parts
      → (s : ℕ × Formula) → numbered s.0 (map (with_node vars) parts) ≡ Some (node_of vars s.1)
      → (t : Place) → Along (path ++ record { var = x; point = s.0 } ∷ []) s.1 t → Along path f t
  along_step path f x parts is each s found t along = (
    s.0 ∷ along.0,
    (
      along.1.0 ∙ (ap (λ ps. ps ++ along.0) (points_more Good sound vars path (record { var = x; point = s.0 })) ∙ append_assoc (points path) (s.0 ∷ []) along.0),
      along.1.1 ∙ (append_assoc path (record { var = x; point = s.0 } ∷ []) (steps_along along.0 (node_of vars s.1)) ∙ ap (λ ss. path ++ ss) (sym down)),
    ),
  )
    where
      down : steps_along (s.0 ∷ along.0) (node_of vars f) ≡ record { var = x; point = s.0 } ∷ steps_along along.0 (node_of vars s.1)
      down =
          ap (λ e. after_descent s.0 (descent_by (remaining vars f) s.0 e) (steps_along along.0)) is
          ∙ (ap (λ ss. after_descent s.0 (with_var x (numbered s.0 ss)) (steps_along along.0)) (below_same vars f x parts each)
          ∙ ap (λ o. after_descent s.0 (with_var x o) (steps_along along.0)) found)

  abbrev AlongWalk : ℕ → Type 0
  AlongWalk n = (path : List Step) (f : Formula) → Good f → EachPlace (Along path f) (tree.walk expansion vars n path f)

  flat_along : (n : ℕ) → AlongWalk n → (path : List Step) (f : Formula) (x : ℕ) (parts : List (ℕ × Formula)) → expansion.becomes (remaining vars f) f ≡ successors x parts
      → Each (λ s. (y : ℕ) → Has y s.1 → Has y f × (y ≢ x)) parts → (some : List (ℕ × Formula)) → Each (λ s. IsBelow Good expansion sound vars f s.1) some → AllFound vars parts some
      → EachPlace (Along path f) (flat_map (λ s. tree.walk expansion vars n (path ++ s.0 ∷ []) s.1) (map (with_step x) some))
  flat_along n below path f x parts is each [] good found = tt
  flat_along n below path f x parts is each (s ∷ some) good found =
      each_append (Along path f) (tree.walk expansion vars n (path ++ record { var = x; point = s.0 } ∷ []) s.1) _
      (each_weaker (Along (path ++ record { var = x; point = s.0 } ∷ []) s.1) (Along path f) (along_step path f x parts is each s found.0) (tree.walk expansion vars n (path ++ record { var = x; point = s.0 } ∷ []) s.1)
      (below (path ++ record { var = x; point = s.0 } ∷ []) s.1 good.0.good))
      (flat_along n below path f x parts is each some good.1 found.1)

  here : (path : List Step) (f : Formula) → Along path f (record { path = path; form = f })
  here path f = ([], (sym (append-nil (points path)), sym (append-nil path)))

  along_walk : (n : ℕ) → AlongWalk n
  along_walk zero path f good = (here path f, tt)
  along_walk (suc n) path f good = (here path f, by_sort (along_walk n) (sort_of vars f))
    where
      by_sort : AlongWalk n → Sort vars f → EachPlace (Along path f) (flat_map (λ s. tree.walk expansion vars n (path ++ s.0 ∷ []) s.1) (tree.below expansion vars f))
      by_sort below (none_left left) = subst (λ ss. EachPlace (Along path f) (flat_map (λ s. tree.walk expansion vars n (path ++ s.0 ∷ []) s.1) ss)) (sym (none_below Good sound vars f left).1) tt
      by_sort below (cannot y ys left s is) = subst (λ ss. EachPlace (Along path f) (flat_map (λ s. tree.walk expansion vars n (path ++ s.0 ∷ []) s.1) ss)) (sym (fails_below Good sound vars f y ys left s is).1) tt
      by_sort below (can y ys left x parts is) =
          subst (λ ss. EachPlace (Along path f) (flat_map (λ s. tree.walk expansion vars n (path ++ s.0 ∷ []) s.1) ss)) (sym (grows_below Good sound vars f good y ys left x parts is).1)
          (flat_along n below path f x parts is (fewer Good sound vars x f parts (sound.grows vars f good x parts is).fewer) parts (each_below Good expansion sound vars f good x parts is)
          (all_found vars 0 parts (expansion_ascends (remaining vars f) f x parts is)))

  -- the steps to each node of the tree are told by their points
  abbrev IsTold : Formula → Place → Type 0
  IsTold f t = t.path ≡ steps_along (points t.path) (node_of vars f)

  told_nodes : (f : Formula) → Good f → EachPlace (IsTold f) (tree.nodes expansion vars f)
  told_nodes f good =
      each_first (IsTold f) [] (tree.places expansion vars f)
      (each_weaker (Along [] f) (IsTold f) (λ t along. along.1.1 ∙ ap (λ qs. steps_along qs (node_of vars f)) (sym along.1.0)) (tree.places expansion vars f) (along_walk (length (remaining vars f)) [] f good))

  -- so are those to the first node that fails
  pub failure_told : (f : Formula) → Good f → (steps : List Step) (s : NodeStop) → tree.first_failure expansion vars (tree.nodes expansion vars f) ≡ Some (steps, s) → steps ≡ steps_along (points steps) (node_of vars f)
  failure_told f good steps s = among (tree.nodes expansion vars f) (told_nodes f good)
    where
      out : (a b : List Step × NodeStop) → ◌≡◌ {A = Option (List Step × NodeStop)} (Some a) (Some b) → a ≡ b
      out a b e = cc

      by_failure : (p : Place) (o : Option NodeStop) (rest : Option (List Step × NodeStop)) → IsTold f p → (rest ≡ Some (steps, s) → steps ≡ steps_along (points steps) (node_of vars f))
          → tree.or_fails expansion vars p.path o rest ≡ Some (steps, s) → steps ≡ steps_along (points steps) (node_of vars f)
      by_failure p (Some e) rest is later same = subst (λ ss. ss ≡ steps_along (points ss) (node_of vars f)) (ap (λ x. x.0) (out (p.path, e) (steps, s) same)) is
      by_failure p None rest is later same = later same

      among : (ps : List Place) → EachPlace (IsTold f) ps → tree.first_failure expansion vars ps ≡ Some (steps, s) → steps ≡ steps_along (points steps) (node_of vars f)
      among [] each same = absurd (cc)
      among (p ∷ ps) each same = by_failure p (tree.failure expansion vars p.form) (tree.first_failure expansion vars ps) each.0 (among ps each.1) same
