-- The successors that the code finds, one candidate after another.
use Rattle.std.proofs.Common.{ℕ, suc, ◌+◌, ◌≡◌, ◌∙◌, ◌<◌, ◌≤◌, sym, ap, refl, subst, Bool, true, false, cond, List, [], ◌∷◌, ◌++◌, length, get_or, drop, drop-cons, add-one, arith, append_assoc, append-nil, Option, Some, None, Result, Ok, Err, IfOk}
use Rattle.std.specs.List.{All}
use Rattle.qe_halt.specs.declared.halt.Halt.{Halt}
use Rattle.std.proofs.lemmas.List.Elements.{All-weaker}
use Rattle.qe_poly.specs.declared.monomial.Var.{Var}
use Rattle.std.proofs.lemmas.List.{drop_all}
use Rattle.qe_form.specs.Formula.{Formula}
use Rattle.qe_points.specs.declared.candidate.Candidate.{Candidate}
use Rattle.qe_points.specs.Choice.{choice}
use Rattle.qe_points.specs.Candidates.{candidates}
use Rattle.qe_points.specs.Guarded.{HasRoot, IsOf}
use Rattle.qe_tree.specs.Variables.{remaining}
use Rattle.qe_piece.specs.declared.maker.Next.{Next}
use Rattle.qe_node.specs.declared.stop.NodeStop.{NodeStop}
use Rattle.qe_node.specs.declared.stop.NodeStop.TheVariants.{DegreeExcess}
use Rattle.qe_node.specs.declared.stop.GrowthLimit.{GrowthLimit}
use Rattle.qe_node.specs.Node.{Sight}
use Rattle.qe_form.specs.Making.{is_true}
use Rattle.qe_node.specs.Successors.{Tried, fails, skipped, gives, before, and_then, tried, given_by, at_variable, at_choice, as_vars, expansion}
use Rattle.qe_node.specs.Answer.{others, below, numbered_nodes, with_nodes, expansion_of}
use Rattle.qe_node.specs.Growth.{nodes_below, IsGrowthStop, IsGrowth}
use Rattle.qe_node.proofs.Remaining.{numbers}

-- nodes, and then those of what is left
abbrev pub after_all : List (ℕ × Sight) → Result (List (ℕ × Sight)) NodeStop → Result (List (ℕ × Sight)) NodeStop
after_all made (Ok rest) = Ok (made ++ rest)
after_all made (Err s) = Err s

after_none : (r : Result (List (ℕ × Sight)) NodeStop) → after_all [] r ≡ r
after_none (Ok rest) = refl
after_none (Err s) = refl

numbered_nodes-push : (list : List (Next Sight)) (n : Next Sight) → numbered_nodes (list ++ n ∷ []) ≡ numbered_nodes list ++ (n.point, n.piece) ∷ []
numbered_nodes-push [] n = refl
numbered_nodes-push (m ∷ list) n = ap (λ xs. (m.point, m.piece) ∷ xs) (numbered_nodes-push list n)

module _ (vars : List ℕ) where
  -- the node of a formula that is given, with its number
  abbrev node_for : ℕ → Formula → ℕ × Sight
  node_for n g = (n, record { vars = remaining vars g; form = g })

  more_before : (made : List (ℕ × Sight)) (n : ℕ) (g : Formula) (r : Result (List (ℕ × Formula)) NodeStop)
      → after_all made (nodes_below vars (before (n, g) r)) ≡ after_all (made ++ node_for n g ∷ []) (nodes_below vars r)
  more_before made n g (Ok parts) = ap Ok (sym (append_assoc made (node_for n g ∷ []) (below vars parts)))
  more_before made n g (Err s) = refl

  -- a node that is pushed with its number
  pub one_pushed : (list new : List (Next Sight)) (i : ℕ) (n : Sight) (g : Formula) → new ≡ list ++ record { point = i; piece = n } ∷ [] → n.form ≡ g → n.vars ≡ remaining vars g
      → numbered_nodes new ≡ numbered_nodes list ++ node_for i g ∷ []
  one_pushed list new i n g pushed form left =
      let same : n ≡ record { vars = remaining vars g; form = g } = (λ j. record { vars = left j; form = form j }) in
      ap numbered_nodes pushed ∙ numbered_nodes-push list (record { point = i; piece = n }) ∙ ap (λ m. numbered_nodes list ++ (i, m) ∷ []) same

  module _ (x : ℕ) (f : Formula) (cs : List Candidate) (i : ℕ) (within : i < length cs) (made : List (ℕ × Sight)) (all : Result (List (ℕ × Sight)) NodeStop)
      (so_far : after_all made (nodes_below vars (given_by x f i (drop i cs))) ≡ all) (c : Candidate) (is : c ≡ get_or cs i c) where
    abbrev rest : Result (List (ℕ × Formula)) NodeStop
    rest = given_by x f (i + 1) (drop (i + 1) cs)

    split : drop i cs ≡ c ∷ drop (i + 1) cs
    split = rw add-one (drop-cons cs i c within ∙ ap (λ d. d ∷ drop (suc i) cs) (sym is))

    step : (t : Tried) → t ≡ tried x f i c → after_all made (nodes_below vars (and_then i t rest)) ≡ all
    step t same =
        let next : i + 1 ≡ suc i = omega arith in
        ap (λ u. after_all made (nodes_below vars (and_then i u rest))) same
        ∙ ap (λ n. after_all made (nodes_below vars (and_then i (tried x f i c) (given_by x f n (drop (i + 1) cs))))) next
        ∙ ap (λ ds. after_all made (nodes_below vars (given_by x f i ds))) (sym split) ∙ so_far

    -- the node fails
    pub turn_fails : (t : Tried) (s : NodeStop) → t ≡ tried x f i c → t ≡ fails s → all ≡ Err s
    turn_fails t s same failed = sym (step t same) ∙ ap (λ u. after_all made (nodes_below vars (and_then i u rest))) failed

    -- nothing is given
    pub turn_skips : (t : Tried) (now : List (ℕ × Sight)) → t ≡ tried x f i c → t ≡ skipped → now ≡ made → after_all now (nodes_below vars rest) ≡ all
    turn_skips t now same none kept =
        ap (λ m. after_all m (nodes_below vars rest)) kept ∙ (ap (λ u. after_all made (nodes_below vars (and_then i u rest))) (sym none) ∙ step t same)

    module _ (t : Tried) (g : Formula) (same : t ≡ tried x f i c) (given : t ≡ gives g) where
      given_step : (b : Bool) → b ≡ is_true g → after_all made (nodes_below vars (cond b (Ok ((i, g) ∷ [])) (before (i, g) rest))) ≡ all
      given_step b last =
          ap (λ u. after_all made (nodes_below vars (cond u (Ok ((i, g) ∷ [])) (before (i, g) rest)))) last
          ∙ (ap (λ u. after_all made (nodes_below vars (and_then i u rest))) (sym given) ∙ step t same)

      -- a successor is given, and it is not True
      pub turn_gives : (now : List (ℕ × Sight)) (b : Bool) → b ≡ is_true g → b ≡ false → now ≡ made ++ node_for i g ∷ [] → after_all now (nodes_below vars rest) ≡ all
      turn_gives now b last other pushed =
          ap (λ m. after_all m (nodes_below vars rest)) pushed ∙ (sym (more_before made i g rest)
          ∙ (ap (λ u. after_all made (nodes_below vars (cond u (Ok ((i, g) ∷ [])) (before (i, g) rest)))) (sym other) ∙ given_step b last))

      -- a True successor ends the list
      pub turn_ends : (now : List (ℕ × Sight)) (b : Bool) → b ≡ is_true g → b ≡ true → now ≡ made ++ node_for i g ∷ [] → all ≡ Ok now
      turn_ends now b last true_one pushed =
          sym (given_step b last) ∙ (ap (λ u. after_all made (nodes_below vars (cond u (Ok ((i, g) ∷ [])) (before (i, g) rest)))) true_one ∙ ap Ok (sym pushed))

  -- the end of the loop
  pub no_turns : (x : ℕ) (f : Formula) (cs : List Candidate) (i : ℕ) (made : List (ℕ × Sight)) (all : Result (List (ℕ × Sight)) NodeStop) → length cs ≤ i
      → after_all made (nodes_below vars (given_by x f i (drop i cs))) ≡ all → all ≡ Ok made
  no_turns x f cs i made all past so_far =
      sym so_far ∙ (ap (λ ds. after_all made (nodes_below vars (given_by x f i ds))) (drop_all i cs past) ∙ ap Ok (append-nil made))

-- and its start
pub first_turn : (r : Result (List (ℕ × Sight)) NodeStop) → after_all [] r ≡ r
first_turn = after_none

-- ---- what is asked of the candidates, and what is answered for a node

pub roots_of_each : (x : ℕ) (f : Formula) (cs : List Candidate) → All (IsOf x f) cs → All (HasRoot x) cs
roots_of_each x f cs h = All-weaker (IsOf x f) (HasRoot x) (λ c k. k.root) cs h

pub growth_at : {A : Type 0} (items : A → List (Next Sight)) (x : ℕ) (f : Formula) (vars left : List ℕ) (cs : List Candidate) (told : Bool) (r : Result A (Halt GrowthLimit)) → left ≡ others x vars
    → cs ≡ candidates x f → IsGrowth items (nodes_below left (given_by x f 0 cs)) told r → IsGrowth items (nodes_below (others x vars) (given_by x f 0 (candidates x f))) told r
growth_at items x f vars left cs told r is made h =
    subst (λ ys. IsGrowth items (nodes_below ys (given_by x f 0 (candidates x f))) told r) is (subst (λ ds. IsGrowth items (nodes_below left (given_by x f 0 ds)) told r) made h)

-- what holds anyway
pub if_ok : {A E P : Type 0} (r : Result A E) → P → IfOk r (λ _. P)
if_ok (Ok a) p = p
if_ok (Err e) p = tt

with_nodes_at : (x : ℕ) (vars : List ℕ) (r : Result (List (ℕ × Formula)) NodeStop) → nodes_below (others x vars) r ≡ with_nodes vars (at_variable x r)
with_nodes_at x vars (Ok parts) = refl
with_nodes_at x vars (Err s) = refl

same_variables : (vs : List Var) → as_vars (numbers vs) ≡ vs
same_variables [] = refl
same_variables (v ∷ vs) = ap (λ us. v ∷ us) (same_variables vs)

module _ (n : Sight) (f : Formula) (vs items : List Var) (o : Option Var) (view : record { vars = numbers vs; form = f } ≡ n) (lent : items ≡ vs) (is : o ≡ choice f items) where
  expansion_is : expansion_of n ≡ with_nodes (numbers items) (at_choice f o)
  expansion_is =
      sym (ap expansion_of view) ∙ (ap (λ us. with_nodes (numbers us) (expansion.becomes (numbers us) f)) (sym lent)
      ∙ ap (λ c. with_nodes (numbers items) (at_choice f c)) (ap (choice f) (same_variables items) ∙ sym is))

  -- where a variable is chosen
  pub expansion_chosen : (v : Var) (want : Result (List (ℕ × Sight)) NodeStop) → o ≡ Some v → nodes_below (others v.0 (numbers items)) (given_by v.0 f 0 (candidates v.0 f)) ≡ want → expansion_of n ≡ want
  expansion_chosen v want some made =
      expansion_is ∙ (ap (λ c. with_nodes (numbers items) (at_choice f c)) some ∙ (sym (with_nodes_at v.0 (numbers items) (given_by v.0 f 0 (candidates v.0 f))) ∙ made))

  -- where none is
  pub expansion_none : o ≡ None → expansion_of n ≡ Err DegreeExcess
  expansion_none none = expansion_is ∙ ap (λ c. with_nodes (numbers items) (at_choice f c)) none

  -- what stops the growth at the chosen variable stops that of the node
  pub growth_stops : (told : Bool) (v : Var) (stop : Halt GrowthLimit) → o ≡ Some v → IsGrowthStop (nodes_below (others v.0 (numbers items)) (given_by v.0 f 0 (candidates v.0 f))) told stop
      → IsGrowthStop (expansion_of n) told stop
  growth_stops told v stop some h = subst (λ e. IsGrowthStop e told stop) (sym (expansion_chosen v _ some refl)) h

  pub variable_chosen : (v : Var) → o ≡ Some v → choice n.form (as_vars n.vars) ≡ Some v
  variable_chosen v some = sym (ap (λ m. choice m.form (as_vars m.vars)) view) ∙ (ap (choice f) (same_variables vs ∙ sym lent) ∙ (sym is ∙ some))
