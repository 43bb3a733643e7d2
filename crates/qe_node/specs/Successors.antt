-- The successors of a node: a variable is chosen and each of its candidates tried in turn; or why
-- the node fails.
use Rattle.std.specs.Prelude.{ℕ, suc, cond, List, [], ◌∷◌, length, map, Option, Some, None, Result, Ok, Err}
use Rattle.qe_poly.specs.declared.monomial.Var.{Var}
use Rattle.qe_poly.specs.declared.limit.PolyLimit.{PolyLimit}
use Rattle.qe_poly.specs.Polynomial.{Polynomial}
use Rattle.qe_form.specs.Formula.{Formula}
use Rattle.qe_form.specs.Making.{both, is_true, is_false}
use Rattle.qe_simp.specs.Simplified.{simplified}
use Rattle.qe_root.specs.declared.point.Point.{Point}
use Rattle.qe_root.specs.declared.stop.Stage.TheVariants as stage
use Rattle.qe_root.specs.declared.stop.SubstStop.{SubstStop}
use Rattle.qe_root.specs.declared.stop.SubstStop.TheVariants as met
use Rattle.qe_points.specs.declared.candidate.Candidate.{Candidate}
use Rattle.qe_points.specs.declared.candidate.Candidate.TheVariants.{Root, MinusInf}
use Rattle.qe_points.specs.Choice.{choice}
use Rattle.qe_points.specs.Candidates.{candidates}
use Rattle.qe_points.specs.Guard.{guard, point_of, limit}
use Rattle.qe_points.specs.Guarded.{own}
use Rattle.qe_subst.specs.Substituted.{substituted}
use Rattle.qe_subst.specs.Stop.{stop}
use Rattle.qe_tree.specs.Expanded.{Expanded, Expansion, successors, failed}
use Rattle.qe_node.specs.declared.stop.NodeStop.{NodeStop}
use Rattle.qe_node.specs.declared.stop.NodeStop.TheVariants.{DegreeExcess, Limit, TooLarge}

-- the number of the candidate's atom
abbrev pub atom_of : Candidate → ℕ
atom_of (Root f n which plus) = n
atom_of MinusInf = 0

-- the stop of a substitution as that of a node, at the candidate with this number; out of memory is
-- none of these
abbrev pub node_stop_at : ℕ → SubstStop → NodeStop
node_stop_at n (met.At atom step polynomial) = Limit n atom step polynomial
node_stop_at n met.TooLarge = TooLarge n
node_stop_at n met.OutOfMemory = TooLarge n

-- what becomes of a candidate: the node fails, or it gives no successor, or it gives one
pub data Tried : Type 0 where
  fails : NodeStop → Tried
  skipped : Tried
  gives : Formula → Tried

-- a False successor is skipped
abbrev pub unless_false : Formula → Tried
unless_false g = cond (is_false g) skipped (gives g)

-- a limit in the substitution comes first
abbrev pub after_stop : ℕ → Formula → Option SubstStop → Tried
after_stop n g (Some s) = fails (node_stop_at n s)
after_stop n g None = unless_false g

module _ (x : ℕ) (f : Formula) where
  -- the simplified And of a guard and of the formula at its point
  abbrev pub joined : (guard : Formula) → Point → Option Polynomial → Formula
  joined guard point own = simplified (both guard (substituted x point own f))

  abbrev pub put_in : ℕ → (guard : Formula) → Point → Option Polynomial → Tried
  put_in n guard point own = after_stop n (joined guard point own) (stop x point own f)

  -- a limit in the guard comes first; a False guard is skipped
  abbrev pub after_limit : ℕ → Candidate → Option PolyLimit → Tried
  after_limit n c (Some polynomial) = fails (Limit n (atom_of c) stage.Guard polynomial)
  after_limit n c None =
      cond (is_false (simplified (guard x c))) skipped
      (put_in n (simplified (guard x c)) (point_of x c) (own c))

  -- what becomes of the candidate with the number n
  abbrev pub tried : ℕ → Candidate → Tried
  tried n c = after_limit n c (limit x c)

-- one more successor before others
abbrev pub before : ℕ × Formula → Result (List (ℕ × Formula)) NodeStop
    → Result (List (ℕ × Formula)) NodeStop
before s (Ok parts) = Ok (s ∷ parts)
before s (Err e) = Err e

-- what a candidate gives before what those after it give; nothing comes after True
abbrev pub and_then : ℕ → Tried → Result (List (ℕ × Formula)) NodeStop
    → Result (List (ℕ × Formula)) NodeStop
and_then n (fails s) others = Err s
and_then n skipped others = others
and_then n (gives g) others = cond (is_true g) (Ok ((n, g) ∷ [])) (before (n, g) others)

module _ (x : ℕ) (f : Formula) where
  -- the successors that candidates give, of which the first has the number n
  abbrev pub given_by : ℕ → List Candidate → Result (List (ℕ × Formula)) NodeStop
  given_by n [] = Ok []
  given_by n (c ∷ cs) = and_then n (tried x f n c) (given_by (suc n) cs)

abbrev pub at_variable : ℕ → Result (List (ℕ × Formula)) NodeStop → Expanded NodeStop
at_variable x (Ok parts) = successors x parts
at_variable x (Err s) = failed s

-- where no variable can be chosen the node fails
abbrev pub at_choice : Formula → Option Var → Expanded NodeStop
at_choice f None = failed DegreeExcess
at_choice f (Some v) = at_variable v.0 (given_by v.0 f 0 (candidates v.0 f))

-- the variables with these numbers
abbrev pub as_vars : List ℕ → List Var
as_vars xs = map (λ x. record { 0 = x }) xs

-- of the node with these variables and this formula: the number of its variables, and what becomes
-- of it
abbrev pub expansion : Expansion NodeStop
expansion = record {
  height = λ xs f. length xs;
  becomes = λ xs f. at_choice f (choice f (as_vars xs));
}
