-- The verdict of a run over the nodes of a block is what its tree gives.
use Rattle.std.proofs.Common.{ℕ, ◌≡◌, ◌∙◌, sym, ap, refl, Bool, true, false, cond, List, map, length, Option, Some, None, arith}
use Rattle.qe_form.specs.Formula.{Formula, True, Or}
use Rattle.qe_form.specs.Tree.{trees_of}
use Rattle.qe_simp.specs.Simplified.{simplified}
use Rattle.qe_tree.specs.Tree as tree
use Rattle.qe_tree.specs.Tree.{Step, Place, Inner, form, node}
use Rattle.qe_node.specs.declared.stop.NodeStop.{NodeStop}
use Rattle.qe_node.specs.lemmas.Piece.{descends}
use Rattle.qe_node.specs.Successors.{expansion}
use Rattle.qe_board.specs.Tree as keyed
use Rattle.qe_board.specs.Tree.{Verdict, holds, fails_at, has_leaves}
use Rattle.qe_board.proofs.Verdicts.{tree_laws}
use Rattle.qe_elim.specs.Keys.{meaning, is_leaf, truth, height, node_of, key_of}
use Rattle.qe_elim.specs.Laws.{inner_by, RunsTellBlocks}
use Rattle.qe_elim.proofs.Bridge.{as_position, nodes_same, truth_same, verdict_by, failure_same, leaves_same, length_same}
use Rattle.qe_elim.proofs.Paths.{failure_told}
use Rattle.qe_elim.proofs.Soundness.{Good, sound}

module _ (vars : List ℕ) (f : Formula) (good : Good f) where
  abbrev places : List Place
  places = tree.nodes expansion vars f

  abbrev leaves : Verdict NodeStop
  leaves = has_leaves (keyed.leaf_positions meaning is_leaf truth height (map (as_position vars) places))

  tells_leaves : inner_by (node_of vars f) leaves ≡ form (simplified (Or (trees_of (tree.leaves expansion vars places))))
  tells_leaves = ap (λ fs. form (simplified (Or (trees_of fs)))) (leaves_same Good sound vars places)

  tells_failure : (o : Option (List Step × NodeStop)) → tree.first_failure expansion vars places ≡ o
      → inner_by (node_of vars f) (verdict_by Good sound vars o leaves) ≡ tree.or_form expansion vars o (simplified (Or (trees_of (tree.leaves expansion vars places))))
  tells_failure None first = tells_leaves
  tells_failure (Some e) first = ap (λ steps. node steps e.1) (sym (failure_told Good sound vars f good e.0 e.1 first))

  by_truth : (b : Bool) → inner_by (node_of vars f) (cond b holds (keyed.first_fault meaning is_leaf truth height (map (as_position vars) places) leaves))
      ≡ cond b (form True) (tree.or_form expansion vars (tree.first_failure expansion vars places) (simplified (Or (trees_of (tree.leaves expansion vars places)))))
  by_truth true = refl
  by_truth false = ap (inner_by (node_of vars f)) (failure_same Good sound vars places leaves) ∙ tells_failure (tree.first_failure expansion vars places) refl

  -- the verdict over keys, and the inner result
  verdict_tells : inner_by (node_of vars f) (keyed.verdict meaning is_leaf truth height (key_of vars f)) ≡ tree.inner expansion vars f
  verdict_tells =
      ap (λ ps. inner_by (node_of vars f) (keyed.verdict_of meaning is_leaf truth height ps)) (nodes_same Good sound vars f good)
      ∙ (ap (λ b. inner_by (node_of vars f) (cond b holds (keyed.first_fault meaning is_leaf truth height (map (as_position vars) places) leaves))) (truth_same Good sound vars places)
      ∙ by_truth (tree.has_true_leaf expansion vars places))

pub runs_tell : RunsTellBlocks
runs_tell vars f good limit some es run =
    let laws = tree_laws meaning is_leaf truth height limit descends some in
    record {
      verdict = λ done stop. ap (inner_by (node_of vars f)) (laws.one_verdict (key_of vars f) es run done stop) ∙ verdict_tells vars f good;
      beyond = λ stop. let more = laws.limit_means (key_of vars f) es run stop in
          let size = ap length (nodes_same Good sound vars f good) ∙ length_same Good sound vars (tree.nodes expansion vars f) in omega (arith, more, size);
    }
