-- The successors of a node keep its truth.
use Rattle.std.proofs.Common.{ℕ, ◌≡◌, ◌≢◌, ◌∙◌, sym, ap, refl, subst, ◌↔◌, true, List, [], ◌∷◌, map, Ok}
use Rattle.qe_tower.specs.Point.{Point, IsPoint}
use Rattle.qe_poly.specs.declared.monomial.Var.{Var}
use Rattle.qe_form.specs.Formula.{Formula, Or}
use Rattle.qe_form.specs.Measures.{Has}
use Rattle.qe_form.specs.Plain.{IsPlain}
use Rattle.qe_form.specs.Tree.{trees_of}
use Rattle.qe_form.specs.Truth.{Is}
use Rattle.qe_simp.specs.Shape.{IsSimplified}
use Rattle.qe_simp.proofs.Shapes.{simplified_no_quantifier}
use Rattle.qe_tree.specs.Variables.{remaining, under_ex, existential_closure}
use Rattle.qe_tree.specs.Expanded.{Expanded, successors, failed}
use Rattle.qe_tree.specs.Sound.{Each, IsFine, forms_of, IsGrown}
use Rattle.qe_tree.proofs.Growth.{fine_no_quantifier, grown_keeps_truth}
use Rattle.qe_piece.specs.declared.maker.Next.{Next}
use Rattle.qe_node.specs.declared.stop.NodeStop.{NodeStop}
use Rattle.qe_node.specs.Node.{Sight, IsNode}
use Rattle.qe_node.specs.Successors.{expansion}
use Rattle.qe_node.specs.Answer.{others, below, numbered_nodes, with_nodes, expansion_of}
use Rattle.qe_node.specs.Truth.{node_formula, TruthIsKept}
use Rattle.qe_node.proofs.Remaining.{numbers, left_of_successor}
use Rattle.qe_node.proofs.Tries.{proper_plain}
use Rattle.qe_node.proofs.Sound.{expansion_grown}

-- the formulas of nodes under `ex`, with the numbers of the nodes and without
numbered_wholes : (list : List (Next Sight)) → map (λ s. node_formula s.1) (numbered_nodes list) ≡ map (λ s. node_formula s.piece) list
numbered_wholes [] = refl
numbered_wholes (n ∷ list) = ap (λ fs. node_formula n.piece ∷ fs) (numbered_wholes list)

module _ (vars : List ℕ) (f : Formula) (occurring : remaining vars f ≡ vars) (x : ℕ) where
  below_wholes : (parts : List (ℕ × Formula)) → Each (λ g. (y : ℕ) → Has y g → Has y f × (y ≢ x)) (forms_of parts)
      → map (λ s. node_formula s.1) (below (others x vars) parts) ≡ map (existential_closure vars) (forms_of parts)
  below_wholes [] fewer = refl
  below_wholes (s ∷ parts) fewer =
      let left : remaining (others x vars) s.1 ≡ remaining vars s.1 = ap (λ xs. remaining (others x xs) s.1) (sym occurring) ∙ left_of_successor vars f s.1 x fewer.0 in
      λ i. under_ex (left i) s.1 ∷ below_wholes parts fewer.1 i

  grown_true : (parts : List (ℕ × Formula)) (list : List (Next Sight)) → IsFine f → IsGrown IsSimplified vars f x parts → below (others x vars) parts ≡ numbered_nodes list
      → (p : Point) → IsPoint p → Is (under_ex vars f) true p ↔ Is (Or (trees_of (map (λ s. node_formula s.piece) list))) true p
  grown_true parts list fine grown is =
      subst (λ fs. (p : Point) → IsPoint p → Is (under_ex vars f) true p ↔ Is (Or (trees_of fs)) true p) (sym (below_wholes parts grown.fewer) ∙ (ap (map (λ s. node_formula s.1)) is ∙ numbered_wholes list))
      (subst (λ xs. (p : Point) → IsPoint p → Is (under_ex xs f) true p ↔ Is (Or (trees_of (map (existential_closure vars) (forms_of parts)))) true p) occurring
      (grown_keeps_truth IsSimplified simplified_no_quantifier vars f (fine_no_quantifier f fine) x parts (subst (λ xs. IsGrown IsSimplified xs f x parts) (sym occurring) grown)))

-- the successors of a node keep its truth
pub successors_true : (vs : List Var) (f : Formula) (n : Sight) (list : List (Next Sight)) → record { vars = numbers vs; form = f } ≡ n → IsNode (record { vars = numbers vs; form = f }) → (IsPlain f → IsFine f)
    → expansion_of n ≡ Ok (numbered_nodes list) → TruthIsKept n list
successors_true vs f n list view node fine is =
    subst (λ m. expansion_of m ≡ Ok (numbered_nodes list) → TruthIsKept m list) view (by_expanded (expansion.becomes vars f) refl) is
  where
    vars : List ℕ
    vars = numbers vs

    canonical : IsFine f
    canonical = fine (proper_plain f node.proper)

    by_expanded : (e : Expanded NodeStop) → expansion.becomes vars f ≡ e → with_nodes vars e ≡ Ok (numbered_nodes list)
        → (p : Point) → IsPoint p → Is (under_ex vars f) true p ↔ Is (Or (trees_of (map (λ s. node_formula s.piece) list))) true p
    by_expanded (successors x parts) grows gives = grown_true vars f node.occurring x parts list canonical (expansion_grown vars f canonical node.proper x parts grows) (cc)
    by_expanded (failed s) grows gives = absurd (cc)
