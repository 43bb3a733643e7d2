-- What `expand` answers, by the keys of the successors.
use Rattle.std.specs.Prelude.{◌&&◌}
use Rattle.std.proofs.lemmas.Bool.Decides.{nat_tests}
use Rattle.qe_poly.specs.declared.monomial.Var.{Var}
use Rattle.qe_form.specs.Formula.{Formula}
use Rattle.std.proofs.Common.{suc, true, false, eqb, length, arith, ◌≡◌, ◌∙◌, sym, ap, refl, subst, Bool, List, [], ◌∷◌, map}
use Rattle.qe_piece.specs.Meaning.{gives, child_of, GivesMeaning}
use Rattle.qe_piece.specs.declared.maker.Next.{Next}
use Rattle.qe_piece.specs.declared.maker.Made.{Made}
use Rattle.qe_piece.specs.declared.maker.Made.TheVariants as made
use Rattle.qe_node.specs.declared.stop.NodeStop.{NodeStop}
use Rattle.qe_node.specs.Node.{Sight}
use Rattle.qe_node.specs.key.Code.{sight_key, sight_of}
use Rattle.qe_node.specs.Answer.{expansion_of, numbered_nodes, IsExpansion}
use Rattle.qe_node.specs.Piece.{is_leaf_node, is_true_node, height_of, by_keys, meaning_of}
use Rattle.qe_node.specs.lemmas.Code.{sight-back}
use Rattle.qe_tree.specs.Tree.{is_empty}
use Rattle.qe_form.specs.Making.{is_true}
use Rattle.qe_node.proofs.Remaining.{numbers}

children-shown : (list : List (Next Sight)) → map (λ s. record { point = s.0; key = sight_key s.1 }) (numbered_nodes list) ≡ map (child_of sight_key) list
children-shown [] = refl
children-shown (n ∷ list) = ap (λ cs. record { point = n.point; key = sight_key n.piece } ∷ cs) (children-shown list)

at_node : (n : Sight) (told : Bool) (r : Made Sight NodeStop) → IsExpansion (expansion_of n) told r → GivesMeaning sight_key (meaning_of n) told r
at_node n told (made.Successors list) is = ap by_keys is ∙ ap gives (children-shown list.items)
at_node n told (made.Failed s) is = ap by_keys is
at_node n told made.Stopped is = is
at_node n told made.OutOfMemory is = is

pub by_key : (n : Sight) (told : Bool) (r : Made Sight NodeStop) → IsExpansion (expansion_of n) told r → GivesMeaning sight_key (meaning_of (sight_of (sight_key n))) told r
by_key n told r is = subst (λ m. GivesMeaning sight_key (meaning_of m) told r) (sym (sight-back n)) (at_node n told r is)

-- ---- what the methods answer, of a node by its fields

module _ (n : Sight) (vs items : List Var) (g : Formula) (view : record { vars = numbers vs; form = g } ≡ n) (lent : items ≡ vs) where
  seen : sight_of (sight_key n) ≡ record { vars = numbers items; form = g }
  seen = sight-back n ∙ (sym view ∙ ap (λ us. record { vars = numbers us; form = g }) (sym lent))

  empty_is : (us : List Var) → eqb (length us) 0 ≡ is_empty (numbers us)
  empty_is [] = refl
  empty_is (u ∷ us) = grind (arith, nat_tests)

  pub leaf_is : (b : Bool) → b ≡ eqb (length items) 0 → b ≡ is_leaf_node (sight_of (sight_key n))
  leaf_is b is = is ∙ (empty_is items ∙ sym (ap is_leaf_node seen))

  pub true_is : (e b : Bool) → e ≡ eqb (length items) 0 → e ≡ true → b ≡ is_true g → b ≡ is_true_node (sight_of (sight_key n))
  true_is e b empty holds is =
      is ∙ (ap (λ c. c && is_true g) (sym holds ∙ (empty ∙ empty_is items)) ∙ sym (ap is_true_node seen))

  pub other_is : (e : Bool) → e ≡ eqb (length items) 0 → e ≡ false → e ≡ is_true_node (sight_of (sight_key n))
  other_is e empty filled = filled ∙ (ap (λ c. c && is_true g) (sym filled ∙ (empty ∙ empty_is items)) ∙ sym (ap is_true_node seen))

  length_is : (us : List Var) → length us ≡ length (numbers us)
  length_is [] = refl
  length_is (u ∷ us) = ap suc (length_is us)

  pub rank_is : length items ≡ height_of (sight_of (sight_key n))
  rank_is = length_is items ∙ sym (ap height_of seen)
