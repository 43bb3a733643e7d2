-- How large the formula is that a block gives.
use Rattle.std.proofs.Common.{ℕ, zero, suc, ◌≡◌, sym, ap, refl, subst, ◌+◌, ◌*◌, ◌^◌, ◌<◌, ◌≤◌, max, inl, inr, ◌⊎◌, Bool, true, false, cond, List, [], ◌∷◌, ◌++◌, length, Option, Some, None, arith}
use Rattle.std.specs.Prelude.{IsTrue}
use Rattle.std.specs.List.{flat_map}
use Rattle.qe_form.specs.Formula.{Formula, Formulas, True, False, Atom, And, Or, Not, Implies, Iff, Ex, All, no_more, more}
use Rattle.qe_form.specs.Tree.{trees_of}
use Rattle.qe_form.specs.Measures.{count, count_each}
use Rattle.qe_form.specs.Negation.{negated, negated_each}
use Rattle.qe_simp.specs.Simplified.{simplified}
use Rattle.qe_tree.specs.Variables.{remaining}
use Rattle.qe_tree.specs.Expanded.{Expansion}
use Rattle.qe_tree.specs.Tree.{Step, Place, Inner, form, node, is_empty, unless_leaf, grown, is_leaf, below, walk, places, height, first_places, nodes, leaves, first_failure, has_true_leaf, or_form, inner}
use Rattle.qe_tree.specs.Sound.{Each, IsFine, IsReady, IsSound}
use Rattle.qe_form.specs.Blocks.{QuantifierKind, exists, for_all, Block}
use Rattle.qe_tree.specs.Block.{matrix_for, root, result_for, given, of_inner, block_over, Fits}
use Rattle.qe_tree.proofs.Stands.{negated_fine}
use Rattle.qe_tree.proofs.Walks.{EachForm, EachForm-append, IsBelow, all_below, each_walk}
use Rattle.qe_tree.proofs.FirstPlaces.{each_firsts}
use Rattle.qe_tree.proofs.Blocks.{fine_ready, joined_fine, inner_stands}

mutual
  count_negated : (f : Formula) → count (negated f) ≡ count f
  count_negated True = refl
  count_negated False = refl
  count_negated (Atom a) = refl
  count_negated (And fs) = count_negated_each fs
  count_negated (Or fs) = count_negated_each fs
  count_negated (Not f) = refl
  count_negated (Implies f g) = refl
  count_negated (Iff f g) = refl
  count_negated (Ex x f) = refl
  count_negated (All x f) = refl

  count_negated_each : (fs : Formulas) → count_each (negated_each fs) ≡ count_each fs
  count_negated_each no_more = refl
  count_negated_each (more f fs) = λ i. count_negated f i + count_negated_each fs i

-- simplifying makes no formula large
pub ready_small : (Good : Formula → Type 0) (f : Formula) → IsReady Good f → count f < 2 ^ 50 → count (simplified f) < 2 ^ 50
ready_small Good f ready small = let size = ready.keeps.size in omega arith

matrix_small : (kind : QuantifierKind) (m : Formula) → count m < 2 ^ 50 → count (matrix_for kind m) < 2 ^ 50
matrix_small exists m small = small
matrix_small for_all m small = subst (λ n. n < 2 ^ 50) (sym (count_negated m)) small

pub root_small : (Good : Formula → Type 0) (kind : QuantifierKind) (m : Formula) → IsReady Good (matrix_for kind m) → count m < 2 ^ 50 → count (root kind m) < 2 ^ 50
root_small Good kind m ready small = ready_small Good (matrix_for kind m) ready (matrix_small kind m small)

module _ {F : Type 0} (Good : Formula → Type 0) (expand : Expansion F) (sound : IsSound Good expand) (vars : List ℕ) where
  abbrev Small : Formula → Type 0
  Small g = count g ≤ 65538

  abbrev further : ℕ → List Step → List (Step × Formula) → List Place
  further n path ss = flat_map (λ s. walk expand vars n (path ++ s.0 ∷ []) s.1) ss

  small_further : (n : ℕ) (path : List Step) (f : Formula) (ss : List (Step × Formula)) → Each (λ s. IsBelow Good expand sound vars f s.1) ss → EachForm Small (further n path ss)
  small_further n path f [] each = tt
  small_further n path f (s ∷ ss) each =
      EachForm-append Small (walk expand vars n (path ++ s.0 ∷ []) s.1) (further n path ss)
      (each_walk Good expand sound vars Small (λ f g good h w. w.small) n (path ++ s.0 ∷ []) s.1 each.0.good each.0.small)
      (small_further n path f ss each.1)

  -- the places after the root: their formulas are small, and a leaf has none
  record HasRest (f : Formula) (ps : List Place) : Type 0 where
    rest : List Place
    are : ps ≡ record { path = []; form = f } ∷ rest
    small : EachForm Small rest
    none : is_leaf expand vars f ≡ true → rest ≡ []

  rest_of : (n : ℕ) (f : Formula) → Good f → HasRest f (walk expand vars n [] f)
  rest_of zero f good = record { rest = []; are = refl; small = tt; none = λ test. refl }
  rest_of (suc n) f good = record {
    rest = further n [] (below expand vars f);
    are = refl;
    small = small_further n [] f (below expand vars f) (all_below Good expand sound vars f good);
    none = λ test. ap (further n []) (no_variables (remaining vars f) test);
  }
    where
      no_variables : (l : List ℕ) → is_empty l ≡ true → unless_leaf l [] (grown (expand.becomes (remaining vars f) f)) ≡ []
      no_variables [] test = refl
      no_variables (x ∷ xs) test = absurd (cc)

  leaves_small : (ps : List Place) → EachForm Small ps → count_each (trees_of (leaves expand vars ps)) ≤ 65538 * length ps
  leaves_small [] each = omega arith
  leaves_small (p ∷ ps) each = by_first (is_leaf expand vars p.form) (leaves_small ps each.1)
    where
      by_first : (b : Bool) → count_each (trees_of (leaves expand vars ps)) ≤ 65538 * length ps → count_each (trees_of (cond b (p.form ∷ leaves expand vars ps) (leaves expand vars ps))) ≤ 65538 * length (p ∷ ps)
      by_first true rest = let first = each.0 in omega arith
      by_first false rest = omega arith

  -- the leaves together are as the root, or have at most 65,538 atoms and constants for each node
  joined_size : (f : Formula) → Good f → count_each (trees_of (leaves expand vars (nodes expand vars f))) ≤ max (count f) (65538 * length (nodes expand vars f))
  joined_size f good = subst (λ ps. count_each (trees_of (leaves expand vars (first_places [] ps))) ≤ max (count f) (65538 * length (first_places [] ps))) (sym w.are) (by_leaf (is_leaf expand vars f) refl)
    where
      w : HasRest f (places expand vars f)
      w = rest_of (height expand vars f) f good

      others : List Place
      others = first_places (f ∷ []) w.rest

      none_after : is_leaf expand vars f ≡ true → others ≡ []
      none_after test = ap (first_places (f ∷ [])) (w.none test)

      by_leaf : (b : Bool) → is_leaf expand vars f ≡ b → count_each (trees_of (cond b (f ∷ leaves expand vars others) (leaves expand vars others))) ≤ max (count f) (65538 * length (record { path = []; form = f } ∷ others))
      by_leaf true test = let gone = ap (λ ps. count_each (trees_of (leaves expand vars ps))) (none_after test) in omega arith
      by_leaf false test = let most = leaves_small others (each_firsts Small (f ∷ []) w.rest w.small) in omega arith

  -- the formula that the tree gives
  pub inner_small : (f : Formula) → Good f → (g : Formula) (limit : ℕ) → inner expand vars f ≡ form g → IsTrue (has_true_leaf expand vars (nodes expand vars f)) ⊎ (length (nodes expand vars f) ≤ limit)
      → limit < 2 ^ 32 → count f < 2 ^ 50 → count g < 2 ^ 50
  inner_small f good g limit = by_leaf (has_true_leaf expand vars (nodes expand vars f)) refl
    where
      together : Formula
      together = Or (trees_of (leaves expand vars (nodes expand vars f)))

      by_failure : (o : Option (List Step × F)) → or_form expand vars o (simplified together) ≡ form g → length (nodes expand vars f) ≤ limit → limit < 2 ^ 32 → count f < 2 ^ 50 → count g < 2 ^ 50
      by_failure None is most few small =
          let same : simplified together ≡ g = cc in
          let size = (sound.keeps together (joined_fine Good expand sound vars f good)).size in
          let sum = joined_size f good in
          subst (λ h. count h < 2 ^ 50) same (omega arith)
      by_failure (Some e) is most few small = absurd (cc)

      by_leaf : (b : Bool) → has_true_leaf expand vars (nodes expand vars f) ≡ b → cond b (form True) (or_form expand vars (first_failure expand vars (nodes expand vars f)) (simplified together)) ≡ form g
          → IsTrue b ⊎ (length (nodes expand vars f) ≤ limit) → limit < 2 ^ 32 → count f < 2 ^ 50 → count g < 2 ^ 50
      by_leaf true test is fits few small = let same : True ≡ g = cc in subst (λ h. count h < 2 ^ 50) same (omega arith)
      by_leaf false test is (inl never) few small = absurd (cc)
      by_leaf false test is (inr most) few small = by_failure (first_failure expand vars (nodes expand vars f)) is most few small

module _ {F : Type 0} (Good : Formula → Type 0) (expand : Expansion F) (sound : IsSound Good expand) where
  result_small : (kind : QuantifierKind) (h : Formula) → IsFine h → count h < 2 ^ 50 → count (result_for kind h) < 2 ^ 50
  result_small exists h fine small = small
  result_small for_all h fine small = ready_small Good (negated h) (fine_ready Good expand sound (negated h) (negated_fine h fine)) (matrix_small for_all h small)

  -- the formula that a block gives
  pub block_small : (b : Block) (n : ℕ) (m g : Formula) (limit : ℕ) → IsReady Good (matrix_for b.kind m) → block_over expand b n (given m) ≡ given g → Fits expand limit b m → limit < 2 ^ 32 → count m < 2 ^ 50 → count g < 2 ^ 50
  block_small b n m g limit ready = by_inner (inner expand b.vars (root b.kind m)) refl
    where
      by_inner : (i : Inner F) → inner expand b.vars (root b.kind m) ≡ i → of_inner expand b.kind n i ≡ given g → Fits expand limit b m → limit < 2 ^ 32 → count m < 2 ^ 50 → count g < 2 ^ 50
      by_inner (form h) is gives fits few small =
          let same : result_for b.kind h ≡ g = cc in
          subst (λ k. count k < 2 ^ 50) same (result_small b.kind h (inner_stands Good expand sound b.vars (root b.kind m) ready.good h is).fine
          (inner_small Good expand sound b.vars (root b.kind m) ready.good h limit is fits few (root_small Good b.kind m ready small)))
      by_inner (node path s) is gives fits few small = absurd (cc)
