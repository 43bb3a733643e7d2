-- What a block gives stands for the block, and what elimination gives for the prenex form.
use Rattle.std.proofs.Common.{ℕ, suc, ◌≡◌, refl, subst, inl, inr, Bool, true, false, cond, List, [], ◌∷◌, Option, Some, None, arith}
use Rattle.qe_tower.specs.Point.{Point, IsPoint}
use Rattle.qe_poly.specs.Polynomial.{IsPolynomial}
use Rattle.qe_form.specs.Formula.{Formula, True, Or}
use Rattle.qe_form.specs.Tree.{trees_of}
use Rattle.qe_form.specs.Truth.{Is}
use Rattle.qe_form.specs.Measures.{Has}
use Rattle.qe_form.specs.Negation.{negated}
use Rattle.qe_form.specs.Plain.{ArePlainWith}
use Rattle.qe_form.specs.Same.{IsFree, IsFreeInSome, HasNoQuantifier}
use Rattle.qe_form.proofs.Occurring.{occurring_is_free}
use Rattle.qe_simp.specs.Simplified.{simplified}
use Rattle.qe_form.specs.Blocks.{QuantifierKind, exists, for_all, Block, under_each, under_blocks}
use Rattle.qe_tree.specs.Variables.{remaining, under_ex}
use Rattle.qe_tree.specs.Expanded.{Expansion}
use Rattle.qe_tree.specs.Tree.{Step, Place, Inner, form, node, is_empty, is_leaf, places, height, nodes, leaves, first_failure, has_true_leaf, or_form, inner}
use Rattle.qe_tree.specs.Sound.{IsIn, Each, IsFine, IsReady, IsSound}
use Rattle.qe_tree.specs.Block.{matrix_for, root, result_for, Eliminated, given, stopped, of_inner, block_over, eliminated_from, eliminated}
use Rattle.qe_tree.proofs.Occurs.{is_left}
use Rattle.qe_tree.proofs.Quantified.{whole_is}
use Rattle.qe_tree.proofs.Growth.{fine_no_quantifier}
use Rattle.qe_tree.proofs.Walks.{EachForm, SomeForm, good_walk, has_walk}
use Rattle.qe_tree.proofs.FirstPlaces.{each_firsts, firsts_each, firsts_some, some_firsts}
use Rattle.qe_tree.proofs.Leaves.{LeafIs, Sound, has_true_some, no_failure, leaves_true, leaves_each, leaf_makes_true, true_has_leaf}
use Rattle.qe_tree.proofs.Stands.{Stands, keeps_stands, stands_itself, then_stands, stands_under_each, free_under_ex, agree_by_truth, negated_fine, stands_for_all}

module _ {F : Type 0} (Good : Formula → Type 0) (expand : Expansion F) (sound : IsSound Good expand) where
  -- a formula of the method that stands for f
  pub record StandsFine (f g : Formula) : Type 0 where
    pub fine : IsFine g
    pub stands : Stands f g

  simplified_fine : (f : Formula) → IsFine f → IsFine (simplified f)
  simplified_fine f fine = sound.fine (simplified f) (sound.good f fine)

  simplified_stands : (f : Formula) → IsFine f → Stands f (simplified f)
  simplified_stands f fine = keeps_stands f (simplified f) (sound.keeps f fine)

  pub fine_ready : (f : Formula) → IsFine f → IsReady Good f
  fine_ready f fine = record { good = sound.good f fine; keeps = sound.keeps f fine }

  module _ (vars : List ℕ) (f : Formula) (good : Good f) where
    abbrev all_places : List Place
    all_places = places expand vars f

    abbrev pub all_nodes : List Place
    all_nodes = nodes expand vars f

    none : HasNoQuantifier f
    none = fine_no_quantifier f (sound.fine f good)

    -- a true leaf makes the block true
    true_by_leaf : (p : Point) → IsPoint p → SomeForm (LeafIs expand vars p) all_nodes → Is (under_ex vars f) true p
    true_by_leaf p valid some =
        (whole_is vars f none p valid).1 (leaf_makes_true Good expand sound vars (height expand vars f) [] f good p valid (firsts_some (LeafIs expand vars p) [] all_places some))

    -- where no node fails, a true block has a true leaf
    leaf_by_true : first_failure expand vars all_nodes ≡ None → (p : Point) → IsPoint p → Is (under_ex vars f) true p → SomeForm (LeafIs expand vars p) all_nodes
    leaf_by_true fine p valid t =
        some_firsts (LeafIs expand vars p) all_places (true_has_leaf Good expand sound vars (height expand vars f) [] f good (omega arith) p valid
        (firsts_each (Sound expand vars) [] all_places tt (no_failure expand vars all_nodes fine))
        ((whole_is vars f none p valid).0 t))

    -- ---- the leaves

    -- what is known of each leaf
    abbrev LeafFacts : Formula → Type 0
    LeafFacts g = (is_leaf expand vars g ≡ true) × (Good g × ((y : ℕ) → Has y g → Has y f))

    each_leaf : Each LeafFacts (leaves expand vars all_nodes)
    each_leaf = leaves_each expand vars Kept all_nodes (each_firsts Kept [] all_places (both all_places (good_walk Good expand sound vars n [] f good) (has_walk Good expand sound vars n [] f good)))
      where
        n : ℕ
        n = height expand vars f

        Kept : Formula → Type 0
        Kept g = Good g × ((y : ℕ) → Has y g → Has y f)

        both : (ps : List Place) → EachForm Good ps → EachForm (λ g. (y : ℕ) → Has y g → Has y f) ps → EachForm Kept ps
        both [] one two = tt
        both (p ∷ ps) one two = ((one.0, two.0), both ps one.1 two.1)

    fine_leaves : (gs : List Formula) → Each LeafFacts gs → ArePlainWith (λ a. IsPolynomial a.poly) (trees_of gs)
    fine_leaves [] each = tt
    fine_leaves (g ∷ gs) each = (sound.fine g each.0.1.0, fine_leaves gs each.1)

    none_left : (y : ℕ) (l : List ℕ) → is_empty l ≡ true → IsIn y l → ⊥
    none_left y [] test h = h
    none_left y (x ∷ xs) test h = absurd (cc)

    free_in_leaves : (gs : List Formula) → Each LeafFacts gs → (y : ℕ) → IsFreeInSome y (trees_of gs) → IsFree y (under_ex vars f)
    free_in_leaves [] each y h = absurd h
    free_in_leaves (g ∷ gs) each y h = elim h [
      | inl here ↦
          let has = (occurring_is_free y g (fine_no_quantifier g (sound.fine g each.0.1.0))).1 here in
          free_under_ex vars f y (λ k. none_left y (remaining vars g) each.0.0 (is_left vars g y k has)) ((occurring_is_free y f none).0 (each.0.1.1 y has))
      | inr later ↦ free_in_leaves gs each.1 y later
    ]

    abbrev pub joined : Formula
    joined = Or (trees_of (leaves expand vars all_nodes))

    pub joined_fine : IsFine joined
    joined_fine = fine_leaves (leaves expand vars all_nodes) each_leaf

    joined_stands : first_failure expand vars all_nodes ≡ None → Stands (under_ex vars f) joined
    joined_stands fine = record {
      free = λ y h. free_in_leaves (leaves expand vars all_nodes) each_leaf y h;
      agree = λ p valid. agree_by_truth vars f joined none (fine_no_quantifier joined joined_fine) p (
        (λ t. (leaves_true expand vars p all_nodes).0 (leaf_by_true fine p valid t)),
        (λ t. true_by_leaf p valid ((leaves_true expand vars p all_nodes).1 t)),
      );
    }

    -- ---- the inner result

    true_stands : has_true_leaf expand vars all_nodes ≡ true → StandsFine (under_ex vars f) True
    true_stands test = record {
      fine = tt;
      stands = record {
        free = λ y h. absurd h;
        agree = λ p valid. agree_by_truth vars f True none tt p ((λ t. refl), (λ t. true_by_leaf p valid (has_true_some expand vars p all_nodes test)));
      };
    }

    leaves_stand : first_failure expand vars all_nodes ≡ None → StandsFine (under_ex vars f) (simplified joined)
    leaves_stand fine = record {
      fine = simplified_fine joined joined_fine;
      stands = then_stands (under_ex vars f) joined (simplified joined) (joined_stands fine) (simplified_stands joined joined_fine);
    }

    pub inner_stands : (g : Formula) → inner expand vars f ≡ form g → StandsFine (under_ex vars f) g
    inner_stands g = by_leaf (has_true_leaf expand vars all_nodes) refl
      where
        by_failure : (o : Option (List Step × F)) → first_failure expand vars all_nodes ≡ o → or_form expand vars o (simplified joined) ≡ form g → StandsFine (under_ex vars f) g
        by_failure None fine is = let same : simplified joined ≡ g = cc in subst (StandsFine (under_ex vars f)) same (leaves_stand fine)
        by_failure (Some e) fault is = absurd (cc)

        by_leaf : (b : Bool) → has_true_leaf expand vars all_nodes ≡ b → cond b (form True) (or_form expand vars (first_failure expand vars all_nodes) (simplified joined)) ≡ form g → StandsFine (under_ex vars f) g
        by_leaf true test is = let same : True ≡ g = cc in subst (StandsFine (under_ex vars f)) same (true_stands test)
        by_leaf false test is = by_failure (first_failure expand vars all_nodes) refl is

  -- ---- blocks

  matrix_fine : (kind : QuantifierKind) (m : Formula) → IsFine m → IsFine (matrix_for kind m)
  matrix_fine exists m fine = fine
  matrix_fine for_all m fine = negated_fine m fine

  -- what the tree of the block gives over a matrix
  tree_stands : (kind : QuantifierKind) (vars : List ℕ) (m h : Formula) → IsReady Good (matrix_for kind m) → inner expand vars (root kind m) ≡ form h → StandsFine (under_each kind vars m) (result_for kind h)
  tree_stands exists vars m h ready is =
      let w = inner_stands vars (simplified m) ready.good h is in
      record {
        fine = w.fine;
        stands = then_stands (under_ex vars m) (under_ex vars (simplified m)) h (stands_under_each exists vars m (simplified m) (keeps_stands m (simplified m) ready.keeps)) w.stands;
      }
  tree_stands for_all vars m h ready is =
      let w = inner_stands vars (simplified (negated m)) ready.good h is in
      let root_stands = keeps_stands (negated m) (simplified (negated m)) ready.keeps in
      let ex = then_stands (under_ex vars (negated m)) (under_ex vars (simplified (negated m))) h (stands_under_each exists vars (negated m) (simplified (negated m)) root_stands) w.stands in
      let result_fine = negated_fine h w.fine in
      record {
        fine = simplified_fine (negated h) result_fine;
        stands = then_stands (under_each for_all vars m) (negated h) (simplified (negated h)) (stands_for_all vars m h ex) (simplified_stands (negated h) result_fine);
      }

  -- what the block gives over a matrix that stands for f
  pub block_stands : (b : Block) (n : ℕ) (f m g : Formula) → Stands f m → IsReady Good (matrix_for b.kind m) → block_over expand b n (given m) ≡ given g → StandsFine (under_each b.kind b.vars f) g
  block_stands b n f m g s ready = by_inner (inner expand b.vars (root b.kind m)) refl
    where
      by_inner : (i : Inner F) → inner expand b.vars (root b.kind m) ≡ i → of_inner expand b.kind n i ≡ given g → StandsFine (under_each b.kind b.vars f) g
      by_inner (form h) is gives =
          let w = tree_stands b.kind b.vars m h ready is in
          let same : result_for b.kind h ≡ g = cc in
          subst (StandsFine (under_each b.kind b.vars f)) same (record {
            fine = w.fine;
            stands = then_stands (under_each b.kind b.vars f) (under_each b.kind b.vars m) (result_for b.kind h) (stands_under_each b.kind b.vars f m s) w.stands;
          })
      by_inner (node path s) is gives = absurd (cc)

  over_block : (b : Block) (n : ℕ) (f g : Formula) (e : Eliminated F) → ((m : Formula) → e ≡ given m → StandsFine f m) → block_over expand b n e ≡ given g → StandsFine (under_each b.kind b.vars f) g
  over_block b n f g (given m) further gives =
      let w = further m refl in
      block_stands b n f m g w.stands (fine_ready (matrix_for b.kind m) (matrix_fine b.kind m w.fine)) gives
  over_block b n f g (stopped k path s) further gives = absurd (cc)

  from_stands : (n : ℕ) (bs : List Block) (m g : Formula) → IsFine m → eliminated_from expand n bs m ≡ given g → StandsFine (under_blocks bs m) g
  from_stands n [] m g fine is = let same : m ≡ g = cc in subst (StandsFine m) same (record { fine = fine; stands = stands_itself m })
  from_stands n (b ∷ bs) m g fine is = over_block b n (under_blocks bs m) g (eliminated_from expand (suc n) bs m) (λ h e. from_stands (suc n) bs m h fine e) is

  pub eliminated_stands : (bs : List Block) (m g : Formula) → IsFine m → eliminated expand bs m ≡ given g → StandsFine (under_blocks bs m) g
  eliminated_stands [] m g fine is = let same : simplified m ≡ g = cc in subst (StandsFine m) same (record { fine = simplified_fine m fine; stands = simplified_stands m fine })
  eliminated_stands (b ∷ bs) m g fine is = from_stands 1 (b ∷ bs) m g fine is
