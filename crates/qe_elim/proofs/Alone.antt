-- From one block to all: where a block stops, so does the whole; and what is given means the same as the prenex form.
use Rattle.std.proofs.Common.{ℕ, zero, suc, ◌≡◌, ◌≢◌, ◌∙◌, sym, ap, subst, ◌+◌, ◌^◌, ◌<◌, get_or, inl, inr, false, nat_eq, List, [], ◌∷◌, ◌++◌, drop, length, Result, Ok, Err, arith}
use Rattle.std.specs.Prelude.{AllPairs}
use Rattle.std.proofs.Math.Seq.{drop-cons, drop-length}
use Rattle.std.specs.List.{IsDistinct, AllByRecursion}
use Rattle.std.proofs.lemmas.Bool.Decides.{Decides-eqb}
use Rattle.std.proofs.lemmas.Map.Made.{AllPairs-from_IsDistinct}
use Rattle.qe_form.specs.Formula.{Formula}
use Rattle.qe_form.specs.Tree.{tree}
use Rattle.qe_form.specs.Measures.{count}
use Rattle.qe_form.specs.declared.form.Form.{Form}
use Rattle.qe_form.specs.Plain.{IsPlain}
use Rattle.qe_form.specs.Blocks.{Block, under_each, under_blocks, bound_by}
use Rattle.qe_tree.specs.Tree.{Step}
use Rattle.qe_tree.specs.Sound.{IsReady}
use Rattle.qe_tree.specs.Block.{root, matrix_for, given, stopped, block_over, eliminated_from, eliminated, EachBlock, AtBlock, IfGiven}
use Rattle.qe_tree.proofs.Stands.{Stands, stands_itself}
use Rattle.qe_tree.proofs.Growth.{fine_plain}
use Rattle.qe_tree.proofs.Blocks.{StandsFine, block_stands}
use Rattle.qe_tree.proofs.Small.{block_small}
use Rattle.qe_node.specs.declared.stop.NodeStop.{NodeStop}
use Rattle.qe_node.specs.Successors.{expansion}
use Rattle.qe_elim.specs.declared.eliminate.Outcome.{Outcome}
use Rattle.qe_elim.specs.declared.eliminate.ElimStop.{ElimStop}
use Rattle.qe_elim.specs.declared.eliminate.ElimStop.TheVariants as stop
use Rattle.qe_elim.specs.Search.{steps_of}
use Rattle.qe_board.specs.Machine.{replay}
use Rattle.qe_board.proofs.PlainRuns.{only_one}
use Rattle.qe_elim.specs.Keys.{meaning, is_leaf, truth, key_of, is_limit}
use Rattle.qe_elim.specs.Answer.{KeepsLimit, GoesOn, StaysWithin, GoesBeyond, IsBlock, IsElimination, IsNoLimit}
use Rattle.qe_elim.proofs.Soundness.{Good, sound}

-- ---- numbers of blocks

module _ (m : Formula) where
  -- a stop goes through to the outermost block
  stop_outward : (j : ℕ) (path : List Step) (s : NodeStop) (k n last : ℕ) → last ≡ k + n → (bs : List Block) → eliminated_from expansion last (drop k bs) m ≡ stopped j path s → eliminated_from expansion n bs m ≡ stopped j path s
  stop_outward j path s zero n last is bs e = let same : last ≡ n = omega arith in ap (λ i. eliminated_from expansion i bs m) (sym same) ∙ e
  stop_outward j path s (suc k) n last is [] e = absurd (cc)
  stop_outward j path s (suc k) n last is (b ∷ bs) e = ap (block_over expansion b n) (stop_outward j path s k (suc n) last (omega arith) bs e)

  -- what holds of a block, by its place
  at_place : (P Q : Block → Formula → Type 0) (b : Block) (rest : List Block) (g : Formula) (k n last : ℕ) → last ≡ k + n → (bs : List Block) → drop k bs ≡ b ∷ rest
      → EachBlock expansion Q (suc last) rest m → eliminated_from expansion (suc last) rest m ≡ given g → P b g → AtBlock expansion P Q last n bs m
  at_place P Q b rest g zero n last is [] same each e p = absurd (cc)
  at_place P Q b rest g zero n last is (c ∷ bs) same each e p =
      let number : last ≡ n = omega arith in
      let first : b ≡ c = cc in
      let others : rest ≡ bs = cc in
      inl (
        number,
        (
          subst (λ cs. EachBlock expansion Q (suc n) cs m) others (subst (λ i. EachBlock expansion Q (suc i) rest m) number each),
          (g, ((λ i. eliminated_from expansion (suc (sym number i)) (sym others i) m) ∙ e, subst (λ d. P d g) first p)),
        ),
      )
  at_place P Q b rest g (suc k) n last is [] same each e p = absurd (cc)
  at_place P Q b rest g (suc k) n last is (c ∷ bs) same each e p = inr (at_place P Q b rest g k (suc n) last (omega arith) bs same each e p)

  -- ---- the blocks that are eliminated

  -- the blocks from this place on give the form, each fits, and the form is plain and stands for them over the matrix
  pub record IsEliminated (limit : ℕ) (bs : List Block) (left : ℕ) (g : Formula) : Type 0 where
    pub gives : eliminated_from expansion (suc left) (drop left bs) m ≡ given g
    pub fits : EachBlock expansion (GoesOn limit) (suc left) (drop left bs) m
    pub plain : IsPlain g
    pub stands : Stands (under_blocks (drop left bs) m) g

  -- before the innermost block
  pub none_eliminated : (limit : ℕ) (bs : List Block) (g : Formula) → IsPlain m → g ≡ m → IsEliminated limit bs (length bs) g
  none_eliminated limit bs g plain same = subst (IsEliminated limit bs (length bs)) (sym same) (record {
    gives = ap (λ cs. eliminated_from expansion (suc (length bs)) cs m) none;
    fits = subst (λ cs. EachBlock expansion (GoesOn limit) (suc (length bs)) cs m) (sym none) tt;
    plain = plain;
    stands = subst (λ cs. Stands (under_blocks cs m) m) (sym none) (stands_itself m);
  })
    where
      none : drop (length bs) bs ≡ []
      none = drop-length bs

drop_next : {A : Type 0} (k : ℕ) (xs : List A) (y : A) (ys : List A) → drop k xs ≡ y ∷ ys → drop (suc k) xs ≡ ys
drop_next zero [] y ys same = absurd (cc)
drop_next zero (x ∷ xs) y ys same = cc
drop_next (suc k) [] y ys same = absurd (cc)
drop_next (suc k) (x ∷ xs) y ys same = drop_next k xs y ys same

not_empty : {A : Type 0} (k : ℕ) (y : A) (ys : List A) → drop k [] ≡ y ∷ ys → ⊥
not_empty zero y ys same = absurd (cc)
not_empty (suc k) y ys same = absurd (cc)

-- one block more
module _ (m : Formula) (limit : ℕ) (few : limit < 2 ^ 32) (bs : List Block) (k : ℕ) (b : Block) (rest : List Block) (at : drop k bs ≡ b ∷ rest)
    (g : Formula) (w : IsEliminated m limit bs (suc k) g) where
  further : eliminated_from expansion (suc (suc k)) rest m ≡ given g
  further = ap (λ cs. eliminated_from expansion (suc (suc k)) cs m) (sym (drop_next k bs b rest at)) ∙ w.gives

  further_fit : EachBlock expansion (GoesOn limit) (suc (suc k)) rest m
  further_fit = subst (λ cs. EachBlock expansion (GoesOn limit) (suc (suc k)) cs m) (drop_next k bs b rest at) w.fits

  over_is : (n : ℕ) → n ≡ suc k → eliminated_from expansion (suc k) (drop k bs) m ≡ block_over expansion b n (given g)
  over_is n is = ap (λ cs. eliminated_from expansion (suc k) cs m) at ∙ ((λ i. block_over expansion b (suc k) (further i)) ∙ ap (λ j. block_over expansion b j (given g)) (sym is))

  pub block_more : (n : ℕ) → n ≡ suc k → (f : Form) → IsBlock limit n b g (Ok f) → IsReady Good (matrix_for b.kind g) → IsEliminated m limit bs k (tree f)
  block_more n is f answer ready = record {
    gives = over_is n is ∙ answer.0;
    fits = subst (λ cs. EachBlock expansion (GoesOn limit) (suc k) cs m) (sym at) (further_fit, subst (IfGiven expansion (GoesOn limit b)) (sym further) answer.1);
    plain = fine_plain (tree f) after.fine;
    stands = subst (λ cs. Stands (under_blocks cs m) (tree f)) (sym at) after.stands;
  }
    where
      after : StandsFine Good expansion sound (under_each b.kind b.vars (under_blocks rest m)) (tree f)
      after = block_stands Good expansion sound b n (under_blocks rest m) g (tree f) (subst (λ cs. Stands (under_blocks cs m) g) (drop_next k bs b rest at) w.stands) ready answer.0

  pub more_small : (n : ℕ) (f : Form) → IsBlock limit n b g (Ok f) → IsReady Good (matrix_for b.kind g) → count g < 2 ^ 50 → count (tree f) < 2 ^ 50
  more_small n f answer ready size = block_small Good expansion sound b n g (tree f) limit ready answer.0 answer.1.0 few size

  whole_stops : (j : ℕ) (path : List Step) (s : NodeStop) (cs : List Block) → drop k cs ≡ b ∷ rest → eliminated_from expansion 1 cs m ≡ stopped j path s → eliminated expansion cs m ≡ stopped j path s
  whole_stops j path s [] here e = absurd (not_empty k b rest here)
  whole_stops j path s (c ∷ cs) here e = e

  -- the block, by its number
  block_is : (P : Block → Formula → Type 0) (j : ℕ) → j ≡ suc k → P b g → AtBlock expansion P (GoesOn limit) j 1 bs m
  block_is P j is p =
      let last : suc k ≡ k + 1 = omega arith in
      subst (λ i. AtBlock expansion P (GoesOn limit) i 1 bs m) (sym is) (at_place m P (GoesOn limit) b rest g k 1 (suc k) last bs at further_fit further p)

  pub block_stops : (n : ℕ) → n ≡ suc k → (e : ElimStop) → IsBlock limit n b g (Err e) → IsElimination limit bs m (Err e)
  block_stops n is (stop.Node j path s) answer =
      let number : j ≡ n = answer.0 in
      let last : suc k ≡ k + 1 = omega arith in
      let outward = stop_outward m n (steps_of path.items) s k 1 (suc k) last bs (over_is n is ∙ answer.1) in (
        whole_stops j (steps_of path.items) s bs at (outward ∙ ap (λ i. stopped i (steps_of path.items) s) (sym number)),
        block_is (StaysWithin limit) j (number ∙ is) answer.2,
      )
  block_stops n is (stop.NodeLimit j most) answer = (answer.1, block_is (GoesBeyond limit) j (answer.0 ∙ is) answer.2)
  block_stops n is stop.OutOfMemory answer = tt

-- the block at a place of the code's list
pub block_at : (items : List Block) (k : ℕ) (b : Block) → k < length items → b ≡ get_or items k b → drop k items ≡ b ∷ drop (suc k) items
block_at items k b within is = drop-cons items k b within ∙ ap (λ c. c ∷ drop (suc k) items) (sym is)

-- where a block's plain run does not end by the limit, it does not end by it
never_beyond : (limit k n : ℕ) (bs : List Block) (m : Formula) → EachBlock expansion (KeepsLimit limit) n bs m → AtBlock expansion (GoesBeyond limit) (GoesOn limit) k n bs m → ⊥
never_beyond limit k n [] m each beyond = beyond
never_beyond limit k n (b ∷ bs) m each (inl w) = clash (subst (IfGiven expansion (KeepsLimit limit b)) w.1.1.1.0 each.1) w.1.1.1.1
  where
    clash : KeepsLimit limit b w.1.1.0 → GoesBeyond limit b w.1.1.0 → ⊥
    clash keeps beyond =
        let passes = beyond.1 in
        let same = only_one meaning is_leaf truth limit (key_of b.vars (root b.kind w.1.1.0)) keeps.journal passes.journal keeps.plain passes.plain in
        absurd (let e = sym keeps.ends ∙ (ap (λ es. is_limit (replay meaning is_leaf truth limit (key_of b.vars (root b.kind w.1.1.0)) es).stop) same ∙ passes.ends) in cc)
never_beyond limit k n (b ∷ bs) m each (inr later) = never_beyond limit k (suc n) bs m each.0 later

pub complete : (limit : ℕ) (bs : List Block) (m : Formula) (result : Result Outcome ElimStop) → IsElimination limit bs m result → EachBlock expansion (KeepsLimit limit) 1 bs m → IsNoLimit result
complete limit bs m (Ok outcome) answer each = tt
complete limit bs m (Err (stop.Node k path s)) answer each = tt
complete limit bs m (Err (stop.NodeLimit k most)) answer each = never_beyond limit k 1 bs m each answer.1
complete limit bs m (Err stop.OutOfMemory) answer each = tt

-- ---- the variables of a block are distinct

each_part : {A : Type 0} (P : A → Type 0) (xs ys : List A) → AllByRecursion P (xs ++ ys) → AllByRecursion P xs
each_part P [] ys each = tt
each_part P (x ∷ xs) ys each = (each.0, each_part P xs ys each.1)

distinct_front : (xs ys : List ℕ) → IsDistinct nat_eq (xs ++ ys) → IsDistinct nat_eq xs
unfolding IsDistinct
distinct_front [] ys distinct = tt
distinct_front (x ∷ xs) ys distinct = (each_part (λ y. nat_eq x y ≡ false) xs ys distinct.0, distinct_front xs ys distinct.1)

distinct_back : (xs ys : List ℕ) → IsDistinct nat_eq (xs ++ ys) → IsDistinct nat_eq ys
unfolding IsDistinct
distinct_back [] ys distinct = distinct
distinct_back (x ∷ xs) ys distinct = distinct_back xs ys distinct.1

distinct_at : (bs : List Block) (k : ℕ) (b : Block) (rest : List Block) → drop k bs ≡ b ∷ rest → IsDistinct nat_eq (bound_by bs) → IsDistinct nat_eq b.vars
distinct_at [] zero b rest same distinct = absurd (cc)
distinct_at [] (suc k) b rest same distinct = absurd (cc)
distinct_at (c ∷ bs) zero b rest same distinct = let first : c ≡ b = cc in subst (λ d. IsDistinct nat_eq d.vars) first (distinct_front c.vars (bound_by bs) distinct)
distinct_at (c ∷ bs) (suc k) b rest same distinct = distinct_at bs k b rest same (distinct_back c.vars (bound_by bs) distinct)

pub block_distinct : (bs : List Block) (k : ℕ) (b : Block) (rest : List Block) → drop k bs ≡ b ∷ rest → IsDistinct nat_eq (bound_by bs) → AllPairs (λ x y. x ≢ y) b.vars
block_distinct bs k b rest same distinct = AllPairs-from_IsDistinct {eq = nat_eq} Decides-eqb b.vars (distinct_at bs k b rest same distinct)
