-- What holds of spots as pieces.
use Rattle.std.specs.Prelude.{◌≡◌, ℕ, suc, ◌<◌, ◌-◌, ◌+◌, Bool, true, false, cond, nat_lt, eqb, ◌&&◌, List, [], ◌∷◌, ◌↔◌, IsTrue}
use Rattle.std.proofs.Common.{arith, ap}
use Rattle.std.proofs.lemmas.Bool.{eq-eqb, eqb-true}
use Rattle.std.proofs.lemmas.Bool.Decides.{nat_tests}
use Rattle.std.proofs.lemmas.List.Elements.{All-nil, All-cons}
use Rattle.qe_ring.proofs.Bools.{both_hold}
use Rattle.qe_piece.specs.Meaning.{Child, Descends, gives, fails}
use Rattle.qe_board_tests.specs.declared.spot.Spot.{Spot}
use Rattle.qe_board_tests.specs.Spots.{key_of, number, marks, does_fail, is_leaf_key, is_true_key, height_of, child, children, meaning_of}

-- spots are equal, part by part, exactly where their keys are
pub same_is_key : (x y : Spot) → IsTrue (eqb x.number y.number && (eqb x.marks.fails_from y.marks.fails_from && (eqb x.marks.fails_to y.marks.fails_to && eqb x.marks.true_leaf y.marks.true_leaf))) ↔ (key_of x ≡ key_of y)
same_is_key x y = (
  λ holds.
      let first = both_hold _ _ holds in
      let second = both_hold _ _ first.1 in
      let third = both_hold _ _ second.1 in
      λ i. eqb-true x.number y.number first.0 i
      ∷ eqb-true x.marks.fails_from y.marks.fails_from second.0 i
      ∷ eqb-true x.marks.fails_to y.marks.fails_to third.0 i
      ∷ eqb-true x.marks.true_leaf y.marks.true_leaf third.1 i
      ∷ [],
  λ same. λ i. eq-eqb x.number y.number (ap number same) i
      && (eq-eqb x.marks.fails_from y.marks.fails_from (ap (λ k. number (marks k)) same) i
      && (eq-eqb x.marks.fails_to y.marks.fails_to (ap (λ k. number (marks (marks k))) same) i
      && eq-eqb x.marks.true_leaf y.marks.true_leaf (ap (λ k. number (marks (marks (marks k)))) same) i)),
)

pub true_is_leaf : (k : List ℕ) → is_true_key k ≡ true → is_leaf_key k ≡ true
true_is_leaf k holds = (both_hold (is_leaf_key k) _ holds).0

lower : (n by : ℕ) → nat_lt 5 n ≡ false → 9 - (n + suc by) < 9 - n
lower n by inner = grind (arith, nat_tests)

pub descends : (k : List ℕ) → is_leaf_key k ≡ false → Descends height_of (height_of k) (meaning_of k)
descends k inner = at (does_fail k)
  where
    at : (b : Bool) → Descends height_of (height_of k) (cond b (fails (number k)) (gives (children k)))
    at true = tt
    at false =
        All-cons (λ (c : Child). height_of c.key < height_of k) (child 1 k) (child 2 k ∷ child 4 k ∷ []) (lower (number k) 0 inner)
        (All-cons (λ (c : Child). height_of c.key < height_of k) (child 2 k) (child 4 k ∷ []) (lower (number k) 1 inner)
        (All-cons (λ (c : Child). height_of c.key < height_of k) (child 4 k) [] (lower (number k) 3 inner)
        (All-nil (λ (c : Child). height_of c.key < height_of k))))
