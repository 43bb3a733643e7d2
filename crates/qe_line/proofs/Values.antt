-- The values of roots: there is one, and it stays where p, q and d are turned round; and just above a value by a distance.
use Rattle.std.proofs.Common.{[], ◌∷◌, refl, sym, subst}
use Rattle.qe_ring.specs.Ring.{Operations, difference}
use Rattle.qe_ring.specs.Expression.{var, unit, ◌⊕◌, ⊖◌, ◌⊗◌, ◌⊝◌}
use Rattle.qe_ring.specs.Sign.{Sign, is_not_zero, IsNotMinus, IsNotZero, opposite}
use Rattle.qe_ring.specs.Ordered.{EqualBySign}
use Rattle.qe_ring.proofs.Finite.{any, given, Claim, decide}
use Rattle.qe_ring.proofs.Hypotheses.{fact}
use Rattle.qe_line.specs.Field.{IsEuclideanField}
use Rattle.qe_line.specs.Place.{above, IsPlus, HoldsJustAbove}
use Rattle.qe_line.specs.Quadratic.{IsRootValue}
use Rattle.qe_line.proofs.Field.{same, equal_by}
use Rattle.qe_line.proofs.Places.{There}

abbrev Turned : Claim (any ∷ given ∷ [])
Turned a = (is_not_zero a, λ _. is_not_zero (opposite a))

module _ {C : Type 0} {o : Operations C} {s : C → Sign} (F : IsEuclideanField o s) where
  open o use {one, add, neg, mul}
  open F use {ordered, inverts, roots}

  -- where d is not zero and r not minus, (p + q*sqrt(r))/d has a value
  pub has_value : (p q r d : C) → IsNotZero (s d) → IsNotMinus (s r) → (v : C) × IsRootValue o s p q r d v
  has_value p q r d hd hr = (
    mul (add p (mul q w.0)) i.0,
    record {
      divisor = hd;
      radicand = hr;
      root = w.0;
      not-minus = w.1.0;
      square = w.1.1;
      value = equal_by F (d ∷ p ∷ q ∷ w.0 ∷ i.0 ∷ []) (fact (var 1 ⊕ var 2 ⊗ var 3) (var 0 ⊗ var 4) unit ∷ [])
          (var 0 ⊗ ((var 1 ⊕ var 2 ⊗ var 3) ⊗ var 4)) (var 1 ⊕ var 2 ⊗ var 3) (i.1, tt) refl;
    },
  )
    where
      w : (w : C) × (IsNotMinus (s w) × EqualBySign o s (mul w w) r)
      w = roots r hr

      i : (m : C) × EqualBySign o s (mul d m) one
      i = inverts d hd

  -- with p, q and d turned round it is the same value
  pub value_turned : (p q r d v : C) → IsRootValue o s p q r d v → IsRootValue o s (neg p) (neg q) r (neg d) v
  value_turned p q r d v h = record {
    divisor = subst (λ z. IsNotZero z) (sym (ordered.sign-neg d)) (decide (any ∷ given ∷ []) Turned tt (s d) h.divisor);
    radicand = h.radicand;
    root = h.root;
    not-minus = h.not-minus;
    square = h.square;
    value = equal_by F (p ∷ q ∷ d ∷ v ∷ h.root ∷ []) (fact (⊖ unit) (var 2 ⊗ var 3) (var 0 ⊕ var 1 ⊗ var 4) ∷ [])
        (⊖ var 2 ⊗ var 3) (⊖ var 0 ⊕ ⊖ var 1 ⊗ var 4) (h.value, tt) refl;
  }

  -- what holds just above v holds up to some distance
  pub by_distance : (v : C) (P : C → Type 0) → There o s (above v) P → HoldsJustAbove o s v P
  by_distance v P h = (
    difference o h.is.0 v,
    (
      h.is.1.0,
      λ u k l. h.is.1.1 u k (subst (λ z. IsPlus z)
          (same F (u ∷ v ∷ h.is.0 ∷ []) (var 1 ⊕ (var 2 ⊝ var 1) ⊝ var 0) (var 2 ⊝ var 0) refl) l),
    ),
  )

  -- and the other way
  pub by_end : (v : C) (P : C → Type 0) → HoldsJustAbove o s v P → There o s (above v) P
  by_end v P h = record {
    is = (add v h.0, (subst (λ z. IsPlus z) (sym (same F (v ∷ h.0 ∷ []) (var 0 ⊕ var 1 ⊝ var 0) (var 1) refl)) h.1.0, h.1.1));
  }
