-- Equal values stand for one another in polynomials and roots; and two values of one root are equal.
use Rattle.std.proofs.Common.{◌≡◌, pos, [], ◌∷◌, refl, sym, subst, ◌∙◌}
use Rattle.qe_ring.specs.Ring.{Operations, difference}
use Rattle.qe_ring.specs.Expression.{var, nought, unit, constant, of_int, ◌⊕◌, ⊖◌, ◌⊗◌, ◌⊝◌}
use Rattle.qe_ring.specs.Sign.{Sign, Zero, is_not_zero, IsNotMinus, IsNotZero, is, ◌·◌}
use Rattle.qe_ring.specs.Ordered.{EqualBySign}
use Rattle.qe_ring.proofs.Finite.{any, given, Claim, decide, is-eq, to_is}
use Rattle.qe_ring.proofs.Hypotheses.{fact}
use Rattle.qe_ring.proofs.Roots.{one_root}
use Rattle.qe_line.specs.Field.{IsEuclideanField}
use Rattle.qe_line.specs.Quadratic.{Kind, linear, upper, lower, quadratic, discriminant, IsRootValue, IsRootOfKind, IsRoot}
use Rattle.qe_line.proofs.Field.{equal_by, same_by}

abbrev Cancelled : Claim (any ∷ given ∷ any ∷ given ∷ [])
Cancelled d = (is_not_zero d, λ _ f. (is (d · f) Zero, λ _. is f Zero))

module _ {C : Type 0} {o : Operations C} {s : C → Sign} (F : IsEuclideanField o s) where
  open o use {zero, one, add, neg, mul}
  open F use {ordered}

  -- equal values
  abbrev E : C → C → Type 0
  E = EqualBySign o s

  -- two values of one root are equal
  pub one_value : (p q r d u v : C) → IsRootValue o s p q r d u → IsRootValue o s p q r d v → EqualBySign o s u v
  one_value p q r d u v h k = is-eq (s (difference o u v)) Zero
      (decide (any ∷ given ∷ any ∷ given ∷ []) Cancelled tt (s d) h.divisor (s (difference o u v))
      (to_is (s d · s (difference o u v)) Zero
      (same_by F (u ∷ v ∷ d ∷ p ∷ q ∷ h.root ∷ k.root ∷ [])
      (fact unit (var 2 ⊗ var 0) (var 3 ⊕ var 4 ⊗ var 5) ∷ fact (⊖ unit) (var 2 ⊗ var 1) (var 3 ⊕ var 4 ⊗ var 6) ∷ fact (var 4) (var 5) (var 6) ∷ [])
      (var 2 ⊗ (var 0 ⊝ var 1)) nought (h.value, (k.value, (roots_equal, tt))) refl)))
    where
      squares : EqualBySign o s (mul h.root h.root) (mul k.root k.root)
      squares = equal_by F (h.root ∷ k.root ∷ r ∷ []) (fact unit (var 0 ⊗ var 0) (var 2) ∷ fact (⊖ unit) (var 1 ⊗ var 1) (var 2) ∷ [])
          (var 0 ⊗ var 0) (var 1 ⊗ var 1) (h.square, (k.square, tt)) refl

      roots_equal : EqualBySign o s h.root k.root
      roots_equal = one_root o s (EqualBySign o s) ordered h.root k.root h.not-minus k.not-minus squares

  -- polynomials with equal coefficients have one sign at equal values
  pub quadratic_same : (a b c x a' b' c' x' : C) → E a a' → E b b' → E c c' → E x x' → s (quadratic o a b c x) ≡ s (quadratic o a' b' c' x')
  quadratic_same a b c x a' b' c' x' ha hb hc hx = same_by F (a ∷ b ∷ c ∷ x ∷ a' ∷ b' ∷ c' ∷ x' ∷ [])
      (fact (var 3 ⊗ var 3) (var 0) (var 4) ∷ fact (var 3) (var 1) (var 5) ∷ fact unit (var 2) (var 6)
      ∷ fact (var 4 ⊗ (var 3 ⊕ var 7) ⊕ var 5) (var 3) (var 7) ∷ [])
      (var 0 ⊗ (var 3 ⊗ var 3) ⊕ var 1 ⊗ var 3 ⊕ var 2) (var 4 ⊗ (var 7 ⊗ var 7) ⊕ var 5 ⊗ var 7 ⊕ var 6) (ha, (hb, (hc, (hx, tt)))) refl

  -- a value of a root is one of an equal root
  pub value_same : (p q r d v p' q' r' d' v' : C) → E p p' → E q q' → E r r' → E d d' → E v v'
      → IsRootValue o s p q r d v → IsRootValue o s p' q' r' d' v'
  value_same p q r d v p' q' r' d' v' hp hq hr hd hv h = record {
    divisor = subst (λ z. IsNotZero z) (ordered.sign-same d d' hd) h.divisor;
    radicand = subst (λ z. IsNotMinus z) (ordered.sign-same r r' hr) h.radicand;
    root = h.root;
    not-minus = h.not-minus;
    square = ordered.ring.then (mul h.root h.root) r r' h.square hr;
    value = equal_by F (p ∷ q ∷ d ∷ v ∷ p' ∷ q' ∷ d' ∷ v' ∷ h.root ∷ [])
        (fact unit (var 2 ⊗ var 3) (var 0 ⊕ var 1 ⊗ var 8) ∷ fact (⊖ var 3) (var 2) (var 6) ∷ fact (⊖ var 6) (var 3) (var 7)
        ∷ fact unit (var 0) (var 4) ∷ fact (var 8) (var 1) (var 5) ∷ [])
        (var 6 ⊗ var 7) (var 4 ⊕ var 5 ⊗ var 8) (h.value, (hd, (hv, (hp, (hq, tt))))) refl;
  }

  twice_same : (a a' : C) → E a a' → E (mul (of_int o (pos 2)) a) (mul (of_int o (pos 2)) a')
  twice_same a a' ha = ordered.ring.mul-same (of_int o (pos 2)) (of_int o (pos 2)) a a' (ordered.ring.same (of_int o (pos 2))) ha

  discriminant_same : (a b c a' b' c' : C) → E a a' → E b b' → E c c' → E (discriminant o a b c) (discriminant o a' b' c')
  discriminant_same a b c a' b' c' ha hb hc = equal_by F (a ∷ b ∷ c ∷ a' ∷ b' ∷ c' ∷ [])
      (fact (⊖ (constant (pos 4) ⊗ var 2)) (var 0) (var 3) ∷ fact (var 1 ⊕ var 4) (var 1) (var 4) ∷ fact (⊖ (constant (pos 4) ⊗ var 3)) (var 2) (var 5) ∷ [])
      (var 1 ⊗ var 1 ⊝ constant (pos 4) ⊗ (var 0 ⊗ var 2)) (var 4 ⊗ var 4 ⊝ constant (pos 4) ⊗ (var 3 ⊗ var 5)) (ha, (hb, (hc, tt))) refl

  -- and a root of a polynomial is one of an equal polynomial
  pub root_of_kind_same : (k : Kind) (a b c v a' b' c' v' : C) → E a a' → E b b' → E c c' → E v v'
      → IsRootOfKind o s k a b c v → IsRootOfKind o s k a' b' c' v'
  root_of_kind_same linear a b c v a' b' c' v' ha hb hc hv h = (
    sym (ordered.sign-same a a' ha) ∙ h.0,
    value_same (neg c) zero zero b v (neg c') zero zero b' v' (ordered.ring.neg-same c c' hc) (ordered.ring.same zero) (ordered.ring.same zero) hb hv h.1,
  )
  root_of_kind_same upper a b c v a' b' c' v' ha hb hc hv h =
      value_same (neg b) one (discriminant o a b c) (mul (of_int o (pos 2)) a) v
      (neg b') one (discriminant o a' b' c') (mul (of_int o (pos 2)) a') v'
      (ordered.ring.neg-same b b' hb) (ordered.ring.same one) (discriminant_same a b c a' b' c' ha hb hc) (twice_same a a' ha) hv h
  root_of_kind_same lower a b c v a' b' c' v' ha hb hc hv h =
      value_same (neg b) (neg one) (discriminant o a b c) (mul (of_int o (pos 2)) a) v
      (neg b') (neg one) (discriminant o a' b' c') (mul (of_int o (pos 2)) a') v'
      (ordered.ring.neg-same b b' hb) (ordered.ring.same (neg one)) (discriminant_same a b c a' b' c' ha hb hc) (twice_same a a' ha) hv h

  -- of whichever kind
  pub root_same : (a b c v a' b' c' v' : C) → E a a' → E b b' → E c c' → E v v' → IsRoot o s a b c v → IsRoot o s a' b' c' v'
  root_same a b c v a' b' c' v' ha hb hc hv (k, h) = (k, root_of_kind_same k a b c v a' b' c' v' ha hb hc hv h)
