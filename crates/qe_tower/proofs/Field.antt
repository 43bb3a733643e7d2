-- Inverses and square roots.
use Rattle.std.proofs.Common.{◌≡◌, ℕ, zero, suc, ◌<◌, ℤ, pos, negsuc, neg_ℤ, T, List, [], ◌∷◌, refl, sym, ap, ap₂, subst, ◌∙◌}
use Rattle.qe_ring.specs.Ring.{Operations, difference}
use Rattle.qe_ring.specs.Sign.{Sign, Minus, Zero, Plus, is_not_minus, IsNotMinus, is_not_zero, IsNotZero, int_sign, is, opposite, ◌·◌, adds, pick}
use Rattle.qe_ring.specs.Ordered.{IsOrdered, EqualBySign, Inverse, Inverts, int_operations}
use Rattle.qe_ring.specs.Expression.{Expression, var, nought, unit, ◌⊕◌, ◌⊝◌, ⊖◌, ◌⊗◌}
use Rattle.qe_ring.proofs.Hypotheses.{fact, solve_by}
use Rattle.qe_ring.proofs.Finite.{any, given, Claim, decide, is-eq, by_zero}
use Rattle.qe_ring.proofs.Signs.{signs_are, same_sign, double, sign-zero}
use Rattle.qe_ring.proofs.Ints.{int_ordered}
use Rattle.qe_ring.proofs.Equal.{weaken, by_ring, equal_ring, equal_ordered}
use Rattle.qe_tower.specs.Fraction.{fraction_operations, fraction_sign}
use Rattle.qe_tower.specs.Element.{Tower, bare, over, pair_operations, operations}
use Rattle.qe_tower.specs.Sign.{sign_of_root_sum, pair_sign, sign, IsTower}
use Rattle.qe_tower.proofs.Adjoin.{norm, EqualParts, norm_law, is_pick, pair_sign-same, adjoined}
use Rattle.qe_tower.proofs.Towers.{Alike, ordered}

abbrev r₀ : Expression
r₀ = var 0

abbrev a₀ : Expression
a₀ = var 1

abbrev b₀ : Expression
b₀ = var 2

abbrev m₀ : Expression
m₀ = var 3

-- a is not zero, n is zero, and the sign of (a, b) is not: then a is not zero
abbrev Straight : Claim (any ∷ given ∷ any ∷ any ∷ any ∷ given ∷ given ∷ given ∷ [])
Straight r = (is_not_minus r, λ _ a b n. (adds (a · a) (opposite (b · b · r)) n, λ _. (is n Zero, λ _. (is_not_zero (pick n a (b · r)), λ _. is_not_zero a))))

-- (-a*m, b*m) is zero, where N(a, b) is zero and (a, b) is not
abbrev Halved : Claim (any ∷ given ∷ any ∷ any ∷ any ∷ given ∷ given ∷ given ∷ any ∷ [])
Halved r = (
  is_not_minus r,
  λ _ a b n. (
    adds (a · a) (opposite (b · b · r)) n,
    λ _. (
      is n Zero,
      λ _. (
        is_not_zero (pick n a (b · r)),
        λ _ m.
            is (pick (m · m · n) (opposite (a · m)) (b · m · r)) Zero,
      ),
    ),
  ),
)

module _ {C : Type 0} (o : Operations C) (s : C → Sign) (E : C → C → Type 0) (L : IsOrdered o s E) (r : C) (h : IsNotMinus (s r)) where
  open o use {zero, one, add, neg, mul}
  open L use {ring, sign-same, sign-one, sign-neg, sign-mul, sign-add}

  abbrev po : Operations (C × C)
  po = pair_operations o r

  abbrev ps : C × C → Sign
  ps = pair_sign o s r

  -- the parts of a pair are equal by the sign: so is the pair
  pub parts_equal : (x y : C × C) → EqualBySign o s x.0 y.0 → EqualBySign o s x.1 y.1 → EqualBySign po ps x y
  parts_equal x y p q = weaken po ps (EqualParts (EqualBySign o s)) (adjoined o s (EqualBySign o s) (equal_ordered o s E L) r h) x y (p, q)

  abbrev Nx : Expression → Expression → Expression
  Nx a b = a ⊗ a ⊝ b ⊗ b ⊗ r₀

  -- by the conjugate
  by_conjugate : (x : C × C) → Inverse o s (norm o r x.0 x.1) → Inverse po ps x
  by_conjugate x n = (
    (mul x.0 n.0, neg (mul x.1 n.0)),
    parts_equal (po.mul x (mul x.0 n.0, neg (mul x.1 n.0))) (one, zero)
        (solve_by o (EqualBySign o s) (equal_ring o s E L) (r ∷ x.0 ∷ x.1 ∷ n.0 ∷ []) (fact unit (Nx a₀ b₀ ⊗ m₀) unit ∷ [])
        (a₀ ⊗ (a₀ ⊗ m₀) ⊕ b₀ ⊗ ⊖ (b₀ ⊗ m₀) ⊗ r₀) unit (n.1, tt) refl)
        (by_ring o s E L (r ∷ x.0 ∷ x.1 ∷ n.0 ∷ []) (a₀ ⊗ ⊖ (b₀ ⊗ m₀) ⊕ b₀ ⊗ (a₀ ⊗ m₀)) nought refl),
  )

  not_zero_sum : (x : C × C) → T (is (s (norm o r x.0 x.1)) Zero) → IsNotZero (ps x) → IsNotZero (s (add x.0 x.0))
  not_zero_sum x hn hx = subst (λ t. IsNotZero t) (sym (double o s E L x.0))
      (decide (any ∷ given ∷ any ∷ any ∷ any ∷ given ∷ given ∷ given ∷ []) Straight tt (s r) h (s x.0) (s x.1) (s (norm o r x.0 x.1))
      (norm_law o s E L r h x) hn
      (subst (λ t. IsNotZero t) (is_pick o s E L r h x) hx))

  -- where the norm is zero: by the double of the first part
  by_double : (x : C × C) → T (is (s (norm o r x.0 x.1)) Zero) → IsNotZero (ps x) → Inverse o s (add x.0 x.0) → Inverse po ps x
  by_double x hn hx n = ((n.0, zero), same_pair ∙ is_pick o s E L r h z ∙ zero_pick)
    where
      point : List C
      point = r ∷ x.0 ∷ x.1 ∷ n.0 ∷ []

      z : C × C
      z = (neg (mul x.0 n.0), mul x.1 n.0)

      same_pair : ps (difference po (po.mul x (n.0, zero)) po.one) ≡ ps z
      same_pair = pair_sign-same o s (EqualBySign o s) (equal_ordered o s E L) r h (difference po (po.mul x (n.0, zero)) po.one) z (
        solve_by o (EqualBySign o s) (equal_ring o s E L) point (fact unit ((a₀ ⊕ a₀) ⊗ m₀) unit ∷ []) (a₀ ⊗ m₀ ⊕ b₀ ⊗ nought ⊗ r₀ ⊕ ⊖ unit)
            (⊖ (a₀ ⊗ m₀)) (n.1, tt) refl,
        by_ring o s E L point (a₀ ⊗ nought ⊕ b₀ ⊗ m₀ ⊕ ⊖ nought) (b₀ ⊗ m₀) refl,
      )

      sq : Sign
      sq = s n.0 · s n.0 · s (norm o r x.0 x.1)

      zero_pick : pick (s (norm o r z.0 z.1)) (s z.0) (s z.1 · s r) ≡ Zero
      zero_pick =
          ap (λ t. pick t (s z.0) (s z.1 · s r)) (same_sign o s E L point (Nx (⊖ (a₀ ⊗ m₀)) (b₀ ⊗ m₀)) (m₀ ⊗ m₀ ⊗ Nx a₀ b₀) refl)
          ∙ ap₂ (pick sq) (signs_are o s E L point (⊖ (a₀ ⊗ m₀))) (ap (λ t. t · s r) (sign-mul x.1 n.0))
          ∙ is-eq (pick sq (opposite (s x.0 · s n.0)) (s x.1 · s n.0 · s r)) Zero
          (decide (any ∷ given ∷ any ∷ any ∷ any ∷ given ∷ given ∷ given ∷ any ∷ []) Halved tt (s r) h (s x.0) (s x.1) (s (norm o r x.0 x.1))
          (norm_law o s E L r h x) hn
          (subst (λ t. IsNotZero t) (is_pick o s E L r h x) hx) (s n.0))

  -- where the base has inverses, the pairs have them
  pub inverts : Inverts o s → Inverts po ps
  inverts inv x hx = by_zero (s (norm o r x.0 x.1))
      (λ hn. by_double x hn hx (inv (add x.0 x.0) (not_zero_sum x hn hx)))
      (λ hn. by_conjugate x (inv (norm o r x.0 x.1) hn))

  -- the square of (0, 1) is r, and it is not negative
  pub root_squared : EqualBySign po ps (po.mul (zero, one) (zero, one)) (r, zero)
  root_squared = parts_equal (po.mul (zero, one) (zero, one)) (r, zero)
      (by_ring o s E L (r ∷ []) (nought ⊗ nought ⊕ unit ⊗ unit ⊗ r₀) r₀ refl)
      (by_ring o s E L (r ∷ []) (nought ⊗ unit ⊕ unit ⊗ nought) nought refl)

  -- (0, 1) is not minus
  pub root_sign : IsNotMinus (ps (zero, one))
  root_sign = subst (λ t. IsNotMinus
      (sign_of_root_sum t (s one) (s r) (s (norm o r zero one)) (s (difference o (mul (mul one one) r) (mul zero zero))))) (sym (sign-zero o s E L))
      (subst (λ t. IsNotMinus (sign_of_root_sum Zero t (s r) (s (norm o r zero one)) (s (difference o (mul (mul one one) r) (mul zero zero)))))
      (sym sign-one) (by_radicand (s r) (s (norm o r zero one)) (s (difference o (mul (mul one one) r) (mul zero zero)))))
    where
      by_radicand : (a b c : Sign) → IsNotMinus (sign_of_root_sum Zero Plus a b c)
      by_radicand Minus b c = tt
      by_radicand Zero b c = tt
      by_radicand Plus b c = tt

-- the inverse of p/q is q/p
fraction_inverts : Inverts fraction_operations fraction_sign
fraction_inverts x hx = go x.numerator x.denominator x.positive hx
  where
    go : (p : ℤ) (q : ℕ) (h : 0 < q) → IsNotZero (int_sign p)
        → Inverse fraction_operations fraction_sign (record { numerator = p; denominator = q; positive = h })
    go (pos zero) q h k = absurd k
    go (pos (suc n)) q h k = (
      record { numerator = pos q; denominator = suc n; positive = Prim.Native.Nat.suc-le-suc Prim.Native.Nat.zero-le },
      same_sign int_operations int_sign (λ a b. a ≡ b) int_ordered (pos (suc n) ∷ pos q ∷ []) (var 0 ⊗ var 1 ⊗ unit ⊕ ⊖ unit ⊗ (var 1 ⊗ var 0)) nought refl,
    )
    go (negsuc n) q h k = (
      record { numerator = neg_ℤ (pos q); denominator = suc n; positive = Prim.Native.Nat.suc-le-suc Prim.Native.Nat.zero-le },
      same_sign int_operations int_sign (λ a b. a ≡ b) int_ordered (pos (suc n) ∷ pos q ∷ []) (⊖ var 0 ⊗ ⊖ var 1 ⊗ unit ⊕ ⊖ unit ⊗ (var 1 ⊗ var 0))
          nought refl,
    )

-- every element that is not zero has an inverse over the same tower
pub inverse_over : {n : ℕ} (t : Tower n) → IsTower t → Inverts (operations t) (sign t)
inverse_over bare h = fraction_inverts
inverse_over (over {n = n} t r) h = inverts (operations t) (sign t) (Alike n) (ordered t h.0) r h.1 (inverse_over t h.0)
