-- The pairs a + b*sqrt(r) over an ordered ring are an ordered ring, for r that is not minus.
use Rattle.std.proofs.Common.{◌≡◌, T, List, [], ◌∷◌, refl, sym, ap, ap₂, subst, ◌∙◌}
use Rattle.qe_ring.specs.Ring.{Operations, difference, IsRing}
use Rattle.qe_ring.specs.Sign.{Sign, Zero, IsNotMinus, IsNotZero, is, opposite, ◌·◌, adds, pick}
use Rattle.qe_ring.specs.Ordered.{IsOrdered}
use Rattle.qe_ring.specs.Expression.{Expression, var, nought, unit, ◌⊕◌, ◌⊝◌, ⊖◌, ◌⊗◌, value, normal}
use Rattle.qe_ring.proofs.Solver.{solve}
use Rattle.qe_ring.proofs.Finite.{is-eq, is-same, swapped, by_zero}
use Rattle.qe_ring.proofs.Signs.{signs, same_sign, law, double, pick_at, sign-zero}
use Rattle.qe_tower.specs.Element.{pair_operations}
use Rattle.qe_tower.specs.Sign.{sign_of_root_sum, pair_sign}
use Rattle.qe_tower.proofs.Cases.{table_holds, product_holds, shift_holds, reduce_holds, flat_holds, table_zero, negated}

-- the norm a*a - b*b*r of a pair
abbrev pub norm : {C : Type 0} → Operations C → C → C → C → C
norm o r a b = difference o (o.mul a a) (o.mul (o.mul b b) r)

-- equal part by part
abbrev pub EqualParts : {C : Type 0} → (C → C → Type 0) → C × C → C × C → Type 0
EqualParts E x y = E x.0 y.0 × E x.1 y.1

abbrev r₀ : Expression
r₀ = var 0

abbrev a₀ : Expression
a₀ = var 1

abbrev b₀ : Expression
b₀ = var 2

abbrev c₀ : Expression
c₀ = var 3

abbrev d₀ : Expression
d₀ = var 4

abbrev e₀ : Expression
e₀ = var 5

abbrev f₀ : Expression
f₀ = var 6

abbrev k₀ : Expression
k₀ = var 7

-- the parts of a product
abbrev fst_mul : Expression → Expression → Expression → Expression → Expression
fst_mul a b c d = a ⊗ c ⊕ b ⊗ d ⊗ r₀

abbrev snd_mul : Expression → Expression → Expression → Expression → Expression
snd_mul a b c d = a ⊗ d ⊕ b ⊗ c

abbrev N : Expression → Expression → Expression
N a b = a ⊗ a ⊝ b ⊗ b ⊗ r₀

module _ {C : Type 0} (o : Operations C) (s : C → Sign) (E : C → C → Type 0) (L : IsOrdered o s E) (r : C) where
  open o use {zero, one, add, neg, mul}
  open L use {ring, sign-same, sign-one, sign-neg, sign-mul, sign-add}
  open ring use {same, back, then, add-same, neg-same, mul-same}

  abbrev P : Type 0
  P = C × C

  abbrev by : (point : List C) (a b : Expression) → normal (a ⊝ b) ≡ [] → E (value o (r ∷ point) a) (value o (r ∷ point) b)
  by point a b h = solve o E ring (r ∷ point) a b h

  -- the pairs are a ring, part by part
  pair_ring : IsRing (pair_operations o r) (EqualParts E)
  pair_ring = record {
    same = λ x. (same x.0, same x.1);
    back = λ x y h. (back x.0 y.0 h.0, back x.1 y.1 h.1);
    then = λ x y z h k. (then x.0 y.0 z.0 h.0 k.0, then x.1 y.1 z.1 h.1 k.1);
    add-same = λ x y z w h k. (add-same x.0 y.0 z.0 w.0 h.0 k.0, add-same x.1 y.1 z.1 w.1 h.1 k.1);
    neg-same = λ x y h. (neg-same x.0 y.0 h.0, neg-same x.1 y.1 h.1);
    mul-same = λ x y z w h k. (
      add-same (mul x.0 z.0) (mul y.0 w.0) (mul (mul x.1 z.1) r) (mul (mul y.1 w.1) r) (mul-same x.0 y.0 z.0 w.0 h.0 k.0)
          (mul-same (mul x.1 z.1) (mul y.1 w.1) r r (mul-same x.1 y.1 z.1 w.1 h.1 k.1) (same r)),
      add-same (mul x.0 z.1) (mul y.0 w.1) (mul x.1 z.0) (mul y.1 w.0) (mul-same x.0 y.0 z.1 w.1 h.0 k.1) (mul-same x.1 y.1 z.0 w.0 h.1 k.0),
    );
    add-assoc = λ x y z. (ring.add-assoc x.0 y.0 z.0, ring.add-assoc x.1 y.1 z.1);
    add-comm = λ x y. (ring.add-comm x.0 y.0, ring.add-comm x.1 y.1);
    add-zero = λ x. (ring.add-zero x.0, ring.add-zero x.1);
    add-neg = λ x. (ring.add-neg x.0, ring.add-neg x.1);
    mul-assoc = λ x y z. (
      by (x.0 ∷ x.1 ∷ y.0 ∷ y.1 ∷ z.0 ∷ z.1 ∷ []) (fst_mul (fst_mul a₀ b₀ c₀ d₀) (snd_mul a₀ b₀ c₀ d₀) e₀ f₀)
          (fst_mul a₀ b₀ (fst_mul c₀ d₀ e₀ f₀) (snd_mul c₀ d₀ e₀ f₀)) refl,
      by (x.0 ∷ x.1 ∷ y.0 ∷ y.1 ∷ z.0 ∷ z.1 ∷ []) (snd_mul (fst_mul a₀ b₀ c₀ d₀) (snd_mul a₀ b₀ c₀ d₀) e₀ f₀)
          (snd_mul a₀ b₀ (fst_mul c₀ d₀ e₀ f₀) (snd_mul c₀ d₀ e₀ f₀)) refl,
    );
    mul-comm = λ x y. (
      by (x.0 ∷ x.1 ∷ y.0 ∷ y.1 ∷ []) (fst_mul a₀ b₀ c₀ d₀) (fst_mul c₀ d₀ a₀ b₀) refl,
      by (x.0 ∷ x.1 ∷ y.0 ∷ y.1 ∷ []) (snd_mul a₀ b₀ c₀ d₀) (snd_mul c₀ d₀ a₀ b₀) refl,
    );
    mul-one = λ x. (
      by (x.0 ∷ x.1 ∷ []) (fst_mul a₀ b₀ unit nought) a₀ refl,
      by (x.0 ∷ x.1 ∷ []) (snd_mul a₀ b₀ unit nought) b₀ refl,
    );
    mul-add = λ x y z. (
      by (x.0 ∷ x.1 ∷ y.0 ∷ y.1 ∷ z.0 ∷ z.1 ∷ []) (fst_mul a₀ b₀ (c₀ ⊕ e₀) (d₀ ⊕ f₀)) (fst_mul a₀ b₀ c₀ d₀ ⊕ fst_mul a₀ b₀ e₀ f₀) refl,
      by (x.0 ∷ x.1 ∷ y.0 ∷ y.1 ∷ z.0 ∷ z.1 ∷ []) (snd_mul a₀ b₀ (c₀ ⊕ e₀) (d₀ ⊕ f₀)) (snd_mul a₀ b₀ c₀ d₀ ⊕ snd_mul a₀ b₀ e₀ f₀) refl,
    );
  }

module _ {C : Type 0} (o : Operations C) (s : C → Sign) (E : C → C → Type 0) (L : IsOrdered o s E) (r : C) (h : IsNotMinus (s r)) where
  open o use {zero, one, add, neg, mul}
  open L use {ring, sign-same, sign-one, sign-neg, sign-mul, sign-add}
  open ring use {same, back, then, add-same, neg-same, mul-same}

  -- the sign of a pair
  abbrev ps : C × C → Sign
  ps x = pair_sign o s r x

  -- the product and the sum of two pairs
  abbrev pm : C × C → C × C → C × C
  pm x y = (pair_operations o r).mul x y

  abbrev pa : C × C → C × C → C × C
  pa x y = (add x.0 y.0, add x.1 y.1)

  -- the sign of a pair's norm
  abbrev nx : C × C → Sign
  nx x = s (norm o r x.0 x.1)

  -- the sign of a norm is one that a*a and -(b*b*r) allow
  pub norm_law : (x : C × C) → T (adds (s x.0 · s x.0) (opposite (s x.1 · s x.1 · s r)) (nx x))
  norm_law x = law o s E L (r ∷ x.0 ∷ x.1 ∷ []) (a₀ ⊗ a₀) (⊖ (b₀ ⊗ b₀ ⊗ r₀)) (N a₀ b₀) refl

  -- the sign of a pair is picked by that of its norm
  pub is_pick : (x : C × C) → ps x ≡ pick (nx x) (s x.0) (s x.1 · s r)
  is_pick x =
      ap (sign_of_root_sum (s x.0) (s x.1) (s r) (nx x)) (same_sign o s E L (r ∷ x.0 ∷ x.1 ∷ []) (b₀ ⊗ b₀ ⊗ r₀ ⊝ a₀ ⊗ a₀) (⊖ N a₀ b₀) refl)
      ∙ is-eq (sign_of_root_sum (s x.0) (s x.1) (s r) (nx x) (opposite (nx x))) (pick (nx x) (s x.0) (s x.1 · s r))
      (table_holds (s r) h (s x.0) (s x.1) (nx x) (norm_law x))

  pick₃ : {a a' b b' c c' : Sign} → a ≡ a' → b ≡ b' → c ≡ c' → pick a b c ≡ pick a' b' c'
  pick₃ {a} {a'} {b} {b'} {c} {c'} p q t = ap (λ z. pick z b c) p ∙ ap₂ (pick a') q t

  -- pairs that are equal part by part have one sign
  pub pair_sign-same : (x y : C × C) → EqualParts E x y → ps x ≡ ps y
  pair_sign-same x y e = is_pick x ∙ pick₃ (sign-same (norm o r x.0 x.1) (norm o r y.0 y.1) norms) (sign-same x.0 y.0 e.0)
      (ap (λ z. z · s r) (sign-same x.1 y.1 e.1)) ∙ sym (is_pick y)
    where
      norms : E (norm o r x.0 x.1) (norm o r y.0 y.1)
      norms = add-same (mul x.0 x.0) (mul y.0 y.0) (neg (mul (mul x.1 x.1) r)) (neg (mul (mul y.1 y.1) r)) (mul-same x.0 y.0 x.0 y.0 e.0 e.0)
          (neg-same (mul (mul x.1 x.1) r) (mul (mul y.1 y.1) r) (mul-same (mul x.1 x.1) (mul y.1 y.1) r r (mul-same x.1 y.1 x.1 y.1 e.1 e.1) (same r)))

  -- the sign of a negative
  pair_sign-neg : (x : C × C) → ps (neg x.0, neg x.1) ≡ opposite (ps x)
  pair_sign-neg x = is_pick (neg x.0, neg x.1)
      ∙ pick₃ (same_sign o s E L (r ∷ x.0 ∷ x.1 ∷ []) (N (⊖ a₀) (⊖ b₀)) (N a₀ b₀) refl) (sign-neg x.0) (ap (λ z. z · s r) (sign-neg x.1))
      ∙ negated (s r) (s x.0) (s x.1) (nx x)
      ∙ ap opposite (sym (is_pick x))

  -- (k, 0) has the sign of k
  pub of_base : (k : C) → ps (k, zero) ≡ s k
  of_base k = ap (λ z. sign_of_root_sum (s k) z (s r) (nx (k, zero)) (s (difference o (mul (mul zero zero) r) (mul k k)))) (sign-zero o s E L)
      ∙ table_zero (s k) (s r) (nx (k, zero)) (s (difference o (mul (mul zero zero) r) (mul k k)))

  abbrev U : Expression
  U = (a₀ ⊗ c₀) ⊗ (a₀ ⊗ c₀) ⊝ (b₀ ⊗ d₀ ⊗ r₀) ⊗ (b₀ ⊗ d₀ ⊗ r₀)

  abbrev V : Expression
  V = (a₀ ⊗ d₀) ⊗ (a₀ ⊗ d₀) ⊝ (b₀ ⊗ c₀) ⊗ (b₀ ⊗ c₀)

  -- the sign of a product of pairs
  pair_sign-mul : (x y : C × C) → ps (pm x y) ≡ ps x · ps y
  pair_sign-mul x y =
      is_pick (pm x y)
      ∙ pick₃ (same_sign o s E L point (N (fst_mul a₀ b₀ c₀ d₀) (snd_mul a₀ b₀ c₀ d₀)) (N a₀ b₀ ⊗ N c₀ d₀) refl)
      (pick_at o s E L point (a₀ ⊗ c₀) (b₀ ⊗ d₀ ⊗ r₀))
      (ap (λ z. z · s r) (pick_at o s E L point (a₀ ⊗ d₀) (b₀ ⊗ c₀)))
      ∙ is-eq (pick (nx x · nx y) (pick (signs o s point U) (s x.0 · s y.0) (s x.1 · s y.1 · s r))
      (pick (signs o s point V) (s x.0 · s y.1) (s x.1 · s y.0) · s r))
      (pick (nx x) (s x.0) (s x.1 · s r) · pick (nx y) (s y.0) (s y.1 · s r))
      (product_holds (s r) h (s x.0) (s x.1) (nx x) (norm_law x) (s y.0) (s y.1) (nx y) (norm_law y)
      (signs o s point U)
      (law o s E L point (N a₀ b₀ ⊗ (c₀ ⊗ c₀)) (b₀ ⊗ b₀ ⊗ r₀ ⊗ N c₀ d₀) U refl)
      (law o s E L point (a₀ ⊗ a₀ ⊗ N c₀ d₀) (N a₀ b₀ ⊗ (d₀ ⊗ d₀ ⊗ r₀)) U refl)
      (signs o s point V)
      (law o s E L point (N a₀ b₀ ⊗ (d₀ ⊗ d₀ ⊗ r₀)) (⊖ (b₀ ⊗ b₀ ⊗ r₀ ⊗ N c₀ d₀)) (V ⊗ r₀) refl)
      (law o s E L point (⊖ (a₀ ⊗ a₀ ⊗ N c₀ d₀)) (N a₀ b₀ ⊗ (c₀ ⊗ c₀)) (V ⊗ r₀) refl))
      ∙ sym (ap₂ ◌·◌ (is_pick x) (is_pick y))
    where
      point : List C
      point = r ∷ x.0 ∷ x.1 ∷ y.0 ∷ y.1 ∷ []

  -- a sum with an element of the base
  shift : (k : C) (x : C × C) → T (adds (s k) (ps x) (ps (add k x.0, x.1)))
  shift k x =
      subst (λ z. T (adds (s k) z (ps (add k x.0, x.1)))) (sym (is_pick x))
      (subst (λ z. T (adds (s k) (pick (nx x) (s x.0) (s x.1 · s r)) z)) (sym (is_pick (add k x.0, x.1)))
      (shift_holds (s r) h (s x.0) (s x.1) (nx x) (norm_law x) (s k) (s (add k x.0)) (sign-add k x.0) (signs o s point G)
      (law o s E L point (k₀ ⊕ a₀) a₀ G refl)
      (subst (λ z. T (adds (s k) z (signs o s point G))) (double o s E L x.0) (law o s E L point k₀ (a₀ ⊕ a₀) G refl))
      (nx (add k x.0, x.1))
      (law o s E L point (N a₀ b₀) (k₀ ⊗ G) (N (k₀ ⊕ a₀) b₀) refl)))
    where
      point : List C
      point = r ∷ x.0 ∷ x.1 ∷ zero ∷ zero ∷ zero ∷ zero ∷ k ∷ []

      G : Expression
      G = k₀ ⊕ a₀ ⊕ a₀

  -- a sum where the first norm is not zero: N(x) * (x + y) = x * (N(x) + y * x'), where x' is the conjugate
  steep : (x y : C × C) → IsNotZero (nx x) → T (adds (ps x) (ps y) (ps (pa x y)))
  steep x y hx = reduce_holds (nx x) (ps x) (ps x') n_is (ps y) (ps w) w_is (ps (pa x y)) u_is hx
    where
      x' : C × C
      x' = (x.0, neg x.1)

      z : C × C
      z = pm y x'

      w : C × C
      w = (add (norm o r x.0 x.1) z.0, z.1)

      point : List C
      point = r ∷ x.0 ∷ x.1 ∷ y.0 ∷ y.1 ∷ []

      base : C × C
      base = (norm o r x.0 x.1, zero)

      conj : EqualParts E (pm x x') base
      conj = (solve o E ring point (fst_mul a₀ b₀ a₀ (⊖ b₀)) (N a₀ b₀) refl, solve o E ring point (snd_mul a₀ b₀ a₀ (⊖ b₀)) nought refl)

      n_path : nx x ≡ ps x · ps x'
      n_path = sym (of_base (norm o r x.0 x.1)) ∙ sym (pair_sign-same (pm x x') base conj) ∙ pair_sign-mul x x'

      n_is : T (is (nx x) (ps x · ps x'))
      n_is = subst (λ t. T (is (nx x) t)) n_path (is-same (nx x))

      w_is : T (adds (nx x) (ps y · ps x') (ps w))
      w_is = subst (λ t. T (adds (nx x) t (ps w))) (pair_sign-mul y x') (shift (norm o r x.0 x.1) z)

      turned : EqualParts E (pm base (pa x y)) (pm x w)
      turned = (
        solve o E ring point (fst_mul (N a₀ b₀) nought (a₀ ⊕ c₀) (b₀ ⊕ d₀))
            (fst_mul a₀ b₀ (N a₀ b₀ ⊕ fst_mul c₀ d₀ a₀ (⊖ b₀)) (snd_mul c₀ d₀ a₀ (⊖ b₀))) refl,
        solve o E ring point (snd_mul (N a₀ b₀) nought (a₀ ⊕ c₀) (b₀ ⊕ d₀))
            (snd_mul a₀ b₀ (N a₀ b₀ ⊕ fst_mul c₀ d₀ a₀ (⊖ b₀)) (snd_mul c₀ d₀ a₀ (⊖ b₀))) refl,
      )

      u_path : nx x · ps (pa x y) ≡ ps x · ps w
      u_path = ap (λ t. t · ps (pa x y)) (sym (of_base (norm o r x.0 x.1))) ∙ sym (pair_sign-mul base (pa x y))
          ∙ pair_sign-same (pm base (pa x y)) (pm x w) turned ∙ pair_sign-mul x w

      u_is : T (is (nx x · ps (pa x y)) (ps x · ps w))
      u_is = subst (λ t. T (is (nx x · ps (pa x y)) t)) u_path (is-same (nx x · ps (pa x y)))

  -- a sum where both norms are zero
  flat : (x y : C × C) → T (is (nx x) Zero) → T (is (nx y) Zero) → T (adds (ps x) (ps y) (ps (pa x y)))
  flat x y hx hy =
      subst (λ t. T (adds t (ps y) (ps (pa x y)))) (sym (is_pick x))
      (subst (λ t. T (adds (pick (nx x) (s x.0) (s x.1 · s r)) t (ps (pa x y)))) (sym (is_pick y))
      (subst (λ t. T (adds (pick (nx x) (s x.0) (s x.1 · s r)) (pick (nx y) (s y.0) (s y.1 · s r)) t)) (sym sum_is)
      (flat_holds (s r) h (s x.0) (s x.1) (nx x) (norm_law x) hx (s y.0) (s y.1) (nx y) (norm_law y) hy
      (signs o s point T₀) (law o s E L point (b₀ ⊗ b₀) (⊖ (d₀ ⊗ d₀)) T₀ refl)
      (signs o s point D₀) (law o s E L point (N a₀ b₀) (⊖ N c₀ d₀) D₀ refl)
      (signs o s point Q₀) (law o s E L point (T₀ ⊗ r₀) D₀ Q₀ refl)
      (law o s E L point (a₀ ⊗ a₀) (⊖ (c₀ ⊗ c₀)) Q₀ refl)
      (signs o s point S₀) (law o s E L point (N a₀ b₀) (N c₀ d₀) S₀ refl)
      (signs o s point Z₀) (law o s E L point (N a₀ b₀ ⊗ (c₀ ⊗ c₀)) (b₀ ⊗ b₀ ⊗ r₀ ⊗ N c₀ d₀) Z₀ refl)
      (signs o s point (W₀ ⊕ W₀)) (subst (λ t. T (adds t t (signs o s point (W₀ ⊕ W₀)))) (pick_at o s E L point (a₀ ⊗ c₀) (⊖ (b₀ ⊗ d₀ ⊗ r₀)))
      (law o s E L point W₀ W₀ (W₀ ⊕ W₀) refl))
      (nx (pa x y)) (law o s E L point S₀ (W₀ ⊕ W₀) (N (a₀ ⊕ c₀) (b₀ ⊕ d₀)) refl))))
    where
      point : List C
      point = r ∷ x.0 ∷ x.1 ∷ y.0 ∷ y.1 ∷ []

      T₀ : Expression
      T₀ = b₀ ⊗ b₀ ⊝ d₀ ⊗ d₀

      D₀ : Expression
      D₀ = N a₀ b₀ ⊝ N c₀ d₀

      Q₀ : Expression
      Q₀ = a₀ ⊗ a₀ ⊝ c₀ ⊗ c₀

      S₀ : Expression
      S₀ = N a₀ b₀ ⊕ N c₀ d₀

      W₀ : Expression
      W₀ = a₀ ⊗ c₀ ⊝ b₀ ⊗ d₀ ⊗ r₀

      Z₀ : Expression
      Z₀ = (a₀ ⊗ c₀) ⊗ (a₀ ⊗ c₀) ⊝ (⊖ (b₀ ⊗ d₀ ⊗ r₀)) ⊗ (⊖ (b₀ ⊗ d₀ ⊗ r₀))

      sum_is : ps (pa x y) ≡ pick (nx (pa x y)) (pick (signs o s point Q₀) (s x.0) (s y.0)) (pick (signs o s point T₀) (s x.1) (s y.1) · s r)
      sum_is = is_pick (pa x y) ∙ pick₃ refl (pick_at o s E L point a₀ c₀) (ap (λ t. t · s r) (pick_at o s E L point b₀ d₀))

  -- the sign of a sum of pairs
  pair_sign-add : (x y : C × C) → T (adds (ps x) (ps y) (ps (pa x y)))
  pair_sign-add x y = by_zero (nx x) (λ hx. by_zero (nx y) (λ hy. flat x y hx hy) other) (steep x y)
    where
      other : IsNotZero (nx y) → T (adds (ps x) (ps y) (ps (pa x y)))
      other hy = swapped (ps y) (ps x) (ps (pa x y))
          (subst (λ t. T (adds (ps y) (ps x) t)) (pair_sign-same (pa y x) (pa x y) (ring.add-comm y.0 x.0, ring.add-comm y.1 x.1)) (steep y x hy))

  -- the pairs are an ordered ring
  pub adjoined : IsOrdered (pair_operations o r) (pair_sign o s r) (EqualParts E)
  adjoined = record {
    ring = pair_ring o s E L r;
    sign-same = pair_sign-same;
    sign-one = of_base one ∙ sign-one;
    sign-neg = pair_sign-neg;
    sign-mul = pair_sign-mul;
    sign-add = pair_sign-add;
  }
