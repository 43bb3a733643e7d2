-- A polynomial of degree two at most has a product of the signs of u - r over its roots r as its sign.
use Rattle.std.proofs.Common.{◌≡◌, T, pos, List, [], ◌∷◌, refl, sym, ap, ap₂, subst, ◌∙◌}
use Rattle.qe_ring.specs.Ring.{Operations, difference}
use Rattle.qe_ring.specs.Expression.{Expression, var, nought, unit, constant, of_int, ◌⊕◌, ⊖◌, ◌⊗◌, ◌⊝◌}
use Rattle.qe_ring.specs.Sign.{Sign, Minus, Zero, Plus, is_not_zero, IsNotMinus, IsNotZero, is, opposite, ◌·◌, adds}
use Rattle.qe_ring.specs.Ordered.{EqualBySign}
use Rattle.qe_ring.proofs.Finite.{any, given, Claim, decide, is-eq, to_is, by_zero}
use Rattle.qe_ring.proofs.Hypotheses.{fact}
use Rattle.qe_line.specs.Field.{IsEuclideanField}
use Rattle.qe_line.specs.Place.{below, above}
use Rattle.qe_line.specs.Quadratic.{linear, upper, lower, first_sign, quadratic, slope, discriminant, IsRootValue, IsRoot}
use Rattle.qe_line.proofs.Field.{law, equal_by, same_by, law_by, sign_of_zero, equals_zero, two_plus, four_plus}
use Rattle.qe_line.proofs.Products.{Each, product, product_at, sign_after}
use Rattle.qe_line.proofs.Letters.{A, B, C₀, X, Polynomial, twice_A, Slope, Discriminant}

-- b is not zero, x is the sign of v - r
abbrev Linear_above : Claim (any ∷ given ∷ any ∷ [])
Linear_above b = (is_not_zero b, λ _ x. is (sign_after x · b) (first_sign (x · b) (first_sign b Zero)))

abbrev Linear_below : Claim (any ∷ given ∷ any ∷ [])
Linear_below b = (is_not_zero b, λ _ c. is (opposite b) (first_sign (opposite b) c))

-- t, d, a and f are the signs of the derivative, the discriminant, a and the polynomial
abbrev No_root : Claim (any ∷ any ∷ given ∷ any ∷ any ∷ given ∷ [])
No_root t d = (is d Minus, λ _ a f. (adds (t · t) (opposite d) (Plus · (a · f)), λ _. is f a))

-- x and y are the signs of u - r for the two roots r
abbrev Two_roots : Claim (any ∷ given ∷ any ∷ any ∷ any ∷ given ∷ [])
Two_roots a = (is_not_zero a, λ _ f x y. (is (Plus · (a · f)) (Plus · a · x · (Plus · a · y)), λ _. is f (x · (y · a))))

abbrev Two_above : Claim (any ∷ given ∷ any ∷ any ∷ any ∷ given ∷ [])
Two_above a = (
  is_not_zero a,
  λ _ x y z. (
    adds (Plus · a · x) (Plus · a · y) (Plus · z),
    λ _. is (sign_after x · (sign_after y · a)) (first_sign (x · (y · a)) (first_sign z a)),
  ),
)

abbrev First_not_zero : Claim (any ∷ given ∷ any ∷ [])
First_not_zero a = (is_not_zero a, λ _ x. is a (first_sign a x))

abbrev Turned_twice : Claim (any ∷ given ∷ any ∷ [])
Turned_twice a = (is_not_zero a, λ _ x. is (opposite (opposite a)) (first_sign a x))

abbrev Then_zero : Claim (any ∷ [])
Then_zero a = is a (first_sign a Zero)

module _ {C : Type 0} {o : Operations C} {s : C → Sign} (F : IsEuclideanField o s) where
  open o use {zero, one, add, neg, mul}
  open F use {ordered, inverts, roots}

  -- the sign of the polynomial is t times the signs of u - r for roots r; and what that product is just above a value and below a bound
  pub record IsFactored (a b c : C) (t : Sign) (rs : List C) : Type 0 where
    pub real : Each (IsRoot o s a b c) rs
    pub factors : (u : C) → s (quadratic o a b c u) ≡ product F t rs u
    pub just_above : (v : C) → product_at F (above v) t rs ≡ first_sign (s (quadratic o a b c v)) (first_sign (s (slope o a b v)) (s a))
    pub far_below : product_at F below t rs ≡ first_sign (s a) (first_sign (opposite (s b)) (s c))

  abbrev pub Factored : C → C → C → Type 0
  Factored a b c = (t : Sign) × ((rs : List C) × IsFactored a b c t rs)

  zero_not_minus : IsNotMinus (s zero)
  zero_not_minus = subst (λ z. IsNotMinus z) (sym (sign_of_zero F)) tt

  module _ (a b c : C) where
    constant_sign : s a ≡ Zero → s b ≡ Zero → Factored a b c
    constant_sign ha hb = (
      s c,
      (
        [],
        record {
          real = tt;
          factors = at_all;
          just_above = λ v. sym (ap₂ first_sign (at_all v) (ap₂ first_sign (flat v) ha)
              ∙ sym (is-eq (s c) (first_sign (s c) Zero) (decide (any ∷ []) Then_zero tt (s c))));
          far_below = sym (ap₂ first_sign ha (ap (λ z. first_sign (opposite z) (s c)) hb));
        },
      ),
    )
      where
        at_all : (u : C) → s (quadratic o a b c u) ≡ s c
        at_all u = same_by F (a ∷ b ∷ c ∷ u ∷ []) (fact (X ⊗ X) A nought ∷ fact X B nought ∷ []) Polynomial C₀
            (equals_zero F a ha, (equals_zero F b hb, tt)) refl

        flat : (u : C) → s (slope o a b u) ≡ Zero
        flat u = same_by F (a ∷ b ∷ c ∷ u ∷ []) (fact (constant (pos 2) ⊗ X) A nought ∷ fact unit B nought ∷ []) Slope nought
            (equals_zero F a ha, (equals_zero F b hb, tt)) refl

    one_root : s a ≡ Zero → IsNotZero (s b) → Factored a b c
    one_root ha hb = (
      s b,
      (
        r ∷ [],
        record {
          real = ((linear, (ha, is_value)), tt);
          factors = at_all;
          just_above = λ v. is-eq (sign_after (s (difference o v r)) · s b) (first_sign (s (difference o v r) · s b) (first_sign (s b) Zero))
              (decide (any ∷ given ∷ any ∷ []) Linear_above tt (s b) hb (s (difference o v r)))
              ∙ sym (ap₂ first_sign (at_all v) (ap₂ first_sign (steep v) ha));
          far_below = is-eq (opposite (s b)) (first_sign (opposite (s b)) (s c)) (decide (any ∷ given ∷ any ∷ []) Linear_below tt (s b) hb (s c))
              ∙ sym (ap (λ z. first_sign z (first_sign (opposite (s b)) (s c))) ha);
        },
      ),
    )
      where
        i : (m : C) × EqualBySign o s (mul b m) one
        i = inverts b hb

        r : C
        r = neg (mul c i.0)

        root_of : EqualBySign o s (mul b r) (neg c)
        root_of = equal_by F (a ∷ b ∷ c ∷ i.0 ∷ []) (fact (⊖ C₀) (B ⊗ X) unit ∷ []) (B ⊗ ⊖ (C₀ ⊗ X)) (⊖ C₀) (i.1, tt) refl

        is_value : IsRootValue o s (neg c) zero zero b r
        is_value = record {
          divisor = hb;
          radicand = zero_not_minus;
          root = zero;
          not-minus = zero_not_minus;
          square = equal_by F [] [] (nought ⊗ nought) nought tt refl;
          value = equal_by F (a ∷ b ∷ c ∷ r ∷ []) (fact unit (B ⊗ X) (⊖ C₀) ∷ []) (B ⊗ X) (⊖ C₀ ⊕ nought ⊗ nought) (root_of, tt) refl;
        }

        at_all : (u : C) → s (quadratic o a b c u) ≡ s (difference o u r) · s b
        at_all u = same_by F (a ∷ b ∷ c ∷ u ∷ r ∷ []) (fact (X ⊗ X) A nought ∷ fact unit (B ⊗ var 4) (⊖ C₀) ∷ []) Polynomial ((X ⊝ var 4) ⊗ B)
            (equals_zero F a ha, (root_of, tt)) refl

        steep : (u : C) → s (slope o a b u) ≡ s b
        steep u = same_by F (a ∷ b ∷ c ∷ u ∷ []) (fact (constant (pos 2) ⊗ X) A nought ∷ []) Slope B (equals_zero F a ha, tt) refl

    no_root : IsNotZero (s a) → T (is (s (discriminant o a b c)) Minus) → Factored a b c
    no_root ha hd = (
      s a,
      (
        [],
        record {
          real = tt;
          factors = at_all;
          just_above = λ v. first (first_sign (s (slope o a b v)) (s a)) ∙ sym (ap (λ z. first_sign z (first_sign (s (slope o a b v)) (s a))) (at_all v));
          far_below = first (first_sign (opposite (s b)) (s c));
        },
      ),
    )
      where
        first : (x : Sign) → s a ≡ first_sign (s a) x
        first x = is-eq (s a) (first_sign (s a) x) (decide (any ∷ given ∷ any ∷ []) First_not_zero tt (s a) ha x)

        square : (u : C) → T (adds (s (slope o a b u) · s (slope o a b u)) (opposite (s (discriminant o a b c))) (Plus · (s a · s (quadratic o a b c u))))
        square u = subst (λ k. T (adds (s (slope o a b u) · s (slope o a b u)) (opposite (s (discriminant o a b c))) (k · (s a · s (quadratic o a b c u)))))
            (four_plus F) (law F (a ∷ b ∷ c ∷ u ∷ []) (Slope ⊗ Slope) (⊖ Discriminant) (constant (pos 4) ⊗ (A ⊗ Polynomial)) refl)

        at_all : (u : C) → s (quadratic o a b c u) ≡ s a
        at_all u = is-eq (s (quadratic o a b c u)) (s a) (decide (any ∷ any ∷ given ∷ any ∷ any ∷ given ∷ []) No_root tt
            (s (slope o a b u)) (s (discriminant o a b c)) hd (s a) (s (quadratic o a b c u)) (square u))

    two_roots : IsNotZero (s a) → IsNotMinus (s (discriminant o a b c)) → Factored a b c
    two_roots ha hd = (
      s a,
      (
        r ∷ q ∷ [],
        record {
          real = ((upper, upper_value), ((lower, lower_value), tt));
          factors = at_all;
          just_above = λ v. is-eq (sign_after (s (difference o v r)) · (sign_after (s (difference o v q)) · s a))
              (first_sign (s (difference o v r) · (s (difference o v q) · s a)) (first_sign (s (slope o a b v)) (s a)))
              (decide (any ∷ given ∷ any ∷ any ∷ any ∷ given ∷ []) Two_above tt (s a) ha
              (s (difference o v r)) (s (difference o v q)) (s (slope o a b v)) (halves v))
              ∙ sym (ap (λ z. first_sign z (first_sign (s (slope o a b v)) (s a))) (at_all v));
          far_below = is-eq (opposite (opposite (s a))) (first_sign (s a) (first_sign (opposite (s b)) (s c)))
              (decide (any ∷ given ∷ any ∷ []) Turned_twice tt (s a) ha (first_sign (opposite (s b)) (s c)));
        },
      ),
    )
      where
        w : (w : C) × (IsNotMinus (s w) × EqualBySign o s (mul w w) (discriminant o a b c))
        w = roots (discriminant o a b c) hd

        twice : C
        twice = mul (of_int o (pos 2)) a

        twice_not_zero : IsNotZero (s twice)
        twice_not_zero = subst (λ z. IsNotZero z) (sym (ordered.sign-mul (of_int o (pos 2)) a ∙ ap (λ z. z · s a) (two_plus F))) ha

        i : (m : C) × EqualBySign o s (mul twice m) one
        i = inverts twice twice_not_zero

        r : C
        r = mul (add (neg b) w.0) i.0

        q : C
        q = mul (add (neg b) (neg w.0)) i.0

        point : C → List C
        point u = a ∷ b ∷ c ∷ u ∷ r ∷ q ∷ w.0 ∷ []

        -- the two roots and the square root, and what 2*a*r and 2*a*q are
        R : Expression
        R = var 4

        Q : Expression
        Q = var 5

        W : Expression
        W = var 6

        twice_R : Expression
        twice_R = ⊖ B ⊕ unit ⊗ W

        twice_Q : Expression
        twice_Q = ⊖ B ⊕ ⊖ unit ⊗ W

        upper_is : EqualBySign o s (mul twice r) (add (neg b) (mul one w.0))
        upper_is = equal_by F (a ∷ b ∷ w.0 ∷ i.0 ∷ []) (fact (⊖ B ⊕ var 2) (twice_A ⊗ var 3) unit ∷ [])
            (twice_A ⊗ ((⊖ B ⊕ var 2) ⊗ var 3)) (⊖ B ⊕ unit ⊗ var 2) (i.1, tt) refl

        lower_is : EqualBySign o s (mul twice q) (add (neg b) (mul (neg one) w.0))
        lower_is = equal_by F (a ∷ b ∷ w.0 ∷ i.0 ∷ []) (fact (⊖ B ⊕ ⊖ var 2) (twice_A ⊗ var 3) unit ∷ [])
            (twice_A ⊗ ((⊖ B ⊕ ⊖ var 2) ⊗ var 3)) (⊖ B ⊕ ⊖ unit ⊗ var 2) (i.1, tt) refl

        upper_value : IsRootValue o s (neg b) one (discriminant o a b c) twice r
        upper_value = record { divisor = twice_not_zero; radicand = hd; root = w.0; not-minus = w.1.0; square = w.1.1; value = upper_is }

        lower_value : IsRootValue o s (neg b) (neg one) (discriminant o a b c) twice q
        lower_value = record { divisor = twice_not_zero; radicand = hd; root = w.0; not-minus = w.1.0; square = w.1.1; value = lower_is }

        -- 4*a times the polynomial is 2*a*(u - r) times 2*a*(u - q)
        split : (u : C) → Plus · (s a · s (quadratic o a b c u)) ≡ Plus · s a · s (difference o u r) · (Plus · s a · s (difference o u q))
        split u = subst (λ k. Plus · (s a · s (quadratic o a b c u)) ≡ k · s a · s (difference o u r) · (k · s a · s (difference o u q))) (two_plus F)
            (ap (λ k. k · (s a · s (quadratic o a b c u))) (sym (four_plus F))
            ∙ same_by F (point u)
            (fact (twice_A ⊗ X ⊝ twice_Q) (twice_A ⊗ R) twice_R ∷ fact (twice_A ⊗ X ⊝ twice_A ⊗ R) (twice_A ⊗ Q) twice_Q
            ∷ fact unit (W ⊗ W) Discriminant ∷ [])
            (constant (pos 4) ⊗ (A ⊗ Polynomial)) (twice_A ⊗ (X ⊝ R) ⊗ (twice_A ⊗ (X ⊝ Q))) (upper_is, (lower_is, (w.1.1, tt))) refl)

        at_all : (u : C) → s (quadratic o a b c u) ≡ s (difference o u r) · (s (difference o u q) · s a)
        at_all u = is-eq (s (quadratic o a b c u)) (s (difference o u r) · (s (difference o u q) · s a))
            (decide (any ∷ given ∷ any ∷ any ∷ any ∷ given ∷ []) Two_roots tt (s a) ha (s (quadratic o a b c u)) (s (difference o u r)) (s (difference o u q))
            (to_is (Plus · (s a · s (quadratic o a b c u))) (Plus · s a · s (difference o u r) · (Plus · s a · s (difference o u q))) (split u)))

        -- 2*a*(v - r) and 2*a*(v - q) are together twice the derivative
        halves : (v : C) → T (adds (Plus · s a · s (difference o v r)) (Plus · s a · s (difference o v q)) (Plus · s (slope o a b v)))
        halves v = subst (λ k. T (adds (k · s a · s (difference o v r)) (k · s a · s (difference o v q)) (k · s (slope o a b v)))) (two_plus F)
            (law_by F (point v) (fact (⊖ unit) (twice_A ⊗ R) twice_R ∷ fact (⊖ unit) (twice_A ⊗ Q) twice_Q ∷ [])
            (twice_A ⊗ (X ⊝ R)) (twice_A ⊗ (X ⊝ Q)) (constant (pos 2) ⊗ Slope) (upper_is, (lower_is, tt)) refl)

    -- the four cases: a constant, degree one, degree two without and with roots
    pub factored : Factored a b c
    factored = by_zero (s a)
        (λ ha. by_zero (s b)
        (λ hb. constant_sign (is-eq (s a) Zero ha) (is-eq (s b) Zero hb))
        (λ hb. one_root (is-eq (s a) Zero ha) hb))
        (λ ha. by_sign (s (discriminant o a b c)) (no_root ha) (two_roots ha))
      where
        by_sign : {X : Type 0} (d : Sign) → (T (is d Minus) → X) → (IsNotMinus d → X) → X
        by_sign Minus f g = f tt
        by_sign Zero f g = g tt
        by_sign Plus f g = g tt
