-- The sign of a polynomial at a quotient p/d, which the root of a polynomial of degree one is.
use Rattle.std.proofs.Common.{◌≡◌, ◌↔◌, pos, [], ◌∷◌, refl, sym, ap₂, subst, ◌∙◌}
use Rattle.qe_ring.specs.Ring.{Operations}
use Rattle.qe_ring.specs.Expression.{Expression, var, nought, unit, of_int, ◌⊕◌, ⊖◌, ◌⊗◌}
use Rattle.qe_ring.specs.Sign.{Sign, Zero, is_not_zero, IsNotMinus, IsNotZero, is, ◌·◌}
use Rattle.qe_ring.specs.Ordered.{EqualBySign}
use Rattle.qe_ring.proofs.Finite.{any, given, Claim, decide, is-eq, to_is}
use Rattle.qe_ring.proofs.Hypotheses.{fact}
use Rattle.qe_line.specs.Field.{IsEuclideanField}
use Rattle.qe_line.specs.Quadratic.{linear, upper, lower, quadratic, IsRootValue, IsRootOfKind, IsRoot}
use Rattle.qe_line.proofs.Field.{equal_by, same_by, sign_of_zero, equals_zero, two_plus}
use Rattle.qe_line.proofs.Letters.{A, B, C₀, X, Polynomial}

abbrev D : Expression
D = var 4

abbrev P : Expression
P = var 5

abbrev Squared : Claim (any ∷ given ∷ any ∷ any ∷ given ∷ [])
Squared d = (is_not_zero d, λ _ f g. (is (d · d · f) g, λ _. is f g))

abbrev Divided : Claim (any ∷ given ∷ any ∷ any ∷ given ∷ [])
Divided d = (is_not_zero d, λ _ f g. (is (d · f) g, λ _. is f (d · g)))

module _ {C : Type 0} {o : Operations C} {s : C → Sign} (F : IsEuclideanField o s) where
  open o use {zero, add, mul, neg}
  open F use {ordered}

  -- of degree two at most: a*p^2 + b*p*d + c*d^2
  pub sign_at_quotient : (a b c p d v : C) → IsNotZero (s d) → EqualBySign o s (mul d v) p
      → s (quadratic o a b c v) ≡ s (add (add (mul a (mul p p)) (mul (mul b p) d)) (mul c (mul d d)))
  sign_at_quotient a b c p d v h e = is-eq (s (quadratic o a b c v)) (s total)
      (decide (any ∷ given ∷ any ∷ any ∷ given ∷ []) Squared tt (s d) h (s (quadratic o a b c v)) (s total)
      (to_is (s d · s d · s (quadratic o a b c v)) (s total)
      (same_by F (a ∷ b ∷ c ∷ v ∷ d ∷ p ∷ []) (fact (A ⊗ (D ⊗ X ⊕ P) ⊕ B ⊗ D) (D ⊗ X) P ∷ [])
      (D ⊗ D ⊗ Polynomial) (A ⊗ (P ⊗ P) ⊕ B ⊗ P ⊗ D ⊕ C₀ ⊗ (D ⊗ D)) (e, tt) refl)))
    where
      total : C
      total = add (add (mul a (mul p p)) (mul (mul b p) d)) (mul c (mul d d))

  -- of degree one: the sign of d times that of b*p + c*d
  pub linear_sign_at_quotient : (a b c p d v : C) → s a ≡ Zero → IsNotZero (s d) → EqualBySign o s (mul d v) p
      → s (quadratic o a b c v) ≡ s d · s (add (mul b p) (mul c d))
  linear_sign_at_quotient a b c p d v ha h e = is-eq (s (quadratic o a b c v)) (s d · s (add (mul b p) (mul c d)))
      (decide (any ∷ given ∷ any ∷ any ∷ given ∷ []) Divided tt (s d) h (s (quadratic o a b c v)) (s (add (mul b p) (mul c d)))
      (to_is (s d · s (quadratic o a b c v)) (s (add (mul b p) (mul c d)))
      (same_by F (a ∷ b ∷ c ∷ v ∷ d ∷ p ∷ []) (fact (D ⊗ (X ⊗ X)) A nought ∷ fact B (D ⊗ X) P ∷ [])
      (D ⊗ Polynomial) (B ⊗ P ⊕ C₀ ⊗ D) (equals_zero F a ha, (e, tt)) refl)))

  no_upper : (a : C) → s a ≡ Zero → IsNotZero (s (mul (of_int o (pos 2)) a)) → ⊥
  no_upper a ha h = subst (λ z. IsNotZero z) (ordered.sign-mul (of_int o (pos 2)) a ∙ ap₂ ◌·◌ (two_plus F) ha) h

  -- where a is zero, all roots are of degree one
  pub only_linear : (a b c v : C) → s a ≡ Zero → IsRoot o s a b c v → IsRootOfKind o s linear a b c v
  only_linear a b c v ha (linear, h) = h
  only_linear a b c v ha (upper, h) = absurd (no_upper a ha h.divisor)
  only_linear a b c v ha (lower, h) = absurd (no_upper a ha h.divisor)

  zero_not_minus : IsNotMinus (s zero)
  zero_not_minus = subst (λ z. IsNotMinus z) (sym (sign_of_zero F)) tt

  -- the root of degree one is -c/b
  pub linear_root : (a b c v : C) → s a ≡ Zero → IsRoot o s a b c v ↔ (IsNotZero (s b) × EqualBySign o s (mul b v) (neg c))
  linear_root a b c v ha = (λ h. forth (only_linear a b c v ha h), λ h. (linear, (ha, back h.0 h.1)))
    where
      forth : IsRootOfKind o s linear a b c v → IsNotZero (s b) × EqualBySign o s (mul b v) (neg c)
      forth h = (
        h.1.divisor,
        equal_by F (a ∷ b ∷ c ∷ v ∷ h.1.root ∷ []) (fact unit (B ⊗ X) (⊖ C₀ ⊕ nought ⊗ D) ∷ []) (B ⊗ X) (⊖ C₀) (h.1.value, tt) refl,
      )

      back : IsNotZero (s b) → EqualBySign o s (mul b v) (neg c) → IsRootValue o s (neg c) zero zero b v
      back hb e = record {
        divisor = hb;
        radicand = zero_not_minus;
        root = zero;
        not-minus = zero_not_minus;
        square = equal_by F [] [] (nought ⊗ nought) nought tt refl;
        value = equal_by F (a ∷ b ∷ c ∷ v ∷ []) (fact unit (B ⊗ X) (⊖ C₀) ∷ []) (B ⊗ X) (⊖ C₀ ⊕ nought ⊗ nought) (e, tt) refl;
      }
