-- The sign of a polynomial at the value of a root of another: by A + B*sqrt(r); and it is zero at its own roots.
use Rattle.std.proofs.Common.{◌≡◌, pos, [], ◌∷◌, refl, sym, ap, subst, ◌∙◌}
use Rattle.qe_ring.specs.Ring.{Operations}
use Rattle.qe_ring.specs.Expression.{Expression, var, nought, unit, constant, of_int, ◌⊕◌, ⊖◌, ◌⊗◌, ◌⊝◌}
use Rattle.qe_ring.specs.Sign.{Sign, Zero, Plus, is_not_zero, IsNotZero, is, ◌·◌, pick}
use Rattle.qe_ring.specs.Ordered.{EqualBySign}
use Rattle.qe_ring.proofs.Finite.{any, given, Claim, decide, is-eq, to_is}
use Rattle.qe_ring.proofs.Hypotheses.{fact}
use Rattle.qe_ring.proofs.Signs.{signs_are}
use Rattle.qe_ring.proofs.Roots.{sign_at_root}
use Rattle.qe_line.specs.Field.{IsEuclideanField}
use Rattle.qe_line.specs.Quadratic.{linear, upper, lower, quadratic, plain_part, root_part, norm, IsRootValue, IsRoot}
use Rattle.qe_line.proofs.Field.{equal_by, same_by, equals_zero, two_plus, four_plus}
use Rattle.qe_line.proofs.Letters.{A, B, C₀, X, Polynomial, twice_A, Discriminant}

-- the letters of a root after those of the polynomial and x, with the square root last
abbrev D : Expression
D = var 4

abbrev P : Expression
P = var 5

abbrev Q : Expression
Q = var 6

abbrev R : Expression
R = var 7

abbrev W : Expression
W = var 8

-- a square that is not zero leaves a product its sign
abbrev Squared : Claim (any ∷ given ∷ any ∷ any ∷ given ∷ [])
Squared d = (is_not_zero d, λ _ f g. (is (d · d · f) g, λ _. is f g))

abbrev Own : Claim (any ∷ given ∷ any ∷ given ∷ [])
Own a = (is_not_zero a, λ _ f. (is (Plus · (Plus · (a · f))) Zero, λ _. is f Zero))

abbrev Twice : Claim (any ∷ given ∷ [])
Twice a = (is_not_zero (Plus · a), λ _. is_not_zero a)

module _ {C : Type 0} {o : Operations C} {s : C → Sign} (F : IsEuclideanField o s) where
  open o use {add, mul}
  open F use {ordered}

  -- at (p + q*w)/d with w*w = r the polynomial times d*d is A + B*w
  pub value_at_root : (a b c p q r d v : C) → (h : IsRootValue o s p q r d v)
      → EqualBySign o s (mul (mul d d) (quadratic o a b c v)) (add (plain_part o a b c p q r d) (mul (root_part o a b c p q r d) h.root))
  value_at_root a b c p q r d v h = equal_by F (a ∷ b ∷ c ∷ v ∷ d ∷ p ∷ q ∷ r ∷ h.root ∷ [])
      (fact (A ⊗ (D ⊗ X ⊕ P ⊕ Q ⊗ W) ⊕ B ⊗ D) (D ⊗ X) (P ⊕ Q ⊗ W) ∷ fact (A ⊗ (Q ⊗ Q)) (W ⊗ W) R ∷ [])
      (D ⊗ D ⊗ Polynomial)
      (A ⊗ (P ⊗ P ⊕ Q ⊗ Q ⊗ R) ⊕ B ⊗ P ⊗ D ⊕ C₀ ⊗ (D ⊗ D) ⊕ (constant (pos 2) ⊗ (A ⊗ P ⊗ Q) ⊕ B ⊗ Q ⊗ D) ⊗ W)
      (h.value, (h.square, tt)) refl

  -- the sign at the value of a root: of A^2 - B^2*r, A and B*r by the rule for A + B*sqrt(r)
  pub sign_at_value : (a b c p q r d v : C) → IsRootValue o s p q r d v
      → s (quadratic o a b c v)
      ≡ pick (s (norm o (plain_part o a b c p q r d) (root_part o a b c p q r d) r)) (s (plain_part o a b c p q r d)) (s (root_part o a b c p q r d) · s r)
  sign_at_value a b c p q r d v h = is-eq (s (quadratic o a b c v)) (s total)
      (decide (any ∷ given ∷ any ∷ any ∷ given ∷ []) Squared tt (s d) h.divisor (s (quadratic o a b c v)) (s total)
      (to_is (s d · s d · s (quadratic o a b c v)) (s total)
      (sym (signs_are o s (EqualBySign o s) ordered (a ∷ b ∷ c ∷ v ∷ d ∷ []) (D ⊗ D ⊗ Polynomial))
      ∙ ordered.sign-same (mul (mul d d) (quadratic o a b c v)) total (value_at_root a b c p q r d v h))))
      ∙ sign_at_root o s (EqualBySign o s) ordered (plain_part o a b c p q r d) (root_part o a b c p q r d) r h.root h.not-minus h.square
    where
      total : C
      total = add (plain_part o a b c p q r d) (mul (root_part o a b c p q r d) h.root)

  not_zero_half : (a : C) → IsNotZero (s (mul (of_int o (pos 2)) a)) → IsNotZero (s a)
  not_zero_half a h = decide (any ∷ given ∷ []) Twice tt (s a)
      (subst (λ z. IsNotZero z) (ordered.sign-mul (of_int o (pos 2)) a ∙ ap (λ k. k · s a) (two_plus F)) h)

  -- 4*a times the polynomial is zero
  own_zero : (a b c v : C) → IsNotZero (s (mul (of_int o (pos 2)) a)) → s (of_int o (pos 4)) · (s a · s (quadratic o a b c v)) ≡ Zero
      → s (quadratic o a b c v) ≡ Zero
  own_zero a b c v h e = is-eq (s (quadratic o a b c v)) Zero
      (decide (any ∷ given ∷ any ∷ given ∷ []) Own tt (s a) (not_zero_half a h) (s (quadratic o a b c v))
      (to_is (Plus · (s a · s (quadratic o a b c v))) Zero (ap (λ k. k · (s a · s (quadratic o a b c v))) (sym (four_plus F)) ∙ e)))

  -- a polynomial is zero at its root
  pub zero_at_root : (a b c v : C) → IsRoot o s a b c v → s (quadratic o a b c v) ≡ Zero
  zero_at_root a b c v (linear, h) = same_by F (a ∷ b ∷ c ∷ v ∷ h.1.root ∷ [])
      (fact (X ⊗ X) A nought ∷ fact unit (B ⊗ X) (⊖ C₀ ⊕ nought ⊗ D) ∷ []) Polynomial nought (equals_zero F a h.0, (h.1.value, tt)) refl
  zero_at_root a b c v (upper, h) = own_zero a b c v h.divisor (same_by F (a ∷ b ∷ c ∷ v ∷ h.root ∷ [])
      (fact (twice_A ⊗ X ⊕ B ⊕ D) (twice_A ⊗ X) (⊖ B ⊕ unit ⊗ D) ∷ fact unit (D ⊗ D) Discriminant ∷ [])
      (constant (pos 4) ⊗ (A ⊗ Polynomial)) nought (h.value, (h.square, tt)) refl)
  zero_at_root a b c v (lower, h) = own_zero a b c v h.divisor (same_by F (a ∷ b ∷ c ∷ v ∷ h.root ∷ [])
      (fact (twice_A ⊗ X ⊕ B ⊝ D) (twice_A ⊗ X) (⊖ B ⊕ ⊖ unit ⊗ D) ∷ fact unit (D ⊗ D) Discriminant ∷ [])
      (constant (pos 4) ⊗ (A ⊗ Polynomial)) nought (h.value, (h.square, tt)) refl)
