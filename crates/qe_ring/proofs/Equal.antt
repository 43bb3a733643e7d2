-- Equality by the sign of the difference, in any ordered ring: an ordered ring up to that again.
use Rattle.std.proofs.Common.{◌≡◌, List, [], ◌∷◌, refl, ◌∙◌}
use Rattle.qe_ring.specs.Ring.{Operations, difference, IsRing}
use Rattle.qe_ring.specs.Sign.{Sign, Zero, is, ◌·◌, adds}
use Rattle.qe_ring.specs.Ordered.{IsOrdered, EqualBySign}
use Rattle.qe_ring.specs.Expression.{Expression, var, nought, unit, ◌⊕◌, ◌⊝◌, ⊖◌, ◌⊗◌, value, normal}
use Rattle.qe_ring.proofs.Solver.{solve}
use Rattle.qe_ring.proofs.Finite.{any, given, Claim, decide, is-eq, to_is}
use Rattle.qe_ring.proofs.Signs.{signs, law, sign-zero}

abbrev x₀ : Expression
x₀ = var 0

abbrev x₁ : Expression
x₁ = var 1

abbrev x₂ : Expression
x₂ = var 2

abbrev x₃ : Expression
x₃ = var 3

abbrev Both : Claim (any ∷ given ∷ any ∷ given ∷ any ∷ any ∷ any ∷ given ∷ [])
Both u = (is u Zero, λ _ v. (is v Zero, λ _ a b w. (adds (a · u) (b · v) w, λ _. is w Zero)))

abbrev Left : Claim (any ∷ given ∷ any ∷ any ∷ given ∷ [])
Left u = (is u Zero, λ _ b w. (adds u b w, λ _. is w b))

module _ {C : Type 0} (o : Operations C) (s : C → Sign) (E : C → C → Type 0) (L : IsOrdered o s E) where
  open o use {zero, one, add, neg, mul}
  open L use {ring, sign-same, sign-one, sign-neg, sign-mul, sign-add}

  -- what is equal up to E is equal by the sign of the difference
  pub weaken : (a b : C) → E a b → EqualBySign o s a b
  weaken a b h = sign-same (difference o a b) zero
      (ring.then (difference o a b) (difference o b b) zero (ring.add-same a b (neg b) (neg b) h (ring.same (neg b))) (ring.add-neg b))
      ∙ sign-zero o s E L

  -- an expression that two zeros give is zero
  pub zero_by : (point : List C) (u v a b w : Expression) → signs o s point u ≡ Zero → signs o s point v ≡ Zero → normal (a ⊗ u ⊕ b ⊗ v ⊝ w) ≡ []
      → signs o s point w ≡ Zero
  zero_by point u v a b w hu hv e = is-eq (sg w) Zero (decide (any ∷ given ∷ any ∷ given ∷ any ∷ any ∷ any ∷ given ∷ []) Both tt (sg u)
      (to_is (sg u) Zero hu) (sg v) (to_is (sg v) Zero hv) (sg a) (sg b) (sg w) (law o s E L point (a ⊗ u) (b ⊗ v) w e))
    where
      sg : Expression → Sign
      sg t = signs o s point t

  -- the solver, for this equality
  pub by_ring : (point : List C) (a b : Expression) → normal (a ⊝ b) ≡ [] → EqualBySign o s (value o point a) (value o point b)
  by_ring point a b h = weaken (value o point a) (value o point b) (solve o E ring point a b h)

  -- the ring up to this equality
  pub equal_ring : IsRing o (EqualBySign o s)
  equal_ring = record {
    same = λ a. by_ring (a ∷ []) x₀ x₀ refl;
    back = λ a b h. zero_by (a ∷ b ∷ []) (x₀ ⊝ x₁) (x₀ ⊝ x₁) (⊖ unit) nought (x₁ ⊝ x₀) h h refl;
    then = λ a b c h k. zero_by (a ∷ b ∷ c ∷ []) (x₀ ⊝ x₁) (x₁ ⊝ x₂) unit unit (x₀ ⊝ x₂) h k refl;
    add-same = λ a b c d h k. zero_by (a ∷ b ∷ c ∷ d ∷ []) (x₀ ⊝ x₁) (x₂ ⊝ x₃) unit unit (x₀ ⊕ x₂ ⊝ (x₁ ⊕ x₃)) h k refl;
    neg-same = λ a b h. zero_by (a ∷ b ∷ []) (x₀ ⊝ x₁) (x₀ ⊝ x₁) (⊖ unit) nought (⊖ x₀ ⊝ ⊖ x₁) h h refl;
    mul-same = λ a b c d h k. zero_by (a ∷ b ∷ c ∷ d ∷ []) (x₀ ⊝ x₁) (x₂ ⊝ x₃) x₂ x₁ (x₀ ⊗ x₂ ⊝ x₁ ⊗ x₃) h k refl;
    add-assoc = λ a b c. by_ring (a ∷ b ∷ c ∷ []) (x₀ ⊕ x₁ ⊕ x₂) (x₀ ⊕ (x₁ ⊕ x₂)) refl;
    add-comm = λ a b. by_ring (a ∷ b ∷ []) (x₀ ⊕ x₁) (x₁ ⊕ x₀) refl;
    add-zero = λ a. by_ring (a ∷ []) (x₀ ⊕ nought) x₀ refl;
    add-neg = λ a. by_ring (a ∷ []) (x₀ ⊝ x₀) nought refl;
    mul-assoc = λ a b c. by_ring (a ∷ b ∷ c ∷ []) (x₀ ⊗ x₁ ⊗ x₂) (x₀ ⊗ (x₁ ⊗ x₂)) refl;
    mul-comm = λ a b. by_ring (a ∷ b ∷ []) (x₀ ⊗ x₁) (x₁ ⊗ x₀) refl;
    mul-one = λ a. by_ring (a ∷ []) (x₀ ⊗ unit) x₀ refl;
    mul-add = λ a b c. by_ring (a ∷ b ∷ c ∷ []) (x₀ ⊗ (x₁ ⊕ x₂)) (x₀ ⊗ x₁ ⊕ x₀ ⊗ x₂) refl;
  }

  -- what is equal has one sign
  pub equal_sign : (a b : C) → EqualBySign o s a b → s a ≡ s b
  equal_sign a b h = is-eq (s a) (s b) (decide (any ∷ given ∷ any ∷ any ∷ given ∷ []) Left tt (s (difference o a b))
      (to_is (s (difference o a b)) Zero h) (s b) (s a) (law o s E L (a ∷ b ∷ []) (x₀ ⊝ x₁) x₁ x₀ refl))

  -- and the ordered ring
  pub equal_ordered : IsOrdered o s (EqualBySign o s)
  equal_ordered = record { ring = equal_ring; sign-same = equal_sign; sign-one = sign-one; sign-neg = sign-neg; sign-mul = sign-mul; sign-add = sign-add }
