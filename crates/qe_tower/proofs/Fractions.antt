-- The fractions over an ordered ring are an ordered ring.
use Rattle.std.proofs.Common.{◌≡◌, ℤ, pos, List, [], ◌∷◌, refl}
use Rattle.qe_ring.specs.Ring.{Operations, IsRing}
use Rattle.qe_ring.specs.Sign.{Sign, Zero, Plus, int_sign, is, opposite, ◌·◌, adds}
use Rattle.qe_ring.specs.Ordered.{IsOrdered, EqualBySign, int_operations}
use Rattle.qe_ring.specs.Expression.{Expression, var, nought, unit, ◌⊕◌, ◌⊝◌, ⊖◌, ◌⊗◌, normal}
use Rattle.qe_ring.proofs.Finite.{Step, any, given, Claim, Holds, decide, is-eq, to_is}
use Rattle.qe_ring.proofs.Signs.{signs, same_sign, law}
use Rattle.qe_ring.proofs.Ints.{int_ordered, plus_of_positive}
use Rattle.qe_tower.specs.Fraction.{Fraction, fraction_operations, fraction_sign}

abbrev p₀ : Expression
p₀ = var 0

abbrev q₀ : Expression
q₀ = var 1

abbrev p₁ : Expression
p₁ = var 2

abbrev q₁ : Expression
q₁ = var 3

abbrev p₂ : Expression
p₂ = var 4

abbrev q₂ : Expression
q₂ = var 5

abbrev p₃ : Expression
p₃ = var 6

abbrev q₃ : Expression
q₃ = var 7

-- u and v are zero and d is positive, and a * u + b * v = d * w: then w is zero
abbrev Mixed : List Step
Mixed = any ∷ given ∷ any ∷ given ∷ any ∷ given ∷ any ∷ any ∷ any ∷ given ∷ []

abbrev Mixed_claim : Claim Mixed
Mixed_claim u = (is u Zero, λ _ v. (is v Zero, λ _ d. (is d Plus, λ _ a b w. (adds (a · u) (b · v) (d · w), λ _. is w Zero))))

mixed : Holds Mixed Mixed_claim
mixed = decide Mixed Mixed_claim tt

-- a * d - b * e is zero for positive d and e: then a and b have one sign
abbrev Crossed : List Step
Crossed = any ∷ given ∷ any ∷ given ∷ any ∷ given ∷ any ∷ any ∷ given ∷ []

abbrev Crossed_claim : Claim Crossed
Crossed_claim d = (is d Plus, λ _ e. (is e Plus, λ _ z. (is z Zero, λ _ a b. (adds (a · d) (opposite b · e) z, λ _. is a b))))

crossed : Holds Crossed Crossed_claim
crossed = decide Crossed Crossed_claim tt

-- the sign of a sum of fractions
abbrev Added : List Step
Added = any ∷ given ∷ any ∷ given ∷ any ∷ any ∷ any ∷ given ∷ []

abbrev Added_claim : Claim Added
Added_claim d = (is d Plus, λ _ e. (is e Plus, λ _ a b c. (adds (a · e) (b · d) c, λ _. adds a b c)))

added : Holds Added Added_claim
added = decide Added Added_claim tt

abbrev o : Operations ℤ
o = int_operations

abbrev s : ℤ → Sign
s = int_sign

abbrev E : ℤ → ℤ → Type 0
E a b = a ≡ b

abbrev L : IsOrdered o s E
L = int_ordered

abbrev F : Type 0
F = Fraction

plus_den : (x : F) → s (pos x.denominator) ≡ Plus
plus_den x = plus_of_positive x.denominator x.positive

zeros : (point : List ℤ) (e : Expression) → normal (e ⊝ nought) ≡ [] → signs o s point e ≡ Zero
zeros point e h = same_sign o s E L point e nought h

-- the numerator of p/q - p'/q'
abbrev D : Expression → Expression → Expression → Expression → Expression
D p q p' q' = p ⊗ q' ⊕ ⊖ p' ⊗ q

-- the numerators and denominators of four fractions, for the variables p₀ q₀ to p₃ q₃
env : F → F → F → F → List ℤ
env x y z w = x.numerator ∷ pos x.denominator ∷ y.numerator ∷ pos y.denominator ∷ z.numerator ∷ pos z.denominator ∷ w.numerator ∷ pos w.denominator ∷ []

-- a numerator that two zeros give after a positive factor is zero
combine : (point : List ℤ) (u v d a b w : Expression) → signs o s point u ≡ Zero → signs o s point v ≡ Zero → signs o s point d ≡ Plus
    → normal (a ⊗ u ⊕ b ⊗ v ⊝ d ⊗ w) ≡ [] → signs o s point w ≡ Zero
combine point u v d a b w hu hv hd e = is-eq (sg w) Zero (mixed (sg u) (to_is (sg u) Zero hu) (sg v) (to_is (sg v) Zero hv) (sg d)
    (to_is (sg d) Plus hd) (sg a) (sg b) (sg w) (law o s E L point (a ⊗ u) (b ⊗ v) (d ⊗ w) e))
  where
    sg : Expression → Sign
    sg t = signs o s point t

-- the fractions are a ring up to the sign of the difference
fraction_ring : IsRing fraction_operations (EqualBySign fraction_operations fraction_sign)
unfolding env
fraction_ring = record {
  same = λ x. zeros (env x x x x) (D p₀ q₀ p₀ q₀) refl;
  back = λ x y h. combine (env x y x y) (D p₀ q₀ p₁ q₁) (D p₀ q₀ p₁ q₁) unit (⊖ unit) nought (D p₁ q₁ p₀ q₀) h h refl refl;
  then = λ x y z h k. combine (env x y z z) (D p₀ q₀ p₁ q₁) (D p₁ q₁ p₂ q₂) q₁ q₂ q₀ (D p₀ q₀ p₂ q₂) h k (plus_den y) refl;
  add-same = λ x y z w h k. combine (env x y z w) (D p₀ q₀ p₁ q₁) (D p₂ q₂ p₃ q₃) unit (q₂ ⊗ q₃) (q₀ ⊗ q₁)
      (D (p₀ ⊗ q₂ ⊕ p₂ ⊗ q₀) (q₀ ⊗ q₂) (p₁ ⊗ q₃ ⊕ p₃ ⊗ q₁) (q₁ ⊗ q₃)) h k refl refl;
  neg-same = λ x y h. combine (env x y x y) (D p₀ q₀ p₁ q₁) (D p₀ q₀ p₁ q₁) unit (⊖ unit) nought (D (⊖ p₀) q₀ (⊖ p₁) q₁) h h refl refl;
  mul-same = λ x y z w h k. combine (env x y z w) (D p₀ q₀ p₁ q₁) (D p₂ q₂ p₃ q₃) unit (p₂ ⊗ q₃) (p₁ ⊗ q₀) (D (p₀ ⊗ p₂) (q₀ ⊗ q₂) (p₁ ⊗ p₃) (q₁ ⊗ q₃))
      h k refl refl;
  add-assoc = λ x y z. zeros (env x y z z) (D ((p₀ ⊗ q₁ ⊕ p₁ ⊗ q₀) ⊗ q₂ ⊕ p₂ ⊗ (q₀ ⊗ q₁)) (q₀ ⊗ q₁ ⊗ q₂) (p₀ ⊗ (q₁ ⊗ q₂) ⊕ (p₁ ⊗ q₂ ⊕ p₂ ⊗ q₁) ⊗ q₀)
      (q₀ ⊗ (q₁ ⊗ q₂))) refl;
  add-comm = λ x y. zeros (env x y x y) (D (p₀ ⊗ q₁ ⊕ p₁ ⊗ q₀) (q₀ ⊗ q₁) (p₁ ⊗ q₀ ⊕ p₀ ⊗ q₁) (q₁ ⊗ q₀)) refl;
  add-zero = λ x. zeros (env x x x x) (D (p₀ ⊗ unit ⊕ nought ⊗ q₀) (q₀ ⊗ unit) p₀ q₀) refl;
  add-neg = λ x. zeros (env x x x x) (D (p₀ ⊗ q₀ ⊕ ⊖ p₀ ⊗ q₀) (q₀ ⊗ q₀) nought unit) refl;
  mul-assoc = λ x y z. zeros (env x y z z) (D (p₀ ⊗ p₁ ⊗ p₂) (q₀ ⊗ q₁ ⊗ q₂) (p₀ ⊗ (p₁ ⊗ p₂)) (q₀ ⊗ (q₁ ⊗ q₂))) refl;
  mul-comm = λ x y. zeros (env x y x y) (D (p₀ ⊗ p₁) (q₀ ⊗ q₁) (p₁ ⊗ p₀) (q₁ ⊗ q₀)) refl;
  mul-one = λ x. zeros (env x x x x) (D (p₀ ⊗ unit) (q₀ ⊗ unit) p₀ q₀) refl;
  mul-add = λ x y z. zeros (env x y z z) (D (p₀ ⊗ (p₁ ⊗ q₂ ⊕ p₂ ⊗ q₁)) (q₀ ⊗ (q₁ ⊗ q₂)) (p₀ ⊗ p₁ ⊗ (q₀ ⊗ q₂) ⊕ p₀ ⊗ p₂ ⊗ (q₀ ⊗ q₁))
      (q₀ ⊗ q₁ ⊗ (q₀ ⊗ q₂))) refl;
}

-- and an ordered one
pub fraction_ordered : IsOrdered fraction_operations fraction_sign (EqualBySign fraction_operations fraction_sign)
unfolding env
fraction_ordered = record {
  ring = fraction_ring;
  sign-same = λ x y h. is-eq (s x.numerator) (s y.numerator) (crossed (s (pos y.denominator)) (to_is (s (pos y.denominator)) Plus (plus_den y))
      (s (pos x.denominator)) (to_is (s (pos x.denominator)) Plus (plus_den x)) (signs o s (env x y x y) (D p₀ q₀ p₁ q₁))
      (to_is (signs o s (env x y x y) (D p₀ q₀ p₁ q₁)) Zero h) (s x.numerator) (s y.numerator)
      (law o s E L (env x y x y) (p₀ ⊗ q₁) (⊖ p₁ ⊗ q₀) (D p₀ q₀ p₁ q₁) refl));
  sign-one = refl;
  sign-neg = λ x. L.sign-neg x.numerator;
  sign-mul = λ x y. L.sign-mul x.numerator y.numerator;
  sign-add = λ x y. added (s (pos x.denominator)) (to_is (s (pos x.denominator)) Plus (plus_den x)) (s (pos y.denominator))
      (to_is (s (pos y.denominator)) Plus (plus_den y)) (s x.numerator) (s y.numerator) (signs o s (env x y x y) (p₀ ⊗ q₁ ⊕ p₁ ⊗ q₀))
      (law o s E L (env x y x y) (p₀ ⊗ q₁) (p₁ ⊗ q₀) (p₀ ⊗ q₁ ⊕ p₁ ⊗ q₀) refl);
}
