-- Signs in an ordered ring, read off expressions.
use Rattle.std.proofs.Common.{◌≡◌, T, List, [], ◌∷◌, refl, sym, ap, ap₂, subst, ◌∙◌}
use Rattle.qe_ring.specs.Ring.{Operations, difference}
use Rattle.qe_ring.specs.Sign.{Sign, Zero, Plus, is, opposite, ◌·◌, adds, pick}
use Rattle.qe_ring.specs.Ordered.{IsOrdered}
use Rattle.qe_ring.specs.Expression.{Expression, var, nought, unit, constant, ◌⊕◌, ◌⊝◌, ⊖◌, ◌⊗◌, of_int, entry, value, normal}
use Rattle.qe_ring.proofs.Solver.{solve}
use Rattle.qe_ring.proofs.Finite.{any, given, Claim, decide, is-eq, is-same, pick_holds}

-- the sign of an expression, split at products and negatives
abbrev pub signs : {C : Type 0} → Operations C → (C → Sign) → List C → Expression → Sign
signs o s point (var x) = s (entry o.zero point x)
signs o s point nought = Zero
signs o s point unit = Plus
signs o s point (constant z) = s (of_int o z)
signs o s point (a ⊕ b) = s (o.add (value o point a) (value o point b))
signs o s point (⊖ a) = opposite (signs o s point a)
signs o s point (a ⊗ b) = signs o s point a · signs o s point b

abbrev Twice : Claim (any ∷ any ∷ given ∷ [])
Twice a b = (adds a a b, λ _. is b a)

abbrev Own_opposite : Claim (any ∷ given ∷ [])
Own_opposite a = (is a (opposite a), λ _. is a Zero)

self_opposite : (a : Sign) → a ≡ opposite a → a ≡ Zero
self_opposite a h = is-eq a Zero (decide (any ∷ given ∷ []) Own_opposite tt a (subst (λ z. T (is a z)) h (is-same a)))

module _ {C : Type 0} (o : Operations C) (s : C → Sign) (E : C → C → Type 0) (L : IsOrdered o s E) where
  open o use {zero, one, add, neg, mul}
  open L use {ring, sign-same, sign-one, sign-neg, sign-mul, sign-add}

  -- the sign of zero
  pub sign-zero : s zero ≡ Zero
  sign-zero = self_opposite (s zero) (sign-same zero (neg zero) (solve o E ring [] nought (⊖ nought) refl) ∙ sign-neg zero)

  -- the sign of a value is what `signs` reads off its expression
  pub signs_are : (point : List C) (e : Expression) → s (value o point e) ≡ signs o s point e
  signs_are point (var x) = refl
  signs_are point nought = sign-zero
  signs_are point unit = sign-one
  signs_are point (constant z) = refl
  signs_are point (a ⊕ b) = refl
  signs_are point (⊖ a) = sign-neg (value o point a) ∙ ap opposite (signs_are point a)
  signs_are point (a ⊗ b) = sign-mul (value o point a) (value o point b) ∙ ap₂ ◌·◌ (signs_are point a) (signs_are point b)

  -- two expressions that are equal in every ring have one sign
  pub same_sign : (point : List C) (a b : Expression) → normal (a ⊝ b) ≡ [] → signs o s point a ≡ signs o s point b
  same_sign point a b h = sym (signs_are point a) ∙ sign-same (value o point a) (value o point b) (solve o E ring point a b h) ∙ signs_are point b

  -- a + b = c in every ring: what their signs are to one another
  pub law : (point : List C) (a b c : Expression) → normal (a ⊕ b ⊝ c) ≡ [] → T (adds (signs o s point a) (signs o s point b) (signs o s point c))
  law point a b c h =
      subst (λ u. T (adds (signs o s point a) (signs o s point b) u)) (same_sign point (a ⊕ b) c h)
      (subst (λ u. T (adds (signs o s point a) u (s (add (value o point a) (value o point b))))) (signs_are point b)
      (subst (λ u. T (adds u (s (value o point b)) (s (add (value o point a) (value o point b))))) (signs_are point a)
      (sign-add (value o point a) (value o point b))))

  -- a + a has the sign of a
  pub double : (a : C) → s (add a a) ≡ s a
  double a = is-eq (s (add a a)) (s a) (decide (any ∷ any ∷ given ∷ []) Twice tt (s a) (s (add a a)) (sign-add a a))

  -- the sign of u + v
  pub pick_is : (u v : C) → s (add u v) ≡ pick (s (difference o (mul u u) (mul v v))) (s u) (s v)
  pick_is u v = is-eq (s (add u v)) (pick (s (difference o (mul u u) (mul v v))) (s u) (s v))
      (subst (λ z. T (is (s (add u v)) (pick z (s u) (s v)))) (same_sign (u ∷ v ∷ []) ((x ⊕ y) ⊗ (x ⊝ y)) (x ⊗ x ⊝ y ⊗ y) refl)
      (pick_holds (s (add u v)) (s (difference o u v)) (s u) (s v)
      (subst (λ z. T (adds (s (add u v)) (s (difference o u v)) z)) (double u) (law (u ∷ v ∷ []) (x ⊕ y) (x ⊝ y) (x ⊕ x) refl))
      (subst (λ z. T (adds (s (add u v)) (opposite (s (difference o u v))) z)) (double v) (law (u ∷ v ∷ []) (x ⊕ y) (⊖ (x ⊝ y)) (y ⊕ y) refl))))
    where
      x : Expression
      x = var 0

      y : Expression
      y = var 1

  -- the same, at expressions
  pub pick_at : (point : List C) (u v : Expression) → s (add (value o point u) (value o point v))
      ≡ pick (signs o s point (u ⊗ u ⊝ v ⊗ v)) (signs o s point u) (signs o s point v)
  pick_at point u v = pick_is (value o point u) (value o point v) ∙ ap₂ (pick (signs o s point (u ⊗ u ⊝ v ⊗ v))) (signs_are point u) (signs_are point v)
