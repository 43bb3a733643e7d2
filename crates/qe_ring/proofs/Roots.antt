-- Square roots in an ordered ring: a root that is not minus is the only one, and the sign of a + b*w for a root w.
use Rattle.std.proofs.Common.{◌≡◌, [], ◌∷◌, refl, sym, ap, ◌∙◌}
use Rattle.qe_ring.specs.Ring.{Operations, difference}
use Rattle.qe_ring.specs.Sign.{Sign, Minus, Zero, Plus, is_not_minus, IsNotMinus, is, opposite, ◌·◌, pick}
use Rattle.qe_ring.specs.Ordered.{IsOrdered, EqualBySign}
use Rattle.qe_ring.specs.Expression.{var, ◌⊝◌, ⊖◌, ◌⊗◌}
use Rattle.qe_ring.proofs.Hypotheses.{fact, solve_by}
use Rattle.qe_ring.proofs.Finite.{any, given, Claim, decide, is-eq, to_is}
use Rattle.qe_ring.proofs.Signs.{signs, same_sign, pick_at}

-- the sign of what is not minus is that of its square
abbrev Rooted : Claim (any ∷ given ∷ [])
Rooted w = (is_not_minus w, λ _. is w (w · w))

-- two that are not minus and have equal squares do not differ
abbrev Meets : Claim (any ∷ given ∷ any ∷ given ∷ any ∷ given ∷ [])
Meets z = (is z Zero, λ _ a. (is_not_minus a, λ _ b. (is_not_minus b, λ _. is (pick z a (opposite b)) Zero)))

module _ {C : Type 0} (o : Operations C) (s : C → Sign) (E : C → C → Type 0) (L : IsOrdered o s E) where
  open o use {zero, one, add, neg, mul}

  -- two roots of one value are equal where neither is minus
  pub one_root : (u v : C) → IsNotMinus (s u) → IsNotMinus (s v) → EqualBySign o s (mul u u) (mul v v) → EqualBySign o s u v
  one_root u v hu hv h = pick_at o s E L (u ∷ v ∷ []) (var 0) (⊖ var 1)
      ∙ is-eq (pick z (s u) (opposite (s v))) Zero (decide (any ∷ given ∷ any ∷ given ∷ any ∷ given ∷ []) Meets tt z (to_is z Zero (squares ∙ h))
      (s u) hu (s v) hv)
    where
      z : Sign
      z = signs o s (u ∷ v ∷ []) (var 0 ⊗ var 0 ⊝ ⊖ var 1 ⊗ ⊖ var 1)

      squares : z ≡ s (difference o (mul u u) (mul v v))
      squares = same_sign o s E L (u ∷ v ∷ []) (var 0 ⊗ var 0 ⊝ ⊖ var 1 ⊗ ⊖ var 1) (var 0 ⊗ var 0 ⊝ var 1 ⊗ var 1) refl

  -- a*q = b*q for a positive q gives a = b
  pub cancel : (a b q : C) → s q ≡ Plus → EqualBySign o s (mul a q) (mul b q) → EqualBySign o s a b
  cancel a b q hq h = times_plus (s (difference o a b)) (sym (ap (λ t. s (difference o a b) · t) hq)
      ∙ same_sign o s E L (a ∷ b ∷ q ∷ []) ((var 0 ⊝ var 1) ⊗ var 2) (var 0 ⊗ var 2 ⊝ var 1 ⊗ var 2) refl ∙ h)
    where
      times_plus : (t : Sign) → t · Plus ≡ Zero → t ≡ Zero
      times_plus Minus p = p
      times_plus Zero p = refl
      times_plus Plus p = p

  -- the sign of a root that is not minus is that of its square
  pub root_has_sign : (w r : C) → IsNotMinus (s w) → s (mul w w) ≡ s r → s w ≡ s r
  root_has_sign w r hw e = is-eq (s w) (s w · s w) (decide (any ∷ given ∷ []) Rooted tt (s w) hw) ∙ sym (L.sign-mul w w) ∙ e

  -- the sign of a + b*w, for a root w of r
  pub sign_at_root : (a b r w : C) → IsNotMinus (s w) → E (mul w w) r
      → s (add a (mul b w)) ≡ pick (s (difference o (mul a a) (mul (mul b b) r))) (s a) (s b · s r)
  sign_at_root a b r w hw e = pick_at o s E L (a ∷ b ∷ w ∷ []) (var 0) (var 1 ⊗ var 2)
      ∙ ap (λ t. pick t (s a) (s b · s w)) norms
      ∙ ap (λ t. pick (s (difference o (mul a a) (mul (mul b b) r))) (s a) (s b · t)) (root_has_sign w r hw (L.sign-same (mul w w) r e))
    where
      norms : s (difference o (mul a a) (mul (mul b w) (mul b w))) ≡ s (difference o (mul a a) (mul (mul b b) r))
      norms = L.sign-same (difference o (mul a a) (mul (mul b w) (mul b w))) (difference o (mul a a) (mul (mul b b) r))
          (solve_by o E L.ring (a ∷ b ∷ w ∷ r ∷ []) (fact (⊖ (var 1 ⊗ var 1)) (var 2 ⊗ var 2) (var 3) ∷ [])
          (var 0 ⊗ var 0 ⊝ var 1 ⊗ var 2 ⊗ (var 1 ⊗ var 2)) (var 0 ⊗ var 0 ⊝ var 1 ⊗ var 1 ⊗ var 3) (e, tt) refl)
