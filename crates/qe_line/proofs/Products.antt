-- Signs that are products of the signs of u - r over a list of values r: what they are at a place.
use Rattle.std.proofs.Common.{◌≡◌, List, [], ◌∷◌, refl, sym, ap, ap₂, subst, ◌∙◌}
use Rattle.qe_ring.specs.Ring.{Operations, difference}
use Rattle.qe_ring.specs.Expression.{var, ⊖◌, ◌⊝◌}
use Rattle.qe_ring.specs.Sign.{Sign, Minus, Zero, Plus, IsNotMinus, opposite, ◌·◌}
use Rattle.qe_ring.specs.Ordered.{AtMostBySign}
use Rattle.qe_ring.proofs.Finite.{is-eq}
use Rattle.qe_line.specs.Field.{IsEuclideanField}
use Rattle.qe_line.specs.Place.{Place, below, at, above, IsPlus, LessBySign}
use Rattle.qe_line.proofs.Field.{same}
use Rattle.qe_line.proofs.Places.{There, most_less, here, then, both, passed}

-- the sign of u - r just above a value at which it is t
abbrev pub sign_after : Sign → Sign
sign_after Minus = Minus
sign_after Zero = Plus
sign_after Plus = Plus

-- P holds of each
abbrev pub Each : {C : Type 0} → (C → Type 0) → List C → Type 0
Each P [] = Unit {0}
Each P (x ∷ xs) = P x × Each P xs

-- what follows for one follows for each
pub each_then : {C : Type 0} (P Q : C → Type 0) → ((x : C) → P x → Q x) → (xs : List C) → Each P xs → Each Q xs
each_then P Q f [] h = tt
each_then P Q f (x ∷ xs) h = (f x h.0, each_then P Q f xs h.1)

module _ {C : Type 0} {o : Operations C} {s : C → Sign} (F : IsEuclideanField o s) where
  -- a sign times those of u - r
  abbrev pub product : Sign → List C → C → Sign
  product t [] u = t
  product t (r ∷ rs) u = s (difference o u r) · product t rs u

  -- the sign of u - r at a place
  abbrev pub factor_at : Place C → C → Sign
  factor_at below r = Minus
  factor_at (at v) r = s (difference o v r)
  factor_at (above v) r = sign_after (s (difference o v r))

  -- the product at a place
  abbrev pub product_at : Place C → Sign → List C → Sign
  product_at p t [] = t
  product_at p t (r ∷ rs) = factor_at p r · product_at p t rs

  turned : (x y : C) → s (difference o x y) ≡ opposite (s (difference o y x))
  turned x y = same F (x ∷ y ∷ []) (var 0 ⊝ var 1) (⊖ (var 1 ⊝ var 0)) refl

  -- where u is less than r, u - r is minus
  pub minus_below : (u r : C) → LessBySign o s u r → s (difference o u r) ≡ Minus
  minus_below u r h = turned u r ∙ ap opposite (is-eq (s (difference o r u)) Plus h)

  plus_above : (v r : C) → AtMostBySign o s r v → There o s (above v) (λ u. s (difference o u r) ≡ Plus)
  plus_above v r h = then F (passed F v) (λ u k. is-eq (s (difference o u r)) Plus (most_less F r v u h k))

  factor_above : (v r : C) (t : Sign) → s (difference o v r) ≡ t → There o s (above v) (λ u. s (difference o u r) ≡ sign_after t)
  factor_above v r Minus e = record { is = (r, (subst (λ z. IsPlus z) (sym (turned r v ∙ ap opposite e)) tt, λ u k l. minus_below u r l)) }
  factor_above v r Zero e = plus_above v r (subst (λ z. IsNotMinus z) (sym e) tt)
  factor_above v r Plus e = plus_above v r (subst (λ z. IsNotMinus z) (sym e) tt)

  factor_is : (p : Place C) (r : C) → There o s p (λ u. s (difference o u r) ≡ factor_at p r)
  factor_is below r = record { is = (r, λ u l. minus_below u r l) }
  factor_is (at v) r = record { is = refl }
  factor_is (above v) r = factor_above v r (s (difference o v r)) refl

  -- at a place the product of the signs is the product at the place
  pub product_is : (p : Place C) (t : Sign) (rs : List C) → There o s p (λ u. product t rs u ≡ product_at p t rs)
  product_is p t [] = here F p (λ u. refl)
  product_is p t (r ∷ rs) = then F (both F (factor_is p r) (product_is p t rs)) (λ u h. ap₂ ◌·◌ h.0 h.1)
