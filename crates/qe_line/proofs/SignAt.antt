-- The sign of a polynomial at a place; just above a value it is that of the polynomial there, and else that of the derivative just above.
use Rattle.std.proofs.Common.{◌≡◌, Bool, true, false, ◌&&◌, T, pos, List, [], ◌∷◌, refl, sym, ap, ap₂, subst, ◌∙◌}
use Rattle.qe_ring.specs.Ring.{Operations}
use Rattle.qe_ring.specs.Expression.{nought, constant, of_int, ◌⊕◌, ◌⊗◌}
use Rattle.qe_ring.specs.Sign.{Sign, Minus, Zero, Plus, ◌·◌, is, adds}
use Rattle.qe_ring.proofs.Finite.{Step, any, given, Claim, Holds, decide}
use Rattle.qe_line.specs.Field.{IsEuclideanField}
use Rattle.qe_line.specs.Place.{Place, below, at, above}
use Rattle.qe_line.specs.Quadratic.{first_sign, quadratic, slope, sign_at}
use Rattle.qe_line.proofs.Field.{same, law, sign_of_zero, two_plus}
use Rattle.qe_line.proofs.Places.{There, then}
use Rattle.qe_line.proofs.Products.{product_is}
use Rattle.qe_line.proofs.Factored.{Factored, factored}
use Rattle.qe_line.proofs.Letters.{A, B, C₀, X, Polynomial, twice_A, Slope}

-- no sign stands behind that of zero
pub first_sign-zero : (x : Sign) → first_sign x Zero ≡ x
first_sign-zero Minus = refl
first_sign-zero Zero = refl
first_sign-zero Plus = refl

abbrev is_same : Bool → Bool → Bool
is_same true b = b
is_same false true = false
is_same false false = true

is_same-eq : (a b : Bool) → T (is_same a b) → a ≡ b
is_same-eq true true h = refl
is_same-eq true false h = absurd h
is_same-eq false true h = absurd h
is_same-eq false false h = refl

-- the signs of a, v and b, and y of 2*a*v + b, e of a*v^2 + b*v, c, and x of the polynomial at v
abbrev Near : List Step
Near = any ∷ any ∷ any ∷ any ∷ given ∷ any ∷ given ∷ any ∷ any ∷ given ∷ []

abbrev Near_claim : Claim Near
Near_claim a v b y = (
  adds (Plus · a · v) b y,
  λ _ e. (
    adds (a · (v · v)) (b · v) e,
    λ _ c x. (adds e c x, λ _. is_same (is (first_sign x (first_sign y a)) Zero) (is a Zero && (is b Zero && is c Zero))),
  ),
)

near_holds : Holds Near Near_claim
near_holds = decide Near Near_claim tt

module _ {C : Type 0} {o : Operations C} {s : C → Sign} (F : IsEuclideanField o s) where
  open o use {zero, add, mul}

  -- at a place the sign of a polynomial is its sign at the place
  pub sign_is : (p : Place C) (a b c : C) → There o s p (λ u. s (quadratic o a b c u) ≡ sign_at o s p a b c)
  sign_is (at v) a b c = record { is = refl }
  sign_is below a b c = then F (product_is F below g.0 g.1.0) (λ u h. g.1.1.factors u ∙ h ∙ g.1.1.far_below)
    where
      g : Factored F a b c
      g = factored F a b c
  sign_is (above v) a b c = then F (product_is F (above v) g.0 g.1.0) (λ u h. g.1.1.factors u ∙ h ∙ g.1.1.just_above v)
    where
      g : Factored F a b c
      g = factored F a b c

  -- just above v: the sign at v, and else the sign of the derivative just above v
  pub by_derivative : (a b c v : C)
      → sign_at o s (above v) a b c ≡ first_sign (s (quadratic o a b c v)) (sign_at o s (above v) zero (mul (of_int o (pos 2)) a) b)
  by_derivative a b c v = ap (first_sign (s (quadratic o a b c v))) (ap₂ first_sign
      (same F (a ∷ b ∷ c ∷ v ∷ []) Slope (nought ⊗ (X ⊗ X) ⊕ twice_A ⊗ X ⊕ B) refl)
      (sym (second ∙ ap (λ k. k · s a) (two_plus F))))
    where
      second : first_sign (s (slope o zero (mul (of_int o (pos 2)) a) v)) (s zero) ≡ s (of_int o (pos 2)) · s a
      second = ap₂ first_sign (same F (a ∷ b ∷ c ∷ v ∷ []) (constant (pos 2) ⊗ nought ⊗ X ⊕ twice_A) twice_A refl) (sign_of_zero F)
          ∙ first_sign-zero (s (of_int o (pos 2)) · s a)

  -- it is zero just above v exactly where all coefficients are zero
  pub zero_near : (a b c v : C) → is (sign_at o s (above v) a b c) Zero ≡ is (s a) Zero && (is (s b) Zero && is (s c) Zero)
  zero_near a b c v = is_same-eq (is (sign_at o s (above v) a b c) Zero) (is (s a) Zero && (is (s b) Zero && is (s c) Zero))
      (near_holds (s a) (s v) (s b) (s (slope o a b v)) of_slope (s (add (mul a (mul v v)) (mul b v)))
      (law F point (A ⊗ (X ⊗ X)) (B ⊗ X) (A ⊗ (X ⊗ X) ⊕ B ⊗ X) refl)
      (s c) (s (quadratic o a b c v)) (law F point (A ⊗ (X ⊗ X) ⊕ B ⊗ X) C₀ Polynomial refl))
    where
      point : List C
      point = a ∷ b ∷ c ∷ v ∷ []

      of_slope : T (adds (Plus · s a · s v) (s b) (s (slope o a b v)))
      of_slope = subst (λ k. T (adds (k · s a · s v) (s b) (s (slope o a b v)))) (two_plus F) (law F point (twice_A ⊗ X) B Slope refl)
