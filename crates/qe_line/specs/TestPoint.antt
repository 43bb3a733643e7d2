-- Finitely many polynomials of degree two at most: their signs, and the test points that are enough for them.
use Rattle.std.specs.Prelude.{◌≡◌, ◌⊎◌, Bool, true, false, IsTrue, List, [], ◌∷◌, map}
use Rattle.qe_ring.specs.Ring.{Operations}
use Rattle.qe_ring.specs.Sign.{Sign, Zero}
use Rattle.qe_line.specs.Place.{Place, below, at, above}
use Rattle.qe_line.specs.Quadratic.{quadratic, IsRoot, sign_at}

-- the polynomial a*x^2 + b*x + c
pub record Polynomial (C : Type 0) : Type 0 where
  pub a : C
  pub b : C
  pub c : C

-- a polynomial with the signs that it may have
pub record Condition (C : Type 0) : Type 0 where
  pub polynomial : Polynomial C
  pub allowed : Sign → Bool

module _ {C : Type 0} (o : Operations C) (s : C → Sign) where
  -- the sign of each polynomial at u
  abbrev pub signs_of : List (Polynomial C) → C → List Sign
  signs_of fs u = map (λ f. s (quadratic o f.a f.b f.c u)) fs

  -- the sign of each polynomial at a place
  abbrev pub signs_at : List (Polynomial C) → Place C → List Sign
  signs_at fs p = map (λ f. sign_at o s p f.a f.b f.c) fs

  -- v is a root of one of the polynomials
  abbrev pub IsRootOfOne : List (Polynomial C) → C → Type 0
  IsRootOfOne [] v = ⊥
  IsRootOfOne (f ∷ fs) v = IsRoot o s f.a f.b f.c v ⊎ IsRootOfOne fs v

  -- a test point of the polynomials: below all, a root of one of them, or just above such a root
  abbrev pub IsTestPoint : List (Polynomial C) → Place C → Type 0
  IsTestPoint fs below = Unit {0}
  IsTestPoint fs (at v) = IsRootOfOne fs v
  IsTestPoint fs (above v) = IsRootOfOne fs v

  -- each polynomial has an allowed sign at u
  abbrev pub MeetsAll : List (Condition C) → C → Type 0
  MeetsAll [] u = Unit {0}
  MeetsAll (k ∷ ks) u = IsTrue (k.allowed (s (quadratic o k.polynomial.a k.polynomial.b k.polynomial.c u))) × MeetsAll ks u

  -- v is a root of one of the polynomials to which zero is allowed, or of one to which it is not
  abbrev pub IsRootWhereZero : Bool → List (Condition C) → C → Type 0
  IsRootWhereZero zero [] v = ⊥
  IsRootWhereZero zero (k ∷ ks) v =
      ((k.allowed Zero ≡ zero) × IsRoot o s k.polynomial.a k.polynomial.b k.polynomial.c v) ⊎ IsRootWhereZero zero ks v

  -- a test point of the conditions: below all, a root where zero is allowed, or just above a root where it is not
  abbrev pub IsTestPointByKind : List (Condition C) → Place C → Type 0
  IsTestPointByKind ks below = Unit {0}
  IsTestPointByKind ks (at v) = IsRootWhereZero true ks v
  IsTestPointByKind ks (above v) = IsRootWhereZero false ks v
