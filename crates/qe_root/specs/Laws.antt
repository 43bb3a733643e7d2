-- What holds of roots.
use Rattle.std.specs.Prelude.{◌≡◌, ◌↔◌, ℕ, Bool, ◌∷◌}
use Rattle.qe_ring.specs.Sign.{IsNotMinus, IsNotZero}
use Rattle.qe_tower.specs.Number.{Number, sign_of, Equal}
use Rattle.qe_tower.specs.Point.{Point, IsPoint}
use Rattle.qe_poly.specs.Polynomial.{Polynomial}
use Rattle.qe_form.specs.declared.signs.Signs.{Signs}
use Rattle.qe_form.specs.Formula.{Formula}
use Rattle.qe_form.specs.Value.{value}
use Rattle.qe_form.specs.Truth.{has_sign, Is}
use Rattle.qe_root.specs.declared.point.RootPoint.{RootPoint}
use Rattle.qe_root.specs.Value.{IsValue, AreParts}
use Rattle.qe_root.specs.SignForm.{IsSignForm}

-- a root has a value where s is not zero and r not negative, and there is one up to equality
pub record OneValue : Type 0 where
  pub exists : (k : RootPoint) (at : Point) → IsPoint at → IsNotZero (sign_of (value k.s at)) → IsNotMinus (sign_of (value k.r at))
      → (v : Number) × IsValue k at v
  pub one : (k : RootPoint) (at : Point) → IsPoint at → (u v : Number) → IsValue k at u → IsValue k at v → Equal u v

-- the formula for the sign of a + b*sqrt(r) tells the sign at the root of the polynomial with these
-- parts
abbrev pub SignAtRoot : Type 0
SignAtRoot = (f : Polynomial) (x : ℕ) (k : RootPoint) (a b : Polynomial) (signs : Signs) (g : Formula)
    → AreParts f x k a b → IsSignForm a b k.r signs g
    → (at : Point) → IsPoint at → (v : Number) → IsValue k at v
    → (t : Bool) → Is g t at ↔ (has_sign signs (sign_of (value f ((x, v) ∷ at))) ≡ t)
