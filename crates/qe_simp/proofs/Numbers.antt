-- The sign of the value of a constant polynomial.
use Rattle.std.proofs.Common.{◌≡◌, sym, ap, refl, true, false, cond, ℤ, pos, ◌+ℤ◌, ◌*ℤ◌, [], ◌∷◌, arith}
use Rattle.std.proofs.lemmas.Int.{ints}
use Rattle.std.proofs.lemmas.Bool.Decides.{Decides-int_eq}
use Rattle.std.specs.Ordering.{int_eq}
use Rattle.qe_ring.specs.Sign.{int_sign}
use Rattle.qe_tower.specs.Number.{sign_of}
use Rattle.qe_tower.specs.Point.{Point}
use Rattle.qe_poly.specs.Polynomial.{constant}
use Rattle.qe_form.specs.Value.{value}

-- a number times 1, and nothing
times_one : (c : ℤ) → c *ℤ pos 1 *ℤ pos 1 +ℤ pos 0 ≡ c
times_one c = omega (arith, ints)

pub sign_of-constant : (c : ℤ) (p : Point) → sign_of (value (constant c) p) ≡ int_sign c
sign_of-constant c p =
    elim (int_eq c (pos 0)) as (λ b. int_eq c (pos 0) ≡ b → sign_of (value (cond b [] (([], c) ∷ [])) p) ≡ int_sign c) [
      | true ↦ λ test. sym (ap int_sign ((Decides-int_eq c (pos 0)).0 test))
      | false ↦ λ test. ap int_sign (times_one c)
    ] refl
