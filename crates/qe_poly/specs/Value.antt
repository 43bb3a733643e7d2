-- The value of a polynomial in a ring.
use Rattle.std.specs.Prelude.{ℕ, zero, suc, List, [], ◌∷◌, map, cond, eqb, ℤ, pos, ◌+ℤ◌, ◌*ℤ◌, neg_ℤ}
use Rattle.qe_ring.specs.Ring.{Operations}
use Rattle.qe_poly.specs.Monomial.{Monomial}
use Rattle.qe_poly.specs.Polynomial.{Term, Polynomial, nonzero}

-- a value times itself, n times over
abbrev pub power_of : {C : Type 0} → Operations C → C → ℕ → C
power_of o v zero = o.one
power_of o v (suc n) = o.mul v (power_of o v n)

-- the product of the powers of the variables' values
abbrev pub monomial_value : {C : Type 0} → Operations C → (ℕ → C) → Monomial → C
monomial_value o point [] = o.one
monomial_value o point (a ∷ m) = o.mul (power_of o (point a.var.0) a.exponent) (monomial_value o point m)

-- The sum, over the terms, of the coefficient times the monomial's value: `whole` is what a whole number counts as in the ring, and
-- `point` the value of each variable.
abbrev pub value : {C : Type 0} → Operations C → (ℤ → C) → (ℕ → C) → List Term → C
value o whole point [] = o.zero
value o whole point (t ∷ ts) = o.add (o.mul (whole t.1) (monomial_value o point t.0)) (value o whole point ts)

-- whole numbers count in the ring as they do among themselves, up to the equality E
pub record IsWhole {C : Type 0} (o : Operations C) (E : C → C → Type 0) (whole : ℤ → C) : Type 0 where
  pub zero : E (whole (pos 0)) o.zero
  pub one : E (whole (pos 1)) o.one
  pub add : (a b : ℤ) → E (whole (a +ℤ b)) (o.add (whole a) (whole b))
  pub neg : (a : ℤ) → E (whole (neg_ℤ a)) (o.neg (whole a))
  pub mul : (a b : ℤ) → E (whole (a *ℤ b)) (o.mul (whole a) (whole b))

-- the point, but for x, whose value is v
abbrev pub updated : {C : Type 0} → (ℕ → C) → ℕ → C → ℕ → C
updated point x v y = cond (eqb x y) v (point y)

-- a*v^2 + b*v + c
abbrev pub quadratic : {C : Type 0} → Operations C → C → C → C → C → C
quadratic o v a b c = o.add (o.add (o.mul a (o.mul v v)) (o.mul b v)) c

-- the multiple of a polynomial: each coefficient times c, and no terms where c is zero
abbrev pub scaled : ℤ → Polynomial → Polynomial
scaled c p = nonzero (map (λ t. (t.0, t.1 *ℤ c)) p)
