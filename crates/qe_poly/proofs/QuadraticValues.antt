-- The value where one variable has another value: a polynomial of degree at most two in it is a*v^2 + b*v + c.
use Rattle.std.proofs.Common.{◌≡◌, refl, ap, subst, ℕ, zero, suc, ◌≤◌, eqb, true, false, cond, [], ◌∷◌, ℤ, arith}
use Rattle.std.proofs.lemmas.Bool.{eqb-true}
use Rattle.std.proofs.lemmas.Bool.Decides.{nat_tests}
use Rattle.qe_ring.specs.Ring.{Operations, IsRing}
use Rattle.qe_ring.specs.Expression.{var, nought, ◌⊕◌, ◌⊗◌}
use Rattle.qe_ring.proofs.Solver.{solve}
use Rattle.qe_ring.proofs.Steps.{steps}
use Rattle.qe_poly.specs.Monomial.{Monomial, IsMonomial, IsAbove}
use Rattle.qe_poly.specs.Polynomial.{Term, Polynomial, IsPolynomial}
use Rattle.qe_poly.specs.Coefficients.{exponent_of, without, degree_in, coefficient_in}
use Rattle.qe_poly.specs.Value.{power_of, monomial_value, value, updated, quadratic}

-- ---- the coefficients do not read the variable

module _ {C : Type 0} (o : Operations C) (whole : ℤ → C) (point : ℕ → C) (x : ℕ) (v : C) where
  abbrev new : ℕ → C
  new = updated point x v

  elsewhere : (y : ℕ) → eqb y x ≡ false → new y ≡ point y
  elsewhere y apart = let other : eqb x y ≡ false = grind (arith, nat_tests) in ap (λ b. cond b v (point y)) other

  above : (m : Monomial) → IsMonomial m → IsAbove x m → monomial_value o new m ≡ monomial_value o point m
  above [] monomial high = refl
  above (a ∷ m) monomial high = λ i. o.mul (power_of o (elsewhere a.var.0 apart i) a.exponent) (above m monomial.2 (next m monomial.1) i)
    where
      apart : eqb a.var.0 x ≡ false
      apart = grind (arith, nat_tests)

      next : (n : Monomial) → IsAbove a.var.0 n → IsAbove x n
      next [] later = tt
      next (b ∷ n) later = omega arith

  without-value : (m : Monomial) → IsMonomial m → monomial_value o new (without x m) ≡ monomial_value o point (without x m)
  without-value [] monomial = refl
  without-value (a ∷ m) monomial =
      elim (eqb a.var.0 x) as (λ b. eqb a.var.0 x ≡ b → monomial_value o new (cond b m (a ∷ without x m)) ≡ monomial_value o point (cond b m (a ∷ without x m))) [
        | true ↦ λ test. above m monomial.2 (subst (λ y. IsAbove y m) (eqb-true a.var.0 x test) monomial.1)
        | false ↦ λ test. λ i. o.mul (power_of o (elsewhere a.var.0 test i) a.exponent) (without-value m monomial.2 i)
      ] refl

  pub coefficient-free : (k : ℕ) (p : Polynomial) → IsPolynomial p → value o whole new (coefficient_in x k p) ≡ value o whole point (coefficient_in x k p)
  coefficient-free k [] canonical = refl
  coefficient-free k (t ∷ ts) canonical =
      elim (eqb (exponent_of x t.0) k) as (λ b. value o whole new (cond b ((without x t.0, t.1) ∷ coefficient_in x k ts) (coefficient_in x k ts))
      ≡ value o whole point (cond b ((without x t.0, t.1) ∷ coefficient_in x k ts) (coefficient_in x k ts))) [
        | true ↦ λ i. o.add (o.mul (whole t.1) (without-value t.0 canonical.1 i)) (coefficient-free k ts canonical.3 i)
        | false ↦ coefficient-free k ts canonical.3
      ]

-- ---- the value by the powers of one variable

module _ {C : Type 0} (o : Operations C) (E : C → C → Type 0) (R : IsRing o E) (whole : ℤ → C) where
  open o use {one, add, mul}
  open R use {same, mul-one}
  open (steps o E R) use {rev, add₂, mul₂, same_of_eq, past_mul}

  abbrev nil : C
  nil = o.zero

  infixr 5 ◌▸◌
  ◌▸◌ : {a b c : C} → E a b → E b c → E a c
  ◌▸◌ {a} {b} {c} p q = R.then a b c p q

  moved : (c p m : C) → E (mul c (mul p m)) (mul (mul c m) p)
  moved c p m = solve o E R (c ∷ p ∷ m ∷ []) (var 0 ⊗ (var 1 ⊗ var 2)) (var 0 ⊗ var 2 ⊗ var 1) refl

  no_terms : (v : C) → E nil (quadratic o v nil nil nil)
  no_terms v = solve o E R (v ∷ []) nought (nought ⊗ (var 0 ⊗ var 0) ⊕ nought ⊗ var 0 ⊕ nought) refl

  -- one term more, by its exponent
  term_two : (t a b c v : C) → E (add (mul t (mul v v)) (quadratic o v a b c)) (quadratic o v (add t a) b c)
  term_two t a b c v = solve o E R (t ∷ a ∷ b ∷ c ∷ v ∷ []) (var 0 ⊗ (var 4 ⊗ var 4) ⊕ (var 1 ⊗ (var 4 ⊗ var 4) ⊕ var 2 ⊗ var 4 ⊕ var 3)) ((var 0 ⊕ var 1) ⊗ (var 4 ⊗ var 4) ⊕ var 2 ⊗ var 4 ⊕ var 3) refl

  term_one : (t a b c v : C) → E (add (mul t v) (quadratic o v a b c)) (quadratic o v a (add t b) c)
  term_one t a b c v = solve o E R (t ∷ a ∷ b ∷ c ∷ v ∷ []) (var 0 ⊗ var 4 ⊕ (var 1 ⊗ (var 4 ⊗ var 4) ⊕ var 2 ⊗ var 4 ⊕ var 3)) (var 1 ⊗ (var 4 ⊗ var 4) ⊕ (var 0 ⊕ var 2) ⊗ var 4 ⊕ var 3) refl

  term_zero : (t a b c v : C) → E (add t (quadratic o v a b c)) (quadratic o v a b (add t c))
  term_zero t a b c v = solve o E R (t ∷ a ∷ b ∷ c ∷ v ∷ []) (var 0 ⊕ (var 1 ⊗ (var 4 ⊗ var 4) ⊕ var 2 ⊗ var 4 ⊕ var 3)) (var 1 ⊗ (var 4 ⊗ var 4) ⊕ var 2 ⊗ var 4 ⊕ (var 0 ⊕ var 3)) refl

  by_exponent : (v : C) (k : ℕ) → k ≤ 2 → (t a b c : C) → E (add (mul t (power_of o v k)) (quadratic o v a b c))
      (quadratic o v (cond (eqb k 2) (add t a) a) (cond (eqb k 1) (add t b) b) (cond (eqb k 0) (add t c) c))
  by_exponent v zero low t a b c = add₂ (mul-one t) (same (quadratic o v a b c)) ▸ term_zero t a b c v
  by_exponent v (suc zero) low t a b c = add₂ (mul₂ (same t) (mul-one v)) (same (quadratic o v a b c)) ▸ term_one t a b c v
  by_exponent v (suc (suc zero)) low t a b c = add₂ (mul₂ (same t) (mul₂ (same v) (mul-one v))) (same (quadratic o v a b c)) ▸ term_two t a b c v
  by_exponent v (suc (suc (suc k))) low t a b c = absurd (omega arith)

  module _ (point : ℕ → C) (x : ℕ) where
    -- the value of the coefficient of the k-th power
    abbrev at : Polynomial → ℕ → C
    at p k = value o whole point (coefficient_in x k p)

    abbrev without_x : Term → C
    without_x t = mul (whole t.1) (monomial_value o point (without x t.0))

    parted : (m : Monomial) → E (monomial_value o point m) (mul (power_of o (point x) (exponent_of x m)) (monomial_value o point (without x m)))
    parted [] = rev (mul-one one)
    parted (a ∷ m) =
        elim (eqb a.var.0 x) as (λ b. eqb a.var.0 x ≡ b
        → E (monomial_value o point (a ∷ m)) (mul (power_of o (point x) (cond b a.exponent (exponent_of x m))) (monomial_value o point (cond b m (a ∷ without x m))))) [
          | true ↦ λ test. same_of_eq (ap (λ y. mul (power_of o (point y) a.exponent) (monomial_value o point m)) (eqb-true a.var.0 x test))
          | false ↦ λ test. mul₂ (same (power_of o (point a.var.0) a.exponent)) (parted m)
              ▸ past_mul (power_of o (point a.var.0) a.exponent) (power_of o (point x) (exponent_of x m)) (monomial_value o point (without x m))
        ] refl

    one_more : (k : ℕ) (t : Term) (ts : Polynomial) → cond (eqb (exponent_of x t.0) k) (add (without_x t) (at ts k)) (at ts k) ≡ at (t ∷ ts) k
    one_more k t ts =
        elim (eqb (exponent_of x t.0) k) as (λ b. cond b (add (without_x t) (at ts k)) (at ts k) ≡ value o whole point (cond b ((without x t.0, t.1) ∷ coefficient_in x k ts) (coefficient_in x k ts))) [ true ↦ refl | false ↦ refl ]

    pub quadratic-value : (p : Polynomial) → degree_in x p ≤ 2 → E (value o whole point p) (quadratic o (point x) (at p 2) (at p 1) (at p 0))
    quadratic-value [] low = no_terms (point x)
    quadratic-value (t ∷ ts) low =
        let k = exponent_of x t.0 in
        let first : k ≤ 2 = omega arith in
        let rest : degree_in x ts ≤ 2 = omega arith in
        add₂ (mul₂ (same (whole t.1)) (parted t.0) ▸ moved (whole t.1) (power_of o (point x) k) (monomial_value o point (without x t.0))) (quadratic-value ts rest)
        ▸ by_exponent (point x) k first (without_x t) (at ts 2) (at ts 1) (at ts 0)
        ▸ same_of_eq (λ i. quadratic o (point x) (one_more 2 t ts i) (one_more 1 t ts i) (one_more 0 t ts i))

  -- where x has the value v, the value is a*v^2 + b*v + c, with a, b and c of the point
  pub quadratic-updated : (point : ℕ → C) (x : ℕ) (v : C) (p : Polynomial) → IsPolynomial p → degree_in x p ≤ 2
      → E (value o whole (updated point x v) p)
      (quadratic o v (value o whole point (coefficient_in x 2 p)) (value o whole point (coefficient_in x 1 p)) (value o whole point (coefficient_in x 0 p)))
  quadratic-updated point x v p canonical low =
      quadratic-value (updated point x v) x p low
      ▸ same_of_eq (λ i. quadratic o (at_x i) (coefficient-free o whole point x v 2 p canonical i) (coefficient-free o whole point x v 1 p canonical i) (coefficient-free o whole point x v 0 p canonical i))
    where
      at_x : updated point x v x ≡ v
      at_x = let itself : eqb x x ≡ true = grind (arith, nat_tests) in ap (λ b. cond b v (point x)) itself
