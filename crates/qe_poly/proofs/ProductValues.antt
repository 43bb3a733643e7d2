-- The value of a product is the product of the values, in every ring.
use Rattle.std.proofs.Common.{◌≡◌, refl, ap, ℕ, zero, suc, ◌+◌, List, [], ◌∷◌, ◌++◌, map, ℤ, suc-add, zero-add}
use Rattle.std.specs.declared.cmp.Ordering.TheVariants.{Less, Equal, Greater}
use Rattle.std.specs.Ordering.{nat_cmp}
use Rattle.std.specs.FinMap.{nat_cmp-IsAntisymmetric}
use Rattle.std.specs.FinMap.Entries.{by_order}
use Rattle.qe_ring.specs.Ring.{Operations, IsRing}
use Rattle.qe_ring.specs.Expression.{var, nought, unit, ◌⊕◌, ◌⊗◌}
use Rattle.qe_ring.proofs.Solver.{solve}
use Rattle.qe_ring.proofs.Steps.{steps}
use Rattle.qe_poly.specs.declared.monomial.Power.{Power}
use Rattle.qe_poly.specs.Monomial.{Monomial, times, times_power}
use Rattle.qe_poly.specs.Polynomial.{Term, Polynomial, pairs, pair_product, products, product}
use Rattle.qe_poly.specs.Value.{power_of, monomial_value, value, IsWhole}
use Rattle.qe_poly.proofs.Values.{append-value, collected-value}

map_append : (ps qs : List (Term × Term)) → map pair_product (ps ++ qs) ≡ map pair_product ps ++ map pair_product qs
map_append [] qs = refl
map_append (p ∷ ps) qs = ap (λ ts. pair_product p ∷ ts) (map_append ps qs)

module _ {C : Type 0} (o : Operations C) (E : C → C → Type 0) (R : IsRing o E) (point : ℕ → C) where
  open o use {one, add, mul}
  open R use {same, mul-assoc}
  open (steps o E R) use {rev, add₂, mul₂, same_of_eq, past_mul}

  infixr 5 ◌▸◌
  ◌▸◌ : {a b c : C} → E a b → E b c → E a c
  ◌▸◌ {a} {b} {c} p q = R.then a b c p q

  abbrev at_monomial : Monomial → C
  at_monomial m = monomial_value o point m

  abbrev at_power : Power → C
  at_power a = power_of o (point a.var.0) a.exponent

  -- ---- steps of one factor

  one-mul : (a : C) → E a (mul one a)
  one-mul a = solve o E R (a ∷ []) (var 0) (unit ⊗ var 0) refl

  -- (a * b) * (m * n) = (a * m) * (b * n)
  cross : (a b m n : C) → E (mul (mul a b) (mul m n)) (mul (mul a m) (mul b n))
  cross a b m n = solve o E R (a ∷ b ∷ m ∷ n ∷ []) (var 0 ⊗ var 1 ⊗ (var 2 ⊗ var 3)) (var 0 ⊗ var 2 ⊗ (var 1 ⊗ var 3)) refl

  -- ---- monomials

  power-add : (v : C) (m n : ℕ) → E (power_of o v (m + n)) (mul (power_of o v m) (power_of o v n))
  power-add v zero n = same_of_eq (ap (power_of o v) (zero-add n)) ▸ one-mul (power_of o v n)
  power-add v (suc m) n = same_of_eq (ap (power_of o v) (suc-add m n)) ▸ mul₂ (same v) (power-add v m n) ▸ rev (mul-assoc v (power_of o v m) (power_of o v n))

  times_power-value : (a : Power) (m : Monomial) → ((n : Monomial) → E (at_monomial (times m n)) (mul (at_monomial m) (at_monomial n)))
      → (n : Monomial) → E (at_monomial (times_power a (times m) n)) (mul (mul (at_power a) (at_monomial m)) (at_monomial n))
  times_power-value a m rest [] = mul₂ (same (at_power a)) (rest []) ▸ rev (mul-assoc (at_power a) (at_monomial m) one)
  times_power-value a m rest (b ∷ n) =
      elim (nat_cmp a.var.0 b.var.0) as (λ r. nat_cmp a.var.0 b.var.0 ≡ r
      → E (at_monomial (by_order r (a ∷ times m (b ∷ n)) (record { var = a.var; exponent = a.exponent + b.exponent } ∷ times m n) (b ∷ times_power a (times m) n)))
      (mul (mul (at_power a) (at_monomial m)) (mul (at_power b) (at_monomial n)))) [
        | Less ↦ λ before. mul₂ (same (at_power a)) (rest (b ∷ n)) ▸ rev (mul-assoc (at_power a) (at_monomial m) (mul (at_power b) (at_monomial n)))
        | Equal ↦ λ tie. mul₂ (power-add (point a.var.0) a.exponent b.exponent
            ▸ mul₂ (same (at_power a)) (same_of_eq (ap (λ x. power_of o (point x) b.exponent) (nat_cmp-IsAntisymmetric a.var.0 b.var.0 tie)))) (rest n)
            ▸ cross (at_power a) (at_power b) (at_monomial m) (at_monomial n)
        | Greater ↦ λ after. mul₂ (same (at_power b)) (times_power-value a m rest n) ▸ past_mul (at_power b) (mul (at_power a) (at_monomial m)) (at_monomial n)
      ] refl

  pub times-value : (m n : Monomial) → E (at_monomial (times m n)) (mul (at_monomial m) (at_monomial n))
  times-value [] n = one-mul (at_monomial n)
  times-value (a ∷ m) n = times_power-value a m (times-value m) n

  -- ---- polynomials

  module _ (whole : ℤ → C) (W : IsWhole o E whole) where
    abbrev val : List Term → C
    val ts = value o whole point ts

    abbrev at_term : Term → C
    at_term t = mul (whole t.1) (at_monomial t.0)

    nil_row : (a : C) → E o.zero (mul a o.zero)
    nil_row a = solve o E R (a ∷ []) nought (var 0 ⊗ nought) refl

    nil_rows : (a : C) → E o.zero (mul o.zero a)
    nil_rows a = solve o E R (a ∷ []) nought (nought ⊗ var 0) refl

    one_pair : (a b c : C) → E (add (mul a b) (mul a c)) (mul a (add b c))
    one_pair a b c = solve o E R (a ∷ b ∷ c ∷ []) (var 0 ⊗ var 1 ⊕ var 0 ⊗ var 2) (var 0 ⊗ (var 1 ⊕ var 2)) refl

    one_row : (a b c : C) → E (add (mul a c) (mul b c)) (mul (add a b) c)
    one_row a b c = solve o E R (a ∷ b ∷ c ∷ []) (var 0 ⊗ var 2 ⊕ var 1 ⊗ var 2) ((var 0 ⊕ var 1) ⊗ var 2) refl

    row-value : (t : Term) (q : Polynomial) → E (val (map pair_product (map (λ u. (t, u)) q))) (mul (at_term t) (val q))
    row-value t [] = nil_row (at_term t)
    row-value t (u ∷ us) =
        add₂ (mul₂ (W.mul t.1 u.1) (times-value t.0 u.0) ▸ cross (whole t.1) (whole u.1) (at_monomial t.0) (at_monomial u.0)) (row-value t us)
        ▸ one_pair (at_term t) (at_term u) (val us)

    products-value : (p q : Polynomial) → E (val (products p q)) (mul (val p) (val q))
    products-value [] q = nil_rows (val q)
    products-value (t ∷ ts) q =
        same_of_eq (ap val (map_append (map (λ u. (t, u)) q) (pairs ts q)))
        ▸ append-value o E R whole W point (map pair_product (map (λ u. (t, u)) q)) (products ts q)
        ▸ add₂ (row-value t q) (products-value ts q)
        ▸ one_row (at_term t) (val ts) (val q)

    pub product-value : (p q : Polynomial) → E (val (product p q)) (mul (val p) (val q))
    product-value p q = collected-value o E R whole W point (products p q) ▸ products-value p q
