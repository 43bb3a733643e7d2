-- The value of a polynomial with y in the place of x is its value where x has the value of y, in every ring.
use Rattle.std.proofs.Common.{◌≡◌, refl, sym, ap, ℕ, eqb, true, false, cond, not, ◌&&◌, [], ◌∷◌, map, ℤ, arith}
use Rattle.std.proofs.lemmas.Bool.Decides.{nat_tests}
use Rattle.qe_ring.proofs.Bools.{neither}
use Rattle.qe_ring.specs.Ring.{Operations, IsRing}
use Rattle.qe_ring.proofs.Steps.{steps}
use Rattle.qe_poly.specs.declared.monomial.Var.{Var}
use Rattle.qe_poly.specs.Monomial.{Monomial, power}
use Rattle.qe_poly.specs.Polynomial.{Polynomial}
use Rattle.qe_poly.specs.Value.{power_of, monomial_value, value, updated, IsWhole}
use Rattle.qe_poly.specs.Renamed.{renamed_var, renamed_monomial, with_renamed_terms, renamed}
use Rattle.qe_poly.specs.Occurs.{occurs_in, occurs_in_some}
use Rattle.qe_poly.proofs.Values.{collected-value, power-at}
use Rattle.qe_poly.proofs.ProductValues.{times-value}

-- ---- tests that fail

apart_back : (i j : ℕ) → eqb i j ≡ false → eqb j i ≡ false
apart_back i j apart = grind (arith, nat_tests)

-- a value does not read a variable that does not stand in the polynomial
module _ {C : Type 0} (o : Operations C) (whole : ℤ → C) (point : ℕ → C) (x : ℕ) (v : C) where
  monomial_unread : (m : Monomial) → occurs_in x m ≡ false → monomial_value o point m ≡ monomial_value o (updated point x v) m
  monomial_unread [] none = refl
  monomial_unread (a ∷ m) none =
      let parts = neither (eqb a.var.0 x) (occurs_in x m) none in
      let same : point a.var.0 ≡ updated point x v a.var.0 = ap (λ b. cond b v (point a.var.0)) (sym (apart_back a.var.0 x parts.0)) in
      λ i. o.mul (power_of o (same i) a.exponent) (monomial_unread m parts.1 i)

  pub unread : (p : Polynomial) → occurs_in_some x p ≡ false → value o whole point p ≡ value o whole (updated point x v) p
  unread [] none = refl
  unread (t ∷ ts) none =
      let parts = neither (occurs_in x t.0) (occurs_in_some x ts) none in
      λ i. o.add (o.mul (whole t.1) (monomial_unread t.0 parts.0 i)) (unread ts parts.1 i)

module _ {C : Type 0} (o : Operations C) (E : C → C → Type 0) (R : IsRing o E) (whole : ℤ → C) (W : IsWhole o E whole) (point : ℕ → C) (x y : Var) where
  open o use {one, add, mul}
  open R use {same}
  open (steps o E R) use {add₂, mul₂, same_of_eq}

  infixr 5 ◌▸◌
  ◌▸◌ : {a b c : C} → E a b → E b c → E a c
  ◌▸◌ {a} {b} {c} p q = R.then a b c p q

  -- x with the value of y
  abbrev new : ℕ → C
  new = updated point x.0 (point y.0)

  point_renamed : (z : Var) → point (renamed_var x y z).0 ≡ new z.0
  point_renamed z = elim (eqb x.0 z.0) as (λ b. point (cond b y z).0 ≡ cond b (point y.0) (point z.0)) [ true ↦ refl | false ↦ refl ]

  renamed_monomial-value : (m : Monomial) → E (monomial_value o point (renamed_monomial x y m)) (monomial_value o new m)
  renamed_monomial-value [] = same one
  renamed_monomial-value (a ∷ m) =
      times-value o E R point (power (renamed_var x y a.var) a.exponent) (renamed_monomial x y m)
      ▸ mul₂ (power-at o E R whole W point (renamed_var x y a.var) a.exponent ▸ same_of_eq (ap (λ v. power_of o v a.exponent) (point_renamed a.var))) (renamed_monomial-value m)

  renamed_terms-value : (p : Polynomial) → E (value o whole point (map (λ t. (renamed_monomial x y t.0, t.1)) p)) (value o whole new p)
  renamed_terms-value [] = same o.zero
  renamed_terms-value (t ∷ ts) = add₂ (mul₂ (same (whole t.1)) (renamed_monomial-value t.0)) (renamed_terms-value ts)

  pub renamed-value : (p : Polynomial) → occurs_in_some y.0 p ≡ false → E (value o whole point (renamed x y p)) (value o whole new p)
  renamed-value p none =
      elim (occurs_in_some x.0 p) as (λ b. occurs_in_some x.0 p ≡ b → E (value o whole point (cond (b && not (occurs_in_some y.0 p)) (with_renamed_terms x y p) p)) (value o whole new p)) [
        | true ↦ λ some. same_of_eq (ap (λ t. value o whole point (cond (not t) (with_renamed_terms x y p) p)) none)
            ▸ collected-value o E R whole W point (map (λ t. (renamed_monomial x y t.0, t.1)) p) ▸ renamed_terms-value p
        | false ↦ λ free. same_of_eq (unread o whole point x.0 (point y.0) p free)
      ] refl
