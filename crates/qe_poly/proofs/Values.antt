-- The value of a sum, a negative or a multiple is the sum, the negative or the multiple of the values, in every ring;
-- that of a constant is its number, and that of a power of a variable is the power of its value.
use Rattle.std.proofs.Common.{◌≡◌, refl, sym, ap, ℕ, zero, suc, true, false, cond, List, [], ◌∷◌, ◌++◌, map, ℤ, pos, ◌+ℤ◌, ◌*ℤ◌, eqb, arith}
use Rattle.std.proofs.lemmas.Bool.Decides.{Decides-int_eq, nat_tests}
use Rattle.std.specs.declared.cmp.Ordering.TheVariants.{Less, Equal, Greater}
use Rattle.std.specs.Ordering.{int_eq}
use Rattle.std.specs.FinMap.Entries.{by_order}
use Rattle.qe_ring.specs.Ring.{Operations, IsRing}
use Rattle.qe_ring.specs.Expression.{var, nought, unit, ◌⊕◌, ◌⊗◌, ⊖◌}
use Rattle.qe_ring.proofs.Solver.{solve}
use Rattle.qe_ring.proofs.Steps.{steps}
use Rattle.qe_poly.specs.declared.monomial.Var.{Var}
use Rattle.qe_poly.specs.Monomial.{Monomial, in_turn, power}
use Rattle.qe_poly.specs.Polynomial.{Term, Polynomial, Group, enter, with_first, gathered, total, nonzero, collected, constant, negative, sum, difference}
use Rattle.qe_poly.specs.Polynomial as polynomial
use Rattle.qe_poly.specs.Value.{power_of, monomial_value, value, IsWhole, scaled}
use Rattle.qe_poly.proofs.Order.{turn_same}

module _ {C : Type 0} (o : Operations C) (E : C → C → Type 0) (R : IsRing o E) where
  open o use {one, add, neg, mul}
  open R use {same, add-assoc, add-zero, mul-assoc, mul-comm, mul-one, mul-add}
  open (steps o E R) use {rev, add₂, mul₂, same_of_eq, nil-add, nil-mul, past}

  -- the ring's zero, beside that of ℕ
  abbrev nil : C
  nil = o.zero

  infixr 5 ◌▸◌
  ◌▸◌ : {a b c : C} → E a b → E b c → E a c
  ◌▸◌ {a} {b} {c} p q = R.then a b c p q

  -- ---- steps of one term

  -- a term's coefficient in two parts
  split : (c s m rest : C) → E (add (mul (add c s) m) rest) (add (mul c m) (add (mul s m) rest))
  split c s m rest = solve o E R (c ∷ s ∷ m ∷ rest ∷ []) ((var 0 ⊕ var 1) ⊗ var 2 ⊕ var 3) (var 0 ⊗ var 2 ⊕ (var 1 ⊗ var 2 ⊕ var 3)) refl

  minus_term : (c m rest : C) → E (add (mul (neg c) m) (neg rest)) (neg (add (mul c m) rest))
  minus_term c m rest = solve o E R (c ∷ m ∷ rest ∷ []) (⊖ var 0 ⊗ var 1 ⊕ ⊖ var 2) (⊖ (var 0 ⊗ var 1 ⊕ var 2)) refl

  multiple_term : (a c m rest : C) → E (add (mul (mul a c) m) (mul c rest)) (mul c (add (mul a m) rest))
  multiple_term a c m rest = solve o E R (a ∷ c ∷ m ∷ rest ∷ []) (var 0 ⊗ var 1 ⊗ var 2 ⊕ var 1 ⊗ var 3) (var 1 ⊗ (var 0 ⊗ var 2 ⊕ var 3)) refl

  -- ---- points with equal values

  power-same : (u v : C) → E u v → (n : ℕ) → E (power_of o u n) (power_of o v n)
  power-same u v equal zero = same one
  power-same u v equal (suc n) = mul₂ equal (power-same u v equal n)

  module _ (left right : ℕ → C) (equal : (x : ℕ) → E (left x) (right x)) where
    monomial_value-same : (m : Monomial) → E (monomial_value o left m) (monomial_value o right m)
    monomial_value-same [] = same one
    monomial_value-same (a ∷ m) = mul₂ (power-same (left a.var.0) (right a.var.0) (equal a.var.0) a.exponent) (monomial_value-same m)

    pub value-same : (whole : ℤ → C) (ts : List Term) → E (value o whole left ts) (value o whole right ts)
    value-same whole [] = same nil
    value-same whole (t ∷ ts) = add₂ (mul₂ (same (whole t.1)) (monomial_value-same t.0)) (value-same whole ts)

  module _ (whole : ℤ → C) (W : IsWhole o E whole) (point : ℕ → C) where
    abbrev at_monomial : Monomial → C
    at_monomial m = monomial_value o point m

    abbrev val : List Term → C
    val ts = value o whole point ts

    abbrev at_term : Term → C
    at_term t = mul (whole t.1) (at_monomial t.0)

    -- ---- terms in any order

    pub append-value : (ts us : List Term) → E (val (ts ++ us)) (add (val ts) (val us))
    append-value [] us = rev (nil-add (val us))
    append-value (t ∷ ts) us = add₂ (same (at_term t)) (append-value ts us) ▸ rev (add-assoc (at_term t) (val ts) (val us))

    pub nonzero-value : (ts : List Term) → E (val (nonzero ts)) (val ts)
    nonzero-value [] = same nil
    nonzero-value (t ∷ ts) =
        elim (int_eq t.1 (pos 0)) as (λ b. int_eq t.1 (pos 0) ≡ b → E (val (cond b (nonzero ts) ((t.0, t.1) ∷ nonzero ts))) (add (at_term t) (val ts))) [
          | true ↦ λ test. nonzero-value ts ▸ rev (add₂ (mul₂ (same_of_eq (ap whole ((Decides-int_eq t.1 (pos 0)).0 test)) ▸ W.zero) (same (at_monomial t.0)) ▸ nil-mul (at_monomial t.0)) (same (val ts)) ▸ nil-add (val ts))
          | false ↦ λ test. add₂ (same (at_term t)) (nonzero-value ts)
        ] refl

    abbrev group_terms : List Group → List Term
    group_terms gs = map (λ g. (g.0, total g.1)) gs

    -- (c + s) * m + rest = c * m + (s * m + rest)
    with_sum : (c s : ℤ) (m rest : C) → E (add (mul (whole (c +ℤ s)) m) rest) (add (mul (whole c) m) (add (mul (whole s) m) rest))
    with_sum c s m rest = add₂ (mul₂ (W.add c s) (same m)) (same rest) ▸ split (whole c) (whole s) m rest

    alone : (c : ℤ) (m rest : C) → E (add (mul (whole (c +ℤ pos 0)) m) rest) (add (mul (whole c) m) rest)
    alone c m rest = with_sum c (pos 0) m rest ▸ add₂ (same (mul (whole c) m)) (add₂ (mul₂ W.zero (same m) ▸ nil-mul m) (same rest) ▸ nil-add rest)

    enter-value : (t : Term) (gs : List Group) → E (val (group_terms (enter with_first t gs))) (add (at_term t) (val (group_terms gs)))
    enter-value t [] = alone t.1 (at_monomial t.0) nil
    enter-value t (g ∷ gs) =
        elim (in_turn t.0 g.0) as (λ r. in_turn t.0 g.0 ≡ r → E (val (group_terms (by_order r ((t.0, t.1 ∷ []) ∷ g ∷ gs) ((g.0, t.1 ∷ g.1) ∷ gs) (g ∷ enter with_first t gs)))) (add (at_term t) (val (group_terms (g ∷ gs))))) [
          | Less ↦ λ before. alone t.1 (at_monomial t.0) (val (group_terms (g ∷ gs)))
          | Equal ↦ λ tie. with_sum t.1 (total g.1) (at_monomial g.0) (val (group_terms gs)) ▸ add₂ (mul₂ (same (whole t.1)) (same_of_eq (ap (monomial_value o point) (sym (turn_same t.0 g.0 tie))))) (same (val (group_terms (g ∷ gs))))
          | Greater ↦ λ after. add₂ (same (mul (whole (total g.1)) (at_monomial g.0))) (enter-value t gs) ▸ past (mul (whole (total g.1)) (at_monomial g.0)) (at_term t) (val (group_terms gs))
        ] refl

    gathered-value : (ts : List Term) → E (val (group_terms (gathered ts))) (val ts)
    gathered-value [] = same nil
    gathered-value (t ∷ ts) = enter-value t (gathered ts) ▸ add₂ (same (at_term t)) (gathered-value ts)

    pub collected-value : (ts : List Term) → E (val (collected ts)) (val ts)
    collected-value ts = nonzero-value (group_terms (gathered ts)) ▸ gathered-value ts

    -- ---- constants and powers

    pub constant-value : (c : ℤ) → E (val (constant c)) (whole c)
    constant-value c = nonzero-value (([], c) ∷ []) ▸ add-zero (mul (whole c) one) ▸ mul-one (whole c)

    pub power-at : (x : Var) (n : ℕ) → E (at_monomial (power x n)) (power_of o (point x.0) n)
    power-at x zero = same one
    power-at x (suc n) =
        let positive : eqb (suc n) 0 ≡ false = grind (arith, nat_tests) in
        same_of_eq (ap (λ b. at_monomial (cond b [] (record { var = x; exponent = suc n } ∷ []))) positive) ▸ mul-one (power_of o (point x.0) (suc n))

    pub power-value : (x : Var) (n : ℕ) → E (val (polynomial.power_of x n)) (power_of o (point x.0) n)
    power-value x n = add₂ (mul₂ W.one (power-at x n)) (same nil) ▸ solve o E R (power_of o (point x.0) n ∷ []) (unit ⊗ var 0 ⊕ nought) (var 0) refl

    -- ---- the operations

    pub negative-value : (p : Polynomial) → E (val (negative p)) (neg (val p))
    negative-value [] = solve o E R [] nought (⊖ nought) refl
    negative-value (t ∷ ts) = add₂ (mul₂ (W.neg t.1) (same (at_monomial t.0))) (negative-value ts) ▸ minus_term (whole t.1) (at_monomial t.0) (val ts)

    pub sum-value : (p q : Polynomial) → E (val (sum p q)) (add (val p) (val q))
    sum-value p q = collected-value (p ++ q) ▸ append-value p q

    pub difference-value : (p q : Polynomial) → E (val (difference p q)) (add (val p) (neg (val q)))
    difference-value p q = sum-value p (negative q) ▸ add₂ (same (val p)) (negative-value q)

    multiples-value : (c : ℤ) (p : Polynomial) → E (val (map (λ t. (t.0, t.1 *ℤ c)) p)) (mul (whole c) (val p))
    multiples-value c [] = solve o E R (whole c ∷ []) nought (var 0 ⊗ nought) refl
    multiples-value c (t ∷ ts) = add₂ (mul₂ (W.mul t.1 c) (same (at_monomial t.0))) (multiples-value c ts) ▸ multiple_term (whole t.1) (whole c) (at_monomial t.0) (val ts)

    pub scaled-value : (c : ℤ) (p : Polynomial) → E (val (scaled c p)) (mul (whole c) (val p))
    scaled-value c p = nonzero-value (map (λ t. (t.0, t.1 *ℤ c)) p) ▸ multiples-value c p
