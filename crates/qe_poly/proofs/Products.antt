-- Products of monomials, and of terms row by row.
use Rattle.std.proofs.Common.{ℕ, ◌+◌, ◌-◌, ◌<◌, ◌≤◌, length, take, drop, arith, subst, ◌≡◌, refl, sym, ap, ◌∙◌, Bool, true, false, ltb, ◌||◌, ◌⊎◌, inl, inr, List, [], ◌∷◌, ◌++◌, map}
use Rattle.std.specs.declared.cmp.Ordering.TheVariants.{Less, Equal, Greater}
use Rattle.std.specs.Ordering.{nat_cmp}
use Rattle.std.specs.FinMap.Entries.{by_order}
use Rattle.std.proofs.lemmas.Cmp.{ranked}
use Rattle.std.proofs.lemmas.List.{append-nil, append_assoc, map-append, take_all, length-drop}
use Rattle.qe_poly.specs.declared.monomial.Power.{Power}
use Rattle.qe_poly.specs.Monomial.{Monomial, times, times_power, is_high, IsAbove, IsMonomial}
use Rattle.qe_poly.specs.Polynomial.{Term, Polynomial, IsPolynomial, pairs, pair_product, products, product}
use Rattle.qe_poly.specs.Collected.{product_row, has_high}
use Rattle.qe_poly.proofs.Sorted.{Each, Each-append}
use Rattle.qe_poly.proofs.Canonical.{Each-monomial, IsPolynomial-collected}

pub times_nil : (m : Monomial) → times m [] ≡ m
times_nil [] = refl
times_nil (a ∷ m) = ap (λ n. a ∷ n) (times_nil m)

-- ---- row by row

pub products-more : (t : Term) (ts q : Polynomial) → products (t ∷ ts) q ≡ product_row t q ++ products ts q
products-more t ts q = map-append pair_product (map (λ u. (t, u)) q) (pairs ts q)

has_high-append : (ts us : List Term) → has_high (ts ++ us) ≡ (has_high ts || has_high us)
has_high-append [] us = refl
has_high-append (t ∷ ts) us = step (is_high t.0) (has_high (ts ++ us)) (has_high ts) (has_high us) (has_high-append ts us)
  where
    step : (a x b c : Bool) → x ≡ (b || c) → (a || x) ≡ ((a || b) || c)
    step true x b c rest = refl
    step false x b c rest = rest

pub has_high_more : (t : Term) (ts q : Polynomial) → has_high (products (t ∷ ts) q) ≡ (has_high (product_row t q) || has_high (products ts q))
has_high_more t ts q = ap has_high (products-more t ts q) ∙ has_high-append (product_row t q) (products ts q)

-- ---- a product of monomials is a monomial

above_power : (x : ℕ) (a : Power) (rest : Monomial → Monomial) (n : Monomial) → x < a.var.0 → IsAbove x n → IsAbove x (times_power a rest n)
above_power x a rest [] below above = below
above_power x a rest (b ∷ n) below above =
    elim (nat_cmp a.var.0 b.var.0) as (λ r. IsAbove x (by_order r (a ∷ rest (b ∷ n)) (record { var = a.var; exponent = a.exponent + b.exponent } ∷ rest n) (b ∷ times_power a rest n))) [ Less ↦ below | Equal ↦ below | Greater ↦ above ]

above-times : (x : ℕ) (m n : Monomial) → IsAbove x m → IsAbove x n → IsAbove x (times m n)
above-times x [] n left right = right
above-times x (a ∷ m) n left right = above_power x a (times m) n left right

monomial_power : (a : Power) (m : Monomial) → ((n : Monomial) → IsMonomial n → IsMonomial (times m n)) → IsMonomial (a ∷ m) → (n : Monomial) → IsMonomial n → IsMonomial (times_power a (times m) n)
monomial_power a m rest left [] right = (left.0, above-times a.var.0 m [] left.1 tt, rest [] tt)
monomial_power a m rest left (b ∷ n) right =
    elim (nat_cmp a.var.0 b.var.0) as (λ r. r ≡ nat_cmp a.var.0 b.var.0 → IsMonomial (by_order r (a ∷ times m (b ∷ n)) (record { var = a.var; exponent = a.exponent + b.exponent } ∷ times m n) (b ∷ times_power a (times m) n))) [
      | Less ↦ λ order. (left.0, above-times a.var.0 m (b ∷ n) left.1 (ranked a.var.0 b.var.0 Less order), rest (b ∷ n) right)
      | Equal ↦ λ order. (more a.exponent b.exponent left.0, above-times a.var.0 m n left.1 (subst (λ x. IsAbove x n) (sym (ranked a.var.0 b.var.0 Equal order)) right.1), rest n right.2)
      | Greater ↦ λ order. (right.0, above_power b.var.0 a (times m) n (ranked a.var.0 b.var.0 Greater order) right.1, monomial_power a m rest left n right.2)
    ] refl
  where
    more : (i j : ℕ) → 0 < i → 0 < i + j
    more i j positive = omega arith

pub IsMonomial-times : (m n : Monomial) → IsMonomial m → IsMonomial n → IsMonomial (times m n)
IsMonomial-times [] n left right = right
IsMonomial-times (a ∷ m) n left right = monomial_power a m (λ k monomial. IsMonomial-times m k left.2 monomial) left n right

-- ---- the product of polynomials is one

Each-row : (t : Term) (q : Polynomial) → IsMonomial t.0 → Each (λ u. IsMonomial u.0) q → Each (λ u. IsMonomial u.0) (product_row t q)
Each-row t [] monomial each = tt
Each-row t (u ∷ us) monomial each = (IsMonomial-times t.0 u.0 monomial each.0, Each-row t us monomial each.1)

Each-products : (p q : Polynomial) → Each (λ u. IsMonomial u.0) p → Each (λ u. IsMonomial u.0) q → Each (λ u. IsMonomial u.0) (products p q)
Each-products [] q left right = tt
Each-products (t ∷ ts) q left right = subst (λ us. Each (λ (u : Term). IsMonomial u.0) us) (sym (products-more t ts q))
    (Each-append (λ (u : Term). IsMonomial u.0) (product_row t q) (products ts q) (Each-row t q left.0 right) (Each-products ts q left.1 right))

pub IsPolynomial-product : (p q : Polynomial) → IsPolynomial p → IsPolynomial q → IsPolynomial (product p q)
IsPolynomial-product p q left right = IsPolynomial-collected (products p q) (Each-products p q (Each-monomial p left) (Each-monomial q right))

-- ---- for the powers as they are kept

is_high-append : (m n : Monomial) → is_high m ≡ false → is_high n ≡ false → is_high (m ++ n) ≡ false
is_high-append [] n left right = right
is_high-append (a ∷ m) n left right = step (ltb 65535 a.exponent) (is_high m) left (λ low. is_high-append m n low right)
  where
    step : (s t : Bool) → (s || t) ≡ false → (t ≡ false → is_high (m ++ n) ≡ false) → (s || is_high (m ++ n)) ≡ false
    step true t low next = absurd (cc)
    step false t low next = next low

times-append : (m n : Monomial) → (m ≡ []) ⊎ (n ≡ []) → times m n ≡ m ++ n
times-append m n (inl none) = ap (λ k. times k n) none ∙ ap (λ k. k ++ n) (sym none)
times-append m n (inr none) = ap (times m) none ∙ (times_nil m ∙ (sym (append-nil m) ∙ ap (λ k. m ++ k) (sym none)))

-- a slice from a place on
pub rest_taken : (i : ℕ) (m : Monomial) → take (length m - i) (drop i m) ≡ drop i m
rest_taken i m = let whole : length (drop i m) ≤ length m - i = subst (λ n. n ≤ length m - i) (sym (length-drop i m)) (omega arith) in take_all (length m - i) (drop i m) whole

-- after the loop that multiplies
pub powers_end : (made m n left right first second : Monomial) → (m ≡ []) ⊎ (n ≡ []) → is_high m ≡ false → is_high n ≡ false → is_high (times m n) ≡ is_high (times left right) → made ++ times m n ≡ times left right
    → first ≡ made ++ m → second ≡ first ++ n → (second ≡ times left right) × (is_high (times left right) ≡ false)
powers_end made m n left right first second ended left_low right_low low rest first_is second_is =
    let whole = times-append m n ended in (
      second_is ∙ (ap (λ k. k ++ n) first_is ∙ (append_assoc made m n ∙ (ap (λ k. made ++ k) (sym whole) ∙ rest))),
      sym low ∙ (ap is_high whole ∙ is_high-append m n left_low right_low),
    )

pub powers_are : (lent_left left lent_right right powers : Monomial) → lent_left ≡ left → lent_right ≡ right → IsMonomial left → IsMonomial right
    → (powers ≡ times lent_left lent_right) × (is_high (times lent_left lent_right) ≡ false) → IsMonomial powers × (is_high powers ≡ false)
powers_are lent_left left lent_right right powers same_left same_right left_monomial right_monomial made =
    let is_product : powers ≡ times left right = made.0 ∙ λ i. times (same_left i) (same_right i) in
    (subst (λ m. IsMonomial m) (sym is_product) (IsMonomial-times left right left_monomial right_monomial), ap is_high made.0 ∙ made.1)
