-- The terms of a derivative are a polynomial.
use Rattle.std.proofs.Common.{◌≡◌, refl, sym, ap, subst, ◌∙◌, ℕ, zero, suc, ◌<◌, ◌-◌, eqb, ltb, Bool, true, false, cond, ◌||◌, T, [], ◌∷◌, ◌++◌, ℤ, pos, ◌*ℤ◌, arith}
use Rattle.std.proofs.Math.IntN.{*ℤ-zero}
use Rattle.std.proofs.lemmas.Bool.{eqb-true}
use Rattle.std.proofs.lemmas.Bool.Decides.{nat_tests}
use Rattle.std.specs.declared.cmp.Ordering.{Ordering}
use Rattle.std.specs.declared.cmp.Ordering.TheVariants.{Less, Equal, Greater}
use Rattle.std.specs.Ordering.{nat_cmp, ordering_then, int_eq}
use Rattle.std.specs.Cmp.{tied_itself, nat_cmp_total}
use Rattle.std.specs.FinMap.Entries.{below_all}
use Rattle.qe_poly.specs.declared.monomial.Var.{Var}
use Rattle.qe_poly.specs.declared.monomial.Power.{Power}
use Rattle.qe_poly.specs.Monomial.{Monomial, IsMonomial, IsAbove, is_high, power, power_cmp, monomial_cmp, in_turn}
use Rattle.qe_poly.specs.Polynomial.{Polynomial, IsPolynomial}
use Rattle.qe_poly.specs.Coefficients.{exponent_of, lowered, derivative}
use Rattle.qe_poly.proofs.Order.{power_total}
use Rattle.qe_poly.proofs.Sorted.{Each, below_first, below_rest, below_cons, sorted_first}
use Rattle.qe_poly.proofs.Canonical.{sorted_from, below_from, not_zero, Each-monomial}
use Rattle.qe_poly.proofs.Parts.{nat_less, nat_greater, no_way, first_below, later_first, above_lower}

-- ---- the lowered monomial is one

above_power : (y : ℕ) (a : Power) (m : Monomial) → IsMonomial (a ∷ m) → y < a.var.0 → IsAbove y (power a.var (a.exponent - 1) ++ m)
above_power y a m monomial above =
    elim (eqb (a.exponent - 1) 0) as (λ b. IsAbove y (cond b [] (record { var = a.var; exponent = a.exponent - 1 } ∷ []) ++ m)) [ true ↦ above_lower y a.var.0 m above monomial.1 | false ↦ above ]

above_lowered : (y x : ℕ) (m : Monomial) → IsMonomial m → IsAbove y m → IsAbove y (lowered x m)
above_lowered y x [] monomial above = tt
above_lowered y x (a ∷ m) monomial above =
    elim (eqb a.var.0 x) as (λ b. IsAbove y (cond b (power a.var (a.exponent - 1) ++ m) (a ∷ lowered x m))) [ true ↦ above_power y a m monomial above | false ↦ above ]

pub IsMonomial-lowered : (x : ℕ) (m : Monomial) → IsMonomial m → IsMonomial (lowered x m)
IsMonomial-lowered x [] monomial = tt
IsMonomial-lowered x (a ∷ m) monomial = elim (eqb a.var.0 x) as (λ b. IsMonomial (cond b (power a.var (a.exponent - 1) ++ m) (a ∷ lowered x m))) [
  | true ↦ elim (eqb (a.exponent - 1) 0) as (λ b. eqb (a.exponent - 1) 0 ≡ b → IsMonomial (cond b [] (record { var = a.var; exponent = a.exponent - 1 } ∷ []) ++ m)) [
    | true ↦ λ gone. monomial.2
    | false ↦ λ test. (positive (a.exponent - 1) test, monomial.1, monomial.2)
  ] refl
  | false ↦ (monomial.0, above_lowered a.var.0 x m monomial.2 monomial.1, IsMonomial-lowered x m monomial.2)
]
  where
    positive : (i : ℕ) → eqb i 0 ≡ false → 0 < i
    positive i test = grind (arith, nat_tests)

pub is_high-lowered : (x : ℕ) (m : Monomial) → is_high m ≡ false → is_high (lowered x m) ≡ false
is_high-lowered x [] low = refl
is_high-lowered x (a ∷ m) low = elim (eqb a.var.0 x) as (λ b. is_high (cond b (power a.var (a.exponent - 1) ++ m) (a ∷ lowered x m)) ≡ false) [
  | true ↦ elim (eqb (a.exponent - 1) 0) as (λ b. is_high (cond b [] (record { var = a.var; exponent = a.exponent - 1 } ∷ []) ++ m) ≡ false) [
    | true ↦ rest (ltb 65535 a.exponent) (is_high m) low
    | false ↦ less a.exponent (is_high m) low
  ]
  | false ↦ again (ltb 65535 a.exponent) (is_high m) (is_high (lowered x m)) low (is_high-lowered x m)
]
  where
    rest : (s t : Bool) → (s || t) ≡ false → t ≡ false
    rest true t neither = absurd (cc)
    rest false t neither = neither

    first : (s t : Bool) → (s || t) ≡ false → s ≡ false
    first true t neither = absurd (cc)
    first false t neither = refl

    lower : (i : ℕ) → ltb 65535 i ≡ false → ltb 65535 (i - 1) ≡ false
    lower i low = grind (arith, nat_tests)

    less : (i : ℕ) (t : Bool) → (ltb 65535 i || t) ≡ false → (ltb 65535 (i - 1) || t) ≡ false
    less i t neither = ap (λ b. b || t) (lower i (first (ltb 65535 i) t neither)) ∙ rest (ltb 65535 i) t neither

    again : (s t u : Bool) → (s || t) ≡ false → (t ≡ false → u ≡ false) → (s || u) ≡ false
    again true t u neither next = absurd (cc)
    again false t u neither next = next neither

-- ---- of two monomials with a variable the order stays when its exponents are lowered

same_var : (x : Var) (i j : ℕ) (m n : Monomial) → IsAbove x.0 m → 0 < i → 0 < j → ordering_then (ordering_then (nat_cmp x.0 x.0) (nat_cmp i j)) (monomial_cmp m n) ≡ Less
    → monomial_cmp (power x (i - 1) ++ m) (power x (j - 1) ++ n) ≡ Less
same_var x i j m n above more more_too less = by_order (nat_cmp i j) refl (sym (ap (λ r. ordering_then (ordering_then r (nat_cmp i j)) (monomial_cmp m n)) (tied_itself nat_cmp_total x.0)) ∙ less)
  where
    below : (k l : ℕ) → nat_cmp k l ≡ Less → k < l
    below k l order = grind (arith, nat_tests)

    tied : (k l : ℕ) → nat_cmp k l ≡ Equal → k ≡ l
    tied k l order = grind (arith, nat_tests)

    not_gone : (k l : ℕ) → 0 < k → k < l → eqb (l - 1) 0 ≡ false
    not_gone k l positive before = grind (arith, nat_tests)

    by_order : (r : Ordering) → nat_cmp i j ≡ r → ordering_then (nat_cmp i j) (monomial_cmp m n) ≡ Less → monomial_cmp (power x (i - 1) ++ m) (power x (j - 1) ++ n) ≡ Less
    by_order Less order holds =
        let before = below i j order in
        (λ k. monomial_cmp (power x (i - 1) ++ m) (cond (not_gone i j more before k) [] (record { var = x; exponent = j - 1 } ∷ []) ++ n))
        ∙ elim (eqb (i - 1) 0) as (λ b. monomial_cmp (cond b [] (record { var = x; exponent = i - 1 } ∷ []) ++ m) (record { var = x; exponent = j - 1 } ∷ n) ≡ Less) [
          | true ↦ later_first (record { var = x; exponent = j - 1 }) m n above
          | false ↦ λ k. ordering_then (ordering_then (tied_itself nat_cmp_total x.0 k) (nat_less (i - 1) (j - 1) (omega arith) k)) (monomial_cmp m n)
        ]
    by_order Equal order holds =
        let rest : monomial_cmp m n ≡ Less = sym (ap (λ r. ordering_then r (monomial_cmp m n)) order) ∙ holds in
        subst (λ k. monomial_cmp (power x (i - 1) ++ m) (power x (k - 1) ++ n) ≡ Less) (tied i j order)
        (elim (eqb (i - 1) 0) as (λ b. monomial_cmp (cond b [] (record { var = x; exponent = i - 1 } ∷ []) ++ m) (cond b [] (record { var = x; exponent = i - 1 } ∷ []) ++ n) ≡ Less) [
          | true ↦ rest
          | false ↦ ap (λ r. ordering_then r (monomial_cmp m n)) (tied_itself power_total (record { var = x; exponent = i - 1 })) ∙ rest
        ])
    by_order Greater order holds = no_way (sym (ap (λ r. ordering_then r (monomial_cmp m n)) order) ∙ holds)

same_vars : (a b : Power) (m n : Monomial) → a.var.0 ≡ b.var.0 → IsAbove a.var.0 m → 0 < a.exponent → 0 < b.exponent → ordering_then (power_cmp a b) (monomial_cmp m n) ≡ Less
    → monomial_cmp (power a.var (a.exponent - 1) ++ m) (power b.var (b.exponent - 1) ++ n) ≡ Less
same_vars a b m n same above more more_too less =
    let var : a.var ≡ b.var = λ i. record { 0 = same i } in
    subst (λ (v : Var). ordering_then (ordering_then (nat_cmp v.0 a.var.0) (nat_cmp a.exponent b.exponent)) (monomial_cmp m n) ≡ Less → monomial_cmp (power a.var (a.exponent - 1) ++ m) (power v (b.exponent - 1) ++ n) ≡ Less)
    var (same_var a.var a.exponent b.exponent m n above more more_too) less

lowered-less : (x : ℕ) (m n : Monomial) → IsMonomial m → IsMonomial n → 0 < exponent_of x m → 0 < exponent_of x n → monomial_cmp m n ≡ Less → monomial_cmp (lowered x m) (lowered x n) ≡ Less
lowered-less x [] n left right more more_too less = absurd (omega arith)
lowered-less x (a ∷ m) [] left right more more_too less = absurd (omega arith)
lowered-less x (a ∷ m) (b ∷ n) left right more more_too less =
    by_both (λ rest rest_too rest_less. lowered-less x m n left.2 right.2 rest rest_too rest_less) (eqb a.var.0 x) (eqb b.var.0 x) refl refl
  where
    in_order : (r : Ordering) → ordering_then r (monomial_cmp m n) ≡ Less → (monomial_cmp m n ≡ Less → monomial_cmp (lowered x m) (lowered x n) ≡ Less) → ordering_then r (monomial_cmp (lowered x m) (lowered x n)) ≡ Less
    in_order Less holds again = refl
    in_order Equal holds again = again holds
    in_order Greater holds again = no_way holds

    left_more : eqb a.var.0 x ≡ false → 0 < exponent_of x m
    left_more p = subst (λ b. 0 < cond b a.exponent (exponent_of x m)) p more

    right_more : eqb b.var.0 x ≡ false → 0 < exponent_of x n
    right_more q = subst (λ c. 0 < cond c b.exponent (exponent_of x n)) q more_too

    by_both : (0 < exponent_of x m → 0 < exponent_of x n → monomial_cmp m n ≡ Less → monomial_cmp (lowered x m) (lowered x n) ≡ Less) → (s t : Bool) → eqb a.var.0 x ≡ s → eqb b.var.0 x ≡ t
        → monomial_cmp (cond (eqb a.var.0 x) (power a.var (a.exponent - 1) ++ m) (a ∷ lowered x m)) (cond (eqb b.var.0 x) (power b.var (b.exponent - 1) ++ n) (b ∷ lowered x n)) ≡ Less
    by_both again true true p q =
        (λ i. monomial_cmp (cond (p i) (power a.var (a.exponent - 1) ++ m) (a ∷ lowered x m)) (cond (q i) (power b.var (b.exponent - 1) ++ n) (b ∷ lowered x n)))
        ∙ same_vars a b m n (eqb-true a.var.0 x p ∙ sym (eqb-true b.var.0 x q)) left.1 left.0 right.0 less
    by_both again true false p q =
        let before : b.var.0 < x = first_below x b n right q (right_more q) in
        (λ i. monomial_cmp (cond (p i) (power a.var (a.exponent - 1) ++ m) (a ∷ lowered x m)) (cond (q i) (power b.var (b.exponent - 1) ++ n) (b ∷ lowered x n)))
        ∙ later_first b (power a.var (a.exponent - 1) ++ m) (lowered x n) (above_power b.var.0 a m left (subst (λ k. b.var.0 < k) (sym (eqb-true a.var.0 x p)) before))
    by_both again false true p q =
        let before : a.var.0 < x = first_below x a m left p (left_more p) in
        no_way (sym (ap (λ r. ordering_then (ordering_then r (nat_cmp a.exponent b.exponent)) (monomial_cmp m n)) (nat_greater b.var.0 a.var.0 (subst (λ k. a.var.0 < k) (sym (eqb-true b.var.0 x q)) before))) ∙ less)
    by_both again false false p q =
        (λ i. monomial_cmp (cond (p i) (power a.var (a.exponent - 1) ++ m) (a ∷ lowered x m)) (cond (q i) (power b.var (b.exponent - 1) ++ n) (b ∷ lowered x n)))
        ∙ in_order (power_cmp a b) less (again (left_more p) (right_more q))

-- ---- the derivative is a polynomial

-- a product that is not zero has an exponent that is not zero
exponent_positive : (c : ℤ) (e : ℕ) → int_eq (c *ℤ pos e) (pos 0) ≡ false → 0 < e
exponent_positive c zero test = absurd (not_zero (c *ℤ pos 0) test (*ℤ-zero c))
exponent_positive c (suc e) test = omega arith

below-derivative : (x : ℕ) (m : Monomial) → IsMonomial m → 0 < exponent_of x m → (ts : Polynomial) → Each (λ t. IsMonomial t.0) ts → T (below_all in_turn m ts) → T (below_all in_turn (lowered x m) (derivative x ts))
below-derivative x m monomial more [] each below = tt
below-derivative x m monomial more (t ∷ ts) each below =
    let rest = below-derivative x m monomial more ts each.1 (below_rest m t ts below) in
    let c = t.1 *ℤ pos (exponent_of x t.0) in
    elim (int_eq c (pos 0)) as (λ b. int_eq c (pos 0) ≡ b → T (below_all in_turn (lowered x m) (cond b (derivative x ts) ((lowered x t.0, c) ∷ derivative x ts)))) [
      | true ↦ λ test. rest
      | false ↦ λ test. below_cons (lowered x m) (lowered x t.0, c) (derivative x ts)
          (lowered-less x t.0 m each.0 monomial (exponent_positive t.1 (exponent_of x t.0) test) more (below_first m t ts below)) rest
    ] refl

pub IsPolynomial-derivative : (x : ℕ) (p : Polynomial) → IsPolynomial p → IsPolynomial (derivative x p)
IsPolynomial-derivative x [] poly = tt
IsPolynomial-derivative x (t ∷ ts) poly =
    let rest = IsPolynomial-derivative x ts poly.3 in
    let below = sorted_first t ts (sorted_from (t ∷ ts) poly) in
    let c = t.1 *ℤ pos (exponent_of x t.0) in
    elim (int_eq c (pos 0)) as (λ b. int_eq c (pos 0) ≡ b → IsPolynomial (cond b (derivative x ts) ((lowered x t.0, c) ∷ derivative x ts))) [
      | true ↦ λ test. rest
      | false ↦ λ test. (
        not_zero c test,
        IsMonomial-lowered x t.0 poly.1,
        below_from (lowered x t.0) (derivative x ts) (below-derivative x t.0 poly.1 (exponent_positive t.1 (exponent_of x t.0) test) ts (Each-monomial ts poly.3) below),
        rest,
      )
    ] refl
