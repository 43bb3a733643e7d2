-- The coefficients of the powers of one variable are polynomials.
use Rattle.std.proofs.Common.{◌≡◌, ◌≢◌, refl, sym, ap, subst, ◌∙◌, ℕ, ◌<◌, eqb, ltb, Bool, true, false, cond, ◌||◌, T, [], ◌∷◌, arith}
use Rattle.std.proofs.lemmas.Bool.{eqb-true}
use Rattle.std.proofs.lemmas.Bool.Decides.{nat_tests}
use Rattle.std.specs.declared.cmp.Ordering.{Ordering}
use Rattle.std.specs.declared.cmp.Ordering.TheVariants.{Less, Equal, Greater}
use Rattle.std.specs.Ordering.{nat_cmp, ordering_then}
use Rattle.std.specs.Cmp.{tied_itself}
use Rattle.std.specs.FinMap.Entries.{below_all}
use Rattle.qe_poly.specs.declared.monomial.Power.{Power}
use Rattle.qe_poly.specs.Monomial.{Monomial, IsMonomial, IsAbove, is_high, power_cmp, monomial_cmp, in_turn}
use Rattle.qe_poly.specs.Polynomial.{Polynomial, IsPolynomial}
use Rattle.qe_poly.specs.Coefficients.{exponent_of, without, coefficient_in}
use Rattle.qe_poly.proofs.Order.{power_total}
use Rattle.qe_poly.proofs.Sorted.{Each, below_first, below_rest, below_cons, sorted_first}
use Rattle.qe_poly.proofs.Canonical.{sorted_from, below_from, Each-monomial}

-- ---- numbers

pub not_equal : (i j : ℕ) → eqb i j ≡ false → i ≢ j
not_equal i j test same = grind (arith, nat_tests)

pub nat_less : (i j : ℕ) → i < j → nat_cmp i j ≡ Less
nat_less i j less = grind (arith, nat_tests)

pub nat_greater : (i j : ℕ) → j < i → nat_cmp i j ≡ Greater
nat_greater i j less = grind (arith, nat_tests)

above_apart : (x y : ℕ) → x < y → eqb y x ≡ false
above_apart x y above = grind (arith, nat_tests)

pub no_way : {A : Type 0} → Greater ≡ Less → A
no_way less = absurd (cc)

pub tie_no_way : {A : Type 0} → Equal ≡ Less → A
tie_no_way less = absurd (cc)

-- ---- the place of a variable in a monomial

-- a variable below the first has the exponent 0
exponent_below : (x : ℕ) (m : Monomial) → IsMonomial m → IsAbove x m → exponent_of x m ≡ 0
exponent_below x [] monomial above = refl
exponent_below x (a ∷ m) monomial above =
    ap (λ b. cond b a.exponent (exponent_of x m)) (above_apart x a.var.0 above) ∙ exponent_below x m monomial.2 (later m monomial.1)
  where
    later : (n : Monomial) → IsAbove a.var.0 n → IsAbove x n
    later [] above_a = tt
    later (b ∷ n) above_a = omega arith

-- the variable of a positive exponent is not below the first
pub first_below : (x : ℕ) (b : Power) (n : Monomial) → IsMonomial (b ∷ n) → eqb b.var.0 x ≡ false → 0 < exponent_of x n → b.var.0 < x
first_below x b n monomial apart positive = by_cases b.var.0 x (not_equal b.var.0 x apart) (λ less. absurd (none less))
  where
    later : (k : Monomial) → IsAbove b.var.0 k → x < b.var.0 → IsAbove x k
    later [] above less = tt
    later (c ∷ k) above less = omega arith

    none : x < b.var.0 → ⊥
    none less = let zero : exponent_of x n ≡ 0 = exponent_below x n monomial.2 (later n monomial.1 less) in omega arith

    by_cases : (i j : ℕ) → i ≢ j → (j < i → i < j) → i < j
    by_cases i j apart other = grind (arith, nat_tests)

pub later_first : (b : Power) (m n : Monomial) → IsAbove b.var.0 m → monomial_cmp m (b ∷ n) ≡ Less
later_first b [] n above = refl
later_first b (c ∷ m) n above = ap (λ r. ordering_then (ordering_then r (nat_cmp c.exponent b.exponent)) (monomial_cmp m n)) (nat_less b.var.0 c.var.0 above)

pub above_lower : (x y : ℕ) (m : Monomial) → x < y → IsAbove y m → IsAbove x m
above_lower x y [] less above = tt
above_lower x y (c ∷ m) less above = omega arith

-- ---- of two monomials with one exponent of a variable the order stays without it

pub without-less : (x : ℕ) (m n : Monomial) → IsMonomial m → IsMonomial n → exponent_of x m ≡ exponent_of x n → monomial_cmp m n ≡ Less → monomial_cmp (without x m) (without x n) ≡ Less
without-less x [] [] left right same less = tie_no_way less
without-less x [] (b ∷ n) left right same less =
    elim (eqb b.var.0 x) as (λ test. 0 ≡ cond test b.exponent (exponent_of x n) → monomial_cmp [] (cond test n (b ∷ without x n)) ≡ Less) [
      | true ↦ λ zero. absurd (positive b.exponent right.0 zero)
      | false ↦ λ zero. refl
    ] same
  where
    positive : (i : ℕ) → 0 < i → 0 ≡ i → ⊥
    positive i more zero = omega arith
without-less x (a ∷ m) [] left right same less = no_way less
without-less x (a ∷ m) (b ∷ n) left right same less = by_both (λ rest_same rest_less. without-less x m n left.2 right.2 rest_same rest_less) (eqb a.var.0 x) (eqb b.var.0 x) refl refl
  where
    in_order : (r : Ordering) → ordering_then r (monomial_cmp m n) ≡ Less → (monomial_cmp m n ≡ Less → monomial_cmp (without x m) (without x n) ≡ Less) → ordering_then r (monomial_cmp (without x m) (without x n)) ≡ Less
    in_order Less holds again = refl
    in_order Equal holds again = again holds
    in_order Greater holds again = no_way holds

    -- the exponents of x, where it is told which powers are of x
    exponents : (s t : Bool) → eqb a.var.0 x ≡ s → eqb b.var.0 x ≡ t → cond s a.exponent (exponent_of x m) ≡ cond t b.exponent (exponent_of x n)
    exponents s t p q = sym (ap (λ test. cond test a.exponent (exponent_of x m)) p) ∙ (same ∙ ap (λ test. cond test b.exponent (exponent_of x n)) q)

    by_both : (exponent_of x m ≡ exponent_of x n → monomial_cmp m n ≡ Less → monomial_cmp (without x m) (without x n) ≡ Less) → (s t : Bool) → eqb a.var.0 x ≡ s → eqb b.var.0 x ≡ t → monomial_cmp (cond (eqb a.var.0 x) m (a ∷ without x m)) (cond (eqb b.var.0 x) n (b ∷ without x n)) ≡ Less
    by_both again true true p q =
        let var : a.var.0 ≡ b.var.0 = eqb-true a.var.0 x p ∙ sym (eqb-true b.var.0 x q) in
        let same_power : a ≡ b = λ i. record { var = record { 0 = var i }; exponent = exponents true true p q i } in
        (λ i. monomial_cmp (cond (p i) m (a ∷ without x m)) (cond (q i) n (b ∷ without x n)))
        ∙ (sym (ap (λ r. ordering_then r (monomial_cmp m n)) (ap (λ c. power_cmp c b) same_power ∙ tied_itself power_total b)) ∙ less)
    by_both again true false p q =
        let before : b.var.0 < x = first_below x b n right q (subst (λ i. 0 < i) (exponents true false p q) left.0) in
        (λ i. monomial_cmp (cond (p i) m (a ∷ without x m)) (cond (q i) n (b ∷ without x n)))
        ∙ later_first b m (without x n) (above_lower b.var.0 a.var.0 m (subst (λ i. b.var.0 < i) (sym (eqb-true a.var.0 x p)) before) left.1)
    by_both again false true p q =
        let before : a.var.0 < x = first_below x a m left p (subst (λ i. 0 < i) (sym (exponents false true p q)) right.0) in
        no_way (sym (ap (λ r. ordering_then (ordering_then r (nat_cmp a.exponent b.exponent)) (monomial_cmp m n)) (nat_greater b.var.0 a.var.0 (subst (λ i. a.var.0 < i) (sym (eqb-true b.var.0 x q)) before))) ∙ less)
    by_both again false false p q =
        (λ i. monomial_cmp (cond (p i) m (a ∷ without x m)) (cond (q i) n (b ∷ without x n)))
        ∙ in_order (power_cmp a b) less (again (exponents false false p q))

-- ---- the monomial without a variable is one

above_without : (y x : ℕ) (m : Monomial) → IsMonomial m → IsAbove y m → IsAbove y (without x m)
above_without y x [] monomial above = tt
above_without y x (a ∷ m) monomial above = elim (eqb a.var.0 x) as (λ b. IsAbove y (cond b m (a ∷ without x m))) [ true ↦ above_lower y a.var.0 m above monomial.1 | false ↦ above ]

pub IsMonomial-without : (x : ℕ) (m : Monomial) → IsMonomial m → IsMonomial (without x m)
IsMonomial-without x [] monomial = tt
IsMonomial-without x (a ∷ m) monomial = elim (eqb a.var.0 x) as (λ b. IsMonomial (cond b m (a ∷ without x m))) [
  | true ↦ monomial.2
  | false ↦ (monomial.0, above_without a.var.0 x m monomial.2 monomial.1, IsMonomial-without x m monomial.2)
]

pub is_high-without : (x : ℕ) (m : Monomial) → is_high m ≡ false → is_high (without x m) ≡ false
is_high-without x [] low = refl
is_high-without x (a ∷ m) low = elim (eqb a.var.0 x) as (λ b. is_high (cond b m (a ∷ without x m)) ≡ false) [
  | true ↦ rest (ltb 65535 a.exponent) (is_high m) low
  | false ↦ again (ltb 65535 a.exponent) (is_high m) (is_high (without x m)) low (is_high-without x m)
]
  where
    rest : (s t : Bool) → (s || t) ≡ false → t ≡ false
    rest true t neither = absurd (cc)
    rest false t neither = neither

    again : (s t u : Bool) → (s || t) ≡ false → (t ≡ false → u ≡ false) → (s || u) ≡ false
    again true t u neither next = absurd (cc)
    again false t u neither next = next neither

-- ---- the terms with one power of a variable

below-coefficient_in : (x k : ℕ) (m : Monomial) → IsMonomial m → exponent_of x m ≡ k → (ts : Polynomial) → Each (λ t. IsMonomial t.0) ts → T (below_all in_turn m ts) → T (below_all in_turn (without x m) (coefficient_in x k ts))
below-coefficient_in x k m monomial power [] each below = tt
below-coefficient_in x k m monomial power (t ∷ ts) each below =
    let rest = below-coefficient_in x k m monomial power ts each.1 (below_rest m t ts below) in
    elim (eqb (exponent_of x t.0) k) as (λ b. eqb (exponent_of x t.0) k ≡ b → T (below_all in_turn (without x m) (cond b ((without x t.0, t.1) ∷ coefficient_in x k ts) (coefficient_in x k ts)))) [
      | true ↦ λ test. below_cons (without x m) (without x t.0, t.1) (coefficient_in x k ts)
          (without-less x t.0 m each.0 monomial (eqb-true (exponent_of x t.0) k test ∙ sym power) (below_first m t ts below)) rest
      | false ↦ λ test. rest
    ] refl

pub IsPolynomial-coefficient_in : (x k : ℕ) (p : Polynomial) → IsPolynomial p → IsPolynomial (coefficient_in x k p)
IsPolynomial-coefficient_in x k [] poly = tt
IsPolynomial-coefficient_in x k (t ∷ ts) poly =
    let rest = IsPolynomial-coefficient_in x k ts poly.3 in
    let below = sorted_first t ts (sorted_from (t ∷ ts) poly) in
    elim (eqb (exponent_of x t.0) k) as (λ b. eqb (exponent_of x t.0) k ≡ b → IsPolynomial (cond b ((without x t.0, t.1) ∷ coefficient_in x k ts) (coefficient_in x k ts))) [
      | true ↦ λ test. (
        poly.0,
        IsMonomial-without x t.0 poly.1,
        below_from (without x t.0) (coefficient_in x k ts) (below-coefficient_in x k t.0 poly.1 (eqb-true (exponent_of x t.0) k test) ts (Each-monomial ts poly.3) below),
        rest,
      )
      | false ↦ λ test. rest
    ] refl
