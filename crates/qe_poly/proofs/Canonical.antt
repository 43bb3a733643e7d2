-- What terms add up to is a polynomial with their coefficients, and two polynomials with equal coefficients are equal.
use Rattle.std.proofs.Common.{◌≡◌, ◌≢◌, refl, sym, ap, subst, ◌∙◌, Bool, true, false, cond, T, List, [], ◌∷◌, ◌++◌, Option, Some, None, ℤ, pos, ◌+ℤ◌, arith}
use Rattle.std.proofs.Math.IntN.{+ℤ_idr, +ℤ_idl, +ℤ_assoc}
use Rattle.std.proofs.lemmas.Int.{ints}
use Rattle.std.proofs.lemmas.Bool.Decides.{Decides-int_eq}
use Rattle.std.specs.declared.cmp.Ordering.TheVariants.{Less, Equal, Greater}
use Rattle.std.specs.Ordering.{is_eq, eq_by_cmp, int_eq}
use Rattle.std.specs.Cmp.{alike_right}
use Rattle.std.specs.FinMap.Entries.{find, is_sorted, below_all, by_order, same_entries}
use Rattle.qe_poly.specs.Monomial.{Monomial, in_turn, IsMonomial}
use Rattle.qe_poly.specs.Polynomial.{Term, Polynomial, Group, IsBelow, IsPolynomial, enter, with_first, gathered, total, collected, coefficient, nonzero}
use Rattle.qe_poly.proofs.Order.{turn_total, turn_same}
use Rattle.qe_poly.proofs.Sorted.{Each, tied, below_first, below_rest, below_cons, below_sorted, sorted_first, sorted_rest, sorted_cons, under_keys, is_sorted-under_keys, Each-under_keys}
use Rattle.qe_poly.proofs.Gathered.{is_sorted-gathered, Each-gathered}

-- ---- two ways to say that terms are in turn

pub below_from : (m : Monomial) (ts : List Term) → T (below_all in_turn m ts) → IsBelow m ts
below_from m [] below = tt
below_from m (t ∷ ts) below = below_first m t ts below

pub sorted_from : (p : Polynomial) → IsPolynomial p → T (is_sorted in_turn p)
sorted_from [] poly = tt
sorted_from (t ∷ ts) poly = let sorted = sorted_from ts poly.3 in sorted_cons t ts (below_to ts poly.2 sorted) sorted
  where
    below_to : (us : Polynomial) → IsBelow t.0 us → T (is_sorted in_turn us) → T (below_all in_turn t.0 us)
    below_to [] below sorted = tt
    below_to (u ∷ us) below sorted = below_sorted t.0 u us below sorted

pub Each-monomial : (p : Polynomial) → IsPolynomial p → Each (λ t. IsMonomial t.0) p
Each-monomial [] poly = tt
Each-monomial (t ∷ ts) poly = (poly.1, Each-monomial ts poly.3)

-- ---- terms without zeros

below-nonzero : (m : Monomial) (ts : List Term) → T (below_all in_turn m ts) → T (below_all in_turn m (nonzero ts))
below-nonzero m [] below = tt
below-nonzero m (t ∷ ts) below =
    let rest = below-nonzero m ts (below_rest m t ts below) in
    elim (int_eq t.1 (pos 0)) as (λ b. T (below_all in_turn m (cond b (nonzero ts) ((t.0, t.1) ∷ nonzero ts)))) [
      | true ↦ rest
      | false ↦ below_cons m t (nonzero ts) (below_first m t ts below) rest
    ]

pub not_zero : (c : ℤ) → int_eq c (pos 0) ≡ false → c ≢ pos 0
not_zero c test zero = absurd (let same : int_eq c (pos 0) ≡ true = (Decides-int_eq c (pos 0)).1 zero in cc)

pub IsPolynomial-nonzero : (ts : List Term) → T (is_sorted in_turn ts) → Each (λ t. IsMonomial t.0) ts → IsPolynomial (nonzero ts)
IsPolynomial-nonzero [] sorted each = tt
IsPolynomial-nonzero (t ∷ ts) sorted each =
    let rest = IsPolynomial-nonzero ts (sorted_rest t ts sorted) each.1 in
    elim (int_eq t.1 (pos 0)) as (λ b. int_eq t.1 (pos 0) ≡ b → IsPolynomial (cond b (nonzero ts) ((t.0, t.1) ∷ nonzero ts))) [
      | true ↦ λ zero. rest
      | false ↦ λ test. (not_zero t.1 test, each.0, below_from t.0 (nonzero ts) (below-nonzero t.0 ts (sorted_first t ts sorted)), rest)
    ] refl

pub coefficient-nonzero : (ts : List Term) (m : Monomial) → coefficient (nonzero ts) m ≡ coefficient ts m
coefficient-nonzero [] m = refl
coefficient-nonzero (t ∷ ts) m =
    elim (int_eq t.1 (pos 0)) as (λ b. int_eq t.1 (pos 0) ≡ b → coefficient (cond b (nonzero ts) ((t.0, t.1) ∷ nonzero ts)) m ≡ coefficient (t ∷ ts) m) [
      | true ↦ λ test. coefficient-nonzero ts m ∙ zero_first (eq_by_cmp in_turn m t.0) t.1 (coefficient ts m) ((Decides-int_eq t.1 (pos 0)).0 test)
      | false ↦ λ test. ap (λ c. cond (eq_by_cmp in_turn m t.0) (t.1 +ℤ c) c) (coefficient-nonzero ts m)
    ] refl
  where
    zero_first : (b : Bool) (c d : ℤ) → c ≡ pos 0 → d ≡ cond b (c +ℤ d) d
    zero_first true c d zero = sym (ap (λ x. x +ℤ d) zero ∙ +ℤ_idl d)
    zero_first false c d zero = refl

-- ---- what terms add up to

abbrev group_terms : List Group → List Term
group_terms = under_keys (λ (g : Group). total g.1)

pub IsPolynomial-collected : (ts : List Term) → Each (λ t. IsMonomial t.0) ts → IsPolynomial (collected ts)
IsPolynomial-collected ts each =
    let sum_of : Group → ℤ = λ g. total g.1 in
    IsPolynomial-nonzero (group_terms (gathered ts))
    (is_sorted-under_keys sum_of (gathered ts) (is_sorted-gathered ts)) (Each-under_keys sum_of IsMonomial (gathered ts) (Each-gathered ts each))

coefficient-enter : (t : Term) (gs : List Group) (m : Monomial) → coefficient (group_terms (enter with_first t gs)) m ≡ cond (eq_by_cmp in_turn m t.0) (t.1 +ℤ coefficient (group_terms gs) m) (coefficient (group_terms gs) m)
coefficient-enter t [] m = ap (λ c. cond (eq_by_cmp in_turn m t.0) (c +ℤ pos 0) (pos 0)) (+ℤ_idr t.1)
coefficient-enter t (g ∷ gs) m =
    elim (in_turn t.0 g.0) as (λ r. in_turn t.0 g.0 ≡ r → coefficient (group_terms (by_order r ((t.0, t.1 ∷ []) ∷ g ∷ gs) ((g.0, t.1 ∷ g.1) ∷ gs) (g ∷ enter with_first t gs))) m
    ≡ cond (eq_by_cmp in_turn m t.0) (t.1 +ℤ coefficient (group_terms (g ∷ gs)) m) (coefficient (group_terms (g ∷ gs)) m)) [
      | Less ↦ λ before. ap (λ c. cond (eq_by_cmp in_turn m t.0) (c +ℤ coefficient (group_terms (g ∷ gs)) m) (coefficient (group_terms (g ∷ gs)) m)) (+ℤ_idr t.1)
      | Equal ↦ λ tie. joined (eq_by_cmp in_turn m g.0) t.1 (total g.1) (coefficient (group_terms gs) m)
          ∙ ap (λ r. cond (is_eq r) (t.1 +ℤ coefficient (group_terms (g ∷ gs)) m) (coefficient (group_terms (g ∷ gs)) m)) (sym (alike_right turn_total t.0 g.0 m tie))
      | Greater ↦ λ after. ap (λ c. cond (eq_by_cmp in_turn m g.0) (total g.1 +ℤ c) c) (coefficient-enter t gs m)
          ∙ crossed (eq_by_cmp in_turn m g.0) (eq_by_cmp in_turn m t.0) (total g.1) t.1 (coefficient (group_terms gs) m)
    ] refl
  where
    joined : (b : Bool) (c d e : ℤ) → cond b ((c +ℤ d) +ℤ e) e ≡ cond b (c +ℤ cond b (d +ℤ e) e) (cond b (d +ℤ e) e)
    joined true c d e = +ℤ_assoc c d e
    joined false c d e = refl

    crossed : (a b : Bool) (c d e : ℤ) → cond a (c +ℤ cond b (d +ℤ e) e) (cond b (d +ℤ e) e) ≡ cond b (d +ℤ cond a (c +ℤ e) e) (cond a (c +ℤ e) e)
    crossed true true c d e = omega (arith, ints)
    crossed true false c d e = refl
    crossed false b c d e = refl

pub coefficient-collected : (ts : List Term) (m : Monomial) → coefficient (collected ts) m ≡ coefficient ts m
coefficient-collected ts m = coefficient-nonzero (group_terms (gathered ts)) m ∙ from_groups ts
  where
    from_groups : (us : List Term) → coefficient (group_terms (gathered us)) m ≡ coefficient us m
    from_groups [] = refl
    from_groups (t ∷ us) = coefficient-enter t (gathered us) m ∙ ap (λ c. cond (eq_by_cmp in_turn m t.0) (t.1 +ℤ c) c) (from_groups us)

pub coefficient-append : (ts us : List Term) (m : Monomial) → coefficient (ts ++ us) m ≡ coefficient ts m +ℤ coefficient us m
coefficient-append [] us m = sym (+ℤ_idl (coefficient us m))
coefficient-append (t ∷ ts) us m =
    elim (eq_by_cmp in_turn m t.0) as (λ b. cond b (t.1 +ℤ coefficient (ts ++ us) m) (coefficient (ts ++ us) m) ≡ cond b (t.1 +ℤ coefficient ts m) (coefficient ts m) +ℤ coefficient us m) [
      | true ↦ ap (λ c. t.1 +ℤ c) (coefficient-append ts us m) ∙ sym (+ℤ_assoc t.1 (coefficient ts m) (coefficient us m))
      | false ↦ coefficient-append ts us m
    ]

-- ---- polynomials with equal coefficients are equal

abbrev pub or_zero : Option ℤ → ℤ
or_zero None = pos 0
or_zero (Some c) = c

coefficient_below : (m : Monomial) (ts : List Term) → T (below_all in_turn m ts) → coefficient ts m ≡ pos 0
coefficient_below m [] below = refl
coefficient_below m (t ∷ ts) below =
    ap (λ r. cond (is_eq r) (t.1 +ℤ coefficient ts m) (coefficient ts m)) (below_first m t ts below) ∙ coefficient_below m ts (below_rest m t ts below)

-- in sorted terms a coefficient is found, or is zero
pub coefficient_found : (ts : List Term) (m : Monomial) → T (is_sorted in_turn ts) → coefficient ts m ≡ or_zero (find in_turn m ts)
coefficient_found [] m sorted = refl
coefficient_found (t ∷ ts) m sorted =
    elim (eq_by_cmp in_turn m t.0) as (λ b. eq_by_cmp in_turn m t.0 ≡ b → cond b (t.1 +ℤ coefficient ts m) (coefficient ts m) ≡ or_zero (cond b (Some t.1) (find in_turn m ts))) [
      | true ↦ λ tie. ap (λ c. t.1 +ℤ c) (coefficient_below m ts (subst (λ k. T (below_all in_turn k ts)) (sym (tied m t.0 tie)) (sorted_first t ts sorted))) ∙ +ℤ_idr t.1
      | false ↦ λ other. coefficient_found ts m (sorted_rest t ts sorted)
    ] refl

abbrev IsNonZero : Option ℤ → Type 0
IsNonZero None = Unit {0}
IsNonZero (Some c) = c ≢ pos 0

found_nonzero : (p : Polynomial) (m : Monomial) → IsPolynomial p → IsNonZero (find in_turn m p)
found_nonzero [] m poly = tt
found_nonzero (t ∷ ts) m poly = elim (eq_by_cmp in_turn m t.0) as (λ b. IsNonZero (cond b (Some t.1) (find in_turn m ts))) [ true ↦ poly.0 | false ↦ found_nonzero ts m poly.3 ]

same_option : (a b : Option ℤ) → IsNonZero a → IsNonZero b → or_zero a ≡ or_zero b → a ≡ b
same_option None None left right same = refl
same_option None (Some c) left right same = absurd (right (sym same))
same_option (Some c) None left right same = absurd (left same)
same_option (Some c) (Some d) left right same = ap Some same

pub same_polynomial : (p q : Polynomial) → IsPolynomial p → IsPolynomial q → ((m : Monomial) → coefficient p m ≡ coefficient q m) → p ≡ q
same_polynomial p q left right same =
    let p_sorted = sorted_from p left in
    let q_sorted = sorted_from q right in
    same_entries in_turn turn_total turn_same p q p_sorted q_sorted
    (λ m. same_option (find in_turn m p) (find in_turn m q) (found_nonzero p m left) (found_nonzero q m right) (sym (coefficient_found p m p_sorted) ∙ (same m ∙ coefficient_found q m q_sorted)))
