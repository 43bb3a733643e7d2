-- Polynomials within all limits: which results stay within, and which operations meet no limit.
use Rattle.std.proofs.Common.{ℕ, suc, ◌+◌, ◌-◌, ◌^◌, ◌≡◌, ◌<◌, ◌≤◌, refl, sym, ap, subst, ◌∙◌, Bool, true, false, ◌||◌, cond, ltb, eqb, List, [], ◌∷◌, ◌++◌, map, length, length-append, Option, Some, None, ℤ, pos, neg_ℤ, unsigned_abs, arith}
use Rattle.std.specs.List.{list_any}
use Rattle.std.specs.Ordering.{eq_by_cmp, int_eq}
use Rattle.std.specs.FinMap.Entries.{find, by_order}
use Rattle.std.specs.declared.cmp.Ordering.TheVariants.{Less, Equal, Greater}
use Rattle.std.proofs.lemmas.Int.{ints}
use Rattle.std.proofs.lemmas.Bool.{le-ltb}
use Rattle.std.proofs.lemmas.Bool.Decides.{nat_tests}
use Rattle.std.proofs.lemmas.List.{length-map}
use Rattle.qe_poly.proofs.CollectedProduct.{if_none, else_none, at_most, magnitude_sum}
use Rattle.qe_coef.specs.declared.Op.{Op}
use Rattle.qe_coef.specs.declared.Op.TheVariants.{Add, Sub, Mul}
use Rattle.qe_coef.specs.Exact.{exact}
use Rattle.qe_coef.specs.Range.{IsInRange}
use Rattle.qe_poly.specs.declared.limit.PolyLimit.{PolyLimit}
use Rattle.qe_poly.specs.declared.limit.PolyLimit.TheVariants.{Coefficient, Exponent, Monomials}
use Rattle.qe_poly.specs.declared.monomial.Var.{Var}
use Rattle.qe_poly.specs.Monomial.{Monomial, in_turn, is_high, IsMonomial}
use Rattle.qe_poly.specs.Polynomial.{Term, Polynomial, Group, IsBelow, IsPolynomial, coefficient, enter, with_first, gathered, total, nonzero, collected, constant, power_of, negative, sum, difference, product, pairs, products}
use Rattle.qe_poly.specs.Limits.{first_limit, limit_if, wide, sum_limit, magnitude_limit, product_limit}
use Rattle.qe_halt.specs.Outcome.{or_else}
use Rattle.qe_poly.specs.Rows.{merged, kept_results}
use Rattle.qe_poly.proofs.Sorted.{Each, Each-append, under_keys}
use Rattle.qe_poly.proofs.Canonical.{or_zero, sorted_from, Each-monomial, IsPolynomial-collected, coefficient-collected, coefficient-append, coefficient_found, same_polynomial}
use Rattle.qe_poly.proofs.MergedRows.{two_of, merged-is}
use Rattle.qe_poly.proofs.MergedSums.{results-sum, results-difference, IsPolynomial-results, IsPolynomial-negative, coefficient-difference}
use Rattle.qe_poly.proofs.Products.{IsPolynomial-product}
use Rattle.qe_poly.proofs.Constants.{IsPolynomial-constant, wide-in_range}
use Rattle.qe_roundtrip.proofs.Pieces.{or_no}
use Rattle.qe_roundtrip.proofs.Legible.{IsStored}

-- ---- limits that are not met

pub none_if : (b : Bool) (met : PolyLimit) (rest : Option PolyLimit) → b ≡ false → rest ≡ None → limit_if b met rest ≡ None
none_if true met rest h none = absurd (cc)
none_if false met rest h none = none

first_none : {A : Type 0} (f : A → Option PolyLimit) (xs : List A) → ((x : A) → f x ≡ None) → first_limit f xs ≡ None
first_none f [] h = refl
first_none f (x ∷ xs) h = ap (λ l. or_else l (first_limit f xs)) (h x) ∙ first_none f xs h

each_none : {A : Type 0} (f : A → Option PolyLimit) (xs : List A) → first_limit f xs ≡ None → Each (λ x. f x ≡ None) xs
each_none f [] h = tt
each_none f (x ∷ xs) h = let parts = else_none (f x) (first_limit f xs) h in (parts.0, each_none f xs parts.1)

fits : (op : Op) (a b : ℤ) → wide op a b ≡ None → IsInRange (exact op a b)
fits op a b h =
    let most : unsigned_abs (exact op a b) ≤ 2 ^ 127 - 1 = at_most (2 ^ 127 - 1) (unsigned_abs (exact op a b)) (if_none (ltb (2 ^ 127 - 1) (unsigned_abs (exact op a b))) (Coefficient (record { op = op; left = a; right = b })) None h).0 in
    omega arith

-- ---- each item of a list

each_map : {X Y : Type 0} (f : X → Y) (P : Y → Type 0) (xs : List X) → Each (λ x. P (f x)) xs → Each P (map f xs)
each_map f P [] h = tt
each_map f P (x ∷ xs) h = (h.0, each_map f P xs h.1)

each_from : {X : Type 0} (P Q : X → Type 0) (xs : List X) → ((x : X) → P x → Q x) → Each P xs → Each Q xs
each_from P Q [] f h = tt
each_from P Q (x ∷ xs) f h = (f x h.0, each_from P Q xs f h.1)

each_front : {X : Type 0} (P : X → Type 0) (xs ys : List X) → Each P (xs ++ ys) → Each P xs
each_front P [] ys h = tt
each_front P (x ∷ xs) ys h = (h.0, each_front P xs ys h.1)

module _ (P : Monomial → Type 0) where
  each_enter : (t : Term) (gs : List Group) → P t.0 → Each (λ g. P g.0) gs → Each (λ g. P g.0) (enter with_first t gs)
  each_enter t [] h k = (h, tt)
  each_enter t (g ∷ gs) h k =
      elim (in_turn t.0 g.0) as (λ r. Each (λ g. P g.0) (by_order r ((t.0, with_first None t.1) ∷ g ∷ gs) ((g.0, with_first (Some g.1) t.1) ∷ gs) (g ∷ enter with_first t gs))) [
        | Less ↦ (h, k)
        | Equal ↦ k
        | Greater ↦ (k.0, each_enter t gs h k.1)
      ]

  each_gathered : (ts : List Term) → Each (λ t. P t.0) ts → Each (λ g. P g.0) (gathered ts)
  each_gathered [] h = tt
  each_gathered (t ∷ ts) h = each_enter t (gathered ts) h.0 (each_gathered ts h.1)

few_entered : (t : Term) (gs : List Group) → length (enter with_first t gs) ≤ suc (length gs)
few_entered t [] = omega arith
few_entered t (g ∷ gs) =
    elim (in_turn t.0 g.0) as (λ r. length (by_order r ((t.0, with_first None t.1) ∷ g ∷ gs) ((g.0, with_first (Some g.1) t.1) ∷ gs) (g ∷ enter with_first t gs)) ≤ suc (suc (length gs))) [
      | Less ↦ omega arith
      | Equal ↦ omega arith
      | Greater ↦ omega (arith, few_entered t gs)
    ]

few_gathered : (ts : List Term) → length (gathered ts) ≤ length ts
few_gathered [] = omega arith
few_gathered (t ∷ ts) = omega (arith, few_entered t (gathered ts), few_gathered ts)

-- ---- terms without zeros

record Within (n : ℕ) (p : Polynomial) : Type 0 where
  in_range : Each (λ t. IsInRange t.1) p
  low : Each (λ t. is_high t.0 ≡ false) p
  few : length p ≤ n

nonzero_within : (ts : List Term) → Each (λ t. IsInRange t.1) ts → Each (λ t. is_high t.0 ≡ false) ts → Within (length ts) (nonzero ts)
nonzero_within [] r l = record { in_range = tt; low = tt; few = omega arith }
nonzero_within (t ∷ ts) r l =
    let w = nonzero_within ts r.1 l.1 in
    elim (int_eq t.1 (pos 0)) as (λ b. Within (suc (length ts)) (cond b (nonzero ts) ((t.0, t.1) ∷ nonzero ts))) [
      | true ↦ record { in_range = w.in_range; low = w.low; few = omega (arith, w.few) }
      | false ↦ record { in_range = (r.0, w.in_range); low = (l.0, w.low); few = omega (arith, w.few) }
    ]

stored_within : (n : ℕ) (p : Polynomial) → IsPolynomial p → Within n p → n ≤ 4096 → IsStored p
stored_within n p h w few = record { polynomial = h; in_range = w.in_range; low = w.low; few = omega (arith, w.few) }

-- ---- sums and differences

abbrev results : Op → Polynomial → Polynomial → List Group → List Term
results op p q gs = map (λ row. (row.0, exact op (row.1).0 (row.1).1)) (under_keys (two_of p q) gs)

few_results : (op : Op) (p q : Polynomial) (gs : List Group) → length (results op p q gs) ≡ length gs
few_results op p q [] = refl
few_results op p q (g ∷ gs) = ap suc (few_results op p q gs)

range_results : (op : Op) (p q : Polynomial) (gs : List Group) → Each (λ g. wide op (coefficient p g.0) (coefficient q g.0) ≡ None) gs → Each (λ t. IsInRange t.1) (results op p q gs)
range_results op p q [] h = tt
range_results op p q (g ∷ gs) h = (fits op (coefficient p g.0) (coefficient q g.0) h.0, range_results op p q gs h.1)

low_results : (op : Op) (p q : Polynomial) (gs : List Group) → Each (λ g. is_high g.0 ≡ false) gs → Each (λ t. is_high t.0 ≡ false) (results op p q gs)
low_results op p q [] h = tt
low_results op p q (g ∷ gs) h = (h.0, low_results op p q gs h.1)

combined : (op : Op) (p q : Polynomial) → IsStored p → IsStored q → sum_limit op p q ≡ None → IsStored (kept_results op (merged p q))
combined op p q h k none =
    let groups : List Group = gathered (p ++ q) in
    let limits = if_none (ltb 4096 (length groups)) Monomials (first_limit (λ g. wide op (coefficient p g.0) (coefficient q g.0)) groups) none in
    let few = at_most 4096 (length groups) limits.0 in
    let rows : merged p q ≡ under_keys (two_of p q) groups = merged-is p q (sorted_from p h.polynomial) (sorted_from q k.polynomial) in
    let lows = each_gathered (λ m. is_high m ≡ false) (p ++ q) (Each-append (λ t. is_high t.0 ≡ false) p q h.low k.low) in
    let within = nonzero_within (results op p q groups) (range_results op p q groups (each_none (λ (g : Group). wide op (coefficient p g.0) (coefficient q g.0)) groups limits.1)) (low_results op p q groups lows) in
    stored_within (length (results op p q groups)) (kept_results op (merged p q)) (IsPolynomial-results op p q h.polynomial k.polynomial)
    (subst (λ rs. Within (length (results op p q groups)) (kept_results op rs)) (sym rows) within) (omega (arith, few_results op p q groups, few))

pub stored_sum : (p q : Polynomial) → IsStored p → IsStored q → sum_limit Add p q ≡ None → IsStored (sum p q)
stored_sum p q h k none = subst (λ r. IsStored r) (results-sum p q h.polynomial k.polynomial) (combined Add p q h k none)

pub stored_difference : (p q : Polynomial) → IsStored p → IsStored q → sum_limit Sub p q ≡ None → IsStored (difference p q)
stored_difference p q h k none = subst (λ r. IsStored r) (results-difference p q h.polynomial k.polynomial) (combined Sub p q h k none)

-- ---- products

small_total : (s : ℕ) (cs : List ℤ) → s ≤ 2 ^ 127 - 1 → magnitude_limit s cs ≡ None → s + unsigned_abs (total cs) ≤ 2 ^ 127 - 1
small_total s [] h none = omega arith
small_total s (c ∷ cs) h none =
    let parts = if_none (ltb (2 ^ 127 - 1) (s + unsigned_abs c)) (Coefficient (record { op = Add; left = pos s; right = pos (unsigned_abs c) })) (magnitude_limit (s + unsigned_abs c) cs) none in
    let here = at_most (2 ^ 127 - 1) (s + unsigned_abs c) parts.0 in
    let rest = small_total (s + unsigned_abs c) cs here parts.1 in
    omega (arith, rest, magnitude_sum c (total cs))

total_in_range : (cs : List ℤ) → magnitude_limit 0 cs ≡ None → IsInRange (total cs)
total_in_range cs none = let low : 0 ≤ 2 ^ 127 - 1 = omega arith in omega (arith, small_total 0 cs low none)

none_high : (ts : List Term) → list_any (λ t. is_high t.0) ts ≡ false → Each (λ t. is_high t.0 ≡ false) ts
none_high [] h = tt
none_high (t ∷ ts) h = let parts = or_no (is_high t.0) (list_any (λ t. is_high t.0) ts) h in (parts.0, none_high ts parts.1)

pub stored_product : (p q : Polynomial) → IsStored p → IsStored q → product_limit p q ≡ None → IsStored (product p q)
stored_product p q h k none =
    let groups : List Group = gathered (products p q) in
    let inner = or_else (first_limit (λ pair. wide Mul (pair.0).1 (pair.1).1) (pairs p q)) (first_limit (λ g. magnitude_limit 0 g.1) groups) in
    let low = if_none (list_any (λ t. is_high t.0) (products p q)) Exponent (limit_if (ltb 4096 (length groups)) Monomials inner) none in
    let few = if_none (ltb 4096 (length groups)) Monomials inner low.1 in
    let parts = else_none (first_limit (λ pair. wide Mul (pair.0).1 (pair.1).1) (pairs p q)) (first_limit (λ g. magnitude_limit 0 g.1) groups) few.1 in
    let one : Group → Term = λ g. (g.0, total g.1) in
    let ranges = each_map one (λ t. IsInRange t.1) groups (each_from (λ (g : Group). magnitude_limit 0 g.1 ≡ None) (λ g. IsInRange (total g.1)) groups (λ g n. total_in_range g.1 n) (each_none (λ (g : Group). magnitude_limit 0 g.1) groups parts.1)) in
    let lows = each_map one (λ t. is_high t.0 ≡ false) groups (each_gathered (λ m. is_high m ≡ false) (products p q) (none_high (products p q) low.0)) in
    stored_within (length (map one groups)) (product p q) (IsPolynomial-product p q h.polynomial k.polynomial) (nonzero_within (map one groups) ranges lows)
    (omega (arith, at_most 4096 (length groups) few.0, length-map groups one))

-- ---- constants, powers and negatives

pub stored_constant : (z : ℤ) → IsInRange z → IsStored (constant z)
stored_constant z h = record {
  polynomial = IsPolynomial-constant z;
  in_range = elim (int_eq z (pos 0)) as (λ b. Each (λ (t : Term). IsInRange t.1) (cond b [] (([], z) ∷ []))) [ true ↦ tt | false ↦ (h, tt) ];
  low = elim (int_eq z (pos 0)) as (λ b. Each (λ (t : Term). is_high t.0 ≡ false) (cond b [] (([], z) ∷ []))) [ true ↦ tt | false ↦ (refl, tt) ];
  few = elim (int_eq z (pos 0)) as (λ b. length {A = Term} (cond b [] (([], z) ∷ [])) ≤ 4096) [ true ↦ omega arith | false ↦ omega arith ];
}

positive : (n : ℕ) → eqb n 0 ≡ false → 0 < n
positive n h = grind (arith, nat_tests)

pub stored_power : (x : Var) (n : ℕ) → n ≤ 65535 → IsStored (power_of x n)
stored_power x n h = record {
  polynomial = (λ e. absurd (cc), elim (eqb n 0) as (λ b. eqb n 0 ≡ b → IsMonomial (cond b [] (record { var = x; exponent = n } ∷ []))) [ true ↦ λ e. tt | false ↦ λ e. (positive n e, tt, tt) ] refl, tt, tt);
  in_range = (omega arith, tt);
  low = (elim (eqb n 0) as (λ b. is_high (cond b [] (record { var = x; exponent = n } ∷ [])) ≡ false) [ true ↦ refl | false ↦ ap (λ c. c || false) (le-ltb 65535 n h) ], tt);
  few = omega arith;
}

same_size : (c : ℤ) → unsigned_abs (neg_ℤ c) ≡ unsigned_abs c
same_size c = omega (arith, ints)

pub stored_negative : (p : Polynomial) → IsStored p → IsStored (negative p)
stored_negative p h = record {
  polynomial = IsPolynomial-negative p h.polynomial;
  in_range = each_map (λ (t : Term). (t.0, neg_ℤ t.1)) (λ t. IsInRange t.1) p (each_from (λ (t : Term). IsInRange t.1) (λ t. IsInRange (neg_ℤ t.1)) p (λ t r. omega (arith, same_size t.1, r)) h.in_range);
  low = each_map (λ (t : Term). (t.0, neg_ℤ t.1)) (λ t. is_high t.0 ≡ false) p h.low;
  few = omega (arith, length-map {B = Term} p (λ (t : Term). (t.0, neg_ℤ t.1)), h.few);
}

-- ---- terms that are in order already

pub collected_same : (p : Polynomial) → IsPolynomial p → collected p ≡ p
collected_same p h = same_polynomial (collected p) p (IsPolynomial-collected p (Each-monomial p h)) h (λ m. coefficient-collected p m)

found_in_range : (m : Monomial) (ts : List Term) → Each (λ t. IsInRange t.1) ts → IsInRange (or_zero (find in_turn m ts))
found_in_range m [] h = omega arith
found_in_range m (t ∷ ts) h = elim (eq_by_cmp in_turn m t.0) as (λ b. IsInRange (or_zero (cond b (Some t.1) (find in_turn m ts)))) [ true ↦ h.0 | false ↦ found_in_range m ts h.1 ]

coefficient_in_range : (p : Polynomial) (m : Monomial) → IsStored p → IsInRange (coefficient p m)
coefficient_in_range p m h = subst (λ z. IsInRange z) (sym (coefficient_found p m (sorted_from p h.polynomial))) (found_in_range m p h.in_range)

few_limit : (op : Op) (p q : Polynomial) → length (p ++ q) ≤ 4096 → ((m : Monomial) → IsInRange (exact op (coefficient p m) (coefficient q m))) → sum_limit op p q ≡ None
few_limit op p q h k =
    let groups : List Group = gathered (p ++ q) in
    let few : length groups ≤ 4096 = omega (arith, few_gathered (p ++ q)) in
    none_if (ltb 4096 (length groups)) Monomials (first_limit (λ g. wide op (coefficient p g.0) (coefficient q g.0)) groups) (le-ltb 4096 (length groups) few)
    (first_none (λ (g : Group). wide op (coefficient p g.0) (coefficient q g.0)) groups (λ g. wide-in_range op (coefficient p g.0) (coefficient q g.0) (k g.0)))

-- later terms are added, or taken away
pub more_added : (p q : Polynomial) → IsStored (p ++ q) → (sum_limit Add p q ≡ None) × (sum p q ≡ p ++ q)
more_added p q h = (
  few_limit Add p q h.few (λ m. subst (λ z. IsInRange z) (coefficient-append p q m) (coefficient_in_range (p ++ q) m h)),
  collected_same (p ++ q) h.polynomial,
)

pub more_taken : (p q : Polynomial) → IsStored (p ++ negative q) → (sum_limit Sub p q ≡ None) × (difference p q ≡ p ++ negative q)
more_taken p q h =
    let same : difference p q ≡ p ++ negative q = collected_same (p ++ negative q) h.polynomial in
    let few : length (p ++ q) ≤ 4096 = omega (arith, h.few, length-append p q, length-append p (negative q), length-map {B = Term} q (λ (t : Term). (t.0, neg_ℤ t.1))) in
    (few_limit Sub p q few (λ m. subst (λ z. IsInRange z) (ap (λ r. coefficient r m) (sym same) ∙ coefficient-difference p q m) (coefficient_in_range (p ++ negative q) m h)), same)

-- ---- the first terms, and the later ones

each_behind : {X : Type 0} (P : X → Type 0) (xs ys : List X) → Each P (xs ++ ys) → Each P ys
each_behind P [] ys h = h
each_behind P (x ∷ xs) ys h = each_behind P xs ys h.1

behind_polynomial : (p q : Polynomial) → IsPolynomial (p ++ q) → IsPolynomial q
behind_polynomial [] q h = h
behind_polynomial (t ∷ ts) q h = behind_polynomial ts q h.3

pub stored_behind : (p q : Polynomial) → IsStored (p ++ q) → IsStored q
stored_behind p q h = record {
  polynomial = behind_polynomial p q h.polynomial;
  in_range = each_behind (λ t. IsInRange t.1) p q h.in_range;
  low = each_behind (λ t. is_high t.0 ≡ false) p q h.low;
  few = omega (arith, h.few, length-append p q);
}

below_front : (m : Monomial) (p q : Polynomial) → IsBelow m (p ++ q) → IsBelow m p
below_front m [] q h = tt
below_front m (t ∷ ts) q h = h

front_polynomial : (p q : Polynomial) → IsPolynomial (p ++ q) → IsPolynomial p
front_polynomial [] q h = tt
front_polynomial (t ∷ ts) q h = (h.0, h.1, below_front t.0 ts q h.2, front_polynomial ts q h.3)

pub stored_front : (p q : Polynomial) → IsStored (p ++ q) → IsStored p
stored_front p q h = record {
  polynomial = front_polynomial p q h.polynomial;
  in_range = each_front (λ t. IsInRange t.1) p q h.in_range;
  low = each_front (λ t. is_high t.0 ≡ false) p q h.low;
  few = omega (arith, h.few, length-append p q);
}
