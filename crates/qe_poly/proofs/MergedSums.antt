-- Merging gives the sum, the difference and their limits.
use Rattle.std.proofs.Common.{◌≡◌, refl, sym, ap, subst, ◌∙◌, true, false, cond, T, List, [], ◌∷◌, ◌++◌, Option, Some, None, map, length, ltb, ℤ, pos, neg_ℤ, ◌+ℤ◌, arith}
use Rattle.std.proofs.lemmas.Int.{ints}
use Rattle.std.proofs.lemmas.List.{length-map}
use Rattle.std.specs.Ordering.{eq_by_cmp}
use Rattle.std.specs.FinMap.Entries.{find, is_sorted}
use Rattle.qe_coef.specs.declared.Op.{Op}
use Rattle.qe_coef.specs.declared.Op.TheVariants.{Add, Sub, Mul}
use Rattle.qe_coef.specs.Exact.{exact}
use Rattle.qe_poly.specs.declared.limit.PolyLimit.{PolyLimit}
use Rattle.qe_poly.specs.declared.limit.PolyLimit.TheVariants.{Monomials}
use Rattle.qe_poly.specs.Monomial.{Monomial, in_turn, IsMonomial}
use Rattle.qe_poly.specs.Polynomial.{Polynomial, Group, IsBelow, IsPolynomial, gathered, coefficient, negative, sum, difference}
use Rattle.qe_poly.specs.Limits.{first_limit, limit_if, wide, sum_limit}
use Rattle.qe_halt.specs.Outcome.{or_else}
use Rattle.qe_poly.specs.declared.term.Term as kept
use Rattle.qe_poly.specs.Rows.{Row, shown, merged, kept_results, row_limit, merged_limit}
use Rattle.qe_poly.proofs.Sorted.{Each, Each-append, under_keys, is_sorted-under_keys, Each-under_keys, new_value, find-under_keys}
use Rattle.qe_poly.proofs.Gathered.{Each-gathered}
use Rattle.qe_poly.proofs.Canonical.{or_zero, sorted_from, Each-monomial, IsPolynomial-nonzero, coefficient-nonzero, IsPolynomial-collected, coefficient-collected, coefficient-append, coefficient_found, same_polynomial}
use Rattle.qe_poly.proofs.MergedRows.{both_found, find-merged, is_sorted-merged, merged-is, two_of}

-- the operation on a row's coefficients
abbrev row_result : Op → Row → ℤ
row_result op r = exact op (r.1).0 (r.1).1

-- the monomials of the terms of two polynomials
Each-both : (p q : Polynomial) → IsPolynomial p → IsPolynomial q → Each (λ t. IsMonomial t.0) (p ++ q)
Each-both p q left right = Each-append (λ t. IsMonomial t.0) p q (Each-monomial p left) (Each-monomial q right)

-- ---- the results of the rows

pub IsPolynomial-results : (op : Op) (p q : Polynomial) → IsPolynomial p → IsPolynomial q → IsPolynomial (kept_results op (merged p q))
IsPolynomial-results op p q left right =
    let p_sorted = sorted_from p left in
    let q_sorted = sorted_from q right in
    let monomials : Each (λ r. IsMonomial r.0) (merged p q) =
    subst (λ rs. Each (λ r. IsMonomial r.0) rs) (sym (merged-is p q p_sorted q_sorted)) (Each-under_keys (two_of p q) IsMonomial (gathered (p ++ q)) (Each-gathered (p ++ q) (Each-both p q left right))) in
    IsPolynomial-nonzero (under_keys (row_result op) (merged p q))
    (is_sorted-under_keys (row_result op) (merged p q) (is_sorted-merged p q p_sorted q_sorted)) (Each-under_keys (row_result op) IsMonomial (merged p q) monomials)

result_found : (op : Op) (m : Monomial) (a b : Option ℤ) → or_zero (new_value (row_result op) m (both_found a b)) ≡ exact op (or_zero a) (or_zero b)
result_found Add m None None = refl
result_found Sub m None None = refl
result_found Mul m None None = refl
result_found op m (Some a) None = refl
result_found op m None (Some b) = refl
result_found op m (Some a) (Some b) = refl

coefficient-results : (op : Op) (p q : Polynomial) (m : Monomial) → T (is_sorted in_turn p) → T (is_sorted in_turn q)
    → coefficient (kept_results op (merged p q)) m ≡ exact op (coefficient p m) (coefficient q m)
coefficient-results op p q m left right =
    let made = under_keys (row_result op) (merged p q) in
    coefficient-nonzero made m
    ∙ (coefficient_found made m (is_sorted-under_keys (row_result op) (merged p q) (is_sorted-merged p q left right))
    ∙ (ap or_zero (find-under_keys (row_result op) m (merged p q) ∙ ap (new_value (row_result op) m) (find-merged m p q left right))
    ∙ (result_found op m (find in_turn m p) (find in_turn m q) ∙ λ i. exact op (sym (coefficient_found p m left) i) (sym (coefficient_found q m right) i))))

pub results-sum : (p q : Polynomial) → IsPolynomial p → IsPolynomial q → kept_results Add (merged p q) ≡ sum p q
results-sum p q left right = same_polynomial (kept_results Add (merged p q)) (sum p q) (IsPolynomial-results Add p q left right)
    (IsPolynomial-collected (p ++ q) (Each-both p q left right))
    (λ m. coefficient-results Add p q m (sorted_from p left) (sorted_from q right) ∙ sym (coefficient-collected (p ++ q) m ∙ coefficient-append p q m))

-- ---- negatives and differences

negative_zero : (c : ℤ) → neg_ℤ c ≡ pos 0 → c ≡ pos 0
negative_zero c zero = omega (arith, ints)

pub IsPolynomial-negative : (p : Polynomial) → IsPolynomial p → IsPolynomial (negative p)
IsPolynomial-negative [] poly = tt
IsPolynomial-negative (t ∷ ts) poly = (λ zero. poly.0 (negative_zero t.1 zero), poly.1, below ts poly.2, IsPolynomial-negative ts poly.3)
  where
    below : (us : Polynomial) → IsBelow t.0 us → IsBelow t.0 (negative us)
    below [] first = first
    below (u ∷ us) first = first

negative_sum : (a b : ℤ) → neg_ℤ a +ℤ neg_ℤ b ≡ neg_ℤ (a +ℤ b)
negative_sum a b = omega (arith, ints)

coefficient-negative : (p : Polynomial) (m : Monomial) → coefficient (negative p) m ≡ neg_ℤ (coefficient p m)
coefficient-negative [] m = refl
coefficient-negative (t ∷ ts) m = elim (eq_by_cmp in_turn m t.0) as (λ b. cond b (neg_ℤ t.1 +ℤ coefficient (negative ts) m) (coefficient (negative ts) m) ≡ neg_ℤ (cond b (t.1 +ℤ coefficient ts m) (coefficient ts m))) [
  | true ↦ ap (λ c. neg_ℤ t.1 +ℤ c) (coefficient-negative ts m) ∙ negative_sum t.1 (coefficient ts m)
  | false ↦ coefficient-negative ts m
]

pub IsPolynomial-difference : (p q : Polynomial) → IsPolynomial p → IsPolynomial q → IsPolynomial (difference p q)
IsPolynomial-difference p q left right = IsPolynomial-collected (p ++ negative q) (Each-both p (negative q) left (IsPolynomial-negative q right))

pub coefficient-difference : (p q : Polynomial) (m : Monomial) → coefficient (difference p q) m ≡ exact Sub (coefficient p m) (coefficient q m)
coefficient-difference p q m =
    coefficient-collected (p ++ negative q) m ∙ (coefficient-append p (negative q) m ∙ ap (λ c. coefficient p m +ℤ c) (coefficient-negative q m))

pub results-difference : (p q : Polynomial) → IsPolynomial p → IsPolynomial q → kept_results Sub (merged p q) ≡ difference p q
results-difference p q left right = same_polynomial (kept_results Sub (merged p q)) (difference p q) (IsPolynomial-results Sub p q left right)
    (IsPolynomial-difference p q left right)
    (λ m. coefficient-results Sub p q m (sorted_from p left) (sorted_from q right) ∙ sym (coefficient-difference p q m))

-- ---- limits

pub first_limit-map : {A B : Type 0} (g : A → B) (f : B → Option PolyLimit) (xs : List A) → first_limit f (map g xs) ≡ first_limit (λ x. f (g x)) xs
first_limit-map g f [] = refl
first_limit-map g f (x ∷ xs) = ap (or_else (f (g x))) (first_limit-map g f xs)

abbrev row_of : Polynomial → Polynomial → Group → Row
row_of p q g = (g.0, two_of p q g)

results-limit : (op : Op) (p q : Polynomial) → IsPolynomial p → IsPolynomial q → merged_limit op p q ≡ sum_limit op p q
results-limit op p q left right =
    ap (λ rs. limit_if (ltb 4096 (length rs)) Monomials (row_limit op rs)) (merged-is p q (sorted_from p left) (sorted_from q right))
    ∙ λ i. limit_if (ltb 4096 (length-map {B = Row} (gathered (p ++ q)) (row_of p q) i)) Monomials (first_limit-map (row_of p q) (λ r. wide op (r.1).0 (r.1).1) (gathered (p ++ q)) i)

-- ---- for the terms as they are kept

-- what merging two polynomials gives: their limit, their combination, which is a polynomial
pub record Combined (op : Op) (p q : Polynomial) (limit : Option PolyLimit) (combination : Polynomial) : Type 0 where
  pub limit_is : merged_limit op p q ≡ limit
  pub result_is : kept_results op (merged p q) ≡ combination
  pub is_polynomial : IsPolynomial (kept_results op (merged p q))

pub combined_is : (op : Op) (combination : Polynomial → Polynomial → Polynomial) → ((p q : Polynomial) → IsPolynomial p → IsPolynomial q → kept_results op (merged p q) ≡ combination p q)
    → (lent_left left lent_right right : List kept.Term) (p q : Polynomial) → lent_left ≡ left → lent_right ≡ right → map shown left ≡ p → map shown right ≡ q → IsPolynomial (map shown left) → IsPolynomial (map shown right)
    → Combined op (map shown lent_left) (map shown lent_right) (sum_limit op p q) (combination p q)
combined_is op combination is lent_left left lent_right right p q same_left same_right left_is right_is left_poly right_poly =
    let p_is : map shown lent_left ≡ p = ap (map shown) same_left ∙ left_is in
    let q_is : map shown lent_right ≡ q = ap (map shown) same_right ∙ right_is in
    let p_poly : IsPolynomial p = subst (λ x. IsPolynomial x) left_is left_poly in
    let q_poly : IsPolynomial q = subst (λ x. IsPolynomial x) right_is right_poly in
    record {
      limit_is = (λ i. merged_limit op (p_is i) (q_is i)) ∙ results-limit op p q p_poly q_poly;
      result_is = (λ i. kept_results op (merged (p_is i) (q_is i))) ∙ is p q p_poly q_poly;
      is_polynomial = subst (λ x. IsPolynomial x) (λ i. kept_results op (merged (sym p_is i) (sym q_is i))) (IsPolynomial-results op p q p_poly q_poly);
    }
