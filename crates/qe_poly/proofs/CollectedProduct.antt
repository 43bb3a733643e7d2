-- What the code collects is the product, with its limits.
use Rattle.std.proofs.Common.{◌≡◌, refl, sym, ap, subst, ◌∙◌, ℕ, ◌+◌, ◌-◌, ◌^◌, ◌≤◌, Bool, true, false, cond, ltb, T, List, [], ◌∷◌, ◌++◌, Option, Some, None, map, length, ℤ, pos, ◌+ℤ◌, ◌*ℤ◌, unsigned_abs, arith}
use Rattle.std.proofs.Math.IntN.{+ℤ_idr, +ℤ_idl, +ℤ_assoc}
use Rattle.std.proofs.lemmas.Int.{ints}
use Rattle.std.proofs.lemmas.Bool.{le-ltb}
use Rattle.std.proofs.lemmas.List.{length-map, map-append}
use borrow.Author.Tests.{ltb-false}
use Rattle.std.specs.declared.cmp.Ordering.TheVariants.{Less, Equal, Greater}
use Rattle.std.specs.Ordering.{eq_by_cmp}
use Rattle.std.specs.FinMap.Entries.{find, is_sorted, by_order, same_entries}
use Rattle.qe_coef.specs.declared.Op.TheVariants.{Add, Mul}
use Rattle.qe_coef.specs.declared.Wide.{Wide}
use Rattle.qe_poly.specs.declared.limit.PolyLimit.{PolyLimit}
use Rattle.qe_poly.specs.declared.limit.PolyLimit.TheVariants.{Coefficient, Exponent, Monomials}
use Rattle.qe_poly.specs.declared.term.Term as kept
use Rattle.qe_poly.specs.Monomial.{Monomial, in_turn, times}
use Rattle.qe_poly.specs.Polynomial.{Term, Polynomial, Group, IsPolynomial, with_first, enter, gathered, total, totals, term_unless_zero, products, product}
use Rattle.qe_poly.specs.Limits.{first_limit, limit_if, wide, magnitude_limit, product_limit}
use Rattle.qe_halt.specs.Outcome.{or_else}
use Rattle.qe_poly.specs.Rows.{shown}
use Rattle.qe_poly.specs.Tally.{Tally, empty_tally, tally_more, next_tally, enter_tally, leaves_range}
use Rattle.qe_poly.specs.Collected.{product_row, has_high, fit, fitted_row, fitted, entered, limit_of, row_wide, pairs_wide, tallied_limit, tallied_terms, collected_limit}
use Rattle.qe_poly.proofs.Order.{turn_total, turn_same}
use Rattle.qe_poly.proofs.Sorted.{tied, under_keys, is_sorted-under_keys, new_value, find-under_keys}
use Rattle.qe_poly.proofs.Gathered.{at, unless_none, is_sorted-enter, find-enter, is_sorted-gathered, find-gathered}
use Rattle.qe_poly.proofs.MergedSums.{first_limit-map}
use Rattle.qe_poly.proofs.Products.{products-more, IsPolynomial-product}
use Rattle.qe_poly.proofs.Collected.{pairs_wide-more}

-- ---- the tally of the coefficients that stand at a monomial

abbrev tally_on : Tally → List ℤ → Tally
tally_on tally [] = tally
tally_on tally (c ∷ cs) = tally_on (tally_more tally c) cs

abbrev tally_of : List ℤ → Tally
tally_of cs = tally_on empty_tally cs

is_sorted-entered : (ts : List Term) (gs : List (Monomial × Tally)) → T (is_sorted in_turn gs) → T (is_sorted in_turn (entered ts gs))
is_sorted-entered [] gs sorted = sorted
is_sorted-entered (t ∷ ts) gs sorted = is_sorted-entered ts (enter_tally t gs) (is_sorted-enter next_tally t gs sorted)

abbrev continued : Option Tally → List ℤ → Option Tally
continued found [] = found
continued found (c ∷ cs) = continued (Some (next_tally found c)) cs

find-entered : (m : Monomial) (ts : List Term) (gs : List (Monomial × Tally)) → T (is_sorted in_turn gs) → find in_turn m (entered ts gs) ≡ continued (find in_turn m gs) (at m ts)
find-entered m [] gs sorted = refl
find-entered m (t ∷ ts) gs sorted =
    find-entered m ts (enter_tally t gs) (is_sorted-enter next_tally t gs sorted)
    ∙ (ap (λ found. continued found (at m ts)) (find-enter next_tally m t gs sorted)
    ∙ elim (eq_by_cmp in_turn m t.0) as (λ b. eq_by_cmp in_turn m t.0 ≡ b
    → continued (cond b (Some (next_tally (find in_turn t.0 gs) t.1)) (find in_turn m gs)) (at m ts) ≡ continued (find in_turn m gs) (cond b (t.1 ∷ at m ts) (at m ts))) [
      | true ↦ λ tie. ap (λ k. continued (Some (next_tally (find in_turn k gs) t.1)) (at m ts)) (sym (tied m t.0 tie))
      | false ↦ λ other. refl
    ] refl)

abbrev group_tally : Group → Tally
group_tally g = tally_of g.1

abbrev tallied : List Group → List (Monomial × Tally)
tallied = under_keys group_tally

continued_some : (tally : Tally) (cs : List ℤ) → continued (Some tally) cs ≡ Some (tally_on tally cs)
continued_some tally [] = refl
continued_some tally (c ∷ cs) = continued_some (tally_more tally c) cs

continued_none : (m : Monomial) (cs : List ℤ) → continued None cs ≡ new_value group_tally m (unless_none cs)
continued_none m [] = refl
continued_none m (c ∷ cs) = continued_some (tally_more empty_tally c) cs

pub entered-is : (ts : List Term) → entered ts [] ≡ tallied (gathered ts)
entered-is ts = same_entries in_turn turn_total turn_same (entered ts []) (tallied (gathered ts)) (is_sorted-entered ts [] tt) (is_sorted-under_keys group_tally (gathered ts) (is_sorted-gathered ts))
    (λ m. find-entered m ts [] tt ∙ (continued_none m (at m ts) ∙ (ap (new_value group_tally m) (sym (find-gathered m ts)) ∙ sym (find-under_keys group_tally m (gathered ts)))))

-- ---- how many monomials there are does not depend on the coefficients

abbrev keys : {X : Type 0} → List (Monomial × X) → List Monomial
keys es = map (λ e. e.0) es

abbrev enter_key : Monomial → List Monomial → List Monomial
enter_key m [] = m ∷ []
enter_key m (k ∷ ks) = by_order (in_turn m k) (m ∷ k ∷ ks) (k ∷ ks) (k ∷ enter_key m ks)

keys-enter : (t : Term) (gs : List Group) → keys (enter with_first t gs) ≡ enter_key t.0 (keys gs)
keys-enter t [] = refl
keys-enter t (g ∷ gs) =
    elim (in_turn t.0 g.0) as (λ r. keys (by_order r ((t.0, t.1 ∷ []) ∷ g ∷ gs) ((g.0, t.1 ∷ g.1) ∷ gs) (g ∷ enter with_first t gs)) ≡ by_order r (t.0 ∷ g.0 ∷ keys gs) (g.0 ∷ keys gs) (g.0 ∷ enter_key t.0 (keys gs))) [
      | Less ↦ refl
      | Equal ↦ refl
      | Greater ↦ ap (λ ks. g.0 ∷ ks) (keys-enter t gs)
    ]

abbrev gathered_keys : List Monomial → List Monomial
gathered_keys [] = []
gathered_keys (m ∷ ms) = enter_key m (gathered_keys ms)

keys-gathered : (ts : List Term) → keys (gathered ts) ≡ gathered_keys (keys ts)
keys-gathered [] = refl
keys-gathered (t ∷ ts) = keys-enter t (gathered ts) ∙ ap (enter_key t.0) (keys-gathered ts)

keys-row : (t : Term) (q : Polynomial) → keys (fitted_row t q) ≡ keys (product_row t q)
keys-row t [] = refl
keys-row t (u ∷ us) = ap (λ ks. times t.0 u.0 ∷ ks) (keys-row t us)

keys-fitted : (p q : Polynomial) → keys (fitted p q) ≡ keys (products p q)
keys-fitted [] q = refl
keys-fitted (t ∷ ts) q =
    map-append (λ e. e.0) (fitted_row t q) (fitted ts q)
    ∙ ((λ i. keys-row t q i ++ keys-fitted ts q i) ∙ sym (ap keys (products-more t ts q) ∙ map-append (λ e. e.0) (product_row t q) (products ts q)))

length-entered : (p q : Polynomial) → length (entered (fitted p q) []) ≡ length (gathered (products p q))
length-entered p q =
    ap length (entered-is (fitted p q)) ∙ (length-map {B = Monomial × Tally} (gathered (fitted p q)) (λ g. (g.0, group_tally g))
    ∙ (sym (length-map (gathered (fitted p q)) (λ (g : Group). g.0))
    ∙ (ap length (keys-gathered (fitted p q) ∙ (ap gathered_keys (keys-fitted p q) ∙ sym (keys-gathered (products p q)))) ∙ length-map (gathered (products p q)) (λ (g : Group). g.0))))

-- ---- where no product of coefficients leaves the range, all fit

pub if_none : (b : Bool) (met : PolyLimit) (rest : Option PolyLimit) → limit_if b met rest ≡ None → (b ≡ false) × (rest ≡ None)
if_none true met rest none = absurd (cc)
if_none false met rest none = (refl, none)

pub else_none : (a b : Option PolyLimit) → or_else a b ≡ None → (a ≡ None) × (b ≡ None)
else_none None b none = (refl, none)
else_none (Some met) b none = absurd (cc)

fits : (a b : ℤ) → wide Mul a b ≡ None → fit (a *ℤ b) ≡ a *ℤ b
fits a b none = ap (λ test. cond test (pos 0) (a *ℤ b)) (if_none (leaves_range (a *ℤ b)) (Coefficient (record { op = Mul; left = a; right = b })) None none).0

fits_row : (t : Term) (q : Polynomial) → row_wide t q ≡ None → fitted_row t q ≡ product_row t q
fits_row t [] none = refl
fits_row t (u ∷ us) none =
    let parts = else_none (wide Mul t.1 u.1) (row_wide t us) none in
    λ i. (times t.0 u.0, fits t.1 u.1 parts.0 i) ∷ fits_row t us parts.1 i

fits_all : (p q : Polynomial) → pairs_wide p q ≡ None → fitted p q ≡ products p q
fits_all [] q none = refl
fits_all (t ∷ ts) q none =
    let parts = else_none (row_wide t q) (pairs_wide ts q) (sym (pairs_wide-more t ts q) ∙ none) in
    (λ i. fits_row t q parts.0 i ++ fits_all ts q parts.1 i) ∙ sym (products-more t ts q)

-- ---- a tally tells the limit and the sum

over_stays : (tally : Tally) (met : Wide) (cs : List ℤ) → tally.over ≡ Some met → (tally_on tally cs).over ≡ Some met
over_stays tally met [] over = over
over_stays tally met (c ∷ cs) over = over_stays (tally_more tally c) met cs (stays tally.over over)
  where
    stays : (o : Option Wide) → o ≡ Some met → (tally_more (record { sum = tally.sum; magnitude = tally.magnitude; over = o }) c).over ≡ Some met
    stays None over = absurd (cc)
    stays (Some other) over = over

-- a tally whose magnitudes are in range
abbrev within : ℤ → ℕ → Tally
within sum magnitude = record { sum = sum; magnitude = pos magnitude; over = None }

over-is : (sum : ℤ) (magnitude : ℕ) (cs : List ℤ) → limit_of (tally_on (within sum magnitude) cs).over ≡ magnitude_limit magnitude cs
over-is sum magnitude [] = refl
over-is sum magnitude (c ∷ cs) =
    let met : Wide = record { op = Add; left = pos magnitude; right = pos (unsigned_abs c) } in
    let next : ℤ = cond (leaves_range (sum +ℤ c)) sum (sum +ℤ c) in
    elim (ltb (2 ^ 127 - 1) (magnitude + unsigned_abs c)) as (λ b. limit_of (tally_on (cond b (record { sum = sum; magnitude = pos magnitude; over = Some met }) (within next (magnitude + unsigned_abs c))) cs).over
    ≡ limit_if b (Coefficient met) (magnitude_limit (magnitude + unsigned_abs c) cs)) [
      | true ↦ ap limit_of (over_stays (record { sum = sum; magnitude = pos magnitude; over = Some met }) met cs refl)
      | false ↦ over-is next (magnitude + unsigned_abs c) cs
    ]

pub magnitude_sum : (a b : ℤ) → unsigned_abs (a +ℤ b) ≤ unsigned_abs a + unsigned_abs b
magnitude_sum a b = omega (arith, ints)

pub at_most : (a b : ℕ) → ltb a b ≡ false → b ≤ a
at_most a b test = omega (arith, ltb-false)

sum-is : (sum : ℤ) (magnitude : ℕ) (cs : List ℤ) → unsigned_abs sum ≤ magnitude → magnitude_limit magnitude cs ≡ None → (tally_on (within sum magnitude) cs).sum ≡ sum +ℤ total cs
sum-is sum magnitude [] bound none = sym (+ℤ_idr sum)
sum-is sum magnitude (c ∷ cs) bound none =
    let met : Wide = record { op = Add; left = pos magnitude; right = pos (unsigned_abs c) } in
    let parts = if_none (ltb (2 ^ 127 - 1) (magnitude + unsigned_abs c)) (Coefficient met) (magnitude_limit (magnitude + unsigned_abs c) cs) none in
    let triangle : unsigned_abs (sum +ℤ c) ≤ unsigned_abs sum + unsigned_abs c = magnitude_sum sum c in
    let most : magnitude + unsigned_abs c ≤ 2 ^ 127 - 1 = at_most (2 ^ 127 - 1) (magnitude + unsigned_abs c) parts.0 in
    let stays : leaves_range (sum +ℤ c) ≡ false = le-ltb (2 ^ 127 - 1) (unsigned_abs (sum +ℤ c)) (omega arith) in
    (λ i. (tally_on (cond (parts.0 i) (record { sum = sum; magnitude = pos magnitude; over = Some met }) (within (cond (stays i) sum (sum +ℤ c)) (magnitude + unsigned_abs c))) cs).sum)
    ∙ (sum-is (sum +ℤ c) (magnitude + unsigned_abs c) cs (omega arith) parts.1 ∙ +ℤ_assoc sum c (total cs))

tally_sum : (cs : List ℤ) → magnitude_limit 0 cs ≡ None → (tally_of cs).sum ≡ total cs
tally_sum cs none = sum-is (pos 0) 0 cs (omega arith) none ∙ +ℤ_idl (total cs)

-- ---- the limit and the product

first_limit-same : {A : Type 0} (f g : A → Option PolyLimit) → ((x : A) → f x ≡ g x) → (xs : List A) → first_limit f xs ≡ first_limit g xs
first_limit-same f g same [] = refl
first_limit-same f g same (x ∷ xs) = λ i. or_else (same x i) (first_limit-same f g same xs i)

abbrev magnitudes_limit : List Group → Option PolyLimit
magnitudes_limit gs = first_limit (λ g. magnitude_limit 0 g.1) gs

limit-tallied : (gs : List Group) → tallied_limit (tallied gs) ≡ magnitudes_limit gs
limit-tallied gs = first_limit-map {A = Group} {B = Monomial × Tally} (λ g. (g.0, group_tally g)) (λ g. limit_of (g.1).over) gs
    ∙ first_limit-same (λ (g : Group). limit_of (group_tally g).over) (λ (g : Group). magnitude_limit 0 g.1) (λ g. over-is (pos 0) 0 g.1) gs

terms-tallied : (gs : List Group) → magnitudes_limit gs ≡ None → tallied_terms (tallied gs) ≡ totals gs
terms-tallied [] none = refl
terms-tallied (g ∷ gs) none =
    let parts = else_none (magnitude_limit 0 g.1) (magnitudes_limit gs) none in
    λ i. term_unless_zero g.0 (tally_sum g.1 parts.0 i) (terms-tallied gs parts.1 i)

entered-products : (p q : Polynomial) → pairs_wide p q ≡ None → entered (fitted p q) [] ≡ tallied (gathered (products p q))
entered-products p q none = entered-is (fitted p q) ∙ ap (λ ts. tallied (gathered ts)) (fits_all p q none)

limits_in_turn : (a b : Bool) (rest : Option PolyLimit) → or_else (limit_if a Exponent (limit_if b Monomials None)) rest ≡ limit_if a Exponent (limit_if b Monomials rest)
limits_in_turn true b rest = refl
limits_in_turn false true rest = refl
limits_in_turn false false rest = refl

same_else : (wide a b : Option PolyLimit) → (wide ≡ None → a ≡ b) → or_else wide a ≡ or_else wide b
same_else None a b same = same refl
same_else (Some met) a b same = refl

pub collected-limit : (p q : Polynomial) → collected_limit p q ≡ product_limit p q
collected-limit p q =
    limits_in_turn (has_high (products p q)) (ltb 4096 (length (entered (fitted p q) []))) (or_else (pairs_wide p q) (tallied_limit (entered (fitted p q) [])))
    ∙ λ i. limit_if (has_high (products p q)) Exponent (limit_if (ltb 4096 (length-entered p q i)) Monomials
    (same_else (pairs_wide p q) (tallied_limit (entered (fitted p q) [])) (magnitudes_limit (gathered (products p q)))
    (λ none. ap tallied_limit (entered-products p q none) ∙ limit-tallied (gathered (products p q))) i))

pub collected-product : (p q : Polynomial) → product_limit p q ≡ None → tallied_terms (entered (fitted p q) []) ≡ product p q
collected-product p q none =
    let groups = gathered (products p q) in
    let inner = or_else (pairs_wide p q) (magnitudes_limit groups) in
    let low = if_none (has_high (products p q)) Exponent (limit_if (ltb 4096 (length groups)) Monomials inner) none in
    let few = if_none (ltb 4096 (length groups)) Monomials inner low.1 in
    let parts = else_none (pairs_wide p q) (magnitudes_limit groups) few.1 in
    ap tallied_terms (entered-products p q parts.0) ∙ terms-tallied groups parts.1

-- ---- for the terms as they are kept

-- what multiplying gives: the limit, the product where there is none, and that this is a polynomial
pub record Multiplied (lent_left lent_right : Polynomial) (limit : Option PolyLimit) (exact : Polynomial) : Type 0 where
  pub limit_is : collected_limit lent_left lent_right ≡ limit
  pub result_is : limit ≡ None → tallied_terms (entered (fitted lent_left lent_right) []) ≡ exact
  pub is_polynomial : IsPolynomial exact

pub multiplied_is : (lent_left left lent_right right : List kept.Term) (p q : Polynomial) → lent_left ≡ left → lent_right ≡ right → map shown left ≡ p → map shown right ≡ q → IsPolynomial (map shown left) → IsPolynomial (map shown right)
    → Multiplied (map shown lent_left) (map shown lent_right) (product_limit p q) (product p q)
multiplied_is lent_left left lent_right right p q same_left same_right left_is right_is left_poly right_poly =
    let p_is : map shown lent_left ≡ p = ap (map shown) same_left ∙ left_is in
    let q_is : map shown lent_right ≡ q = ap (map shown) same_right ∙ right_is in
    record {
      limit_is = (λ i. collected_limit (p_is i) (q_is i)) ∙ collected-limit p q;
      result_is = λ none. (λ i. tallied_terms (entered (fitted (p_is i) (q_is i)) [])) ∙ collected-product p q none;
      is_polynomial = IsPolynomial-product p q (subst (λ x. IsPolynomial x) left_is left_poly) (subst (λ x. IsPolynomial x) right_is right_poly);
    }
