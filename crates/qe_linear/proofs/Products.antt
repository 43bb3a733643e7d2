-- Products of a number and a linear polynomial.
use Rattle.std.proofs.Common.{ℕ, ◌+◌, ◌*◌, ◌≡◌, ◌≢◌, ◌≤◌, refl, sym, ap, subst, ◌∙◌, Bool, true, false, ltb, ◌||◌, ◌&&◌, T, List, [], ◌∷◌, map, length, None, ℤ, pos, ◌*ℤ◌, unsigned_abs, arith}
use Rattle.std.specs.List.{list_any}
use Rattle.std.proofs.Math.Nat.{mul-le-mul}
use Rattle.std.proofs.lemmas.Int.{unsigned_abs-mul}
use Rattle.std.proofs.lemmas.Bool.{le-ltb}
use Rattle.std.specs.declared.cmp.Ordering.TheVariants.{Less}
use Rattle.std.specs.Ordering.{is_lt}
use Rattle.std.specs.FinMap.Entries.{is_sorted, below_all, by_order}
use Rattle.qe_coef.specs.declared.Op.TheVariants.{Add, Mul}
use Rattle.qe_poly.specs.declared.limit.PolyLimit.TheVariants.{Coefficient, Exponent, Monomials}
use Rattle.qe_halt.specs.Outcome.{or_else}
use Rattle.qe_poly.specs.Monomial.{Monomial, in_turn, IsMonomial, is_high}
use Rattle.qe_poly.specs.Polynomial.{Term, Polynomial, Group, IsPolynomial, enter, with_first, gathered, collected, pairs, pair_product, products, product}
use Rattle.qe_poly.specs.Limits.{first_limit, limit_if, wide, magnitude_limit, product_limit}
use Rattle.qe_poly.proofs.Sorted.{Each, below_first, sorted_first, sorted_rest, sorted_cons}
use Rattle.qe_poly.proofs.Canonical.{sorted_from, Each-monomial, IsPolynomial-collected, coefficient-collected}
use Rattle.qe_poly.proofs.Products.{times_nil}
use Rattle.qe_linear.proofs.Small.{most, IsLinear, IsSmall, nothing_small, coefficient_small, terms_small, each_collected, not_wide, few_groups}

-- ---- numbers

-- no term, or one at the monomial 1
pub data IsConstant (s : ℕ) : Polynomial → Type 0 where
  zero_is : IsConstant s []
  number_is : (c : ℤ) → c ≢ pos 0 → unsigned_abs c ≤ s → IsConstant s (([], c) ∷ [])

-- a linear polynomial without variables is a number
pub shape_of : (s : ℕ) (p : Polynomial) → IsPolynomial p → Each (λ t. t.0 ≡ []) p → Each (λ t. unsigned_abs t.1 ≤ s) p → IsConstant s p
shape_of s [] poly free small = zero_is
shape_of s (t ∷ []) poly free small =
    subst (λ u. IsConstant s (u ∷ [])) (λ i. (sym free.0 i, t.1)) (number_is t.1 poly.0 small.0)
shape_of s (t ∷ u ∷ ts) poly free small =
    let less : in_turn t.0 u.0 ≡ Less = poly.2 in
    let tie : in_turn [] [] ≡ Less = subst (λ m. in_turn m [] ≡ Less) free.0 (subst (λ n. in_turn t.0 n ≡ Less) free.1.0 less) in
    absurd (cc)

pub number_small : (s : ℕ) (p : Polynomial) → IsConstant s p → IsSmall s p
number_small s [] zero_is = nothing_small s
number_small s (_ ∷ []) (number_is c some le) = record { canonical = (some, tt, tt, tt); linear = (tt, tt); small = (le, tt) }
number_small s (_ ∷ (_ ∷ _)) shape = elim shape [ ]

-- ---- products whose terms stand in order

-- the groups of terms in order have one number each
single : (ts : List Term) → T (is_sorted in_turn ts) → gathered ts ≡ map (λ t. (t.0, t.1 ∷ [])) ts
single [] sorted = refl
single (t ∷ ts) sorted = ap (enter with_first t) (single ts (sorted_rest t ts sorted)) ∙ first_of ts sorted
  where
    first_of : (us : List Term) → T (is_sorted in_turn (t ∷ us)) → enter with_first t (map (λ u. (u.0, u.1 ∷ [])) us) ≡ (t.0, t.1 ∷ []) ∷ map (λ u. (u.0, u.1 ∷ [])) us
    first_of [] sorted = refl
    first_of (u ∷ us) sorted =
        ap (λ r. by_order r ((t.0, t.1 ∷ []) ∷ (u.0, u.1 ∷ []) ∷ map (λ u. (u.0, u.1 ∷ [])) us) ((u.0, t.1 ∷ u.1 ∷ []) ∷ map (λ u. (u.0, u.1 ∷ [])) us) ((u.0, u.1 ∷ []) ∷ enter with_first t (map (λ u. (u.0, u.1 ∷ [])) us)))
        (below_first t.0 u us (sorted_first t (u ∷ us) sorted))

not_high : (m : Monomial) → IsLinear m → is_high m ≡ false
not_high [] h = refl
not_high (a ∷ []) h = ap (λ n. ltb 65535 n || false) h.0
not_high (a ∷ b ∷ m) h = absurd h

none_high : (ts : List Term) → Each (λ t. IsLinear t.0) ts → list_any (λ t. is_high t.0) ts ≡ false
none_high [] h = refl
none_high (t ∷ ts) h = ap (λ b. b || list_any (λ t. is_high t.0) ts) (not_high t.0 h.0) ∙ none_high ts h.1

none_wide : (s : ℕ) → s ≤ most → (ps : List (Term × Term)) → Each (λ t. unsigned_abs t.1 ≤ s) (map pair_product ps) → first_limit (λ pair. wide Mul (pair.0).1 (pair.1).1) ps ≡ None
none_wide s le [] h = refl
none_wide s le (p ∷ ps) h = ap (λ o. or_else o (first_limit (λ pair. wide Mul (pair.0).1 (pair.1).1) ps)) (not_wide Mul (p.0).1 (p.1).1 (omega (arith, le, h.0))) ∙ none_wide s le ps h.1

none_large : (s : ℕ) → s ≤ most → (ts : List Term) → Each (λ t. unsigned_abs t.1 ≤ s) ts → first_limit (λ (g : Group). magnitude_limit 0 g.1) (map (λ t. (t.0, t.1 ∷ [])) ts) ≡ None
none_large s le [] h = refl
none_large s le (t ∷ ts) h =
    ap (λ b. or_else (limit_if b (Coefficient (record { op = Add; left = pos 0; right = pos (unsigned_abs t.1) })) None) (first_limit (λ (g : Group). magnitude_limit 0 g.1) (map (λ t. (t.0, t.1 ∷ [])) ts)))
    (le-ltb most (0 + unsigned_abs t.1) (omega (arith, le, h.0)))
    ∙ none_large s le ts h.1

-- what is known of a product
pub record IsProduct (s : ℕ) (p q : Polynomial) : Type 0 where
  pub small : IsSmall s (product p q)
  pub fits : s ≤ most → product_limit p q ≡ None

in_order : (s : ℕ) (p q ts : Polynomial) → products p q ≡ ts → T (is_sorted in_turn ts) → Each (λ t. IsMonomial t.0) ts → Each (λ t. IsLinear t.0) ts → Each (λ t. unsigned_abs t.1 ≤ s) ts → IsProduct s p q
in_order s p q ts is sorted monomials linear small = record {
  small = subst (λ us. IsSmall s (collected us)) (sym is) (record {
    canonical = canonical;
    linear = each_collected IsLinear ts linear;
    small = terms_small s (collected ts) (sorted_from (collected ts) canonical) (λ m. subst (λ c. unsigned_abs c ≤ s) (sym (coefficient-collected ts m)) (coefficient_small s ts sorted small m));
  });
  fits = λ le.
      let high : list_any (λ t. is_high t.0) (products p q) ≡ false = ap (list_any (λ t. is_high t.0)) is ∙ none_high ts linear in
      let few : ltb 4096 (length (gathered (products p q))) ≡ false = ap (λ us. ltb 4096 (length (gathered us))) is ∙ few_groups ts linear in
      let pairs_fit : first_limit (λ pair. wide Mul (pair.0).1 (pair.1).1) (pairs p q) ≡ None = none_wide s le (pairs p q) (subst (Each (λ t. unsigned_abs t.1 ≤ s)) (sym is) small) in
      let groups_fit : first_limit (λ (g : Group). magnitude_limit 0 g.1) (gathered (products p q)) ≡ None = ap (λ us. first_limit (λ (g : Group). magnitude_limit 0 g.1) (gathered us)) is ∙ (ap (first_limit (λ (g : Group). magnitude_limit 0 g.1)) (single ts sorted) ∙ none_large s le ts small) in
      (λ i. limit_if (high i) Exponent (limit_if (few i) Monomials (or_else (pairs_fit i) (groups_fit i))));
}
  where
    canonical : IsPolynomial (collected ts)
    canonical = IsPolynomial-collected ts monomials

-- ---- a number times a polynomial

-- each coefficient times a number
abbrev row : (ℤ → ℤ) → List Term → List Term
row f q = map (λ t. (t.0, f t.1)) q

row_below : (f : ℤ → ℤ) (m : Monomial) (q : List Term) → T (below_all in_turn m q) → T (below_all in_turn m (row f q))
row_below f m [] h = tt
row_below f m (t ∷ ts) h = both (is_lt (in_turn m t.0)) (below_all in_turn m (row f ts)) (first (is_lt (in_turn m t.0)) (below_all in_turn m ts) h) (row_below f m ts (second (is_lt (in_turn m t.0)) (below_all in_turn m ts) h))
  where
    both : (a b : Bool) → T a → T b → T (a && b)
    both true b p q = q
    both false b p q = p

    first : (a b : Bool) → T (a && b) → T a
    first true b p = tt
    first false b p = p

    second : (a b : Bool) → T (a && b) → T b
    second true b p = p
    second false b p = absurd p

row_sorted : (f : ℤ → ℤ) (q : List Term) → T (is_sorted in_turn q) → T (is_sorted in_turn (row f q))
row_sorted f [] h = tt
row_sorted f (t ∷ ts) h = sorted_cons (t.0, f t.1) (row f ts) (row_below f t.0 ts (sorted_first t ts h)) (row_sorted f ts (sorted_rest t ts h))

row_keeps : (P : Monomial → Type 0) (f : ℤ → ℤ) (q : List Term) → Each (λ t. P t.0) q → Each (λ t. P t.0) (row f q)
row_keeps P f [] h = tt
row_keeps P f (t ∷ ts) h = (h.0, row_keeps P f ts h.1)

row_small : (s r : ℕ) (f : ℤ → ℤ) → ((c : ℤ) → unsigned_abs c ≤ r → unsigned_abs (f c) ≤ s) → (q : List Term) → Each (λ t. unsigned_abs t.1 ≤ r) q → Each (λ t. unsigned_abs t.1 ≤ s) (row f q)
row_small s r f grows [] h = tt
row_small s r f grows (t ∷ ts) h = (grows t.1 h.0, row_small s r f grows ts h.1)

by_row : (s r : ℕ) (f : ℤ → ℤ) → ((c : ℤ) → unsigned_abs c ≤ r → unsigned_abs (f c) ≤ s) → (p q whole : Polynomial) → products p q ≡ row f whole → IsSmall r whole → IsProduct s p q
by_row s r f grows p q whole is h =
    in_order s p q (row f whole) is (row_sorted f whole (sorted_from whole h.canonical)) (row_keeps IsMonomial f whole (Each-monomial whole h.canonical)) (row_keeps IsLinear f whole h.linear) (row_small s r f grows whole h.small)

times_at_most : (s r : ℕ) (c d : ℤ) → unsigned_abs c ≤ s → unsigned_abs d ≤ r → unsigned_abs (c *ℤ d) ≤ s * r
times_at_most s r c d left right = subst (λ n. n ≤ s * r) (sym (unsigned_abs-mul c d)) (mul-le-mul left right)

-- a number on the left
pub number_times : (s r : ℕ) (b q : Polynomial) → IsConstant s b → IsSmall r q → IsProduct (s * r) b q
number_times s r [] q zero_is h = record { small = nothing_small (s * r); fits = λ le. refl }
number_times s r (_ ∷ []) q (number_is c some le) h =
    by_row (s * r) r (λ d. c *ℤ d) (λ d small. times_at_most s r c d le small) (([], c) ∷ []) q q (row_is q) h
  where
    row_is : (us : Polynomial) → products (([], c) ∷ []) us ≡ row (λ d. c *ℤ d) us
    row_is [] = refl
    row_is (u ∷ us) = ap (λ ts. (u.0, c *ℤ u.1) ∷ ts) (row_is us)
number_times s r (_ ∷ (_ ∷ _)) q shape h = elim shape [ ]

no_products : (q : Polynomial) → products q [] ≡ []
no_products [] = refl
no_products (t ∷ ts) = no_products ts

-- and on the right
pub times_number : (s r : ℕ) (q b : Polynomial) → IsSmall r q → IsConstant s b → IsProduct (r * s) q b
times_number s r q [] h zero_is = in_order (r * s) q [] [] (no_products q) tt tt tt tt
times_number s r q (_ ∷ []) h (number_is c some le) =
    by_row (r * s) r (λ d. d *ℤ c) (λ d small. times_at_most r s d c small le) q (([], c) ∷ []) q (row_is q) h
  where
    row_is : (us : Polynomial) → products us (([], c) ∷ []) ≡ row (λ d. d *ℤ c) us
    row_is [] = refl
    row_is (u ∷ us) = λ i. (times_nil u.0 i, u.1 *ℤ c) ∷ row_is us i
times_number s r q (_ ∷ (_ ∷ _)) h shape = elim shape [ ]

-- products of numbers are numbers
pub numbers_times : (s r : ℕ) (b c : Polynomial) → IsConstant s b → IsConstant r c → IsConstant (s * r) (product b c)
numbers_times s r [] c zero_is right = zero_is
numbers_times s r (_ ∷ []) [] (number_is x some le) zero_is = zero_is
numbers_times s r (_ ∷ []) (_ ∷ (_ ∷ _)) (number_is x some le) right = elim right [ ]
numbers_times s r (_ ∷ []) (_ ∷ []) (number_is x some le) (number_is y more le_too) =
    let whole = number_times s r (([], x) ∷ []) (([], y) ∷ []) (number_is x some le) (number_small r (([], y) ∷ []) (number_is y more le_too)) in
    shape_of (s * r) (product (([], x) ∷ []) (([], y) ∷ [])) whole.small.canonical (each_collected (λ m. m ≡ []) (([], x *ℤ y) ∷ []) (refl, tt)) whole.small.small
numbers_times s r (_ ∷ (_ ∷ _)) c left right = elim left [ ]
