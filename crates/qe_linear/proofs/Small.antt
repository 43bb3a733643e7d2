-- Linear polynomials in four variables with small coefficients: their parts, negatives and sums.
use Rattle.std.proofs.Common.{ℕ, zero, suc, ◌+◌, ◌-◌, ◌≡◌, ◌<◌, ◌≤◌, ◌^◌, refl, sym, ap, subst, ◌∙◌, Bool, true, false, cond, eqb, ltb, T, List, [], ◌∷◌, ◌++◌, length, Option, Some, None, ℤ, pos, negsuc, ◌+ℤ◌, neg_ℤ, unsigned_abs, arith}
use Rattle.std.specs.declared.cmp.Ordering.{Ordering}
use Rattle.std.specs.declared.cmp.Ordering.TheVariants.{Less, Equal, Greater}
use Rattle.std.specs.Ordering.{is_eq, eq_by_cmp, int_eq, nat_cmp}
use Rattle.std.proofs.lemmas.Bool.{le-ltb}
use Rattle.std.specs.FinMap.Entries.{find, is_sorted, by_order}
use Rattle.std.proofs.lemmas.Cmp.{ranked}
use Rattle.std.specs.Cmp.{tied_itself}
use Rattle.qe_coef.specs.declared.Op.{Op}
use Rattle.qe_coef.specs.declared.Op.TheVariants.{Add}
use Rattle.qe_coef.specs.Exact.{exact}
use Rattle.qe_halt.specs.Outcome.{or_else}
use Rattle.qe_poly.specs.declared.limit.PolyLimit.TheVariants.{Coefficient, Monomials}
use Rattle.qe_poly.specs.declared.monomial.Power.{Power}
use Rattle.qe_poly.specs.declared.limit.PolyLimit.{PolyLimit}
use Rattle.qe_poly.specs.Monomial.{Monomial, in_turn, IsMonomial}
use Rattle.qe_poly.specs.Polynomial.{Term, Polynomial, Group, IsPolynomial, enter, with_first, gathered, total, totals, collected, coefficient, negative, sum}
use Rattle.qe_poly.specs.Coefficients.{coefficient_in, exponent_of, without}
use Rattle.qe_poly.specs.Limits.{first_limit, limit_if, wide, sum_limit}
use Rattle.qe_poly.proofs.Sorted.{Each, Each-append, below_first, sorted_first, sorted_rest, find_before}
use Rattle.qe_poly.proofs.Order.{turn_total}
use Rattle.qe_poly.proofs.Gathered.{is_sorted-gathered}
use Rattle.qe_poly.proofs.Canonical.{sorted_from, Each-monomial, IsPolynomial-collected, coefficient-collected, coefficient-append, coefficient_found, or_zero}
use Rattle.qe_poly.proofs.CollectedProduct.{magnitude_sum}
use Rattle.qe_poly.proofs.MergedSums.{IsPolynomial-negative}
use Rattle.qe_poly.proofs.Parts.{IsPolynomial-coefficient_in}

-- the greatest magnitude of a coefficient
abbrev pub most : ℕ
most = 2 ^ 127 - 1

-- ---- linear monomials: the number 1, and the four variables

abbrev pub IsLinear : Monomial → Type 0
IsLinear [] = Unit {0}
IsLinear (a ∷ []) = (a.exponent ≡ 1) × (a.var.0 < 4)
IsLinear (a ∷ b ∷ m) = ⊥

-- how many linear monomials are less
abbrev rank : Monomial → ℕ
rank [] = 0
rank (a ∷ m) = 4 - a.var.0

same_exponent : (a b : Power) → a.exponent ≡ 1 → b.exponent ≡ 1 → (r : Ordering) → nat_cmp a.var.0 b.var.0 ≡ r → in_turn (a ∷ []) (b ∷ []) ≡ Less → a.var.0 < b.var.0
same_exponent a b one too Less is less = ranked a.var.0 b.var.0 Less (sym is)
same_exponent a b one too Equal is less = absurd (cc)
same_exponent a b one too Greater is less = absurd (cc)

rank_less : (m n : Monomial) → IsLinear m → IsLinear n → in_turn m n ≡ Less → rank n < rank m
rank_less [] [] left right less = absurd (cc)
rank_less [] (b ∷ n) left right less = absurd (cc)
rank_less (a ∷ []) [] left right less = omega (arith, left.1)
rank_less (a ∷ []) (b ∷ []) left right less = let lower = same_exponent a b left.0 right.0 (nat_cmp a.var.0 b.var.0) refl less in omega (arith, left.1, right.1, lower)
rank_less (a ∷ b ∷ m) n left right less = absurd left
rank_less (a ∷ []) (b ∷ c ∷ n) left right less = absurd right

module _ {V : Type 0} where
  below_rank : (e : Monomial × V) (es : List (Monomial × V)) → Each (λ e. IsLinear e.0) (e ∷ es) → T (is_sorted in_turn (e ∷ es)) → length es ≤ rank e.0
  below_rank e [] each sorted = omega arith
  below_rank e (f ∷ es) each sorted =
      let less = rank_less e.0 f.0 each.0 each.1.0 (below_first e.0 f es (sorted_first e (f ∷ es) sorted)) in
      let rest = below_rank f es each.1 (sorted_rest e (f ∷ es) sorted) in
      omega (arith, less, rest)

  -- there are five
  pub five_at_most : (es : List (Monomial × V)) → Each (λ e. IsLinear e.0) es → T (is_sorted in_turn es) → length es ≤ 5
  five_at_most [] each sorted = omega arith
  five_at_most (e ∷ es) each sorted = let few = below_rank e es each sorted in let low = rank_low e.0 in omega (arith, few, low)
    where
      rank_low : (m : Monomial) → rank m ≤ 4
      rank_low [] = omega arith
      rank_low (a ∷ m) = omega arith

-- ---- small polynomials

pub record IsSmall (s : ℕ) (p : Polynomial) : Type 0 where
  pub canonical : IsPolynomial p
  pub linear : Each (λ t. IsLinear t.0) p
  pub small : Each (λ t. unsigned_abs t.1 ≤ s) p

pub nothing_small : (s : ℕ) → IsSmall s []
nothing_small s = record { canonical = tt; linear = tt; small = tt }

each_weaker : (s r : ℕ) → s ≤ r → (p : Polynomial) → Each (λ t. unsigned_abs t.1 ≤ s) p → Each (λ t. unsigned_abs t.1 ≤ r) p
each_weaker s r le [] h = tt
each_weaker s r le (t ∷ ts) h = (omega (arith, le, h.0), each_weaker s r le ts h.1)

pub smaller : (s r : ℕ) (p : Polynomial) → s ≤ r → IsSmall s p → IsSmall r p
smaller s r p le h = record { canonical = h.canonical; linear = h.linear; small = each_weaker s r le p h.small }

-- the coefficient at each monomial is small where that of each term is, and the other way round
pub coefficient_small : (s : ℕ) (p : List Term) → T (is_sorted in_turn p) → Each (λ t. unsigned_abs t.1 ≤ s) p → (m : Monomial) → unsigned_abs (coefficient p m) ≤ s
coefficient_small s [] sorted h m = omega arith
coefficient_small s (t ∷ ts) sorted h m =
    let rest = subst (λ c. unsigned_abs c ≤ s) (coefficient_found ts m (sorted_rest t ts sorted)) (coefficient_small s ts (sorted_rest t ts sorted) h.1 m) in
    subst (λ c. unsigned_abs c ≤ s) (sym (coefficient_found (t ∷ ts) m sorted)) (by_test (eq_by_cmp in_turn m t.0) rest)
  where
    by_test : (b : Bool) → unsigned_abs (or_zero (find in_turn m ts)) ≤ s → unsigned_abs (or_zero (cond b (Some t.1) (find in_turn m ts))) ≤ s
    by_test true rest = h.0
    by_test false rest = rest

pub terms_small : (s : ℕ) (p : List Term) → T (is_sorted in_turn p) → ((m : Monomial) → unsigned_abs (coefficient p m) ≤ s) → Each (λ t. unsigned_abs t.1 ≤ s) p
terms_small s [] sorted h = tt
terms_small s (t ∷ ts) sorted h =
    let found : coefficient (t ∷ ts) t.0 ≡ or_zero (find in_turn t.0 (t ∷ ts)) = coefficient_found (t ∷ ts) t.0 sorted in
    let here : or_zero (find in_turn t.0 (t ∷ ts)) ≡ t.1 = ap (λ r. or_zero (cond (is_eq r) (Some t.1) (find in_turn t.0 ts))) (tied_itself turn_total t.0) in
    (subst (λ c. unsigned_abs c ≤ s) (found ∙ here) (h t.0), terms_small s ts (sorted_rest t ts sorted) later)
  where
    later : (m : Monomial) → unsigned_abs (coefficient ts m) ≤ s
    later m =
        elim (eq_by_cmp in_turn m t.0) as (λ b. eq_by_cmp in_turn m t.0 ≡ b → unsigned_abs (cond b (t.1 +ℤ coefficient ts m) (coefficient ts m)) ≤ s → unsigned_abs (coefficient ts m) ≤ s) [
          | true ↦ λ tie k. subst (λ c. unsigned_abs c ≤ s) (sym (coefficient_found ts m (sorted_rest t ts sorted) ∙ ap or_zero (find_before m t.0 ts tie (sorted_first t ts sorted)))) (omega arith)
          | false ↦ λ other k. k
        ] refl (h m)

-- ---- what is kept of the monomials

module _ (P : Monomial → Type 0) where
  each_enter : (t : Term) (gs : List Group) → P t.0 → Each (λ g. P g.0) gs → Each (λ g. P g.0) (enter with_first t gs)
  each_enter t [] here each = (here, tt)
  each_enter t (g ∷ gs) here each =
      elim (in_turn t.0 g.0) as (λ r. Each (λ g. P g.0) (by_order r ((t.0, t.1 ∷ []) ∷ g ∷ gs) ((g.0, t.1 ∷ g.1) ∷ gs) (g ∷ enter with_first t gs))) [
        | Less ↦ (here, each)
        | Equal ↦ each
        | Greater ↦ (each.0, each_enter t gs here each.1)
      ]

  pub each_gathered : (ts : List Term) → Each (λ t. P t.0) ts → Each (λ g. P g.0) (gathered ts)
  each_gathered [] each = tt
  each_gathered (t ∷ ts) each = each_enter t (gathered ts) each.0 (each_gathered ts each.1)

  each_total : (gs : List Group) → Each (λ g. P g.0) gs → Each (λ t. P t.0) (totals gs)
  each_total [] each = tt
  each_total (g ∷ gs) each =
      elim (int_eq (total g.1) (pos 0)) as (λ b. Each (λ t. P t.0) (cond b (totals gs) ((g.0, total g.1) ∷ totals gs))) [
        | true ↦ each_total gs each.1
        | false ↦ (each.0, each_total gs each.1)
      ]

  pub each_collected : (ts : List Term) → Each (λ t. P t.0) ts → Each (λ t. P t.0) (collected ts)
  each_collected ts each = each_total (gathered ts) (each_gathered ts each)

-- ---- limits that are not met

pub no_limit : {A : Type 0} (f : A → Option PolyLimit) (xs : List A) → Each (λ x. f x ≡ None) xs → first_limit f xs ≡ None
no_limit f [] h = refl
no_limit f (x ∷ xs) h = ap (λ o. or_else o (first_limit f xs)) h.0 ∙ no_limit f xs h.1

always : {A : Type 0} (P : A → Type 0) → ((x : A) → P x) → (xs : List A) → Each P xs
always P h [] = tt
always P h (x ∷ xs) = (h x, always P h xs)

pub not_wide : (op : Op) (a b : ℤ) → unsigned_abs (exact op a b) ≤ most → wide op a b ≡ None
not_wide op a b le = ap (λ t. limit_if t (Coefficient (record { op = op; left = a; right = b })) None) (le-ltb most (unsigned_abs (exact op a b)) le)

pub few_groups : (ts : List Term) → Each (λ t. IsLinear t.0) ts → ltb 4096 (length (gathered ts)) ≡ false
few_groups ts each = let few = five_at_most (gathered ts) (each_gathered IsLinear ts each) (is_sorted-gathered ts) in le-ltb 4096 (length (gathered ts)) (omega (arith, few))

-- ---- parts and negatives

abs_negative : (c : ℤ) → unsigned_abs (neg_ℤ c) ≡ unsigned_abs c
abs_negative (pos zero) = refl
abs_negative (pos (suc n)) = refl
abs_negative (negsuc n) = refl

each_negative : (s : ℕ) (p : Polynomial) → Each (λ t. IsLinear t.0) p → Each (λ t. unsigned_abs t.1 ≤ s) p → Each (λ t. IsLinear t.0) (negative p) × Each (λ t. unsigned_abs t.1 ≤ s) (negative p)
each_negative s [] linear small = (tt, tt)
each_negative s (t ∷ ts) linear small =
    let rest = each_negative s ts linear.1 small.1 in
    ((linear.0, rest.0), (subst (λ n. n ≤ s) (sym (abs_negative t.1)) small.0, rest.1))

pub negative_small : (s : ℕ) (p : Polynomial) → IsSmall s p → IsSmall s (negative p)
negative_small s p h = let each = each_negative s p h.linear h.small in record { canonical = IsPolynomial-negative p h.canonical; linear = each.0; small = each.1 }

linear_without : (x : ℕ) (m : Monomial) → IsLinear m → IsLinear (without x m)
linear_without x [] h = tt
linear_without x (a ∷ []) h = elim (eqb a.var.0 x) as (λ b. IsLinear (cond b [] (a ∷ []))) [ true ↦ tt | false ↦ h ]
linear_without x (a ∷ b ∷ m) h = absurd h

each_part : (s x k : ℕ) (p : Polynomial) → Each (λ t. IsLinear t.0) p → Each (λ t. unsigned_abs t.1 ≤ s) p → Each (λ t. IsLinear t.0) (coefficient_in x k p) × Each (λ t. unsigned_abs t.1 ≤ s) (coefficient_in x k p)
each_part s x k [] linear small = (tt, tt)
each_part s x k (t ∷ ts) linear small =
    let rest = each_part s x k ts linear.1 small.1 in
    elim (eqb (exponent_of x t.0) k) as (λ b. Each (λ t. IsLinear t.0) (cond b ((without x t.0, t.1) ∷ coefficient_in x k ts) (coefficient_in x k ts)) × Each (λ t. unsigned_abs t.1 ≤ s) (cond b ((without x t.0, t.1) ∷ coefficient_in x k ts) (coefficient_in x k ts))) [
      | true ↦ ((linear_without x t.0 linear.0, rest.0), (small.0, rest.1))
      | false ↦ rest
    ]

pub part_small : (s x k : ℕ) (p : Polynomial) → IsSmall s p → IsSmall s (coefficient_in x k p)
part_small s x k p h = let each = each_part s x k p h.linear h.small in record { canonical = IsPolynomial-coefficient_in x k p h.canonical; linear = each.0; small = each.1 }

-- ---- sums

pub sum_small : (s r : ℕ) (p q : Polynomial) → IsSmall s p → IsSmall r q → IsSmall (s + r) (sum p q)
sum_small s r p q left right =
    let canonical = IsPolynomial-collected (p ++ q) (Each-append (λ t. IsMonomial t.0) p q (Each-monomial p left.canonical) (Each-monomial q right.canonical)) in
    record {
      canonical = canonical;
      linear = each_collected IsLinear (p ++ q) (Each-append (λ t. IsLinear t.0) p q left.linear right.linear);
      small = terms_small (s + r) (sum p q) (sorted_from (sum p q) canonical) at;
    }
  where
    at : (m : Monomial) → unsigned_abs (coefficient (sum p q) m) ≤ s + r
    at m =
        let one = coefficient_small s p (sorted_from p left.canonical) left.small m in
        let other = coefficient_small r q (sorted_from q right.canonical) right.small m in
        subst (λ c. unsigned_abs c ≤ s + r) (sym (coefficient-collected (p ++ q) m ∙ coefficient-append p q m)) (omega (arith, one, other, magnitude_sum (coefficient p m) (coefficient q m)))

pub sum_fits : (s r : ℕ) (p q : Polynomial) → IsSmall s p → IsSmall r q → s + r ≤ most → sum_limit Add p q ≡ None
sum_fits s r p q left right le =
    ap (λ t. limit_if t Monomials (first_limit (λ g. wide Add (coefficient p g.0) (coefficient q g.0)) (gathered (p ++ q)))) (few_groups (p ++ q) (Each-append (λ t. IsLinear t.0) p q left.linear right.linear))
    ∙ no_limit (λ (g : Group). wide Add (coefficient p g.0) (coefficient q g.0)) (gathered (p ++ q)) (always _ at (gathered (p ++ q)))
  where
    at : (g : Group) → wide Add (coefficient p g.0) (coefficient q g.0) ≡ None
    at g =
        let one = coefficient_small s p (sorted_from p left.canonical) left.small g.0 in
        let other = coefficient_small r q (sorted_from q right.canonical) right.small g.0 in
        not_wide Add (coefficient p g.0) (coefficient q g.0) (omega (arith, one, other, le, magnitude_sum (coefficient p g.0) (coefficient q g.0)))
