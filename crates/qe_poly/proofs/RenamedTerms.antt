-- The terms of a polynomial with y in the place of x, sorted: they are the polynomial that they add up to.
use Rattle.std.proofs.Common.{◌≡◌, ◌≢◌, refl, sym, ap, subst, ◌∙◌, ℕ, suc, ◌+◌, ◌≤◌, Bool, true, false, cond, T, not, ◌&&◌, List, [], ◌∷◌, map, get_or, ℤ, pos, negsuc, ◌+ℤ◌, arith}
use Rattle.std.proofs.lemmas.Int.{ints}
use Rattle.std.specs.declared.cmp.Ordering.{Ordering}
use Rattle.std.specs.declared.cmp.Ordering.TheVariants.{Less, Equal, Greater}
use Rattle.std.specs.Ordering.{is_eq, is_lt, eq_by_cmp, ordering_then, int_cmp}
use Rattle.std.specs.Cmp.{tied_itself}
use Rattle.std.specs.FinMap.Entries.{below_all}
use Rattle.std.specs.List as list
use Rattle.std.specs.List.{sum_by}
use Rattle.std.specs.List.Sorted.{IsPermutation, IsSorted}
use Rattle.std.proofs.lemmas.List.Sorted.{sum_by-IsPermutation, IsPermutation-map, All-permutation}
use Rattle.std.proofs.lemmas.List.Sums.{sum_by-cons}
use Rattle.std.proofs.lemmas.List.Elements.{All-nil, All-cons, All-head, All-tail}
use Rattle.qe_poly.specs.declared.monomial.Var.{Var}
use Rattle.qe_poly.specs.declared.term.Term as kept
use Rattle.qe_poly.specs.Monomial.{Monomial, IsMonomial, in_turn}
use Rattle.qe_poly.specs.Polynomial.{Term, Polynomial, IsPolynomial, coefficient}
use Rattle.qe_poly.specs.Order.{term_cmp}
use Rattle.qe_poly.specs.Rows.{shown}
use Rattle.qe_poly.specs.Renamed.{renamed_monomial, with_renamed_terms, renamed}
use Rattle.qe_poly.specs.Occurs.{occurs_in, occurs_in_some}
use Rattle.qe_poly.proofs.Order.{turn_total, turn_same}
use Rattle.qe_poly.proofs.Sorted.{Each, tied, less_back, below_first, below_rest, sorted_first}
use Rattle.qe_poly.proofs.Canonical.{sorted_from, IsPolynomial-collected, coefficient-collected, same_polynomial}
use Rattle.qe_ring.proofs.Bools.{neither}
use Rattle.qe_poly.proofs.RenamedMonomials.{IsMonomial-renamed, renamed_apart}

-- ---- how often a monomial stands in terms

abbrev tie : Monomial → Term → ℕ
tie m t = cond (eq_by_cmp in_turn m t.0) 1 0

abbrev times_there : Monomial → List Term → ℕ
times_there m [] = 0
times_there m (t ∷ ts) = tie m t + times_there m ts

there_is : (m : Monomial) (ts : List Term) → sum_by (tie m) ts ≡ times_there m ts
there_is m [] = refl
there_is m (t ∷ ts) = sum_by-cons (tie m) t ts ∙ ap (λ n. tie m t + n) (there_is m ts)

there_moved : (m : Monomial) (old new : List kept.Term) → IsPermutation old new → times_there m (map shown new) ≡ times_there m (map shown old)
there_moved m old new moved =
    sym (there_is m (map shown new)) ∙ (sum_by-IsPermutation (tie m) (map shown old) (map shown new) (IsPermutation-map shown old new moved) ∙ there_is m (map shown old))

tie_itself : (m : Monomial) (c : ℤ) → tie m (m, c) ≡ 1
tie_itself m c = ap (λ r. cond (is_eq r) 1 0) (tied_itself turn_total m)

-- ---- coefficients as a difference of two sums of naturals

abbrev above : ℤ → ℕ
above (pos n) = n
above (negsuc n) = 0

abbrev under : ℤ → ℕ
under (pos n) = 0
under (negsuc n) = suc n

abbrev part : (ℤ → ℕ) → Monomial → Term → ℕ
part side m t = cond (eq_by_cmp in_turn m t.0) (side t.1) 0

abbrev parts : (ℤ → ℕ) → Monomial → List Term → ℕ
parts side m [] = 0
parts side m (t ∷ ts) = part side m t + parts side m ts

parts_are : (side : ℤ → ℕ) (m : Monomial) (ts : List Term) → sum_by (part side m) ts ≡ parts side m ts
parts_are side m [] = refl
parts_are side m (t ∷ ts) = sum_by-cons (part side m) t ts ∙ ap (λ n. part side m t + n) (parts_are side m ts)

parts_moved : (side : ℤ → ℕ) (m : Monomial) (old new : List kept.Term) → IsPermutation old new → parts side m (map shown new) ≡ parts side m (map shown old)
parts_moved side m old new moved =
    sym (parts_are side m (map shown new)) ∙ (sum_by-IsPermutation (part side m) (map shown old) (map shown new) (IsPermutation-map shown old new moved) ∙ parts_are side m (map shown old))

-- c is what stands above zero less what stands below
abbrev IsLess : ℤ → ℕ → ℕ → Type 0
IsLess c p q = c +ℤ pos q ≡ pos p

one_less : (c s : ℤ) (p q : ℕ) → IsLess s p q → IsLess (c +ℤ s) (above c + p) (under c + q)
one_less (pos n) s p q h = omega (arith, ints, h)
one_less (negsuc n) s p q h = omega (arith, ints, h)

none_less : (s : ℤ) (p q : ℕ) → IsLess s p q → IsLess s (0 + p) (0 + q)
none_less s p q h = omega (arith, ints, h)

coefficient_less : (ts : List Term) (m : Monomial) → IsLess (coefficient ts m) (parts above m ts) (parts under m ts)
coefficient_less [] m = refl
coefficient_less (t ∷ ts) m = elim (eq_by_cmp in_turn m t.0) as (λ b. IsLess (cond b (t.1 +ℤ coefficient ts m) (coefficient ts m)) (cond b (above t.1) 0 + parts above m ts) (cond b (under t.1) 0 + parts under m ts)) [
  | true ↦ one_less t.1 (coefficient ts m) (parts above m ts) (parts under m ts) (coefficient_less ts m)
  | false ↦ none_less (coefficient ts m) (parts above m ts) (parts under m ts) (coefficient_less ts m)
]

less_same : (c d : ℤ) (p q : ℕ) → IsLess c p q → IsLess d p q → c ≡ d
less_same c d p q h k = omega (arith, ints, h, k)

coefficient_moved : (m : Monomial) (old new : List kept.Term) → IsPermutation old new → coefficient (map shown new) m ≡ coefficient (map shown old) m
coefficient_moved m old new moved =
    less_same (coefficient (map shown new) m) (coefficient (map shown old) m) (parts above m (map shown old)) (parts under m (map shown old))
    (subst (λ q. IsLess (coefficient (map shown new) m) (parts above m (map shown old)) q) (parts_moved under m old new moved)
    (subst (λ p. IsLess (coefficient (map shown new) m) p (parts under m (map shown new))) (parts_moved above m old new moved) (coefficient_less (map shown new) m)))
    (coefficient_less (map shown old) m)

-- ---- facts of each term

abbrev IsGood : Term → Type 0
IsGood t = (t.1 ≢ pos 0) × IsMonomial t.0

to_all : (ts : List kept.Term) → Each IsGood (map shown ts) → list.All (λ t. IsGood (shown t)) ts
to_all [] each = All-nil (λ (t : kept.Term). IsGood (shown t))
to_all (t ∷ ts) each = All-cons (λ (t : kept.Term). IsGood (shown t)) t ts each.0 (to_all ts each.1)

from_all : (ts : List kept.Term) → list.All (λ t. IsGood (shown t)) ts → Each IsGood (map shown ts)
from_all [] all = tt
from_all (t ∷ ts) all = (All-head (λ (t : kept.Term). IsGood (shown t)) t ts all, from_all ts (All-tail (λ (t : kept.Term). IsGood (shown t)) t ts all))

-- ---- a sorted list without repeats is a polynomial

not_after : (r s : Ordering) → is_lt (ordering_then r s) ≡ false → (r ≡ Less → ⊥)
not_after Less s test e = absurd (cc)
not_after Equal s test e = absurd (cc)
not_after Greater s test e = absurd (cc)

next_below : (t u : Term) → is_lt (term_cmp u t) ≡ false → (t.0 ≡ u.0 → ⊥) → in_turn t.0 u.0 ≡ Less
next_below t u test apart = by_order (in_turn u.0 t.0) refl
  where
    by_order : (r : Ordering) → in_turn u.0 t.0 ≡ r → in_turn t.0 u.0 ≡ Less
    by_order Less order = absurd (not_after (in_turn u.0 t.0) (int_cmp u.1 t.1) test order)
    by_order Equal order = absurd (apart (sym (turn_same u.0 t.0 order)))
    by_order Greater order = less_back u.0 t.0 order

polynomial_from : (ts : List kept.Term) → IsSorted (λ t u. term_cmp (shown t) (shown u)) ts → Each IsGood (map shown ts) → ((m : Monomial) → times_there m (map shown ts) ≤ 1) → IsPolynomial (map shown ts)
polynomial_from [] sorted each once = tt
polynomial_from (t ∷ []) sorted each once = (each.0.0, each.0.1, tt, tt)
polynomial_from (t ∷ u ∷ us) sorted each once = (
  each.0.0,
  each.0.1,
  next_below (shown t) (shown u) (let at : is_lt (term_cmp (shown (get_or (t ∷ u ∷ us) (0 + 1) t)) (shown t)) ≡ false = sorted 0 t (omega arith) (omega arith) in at)
      (λ same. (
      let one : tie t.monomial (shown t) ≡ 1 = tie_itself t.monomial t.coef in
      let two : tie t.monomial (shown u) ≡ 1 = ap (λ m. tie m (shown u)) same ∙ tie_itself u.monomial u.coef in
      let most = once t.monomial in
      omega (arith, one, two))),
  polynomial_from (u ∷ us)
      (λ k d low high. (
      let next : suc k + 1 ≡ suc (k + 1) = omega arith in
      subst (λ n. is_lt (term_cmp (shown (get_or (t ∷ u ∷ us) n d)) (shown (get_or (u ∷ us) k d))) ≡ false) next (sorted (suc k) d (omega arith) (omega arith))))
      each.1
      (λ m. (let most = once m in omega arith)),
)

-- ---- the renamed terms

module _ (x y : Var) where
  abbrev pub made : Term → Term
  made t = (renamed_monomial x y t.0, t.1)

  good_made : (p : Polynomial) → IsPolynomial p → Each IsGood (map made p)
  good_made [] canonical = tt
  good_made (t ∷ ts) canonical = ((canonical.0, IsMonomial-renamed x y t.0), good_made ts canonical.3)

  -- no later term has the monomial of a term
  none_there : (t : Term) (ts : Polynomial) → IsMonomial t.0 → occurs_in y.0 t.0 ≡ false → Each (λ u. IsMonomial u.0) ts → occurs_in_some y.0 ts ≡ false → T (below_all in_turn t.0 ts)
      → (m : Monomial) → m ≡ renamed_monomial x y t.0 → times_there m (map made ts) ≡ 0
  none_there t [] monomial none each nil below m is = refl
  none_there t (u ∷ us) monomial none each nil below m is =
      let halves = neither (occurs_in y.0 u.0) (occurs_in_some y.0 us) nil in
      let rest = none_there t us monomial none each.1 halves.1 (below_rest t.0 u us below) m is in
      let first : tie m (made u) ≡ 0 = apart (eq_by_cmp in_turn m (renamed_monomial x y u.0)) refl
      (λ same. renamed_apart x y t.0 u.0 monomial each.0 none halves.0 (below_first t.0 u us below) (sym is ∙ same)) in
      (λ i. first i + rest i)
    where
      apart : (b : Bool) → eq_by_cmp in_turn m (renamed_monomial x y u.0) ≡ b → (m ≡ renamed_monomial x y u.0 → ⊥) → ◌≡◌ {A = ℕ} (cond b 1 0) 0
      apart true test other = absurd (other (tied m (renamed_monomial x y u.0) test))
      apart false test other = refl

  once_there : (p : Polynomial) → IsPolynomial p → Each (λ u. IsMonomial u.0) p → occurs_in_some y.0 p ≡ false → (m : Monomial) → times_there m (map made p) ≤ 1
  once_there [] canonical each none m = omega arith
  once_there (t ∷ ts) canonical each none m = by_test (once_there ts canonical.3 each.1 halves.1 m) (eq_by_cmp in_turn m (renamed_monomial x y t.0)) refl
    where
      halves : (occurs_in y.0 t.0 ≡ false) × (occurs_in_some y.0 ts ≡ false)
      halves = neither (occurs_in y.0 t.0) (occurs_in_some y.0 ts) none

      by_test : times_there m (map made ts) ≤ 1 → (b : Bool) → eq_by_cmp in_turn m (renamed_monomial x y t.0) ≡ b → cond b 1 0 + times_there m (map made ts) ≤ 1
      by_test rest true test =
          let zero_there = none_there t ts each.0 halves.0 each.1 halves.1 (sorted_first t ts (sorted_from (t ∷ ts) canonical)) m (tied m (renamed_monomial x y t.0) test) in
          omega (arith, zero_there)
      by_test rest false test = omega (arith, rest)

  each_monomial : (ts : List Term) → Each IsGood ts → Each (λ u. IsMonomial u.0) ts
  each_monomial [] each = tt
  each_monomial (t ∷ ts) each = (each.0.1, each_monomial ts each.1)

  canonical_each : (p : Polynomial) → IsPolynomial p → Each (λ u. IsMonomial u.0) p
  canonical_each [] canonical = tt
  canonical_each (t ∷ ts) canonical = (canonical.1, canonical_each ts canonical.3)

  module _ (p : Polynomial) (canonical : IsPolynomial p) (none : occurs_in_some y.0 p ≡ false) (old new : List kept.Term) (are : map shown old ≡ map made p)
      (moved : IsPermutation old new) (sorted : IsSorted (λ t u. term_cmp (shown t) (shown u)) new) where
    good_new : Each IsGood (map shown new)
    good_new = from_all new (All-permutation (λ (t : kept.Term). IsGood (shown t)) old new moved (to_all old (subst (λ ts. Each IsGood ts) (sym are) (good_made p canonical))))

    pub sorted_canonical : IsPolynomial (map shown new)
    sorted_canonical = polynomial_from new sorted good_new (λ m. subst (λ n. n ≤ 1) (sym (there_moved m old new moved ∙ ap (times_there m) are)) (once_there p canonical (canonical_each p canonical) none m))

    pub sorted_is : map shown new ≡ with_renamed_terms x y p
    sorted_is = same_polynomial (map shown new) (with_renamed_terms x y p) sorted_canonical (IsPolynomial-collected (map made p) (each_monomial (map made p) (good_made p canonical)))
        (λ m. coefficient_moved m old new moved ∙ (ap (λ ts. coefficient ts m) are ∙ sym (coefficient-collected (map made p) m)))

    pub sorted_renamed : occurs_in_some x.0 p ≡ true → map shown new ≡ renamed x y p
    sorted_renamed some = sorted_is ∙ (λ i. cond (sym some i && not (sym none i)) (with_renamed_terms x y p) p)
