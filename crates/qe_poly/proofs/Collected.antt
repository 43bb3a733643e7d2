-- Products collected row by row.
use Rattle.std.proofs.Common.{ℕ, suc, ◌+◌, ◌<◌, ◌≤◌, ltb, arith, length, drop, get_or, ◌||◌, ◌≡◌, refl, sym, ap, subst, ◌∙◌, Bool, true, false, cond, List, [], ◌∷◌, ◌++◌, Option, Some, None, map}
use Rattle.std.proofs.lemmas.List.{drop_more, length-map}
use Rattle.std.proofs.lemmas.Bool.Decides.{nat_tests}
use Rattle.std.specs.declared.cmp.Ordering.TheVariants.{Less, Equal, Greater}
use Rattle.std.specs.FinMap.Entries.{by_order}
use Rattle.qe_coef.specs.declared.Op.TheVariants.{Mul}
use Rattle.qe_poly.specs.declared.limit.PolyLimit.{PolyLimit}
use Rattle.qe_poly.specs.declared.limit.PolyLimit.TheVariants.{Exponent, Monomials}
use Rattle.qe_poly.specs.declared.term.Term as kept
use Rattle.qe_poly.specs.declared.tally.Group as kept_group
use Rattle.qe_poly.specs.Monomial.{Monomial, in_turn}
use Rattle.qe_poly.specs.Polynomial.{Term, Polynomial, pairs, products}
use Rattle.qe_poly.specs.Limits.{first_limit, limit_if, wide}
use Rattle.qe_halt.specs.Outcome.{or_else}
use Rattle.qe_poly.specs.Rows.{shown}
use Rattle.qe_poly.specs.Tally.{Tally, shown_group, tally_more, empty_tally, enter_tally}
use Rattle.qe_poly.specs.Collected.{product_row, has_high, exponent_limit, entered, fitted, fitted_row, row_wide, pairs_wide, monomials_limit}
use Rattle.qe_poly.proofs.MergedSums.{first_limit-map}
use Rattle.qe_poly.proofs.Products.{has_high_more}

-- ---- row by row

or_else-assoc : (a b c : Option PolyLimit) → or_else (or_else a b) c ≡ or_else a (or_else b c)
or_else-assoc (Some met) b c = refl
or_else-assoc None b c = refl

entered-append : (ts us : List Term) (gs : List (Monomial × Tally)) → entered (ts ++ us) gs ≡ entered us (entered ts gs)
entered-append [] us gs = refl
entered-append (t ∷ ts) us gs = entered-append ts us (enter_tally t gs)

first_limit-append : {A : Type 0} (f : A → Option PolyLimit) (xs ys : List A) → first_limit f (xs ++ ys) ≡ or_else (first_limit f xs) (first_limit f ys)
first_limit-append f [] ys = refl
first_limit-append f (x ∷ xs) ys = ap (or_else (f x)) (first_limit-append f xs ys) ∙ sym (or_else-assoc (f x) (first_limit f xs) (first_limit f ys))

pub pairs_wide-more : (t : Term) (ts q : Polynomial) → pairs_wide (t ∷ ts) q ≡ or_else (row_wide t q) (pairs_wide ts q)
pairs_wide-more t ts q = first_limit-append (λ pair. wide Mul (pair.0).1 (pair.1).1) (map (λ u. (t, u)) q) (pairs ts q)
    ∙ ap (λ limit. or_else limit (pairs_wide ts q)) (first_limit-map (λ u. (t, u)) (λ pair. wide Mul (pair.0).1 (pair.1).1) q)

-- ---- groups only grow in number

enter-longer : (t : Term) (gs : List (Monomial × Tally)) → length gs ≤ length (enter_tally t gs)
enter-longer t [] = omega arith
enter-longer t (g ∷ gs) =
    elim (in_turn t.0 g.0) as (λ r. suc (length gs) ≤ length (by_order r ((t.0, tally_more empty_tally t.1) ∷ g ∷ gs) ((g.0, tally_more g.1 t.1) ∷ gs) (g ∷ enter_tally t gs))) [
      | Less ↦ omega arith
      | Equal ↦ omega arith
      | Greater ↦ let longer = enter-longer t gs in omega (arith, longer)
    ]

entered-longer : (ts : List Term) (gs : List (Monomial × Tally)) → length gs ≤ length (entered ts gs)
entered-longer [] gs = omega arith
entered-longer (t ∷ ts) gs = let one = enter-longer t gs in let rest = entered-longer ts (enter_tally t gs) in omega (arith, one, rest)

more_than : (n : ℕ) → 4096 < n → ltb 4096 n ≡ true
more_than n more = grind (arith, nat_tests)

not_more : (n : ℕ) → n ≤ 4096 → ltb 4096 n ≡ false
not_more n few = grind (arith, nat_tests)

pub few_in : (groups : List kept_group.Group) (n : ℕ) → n ≡ length groups → n ≤ 4096 → ltb 4096 (length (map shown_group groups)) ≡ false
few_in groups n count few = not_more (length (map shown_group groups)) (subst (λ k. k ≤ 4096) (count ∙ sym (length-map groups shown_group)) few)

-- too many groups already are too many at the end
pub crowded_limit : (p q : Polynomial) (groups : List kept_group.Group) (n : ℕ) (limit : PolyLimit) → n ≡ length groups → 4096 < n → length (map shown_group groups) ≤ length (entered (fitted p q) [])
    → limit ≡ cond (has_high (products p q)) Exponent Monomials → monomials_limit p q ≡ Some limit
crowded_limit p q groups n limit count more longer same =
    let here : 4096 < length (map shown_group groups) = subst (λ k. 4096 < k) (count ∙ sym (length-map groups shown_group)) more in
    ap (λ test. limit_if (has_high (products p q)) Exponent (limit_if test Monomials None)) (more_than (length (entered (fitted p q) [])) (omega arith))
    ∙ (either (has_high (products p q)) ∙ ap Some (sym same))
  where
    either : (b : Bool) → limit_if b Exponent (Some Monomials) ≡ Some (cond b Exponent Monomials)
    either true = refl
    either false = refl

-- ---- a step of the loop over the left terms

low_from : (ts : List Term) → exponent_limit ts ≡ None → has_high ts ≡ false
low_from ts none = by_test (has_high ts) none
  where
    by_test : (b : Bool) → limit_if b Exponent None ≡ None → b ≡ false
    by_test true none = absurd (cc)
    by_test false none = refl

pub record CollectStep (rest q : Polynomial) (old new whole : List (Monomial × Tally)) (first wide all : Option PolyLimit) (high : Bool) : Type 0 where
  pub high_is : has_high (products rest q) ≡ high
  pub first_is : or_else wide (pairs_wide rest q) ≡ all
  pub groups_are : entered (fitted rest q) new ≡ whole
  pub longer : length new ≤ length whole

pub collect_step : (left : List kept.Term) (i : ℕ) (t : kept.Term) (q : Polynomial) (old new whole : List (Monomial × Tally)) (first wide all : Option PolyLimit) (high : Bool) → i < length left → t ≡ get_or left i t
    → (exponent_limit (product_row (shown t) q) ≡ None) × (wide ≡ or_else first (row_wide (shown t) q)) × (new ≡ entered (fitted_row (shown t) q) old)
    → has_high (products (map shown (drop i left)) q) ≡ high → or_else first (pairs_wide (map shown (drop i left)) q) ≡ all → entered (fitted (map shown (drop i left)) q) old ≡ whole
    → CollectStep (map shown (drop (i + 1) left)) q old new whole first wide all high
collect_step left i t q old new whole first wide all high inside is row high_is first_is groups_are =
    let rest = map shown (drop (i + 1) left) in
    let here : map shown (drop i left) ≡ shown t ∷ rest = ap (map shown) (drop_more left i t inside ∙ ap (λ x. x ∷ drop (i + 1) left) (sym is)) in
    let entered_rest : entered (fitted rest q) new ≡ whole =
    ap (entered (fitted rest q)) row.2 ∙ (sym (entered-append (fitted_row (shown t) q) (fitted rest q) old) ∙ (ap (λ p. entered (fitted p q) old) (sym here) ∙ groups_are)) in
    record {
      high_is = ap (λ b. b || has_high (products rest q)) (sym (low_from (product_row (shown t) q) row.0)) ∙ (sym (has_high_more (shown t) rest q) ∙ (ap (λ p. has_high (products p q)) (sym here) ∙ high_is));
      first_is = ap (λ limit. or_else limit (pairs_wide rest q)) row.1 ∙ (or_else-assoc first (row_wide (shown t) q) (pairs_wide rest q) ∙ (ap (or_else first) (sym (pairs_wide-more (shown t) rest q)) ∙ (ap (λ p. or_else first (pairs_wide p q)) (sym here) ∙ first_is)));
      groups_are = entered_rest;
      longer = subst (λ gs. length new ≤ length gs) entered_rest (entered-longer (fitted rest q) new);
    }
