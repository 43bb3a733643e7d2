-- The terms of a polynomial as they are kept: their negatives, their equality, and what they feed a hasher.
use Rattle.std.proofs.Common.{ℕ, suc, eqb, false, ◌≢◌, ◌+◌, ◌<◌, get_or, drop-cons, add-one, Bool, ◌≡◌, ◌≤◌, refl, List, [], ◌∷◌, map, ◌++◌, ap, sym, subst, ◌∙◌, drop, length}
use Rattle.std.proofs.lemmas.List.{drop_all, append-nil}
use Rattle.std.specs.Cmp.Derive.Mapped.{pointwise-map, lex_map}
use Rattle.std.specs.Cmp.Lexicographic.{slice_cmp}
use Rattle.std.specs.declared.cmp.Ordering.{Ordering}
use lib.Pointwise.{pointwise}
use Rattle.std.specs.Hash as fed
use Rattle.std.specs.List.{flat_map, fold}
use Rattle.qe_poly.specs.Equal.{term_eq, poly_eq, monomial_fed, poly_fed}
use Rattle.qe_poly.specs.Order.{term_cmp, poly_cmp}
use Rattle.qe_poly.specs.declared.term.Term as kept
use Rattle.qe_poly.specs.Rows.{shown}
use Rattle.qe_poly.specs.Polynomial.{Term, Polynomial, IsPolynomial, negative}
use Rattle.qe_poly.proofs.MergedSums.{IsPolynomial-negative}

-- after the loop that negates
pub negated_all : (made lent terms : List kept.Term) (i : ℕ) → lent ≡ terms → length lent ≤ i → map shown made ++ negative (map shown (drop i lent)) ≡ negative (map shown lent) → IsPolynomial (map shown terms) → IsPolynomial (map shown made)
negated_all made lent terms i same past loop poly =
    let all : map shown made ≡ negative (map shown terms) =
    sym (append-nil (map shown made)) ∙ (ap (λ ts. map shown made ++ negative (map shown ts)) (sym (drop_all i lent past)) ∙ (loop ∙ ap (λ ts. negative (map shown ts)) same)) in
    subst (λ p. IsPolynomial p) (sym all) (IsPolynomial-negative (map shown terms) poly)

-- equality of the terms as they are kept is that of the polynomials
pub eq_shown : (b : Bool) (ts us : List kept.Term) (p q : Polynomial) → map shown ts ≡ p → map shown us ≡ q → b ≡ pointwise (λ t u. term_eq (shown t) (shown u)) ts us → b ≡ poly_eq p q
eq_shown b ts us p q left right test = test ∙ (sym (pointwise-map shown term_eq ts us) ∙ λ i. poly_eq (left i) (right i))

-- the order of the terms as they are kept is that of the polynomials
pub cmp_shown : (r : Ordering) (lent others ts us : List kept.Term) (p q : Polynomial) → lent ≡ ts → others ≡ us → map shown ts ≡ p → map shown us ≡ q
    → r ≡ slice_cmp (λ t u. term_cmp (shown t) (shown u)) lent others → r ≡ poly_cmp p q
cmp_shown r lent others ts us p q same same_other left right order =
    order ∙ (sym (lex_map shown term_cmp lent others) ∙ λ i. poly_cmp ((ap (map shown) same ∙ left) i) ((ap (map shown) same_other ∙ right) i))

abbrev term_fed : Term → fed.HashWrites
term_fed t = monomial_fed t.0 ++ fed.i128 t.1

flat_map-shown : (ts : List kept.Term) → flat_map term_fed (map shown ts) ≡ flat_map (λ t. term_fed (shown t)) ts
flat_map-shown [] = refl
flat_map-shown (t ∷ ts) = ap (λ us. term_fed (shown t) ++ us) (flat_map-shown ts)

length-shown : (ts : List kept.Term) → length (map shown ts) ≡ length ts
length-shown [] = refl
length-shown (t ∷ ts) = ap suc (length-shown ts)

-- what the terms as they are kept feed a hasher is what the polynomial does
pub fed_shown : {S : Type 0} (write : S → List ℕ → S) (before after : S) (ts : List kept.Term) (p : Polynomial) → map shown ts ≡ p
    → after ≡ fold write before (fed.slice (λ t. term_fed (shown t)) ts) → after ≡ fold write before (poly_fed p)
fed_shown write before after ts p same writes =
    writes ∙ (λ i. fold write before (fed.usize (sym (length-shown ts) i) ++ sym (flat_map-shown ts) i)) ∙ ap (λ q. fold write before (poly_fed q)) same

-- what is left of a list from a place on, where an item stands there
pub first_left : {X : Type 0} (xs : List X) (i : ℕ) (x : X) → i < length xs → x ≡ get_or xs i x → drop i xs ≡ x ∷ drop (i + 1) xs
first_left xs i x inside is = drop-cons xs i x inside ∙ (λ k. sym is k ∷ drop (sym (add-one i) k) xs)

-- a term more at the end
pub pushed : (old new : List kept.Term) (made : kept.Term) (left : Polynomial) → new ≡ old ++ made ∷ [] → map shown new ++ left ≡ map shown old ++ shown made ∷ left
pushed old new made left is = ap (λ ts. map shown ts ++ left) is ∙ at_end old
  where
    at_end : (ts : List kept.Term) → map shown (ts ++ made ∷ []) ++ left ≡ map shown ts ++ shown made ∷ left
    at_end [] = refl
    at_end (t ∷ ts) = ap (λ us. shown t ∷ us) (at_end ts)

-- a list that is tested not to be empty
pub not_empty : (lent ts : List kept.Term) (n : ℕ) → false ≡ eqb n 0 → length lent ≡ n → lent ≡ ts → map shown ts ≢ []
not_empty lent ts n test long same none = no_length lent (ap (λ k. eqb k 0) long ∙ sym test) (ap (map shown) same ∙ none)
  where
    no_length : (us : List kept.Term) → eqb (length us) 0 ≡ false → map shown us ≢ []
    no_length [] none_test nil = absurd (cc)
    no_length (u ∷ us) some_test nil = absurd (cc)
