-- The names in the derivation of a polynomial's text are those of its variables, in the order of the text.
use Rattle.std.proofs.Common.{ℕ, ◌+◌, ◌≡◌, refl, ap, subst, ◌∙◌, Bool, true, false, List, [], ◌∷◌, ◌++◌, append_assoc, map, length, pos}
use Rattle.std.specs.Prelude.{◌==◌, if◌then◌else◌, int_lt, unsigned_abs, codes, decimal}
use Rattle.std.proofs.lemmas.List.{map-append}
use Rattle.qe_poly.specs.declared.monomial.Power.{Power}
use Rattle.qe_poly.specs.Monomial.{Monomial}
use Rattle.qe_poly.specs.Polynomial.{Polynomial}
use Rattle.qe_print.specs.Polynomial.{name_of, power_text, factors_text, term_text, terms_text, polynomial_text}
use Rattle.qe_syntax.specs.Grammar as grammar
use Rattle.qe_syntax.specs.Grammar.{term_tree, sums_tree, product_tree, times_tree, signed_tree, power_tree}
use Rattle.qe_read.specs.Names.{Letters, letters}
use Rattle.qe_read.proofs.Named.{all_in, all_in_addends, all_in_factors, all_summed, all_multiplied}
use Rattle.qe_roundtrip.proofs.Derived.{power_by, power_at, times_at, lead_by, tail_by, lead_at, tail_at, minus_if, joint, front, sums_at, poly_at}
use Rattle.qe_roundtrip.proofs.Sites.{At, at_front, at_behind, letters_here}

module _ (names : List (List ℕ)) where
  -- the names of the variables in a monomial, and in a polynomial
  abbrev pub monomial_names : Monomial → List Letters
  monomial_names m = map (λ a. name_of names a.var.0) m

  abbrev pub printed_names : Polynomial → List Letters
  printed_names [] = []
  printed_names (t ∷ ts) = monomial_names t.0 ++ printed_names ts

  module _ (whole : List ℕ) where
    power_test : (place : ℕ) (b : Bool) (a : Power) → At whole place (name_of names a.var.0 ++ (if b then [] else codes "^" ++ decimal a.exponent))
        → map (letters whole) (all_in (power_tree (power_by names b place a))) ≡ name_of names a.var.0 ∷ []
    power_test place true a s = ap (λ w. w ∷ []) (letters_here whole place (name_of names a.var.0) (at_front whole place (name_of names a.var.0) [] s))
    power_test place false a s = ap (λ w. w ∷ []) (letters_here whole place (name_of names a.var.0) (at_front whole place (name_of names a.var.0) (codes "^" ++ decimal a.exponent) s))

    in_power : (place : ℕ) (a : Power) → At whole place (power_text names a) → map (letters whole) (all_in (power_tree (power_at names place a))) ≡ name_of names a.var.0 ∷ []
    in_power place a s = power_test place (a.exponent == 1) a s

    in_times : (place : ℕ) (m : Monomial) → At whole place (factors_text names m) → map (letters whole) (all_in_factors (times_tree (times_at names place m))) ≡ monomial_names m
    in_times place [] s = refl
    in_times place (a ∷ m) s =
        let here = at_front whole place (codes "*" ++ power_text names a) (factors_text names m) s in
        map-append (letters whole) (all_in (power_tree (power_at names (place + 1) a))) (all_in_factors (times_tree (times_at names (place + length (codes "*" ++ power_text names a)) m)))
        ∙ (λ i. in_power (place + 1) a (at_behind whole place (codes "*") (power_text names a) here) i
        ++ in_times (place + length (codes "*" ++ power_text names a)) m (at_behind whole place (codes "*" ++ power_text names a) (factors_text names m) s) i)

    lead_test : (place n : ℕ) (b : Bool) (a : Power) (m : Monomial) → At whole place ((if b then [] else decimal n ++ codes "*") ++ power_text names a ++ factors_text names m)
        → map (letters whole) (all_in (signed_tree (lead_by names b place n a))) ++ map (letters whole) (all_in_factors (times_tree (tail_by names b place n a m))) ≡ monomial_names (a ∷ m)
    lead_test place n true a m s =
        (λ i. in_power place a (at_front whole place (power_text names a) (factors_text names m) s) i
        ++ in_times (place + length (power_text names a)) m (at_behind whole place (power_text names a) (factors_text names m) s) i)
    lead_test place n false a m s =
        let e : (decimal n ++ codes "*") ++ power_text names a ++ factors_text names m ≡ decimal n ++ factors_text names (a ∷ m) =
        ap (λ text. text ++ factors_text names m) (append_assoc (decimal n) (codes "*") (power_text names a)) ∙ append_assoc (decimal n) (codes "*" ++ power_text names a) (factors_text names m) in
        in_times (place + length (decimal n)) (a ∷ m) (at_behind whole place (decimal n) (factors_text names (a ∷ m)) (subst (λ text. At whole place text) e s))

    in_lead : (place n : ℕ) (m : Monomial) → At whole place (term_text names n m)
        → map (letters whole) (all_in (signed_tree (lead_at names place n m))) ++ map (letters whole) (all_in_factors (times_tree (tail_at names place n m))) ≡ monomial_names m
    in_lead place n [] s = refl
    in_lead place n (a ∷ m) s = lead_test place n (n == 1) a m s

    no_minus : (b : Bool) (at : ℕ) (s : grammar.Signed) → all_in (signed_tree (minus_if b at s)) ≡ all_in (signed_tree s)
    no_minus true at s = refl
    no_minus false at s = refl

    in_term : (b : Bool) (at place n : ℕ) (m : Monomial) → At whole place (term_text names n m)
        → map (letters whole) (all_in (product_tree (grammar.factors (minus_if b at (lead_at names place n m)) (tail_at names place n m)))) ≡ monomial_names m
    in_term b at place n m s =
        ap (map (letters whole)) (all_multiplied (signed_tree (minus_if b at (lead_at names place n m))) (times_tree (tail_at names place n m))
        ∙ ap (λ ns. ns ++ all_in_factors (times_tree (tail_at names place n m))) (no_minus b at (lead_at names place n m)))
        ∙ map-append (letters whole) (all_in (signed_tree (lead_at names place n m))) (all_in_factors (times_tree (tail_at names place n m)))
        ∙ in_lead place n m s

    in_sums : (place : ℕ) (ts : Polynomial) → At whole place (terms_text names ts) → map (letters whole) (all_in_addends (sums_tree (sums_at names place ts))) ≡ printed_names ts
    in_sums place [] s = refl
    in_sums place (t ∷ ts) s =
        let b = int_lt t.1 (pos 0) in
        let n = unsigned_abs t.1 in
        let one = product_tree (grammar.factors (lead_at names (place + length (joint b)) n t.0) (tail_at names (place + length (joint b)) n t.0)) in
        let here = at_front whole place (joint b ++ term_text names n t.0) (terms_text names ts) s in
        map-append (letters whole) (all_in one) (all_in_addends (sums_tree (sums_at names (place + length (joint b ++ term_text names n t.0)) ts)))
        ∙ (λ i. in_term false 0 (place + length (joint b)) n t.0 (at_behind whole place (joint b) (term_text names n t.0) here) i
        ++ in_sums (place + length (joint b ++ term_text names n t.0)) ts (at_behind whole place (joint b ++ term_text names n t.0) (terms_text names ts) s) i)

    pub in_polynomial : (place : ℕ) (p : Polynomial) → At whole place (polynomial_text names p) → map (letters whole) (all_in (term_tree (poly_at names place p))) ≡ printed_names p
    in_polynomial place [] s = refl
    in_polynomial place (t ∷ ts) s =
        let b = int_lt t.1 (pos 0) in
        let n = unsigned_abs t.1 in
        let here = at_front whole place (front b ++ term_text names n t.0) (terms_text names ts) s in
        let first = grammar.factors (minus_if b place (lead_at names (place + length (front b)) n t.0)) (tail_at names (place + length (front b)) n t.0) in
        let rest = sums_tree (sums_at names (place + length (front b ++ term_text names n t.0)) ts) in
        ap (map (letters whole)) (all_summed (product_tree first) rest)
        ∙ map-append (letters whole) (all_in (product_tree first)) (all_in_addends rest)
        ∙ (λ i. in_term b place (place + length (front b)) n t.0 (at_behind whole place (front b) (term_text names n t.0) here) i
        ++ in_sums (place + length (front b ++ term_text names n t.0)) ts (at_behind whole place (front b ++ term_text names n t.0) (terms_text names ts) s) i)
