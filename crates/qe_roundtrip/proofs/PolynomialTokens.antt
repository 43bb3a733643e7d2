-- The text of a polynomial is the tokens of its derivation.
use Rattle.std.proofs.Common.{ℕ, ◌+◌, ◌-◌, ◌^◌, ◌≡◌, ◌≤◌, refl, sym, ap, subst, ◌∙◌, Bool, true, false, List, [], ◌∷◌, ◌++◌, append_assoc, append-nil, length, pos, Some, None, arith}
use Rattle.std.specs.Prelude.{◌==◌, if◌then◌else◌, int_lt, unsigned_abs, codes, decimal}
use Rattle.std.specs.List.{AllByRecursion}
use Rattle.qe_token.specs.declared.token.Token.{Token}
use Rattle.qe_token.specs.declared.token.Token.TheVariants as token
use Rattle.qe_token.specs.Bytes.{begins}
use Rattle.qe_token.specs.Tokens.{Spells, goes_on}
use Rattle.qe_poly.specs.declared.monomial.Power.{Power}
use Rattle.qe_poly.specs.Monomial.{Monomial}
use Rattle.qe_poly.specs.Polynomial.{Term, Polynomial}
use Rattle.qe_print.specs.Polynomial.{name_of, power_text, factors_text, term_text, terms_text, polynomial_text}
use Rattle.qe_syntax.specs.Grammar as grammar
use Rattle.qe_syntax.specs.Grammar.{Occurrence, plain, opener, figure, literal, exponent, plus_or_minus}
use Rattle.qe_syntax.proofs.Clean.{Fits}
use Rattle.qe_roundtrip.proofs.Pieces.{Parts, Open, Closed, opened, nothing, closed_open, open_open, blank_token}
use Rattle.qe_roundtrip.proofs.Numerals.{IsName, literal_opens, zero_opens, exponent_opens, name_opens}
use Rattle.qe_roundtrip.proofs.Derived.{power_by, power_at, times_at, lead_by, tail_by, lead_at, tail_at, minus_if, joint, front, sums_at, poly_at}

-- ---- signs

-- a sign that nothing makes longer
pub bare_sign : (place : ℕ) (word : List ℕ) (m : Occurrence) (t : Token) → m.token ≡ Some t → Fits m → Spells place word t → ((b : ℕ) → goes_on word b ≡ false) → Closed place word (λ ms. m ∷ ms)
bare_sign place word m t is fits spells never =
    let e : place + 0 ≡ place = omega arith in
    subst (λ text. Closed place text (λ ms. m ∷ ms)) (append-nil word)
    (blank_token place [] word [] m t refl refl ends is fits (subst (λ n. Spells n word t) (sym e) spells))
  where
    ends : (rest : List ℕ) → begins (goes_on word) rest ≡ false
    ends [] = refl
    ends (b ∷ rest) = never b

star : (place : ℕ) → Closed place (codes "*") (λ ms. plain (token.Star place) ∷ ms)
star place = bare_sign place (codes "*") (plain (token.Star place)) (token.Star place) refl (refl, refl) (refl, refl) (λ b. refl)

caret : (place : ℕ) → Closed place (codes "^") (λ ms. plain (token.Caret place) ∷ ms)
caret place = bare_sign place (codes "^") (plain (token.Caret place)) (token.Caret place) refl (refl, refl) (refl, refl) (λ b. refl)

minus : (place depth : ℕ) (starts : Bool) → Closed place (codes "-") (λ ms. opener (token.Minus place) depth starts ∷ ms)
minus place depth starts = bare_sign place (codes "-") (opener (token.Minus place) depth starts) (token.Minus place) refl (refl, refl) (refl, refl) (λ b. refl)

joint_closes : (place : ℕ) (b : Bool) → Closed place (joint b) (λ ms. plain (plus_or_minus (place + 1) b) ∷ ms)
joint_closes place true = blank_token place (codes " ") (codes "-") (codes " ") (plain (token.Minus (place + 1))) (token.Minus (place + 1)) refl refl (λ rest. refl) refl (refl, refl) (refl, refl)
joint_closes place false = blank_token place (codes " ") (codes "+") (codes " ") (plain (token.Plus (place + 1))) (token.Plus (place + 1)) refl refl (λ rest. refl) refl (refl, refl) (refl, refl)

module _ (names : List (List ℕ)) where
  -- what is printed of a polynomial can be read
  pub record PowerPrints (a : Power) : Type 0 where
    pub name : IsName (name_of names a.var.0)
    pub low : a.exponent ≤ 65535

  pub record TermPrints (t : Term) : Type 0 where
    pub powers : AllByRecursion PowerPrints t.0
    pub fits : unsigned_abs t.1 ≤ 2 ^ 127 - 1

  -- ---- powers

  power_test : (place depth : ℕ) (starts b : Bool) (a : Power) → PowerPrints a
      → Open place (name_of names a.var.0 ++ (if b then [] else codes "^" ++ decimal a.exponent)) (grammar.power depth starts (power_by names b place a))
  power_test place depth starts true a h =
      subst (λ text. Open place text (grammar.power depth starts (power_by names true place a))) (sym (append-nil (name_of names a.var.0))) (name_opens place (name_of names a.var.0) None starts h.name)
  power_test place depth starts false a h =
      open_open _ _ _ _ _ (name_opens place (name_of names a.var.0) None starts h.name) (λ rest p. refl)
      (closed_open _ _ _ _ _ (caret (place + length (name_of names a.var.0))) (exponent_opens (place + length (name_of names a.var.0) + 1) a.exponent h.low))

  power_opens : (place depth : ℕ) (starts : Bool) (a : Power) → PowerPrints a → Open place (power_text names a) (grammar.power depth starts (power_at names place a))
  power_opens place depth starts a h = power_test place depth starts (a.exponent == 1) a h

  -- ---- later factors

  factors_part : (m : Monomial) (rest : List ℕ) → Parts rest → Parts (factors_text names m ++ rest)
  factors_part [] rest p = p
  factors_part (a ∷ m) rest p = refl

  factors_open : (place depth : ℕ) (m : Monomial) → AllByRecursion PowerPrints m → Open place (factors_text names m) (grammar.timeses depth (times_at names place m))
  factors_open place depth [] h = opened place [] (λ ms. ms) (nothing place)
  factors_open place depth (a ∷ m) h =
      open_open place (codes "*" ++ power_text names a) (factors_text names m) (λ ms. plain (token.Star place) ∷ grammar.power depth false (power_at names (place + 1) a) ms)
      (grammar.timeses depth (times_at names (place + length (codes "*" ++ power_text names a)) m))
      (closed_open place (codes "*") (power_text names a) (λ ms. plain (token.Star place) ∷ ms) (grammar.power depth false (power_at names (place + 1) a)) (star place) (power_opens (place + 1) depth false a h.0))
      (factors_part m) (factors_open (place + length (codes "*" ++ power_text names a)) depth m h.1)

  -- ---- terms

  module _ (place depth later n : ℕ) (starts : Bool) (fits : n ≤ 2 ^ 127 - 1) where
    lead_test : (b : Bool) (a : Power) (m : Monomial) → PowerPrints a → AllByRecursion PowerPrints m
        → Open place ((if b then [] else decimal n ++ codes "*") ++ power_text names a ++ factors_text names m) (λ ms. grammar.signed depth starts (lead_by names b place n a) (grammar.timeses later (tail_by names b place n a m) ms))
    lead_test true a m h k =
        open_open place (power_text names a) (factors_text names m) (grammar.power depth starts (power_at names place a)) (grammar.timeses later (times_at names (place + length (power_text names a)) m))
        (power_opens place depth starts a h) (factors_part m) (factors_open (place + length (power_text names a)) later m k)
    lead_test false a m h k =
        let e : decimal n ++ ((codes "*" ++ power_text names a) ++ factors_text names m) ≡ (decimal n ++ codes "*") ++ power_text names a ++ factors_text names m =
        sym (append_assoc (decimal n) (codes "*" ++ power_text names a) (factors_text names m)) ∙ ap (λ text. text ++ factors_text names m) (sym (append_assoc (decimal n) (codes "*") (power_text names a))) in
        subst (λ text. Open place text (λ ms. grammar.signed depth starts (lead_by names false place n a) (grammar.timeses later (tail_by names false place n a m) ms))) e
        (open_open place (decimal n) ((codes "*" ++ power_text names a) ++ factors_text names m) (λ ms. figure n literal starts ∷ ms) (grammar.timeses later (times_at names (place + length (decimal n)) (a ∷ m)))
        (literal_opens place n starts fits) (factors_part (a ∷ m)) (factors_open (place + length (decimal n)) later (a ∷ m) (h, k)))

    pub term_opens : (m : Monomial) → AllByRecursion PowerPrints m → Open place (term_text names n m) (λ ms. grammar.signed depth starts (lead_at names place n m) (grammar.timeses later (tail_at names place n m) ms))
    term_opens [] h = literal_opens place n starts fits
    term_opens (a ∷ m) h = lead_test (n == 1) a m h.0 h.1

  -- ---- sums

  terms_part : (ts : Polynomial) (rest : List ℕ) → Parts rest → Parts (terms_text names ts ++ rest)
  terms_part [] rest p = p
  terms_part (t ∷ ts) rest p = by_sign (int_lt t.1 (pos 0))
    where
      by_sign : (b : Bool) → Parts (((if b then codes " - " else codes " + ") ++ term_text names (unsigned_abs t.1) t.0 ++ terms_text names ts) ++ rest)
      by_sign true = refl
      by_sign false = refl

  sums_open : (place depth : ℕ) (ts : Polynomial) → AllByRecursion TermPrints ts → Open place (terms_text names ts) (grammar.sums depth (sums_at names place ts))
  sums_open place depth [] h = opened place [] (λ ms. ms) (nothing place)
  sums_open place depth (t ∷ ts) h =
      let b = int_lt t.1 (pos 0) in
      let n = unsigned_abs t.1 in
      let here = place + length (joint b) in
      let one : List Occurrence → List Occurrence = λ ms. grammar.signed depth false (lead_at names here n t.0) (grammar.timeses depth (tail_at names here n t.0) ms) in
      open_open place (joint b ++ term_text names n t.0) (terms_text names ts) (λ ms. plain (plus_or_minus (place + 1) b) ∷ one ms)
      (grammar.sums depth (sums_at names (place + length (joint b ++ term_text names n t.0)) ts))
      (closed_open place (joint b) (term_text names n t.0) (λ ms. plain (plus_or_minus (place + 1) b) ∷ ms) one (joint_closes place b) (term_opens here depth depth n false h.0.fits t.0 h.0.powers))
      (terms_part ts) (sums_open (place + length (joint b ++ term_text names n t.0)) depth ts h.1)

  -- ---- polynomials

  first_test : (place depth n : ℕ) (starts b : Bool) (m : Monomial) → AllByRecursion PowerPrints m → n ≤ 2 ^ 127 - 1
      → Open place (front b ++ term_text names n m) (λ ms. grammar.signed depth starts (minus_if b place (lead_at names (place + length (front b)) n m)) (grammar.timeses depth (tail_at names (place + length (front b)) n m) ms))
  first_test place depth n starts true m h fits =
      closed_open place (codes "-") (term_text names n m) (λ ms. opener (token.Minus place) depth starts ∷ ms)
      (λ ms. grammar.signed (depth + 1) false (lead_at names (place + 1) n m) (grammar.timeses depth (tail_at names (place + 1) n m) ms))
      (minus place depth starts) (term_opens (place + 1) (depth + 1) depth n false fits m h)
  first_test place depth n starts false m h fits =
      closed_open place [] (term_text names n m) (λ ms. ms) (λ ms. grammar.signed depth starts (lead_at names (place + 0) n m) (grammar.timeses depth (tail_at names (place + 0) n m) ms))
      (nothing place) (term_opens (place + 0) depth depth n starts fits m h)

  pub poly_opens : (place depth : ℕ) (starts : Bool) (p : Polynomial) → AllByRecursion TermPrints p → Open place (polynomial_text names p) (grammar.term depth starts (poly_at names place p))
  poly_opens place depth starts [] h = zero_opens place starts
  poly_opens place depth starts (t ∷ ts) h =
      let b = int_lt t.1 (pos 0) in
      let n = unsigned_abs t.1 in
      let here = place + length (front b) in
      open_open place (front b ++ term_text names n t.0) (terms_text names ts)
      (λ ms. grammar.signed depth starts (minus_if b place (lead_at names here n t.0)) (grammar.timeses depth (tail_at names here n t.0) ms))
      (grammar.sums depth (sums_at names (place + length (front b ++ term_text names n t.0)) ts))
      (first_test place depth n starts b t.0 h.0.powers h.0.fits) (terms_part ts) (sums_open (place + length (front b ++ term_text names n t.0)) depth ts h.1)
