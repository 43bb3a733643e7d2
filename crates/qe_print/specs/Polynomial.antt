-- The text of a polynomial, where a list of names gives each variable its name, at its number.
use Rattle.std.specs.Prelude.{ℕ, pos, List, [], ◌∷◌, ◌++◌, ◌==◌, ◌≡◌, if◌then◌else◌, int_lt, unsigned_abs, codes, decimal, slice_get, unwrap_or, Result, OnOk, String}
use Rattle.std.specs.String.{string_bytes}
use Rattle.qe_poly.specs.declared.monomial.Power.{Power}
use Rattle.qe_poly.specs.Monomial.{Monomial}
use Rattle.qe_poly.specs.Polynomial.{Polynomial}

-- where memory suffices, the text is put behind the old one
abbrev pub Appends : {A E Z : Type 0} → Result A E → String Z → String Z → List ℕ → Type 0
Appends result old new text = OnOk result (string_bytes new ≡ string_bytes old ++ text)

-- the name of a variable, and no text where it has none
abbrev pub name_of : List (List ℕ) → ℕ → List ℕ
name_of names x = unwrap_or (slice_get names x) []

-- `x`, or `x^3`
abbrev pub power_text : List (List ℕ) → Power → List ℕ
power_text names a = name_of names a.var.0 ++ (if a.exponent == 1 then [] else codes "^" ++ decimal a.exponent)

-- each power with a `*` before it
abbrev pub factors_text : List (List ℕ) → Monomial → List ℕ
factors_text names [] = []
factors_text names (a ∷ m) = codes "*" ++ power_text names a ++ factors_text names m

-- the magnitude and the powers, joined by `*`; a magnitude of 1 is left out where powers follow
abbrev pub term_text : List (List ℕ) → ℕ → Monomial → List ℕ
term_text names n [] = decimal n
term_text names n (a ∷ m) = (if n == 1 then [] else decimal n ++ codes "*") ++ power_text names a ++ factors_text names m

-- each term with ` + ` or ` - ` before it
abbrev pub terms_text : List (List ℕ) → Polynomial → List ℕ
terms_text names [] = []
terms_text names (t ∷ ts) = (if int_lt t.1 (pos 0) then codes " - " else codes " + ") ++ term_text names (unsigned_abs t.1) t.0 ++ terms_text names ts

-- the terms in order, and `0` where there are none
abbrev pub polynomial_text : List (List ℕ) → Polynomial → List ℕ
polynomial_text names [] = codes "0"
polynomial_text names (t ∷ ts) = (if int_lt t.1 (pos 0) then codes "-" else []) ++ term_text names (unsigned_abs t.1) t.0 ++ terms_text names ts
