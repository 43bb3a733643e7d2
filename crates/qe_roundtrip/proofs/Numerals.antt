-- Numbers and names as tokens.
use Rattle.std.proofs.Common.{ℕ, ◌+◌, ◌-◌, ◌*◌, ◌/◌, ◌%◌, ◌^◌, ◌≡◌, ◌≢◌, ◌<◌, ◌≤◌, refl, sym, ap, ◌∙◌, Bool, true, false, List, [], ◌∷◌, ◌++◌, length, Option, Some, min, arith}
use Rattle.std.specs.Prelude.{IsTrue, fold, codes, decimal}
use Rattle.std.specs.List.{list_all}
use Rattle.std.proofs.Math.Nat.{min-eq_left}
use Rattle.std.proofs.lemmas.Bool.{le-ltb, and_from}
use Rattle.std.proofs.lemmas.Bool.Decides.{nat_tests}
use Rattle.std.proofs.lemmas.List.Folds.{list_all-append}
use Rattle.std.proofs.lemmas.Fmt.{decimal_by_steps_wide}
use Rattle.qe_token.specs.declared.token.Token.{Token}
use Rattle.qe_token.specs.declared.token.Token.TheVariants as token
use Rattle.qe_token.specs.Bytes.{is_digit, number_of}
use Rattle.qe_token.specs.Tokens.{IsWord, WordIs, Spells}
use Rattle.qe_syntax.specs.Grammar.{no_number, literal, exponent, figure}
use Rattle.qe_roundtrip.proofs.Pieces.{Open, one_token}

-- ---- what the digits of a number are

pub record AreDigitsOf (n : ℕ) (ds : List ℕ) : Type 0 where
  pub some : ds ≢ []
  pub digits : IsTrue (list_all is_digit ds)
  pub value : number_of ds ≡ n

last_digit : (d : ℕ) → d < 10 → is_digit (48 + d) ≡ true
last_digit d h = grind (arith, nat_tests)

fold_last : (ds : List ℕ) (m c : ℕ) → fold (λ n d. 10 * n + (d - 48)) m (ds ++ c ∷ []) ≡ 10 * fold (λ n d. 10 * n + (d - 48)) m ds + (c - 48)
fold_last [] m c = refl
fold_last (d ∷ ds) m c = fold_last ds (10 * m + (d - 48)) c

not_empty : (ds : List ℕ) (c : ℕ) → ds ++ c ∷ [] ≡ [] → ⊥
not_empty [] c e = absurd (cc)
not_empty (d ∷ ds) c e = absurd (cc)

one_digit : (n : ℕ) → n < 10 → AreDigitsOf n ((48 + n) ∷ [])
one_digit n h = record {
  some = λ e. absurd (cc);
  digits = and_from (is_digit (48 + n)) true (last_digit n h) refl;
  value = (let e : 10 * 0 + (48 + n - 48) ≡ n = omega arith in e);
}

more_digits : (n : ℕ) (ds : List ℕ) → 10 ≤ n → AreDigitsOf (n / 10) ds → AreDigitsOf n (ds ++ ((48 + n % 10) ∷ []))
more_digits n ds h r =
    let small : n % 10 < 10 = omega arith in
    let whole : 10 * (n / 10) + (48 + n % 10 - 48) ≡ n = omega arith in
    record {
      some = not_empty ds (48 + n % 10);
      digits = list_all-append is_digit ds ((48 + n % 10) ∷ []) ∙ and_from (list_all is_digit ds) (list_all is_digit ((48 + n % 10) ∷ [])) r.digits (and_from (is_digit (48 + n % 10)) true (last_digit (n % 10) small) refl);
      value = fold_last ds 0 (48 + n % 10) ∙ ap (λ m. 10 * m + (48 + n % 10 - 48)) r.value ∙ whole;
    }

pub digits_of : (n : ℕ) → n ≤ 2 ^ 127 - 1 → AreDigitsOf n (decimal n)
digits_of n h = let low : n < 10 ^ 64 = omega arith in decimal_by_steps_wide AreDigitsOf one_digit more_digits n low

-- ---- as tokens

number_spells : (place n : ℕ) → n ≤ 2 ^ 127 - 1 → Spells place (decimal n) (token.Number n)
number_spells place n h =
    let d = digits_of n h in
    let low : n ≤ 2 ^ 127 = omega arith in
    (d.some, d.digits, sym (ap (λ m. min m (2 ^ 127)) d.value ∙ min-eq_left low))

pub literal_opens : (place n : ℕ) (begins : Bool) → n ≤ 2 ^ 127 - 1 → Open place (decimal n) (λ ms. figure n literal begins ∷ ms)
literal_opens place n begins h = one_token place (decimal n) (figure n literal begins) (token.Number n) refl (le-ltb (2 ^ 127 - 1) n h, refl) (number_spells place n h)

pub zero_opens : (place : ℕ) (begins : Bool) → Open place (codes "0") (λ ms. figure 0 literal begins ∷ ms)
zero_opens place begins = one_token place (codes "0") (figure 0 literal begins) (token.Number 0) refl (refl, refl) (λ e. absurd (cc), refl, refl)

pub exponent_opens : (place n : ℕ) → n ≤ 65535 → Open place (decimal n) (λ ms. figure n (exponent true) false ∷ ms)
exponent_opens place n h = let wide : n ≤ 2 ^ 127 - 1 = omega arith in one_token place (decimal n) (figure n (exponent true) false) (token.Number n) refl (refl, le-ltb 65535 n h) (number_spells place n wide)

-- a word that has no meaning of its own
pub record IsName (w : List ℕ) : Type 0 where
  pub word : IsWord w
  pub other : (t : Token) → WordIs w t → ⊥

pub name_opens : (place : ℕ) (w : List ℕ) (opens : Option ℕ) (begins : Bool) → IsName w
    → Open place w (λ ms. record { token = Some (token.Name (record { start = place; end = place + length w })); opens = opens; role = no_number; begins = begins } ∷ ms)
name_opens place w opens begins h =
    one_token place w (record { token = Some (token.Name (record { start = place; end = place + length w })); opens = opens; role = no_number; begins = begins })
    (token.Name (record { start = place; end = place + length w })) refl (refl, refl) (h.word, h.other, refl, refl)
