-- The tokens of a text without a fault pass no limit.
use Rattle.std.proofs.Common.{ℕ, ◌≡◌, refl, sym, ap, subst, ◌∙◌, Bool, true, false, List, [], ◌∷◌, ◌++◌, nat_le, Option, Some, None}
use Rattle.std.specs.Prelude.{if◌then◌else◌}
use Rattle.qe_token.specs.declared.token.Located.{Located}
use Rattle.qe_syntax.specs.declared.fault.TextFault.{TextFault}
use Rattle.qe_syntax.specs.declared.fault.TextFault.TheVariants.{Wide, Exponent, TooDeep, TooMany}
use Rattle.qe_syntax.specs.Tree.{FormulaTree}
use Rattle.qe_syntax.specs.Grammar.{Occurrence, input, tokens_of, with_end}
use Rattle.qe_syntax.specs.Faults.{Tok, is_wide, is_high_exponent, is_deep, passed_limit, counted, bare_tokens, head, IsText}
use Rattle.qe_syntax.specs.Reading.{IsClean}
use Rattle.qe_syntax.proofs.Spelling.{tokens_of-append}
use Rattle.qe_syntax.proofs.Within.{counted-append}
use Rattle.qe_syntax.proofs.First.{HasLimit}

-- the limits that a token may pass, in their order
abbrev pub in_order : Bool → Bool → Bool → Bool → Option TextFault
in_order wide high deep many = if wide then Some Wide else if high then Some Exponent else if deep then Some TooDeep else if many then Some TooMany else None

-- too many began before, where one more begins
abbrev pub is_full : Bool → ℕ → Bool
is_full begins begun = if begins then nat_le 65536 begun else false

pub record NoneOf (a b c d : Bool) : Type 0 where
  pub wide : a ≡ false
  pub high : b ≡ false
  pub deep : c ≡ false
  pub many : d ≡ false

pub none_of : (a b c d : Bool) → in_order a b c d ≡ None → NoneOf a b c d
none_of true b c d e = absurd (cc)
none_of false true c d e = absurd (cc)
none_of false false true d e = absurd (cc)
none_of false false false true e = absurd (cc)
none_of false false false false e = record { wide = refl; high = refl; deep = refl; many = refl }

pub of_none : (a b c d : Bool) → a ≡ false → b ≡ false → c ≡ false → d ≡ false → in_order a b c d ≡ None
of_none a b c d h i j k = (λ l. in_order (h l) (i l) (j l) (k l))

-- where each of them is refused, no limit is passed
refused : (a b c d : Bool) → (in_order a b c d ≡ Some Wide → ⊥) → (in_order a b c d ≡ Some Exponent → ⊥) → (in_order a b c d ≡ Some TooDeep → ⊥) → (in_order a b c d ≡ Some TooMany → ⊥) → in_order a b c d ≡ None
refused true b c d w x y z = absurd (w refl)
refused false true c d w x y z = absurd (x refl)
refused false false true d w x y z = absurd (y refl)
refused false false false true w x y z = absurd (z refl)
refused false false false false w x y z = refl

-- ---- the tokens of a text without a fault

-- the tokens before one, and those from it on
pub record Cut (tokens : List Located) (ts : List Tok) (t : Tok) : Type 0 where
  pub before : List Located
  pub after : List Located
  pub stands : tokens ≡ before ++ after
  pub before_are : bare_tokens before ≡ ts
  pub next_is : head after ≡ t

nothing_left : (ts : List Tok) (t : Tok) (us : List Tok) → [] ≡ ts ++ t ∷ us → ⊥
nothing_left [] t us e = absurd cc
nothing_left (x ∷ ts) t us e = absurd cc

pub cut : (tokens : List Located) (ts : List Tok) (t : Tok) (us : List Tok) → with_end tokens ≡ ts ++ t ∷ us → Cut tokens ts t
cut [] [] t us e = record { before = []; after = []; stands = refl; before_are = refl; next_is = let f : None ≡ t = cc in f }
cut (l ∷ ls) [] t us e = record { before = []; after = l ∷ ls; stands = refl; before_are = refl; next_is = let f : Some l.token ≡ t = cc in f }
cut [] (x ∷ ts) t us e = absurd (nothing_left ts t us (let f : [] ≡ ts ++ t ∷ us = cc in f))
cut (l ∷ ls) (x ∷ ts) t us e =
    let f : with_end ls ≡ ts ++ t ∷ us = cc in
    let g : Some l.token ≡ x = cc in
    let w = cut ls ts t us f in
    record { before = l ∷ w.before; after = w.after; stands = ap (λ (y : List Located). l ∷ y) w.stands; before_are = ap (λ (y : List Tok). Some l.token ∷ y) w.before_are ∙ ap (λ (y : Tok). y ∷ ts) g; next_is = w.next_is }

module _ (tokens : List Located) (of : FormulaTree) (t : IsText tokens of) where
  push : (ms rest : List Occurrence) (m : Occurrence) → (ms ++ m ∷ []) ++ rest ≡ ms ++ m ∷ rest
  push [] rest m = refl
  push (x ∷ ms) rest m = ap (λ (y : List Occurrence). x ∷ y) (push ms rest m)

  clean_rest : (ms rest : List Occurrence) → input t.derived ≡ ms ++ rest → IsClean (counted 0 ms) rest
  clean_rest ms [] e = tt
  clean_rest ms (m ∷ rest) e =
      let c = cut tokens (tokens_of ms) m.token (tokens_of rest) (sym t.spelled ∙ ap tokens_of e ∙ tokens_of-append ms (m ∷ rest)) in
      let mark : (g : TextFault) → passed_limit (counted 0 ms) m ≡ Some g → HasLimit (bare_tokens c.before) (head c.after) g = λ g v. (t.derived, ms, m, rest, e, sym c.before_are, sym c.next_is, v) in (
        refused (is_wide m.token m.role) (is_high_exponent m.token m.role) (is_deep m.opens) (is_full m.begins (counted 0 ms))
            (λ v. t.no_fault c.before c.after Wide c.stands (mark Wide v)) (λ v. t.no_fault c.before c.after Exponent c.stands (mark Exponent v))
            (λ v. t.no_fault c.before c.after TooDeep c.stands (mark TooDeep v)) (λ v. t.no_fault c.before c.after TooMany c.stands (mark TooMany v)),
        subst (λ n. IsClean n rest) (counted-append 0 ms (m ∷ [])) (clean_rest (ms ++ m ∷ []) rest (e ∙ sym (push ms rest m))),
      )

  pub clean_text : IsClean 0 (input t.derived)
  clean_text = clean_rest [] (input t.derived) refl

-- ---- numbers that fit

-- the number of a token, if it has one, is not too great
abbrev pub Fits : Occurrence → Type 0
Fits m = (is_wide m.token m.role ≡ false) × (is_high_exponent m.token m.role ≡ false)

abbrev pub AllFit : List Occurrence → Type 0
AllFit [] = Unit {0}
AllFit (m ∷ ms) = Fits m × AllFit ms

pub clean_fits : (begun : ℕ) (ms : List Occurrence) → IsClean begun ms → AllFit ms
clean_fits begun [] h = tt
clean_fits begun (m ∷ ms) h =
    let n = none_of (is_wide m.token m.role) (is_high_exponent m.token m.role) (is_deep m.opens) (is_full m.begins begun) h.0 in
    ((n.wide, n.high), clean_fits (counted begun (m ∷ [])) ms h.1)
