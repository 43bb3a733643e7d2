-- The bytes of a token have one token.
use Rattle.std.proofs.Common.{ℕ, ◌+◌, ◌^◌, ◌≡◌, ◌≢◌, ◌⊎◌, inl, inr, ◌∙◌, sym, ap, subst, refl, Bool, true, false, ◌&&◌, ◌||◌, List, [], ◌∷◌, length, min, arith}
use Rattle.std.proofs.lemmas.Bool.{and_parts, and_from, or_cases, or_left, or_right, or_from, ne_eqb, cond_both, false_from_ne_true}
use Rattle.std.proofs.lemmas.Bool.Decides.{nat_tests}
use Rattle.std.proofs.lemmas.Slice.Eq.{bytes_eq-Decides}
use Rattle.std.specs.Prelude.{IsTrue, if◌then◌else◌, ◌==◌, codes}
use Rattle.std.specs.List.{list_all, list_any}
use Rattle.std.specs.Str.{bytes_eq}
use Rattle.qe_token.specs.declared.token.Name.{Name}
use Rattle.qe_token.specs.declared.token.Relation.{Relation}
use Rattle.qe_token.specs.declared.token.Relation.TheVariants.{Equal, NotEqual, Less, LessOrEqual, Greater, GreaterOrEqual}
use Rattle.qe_token.specs.declared.token.Token.{Token}
use Rattle.qe_token.specs.declared.token.Token.TheVariants as token
use Rattle.qe_token.specs.Bytes.{is_blank, is_digit, is_letter, is_name_byte, is_sign, begins, number_of}
use Rattle.qe_token.specs.Tokens.{WordIs, IsUnknown, Spells, extends, relation_text}
use Rattle.qe_token.specs.Scanning.{IsRun, look, reserved, signs, word_token, sign_token, token_of}
use Rattle.qe_token.proofs.Runs.{IsPair, no_pair}

-- ---- tables

abbrev Each : {X : Type 0} → (X → Type 0) → List X → Type 0
Each P [] = Unit {0}
Each P (x ∷ xs) = P x × Each P xs

abbrev is_entry : List ℕ → List (List ℕ × Token) → Bool
is_entry text entries = list_any (λ e. bytes_eq text e.0) entries

-- what holds where the word is that of an entry, and where it is that of none
look_gives : (P : Token → Type 0) (word : List ℕ) (entries : List (List ℕ × Token)) (default : Token) → Each (λ e. word ≡ e.0 → P e.1) entries → (((text : List ℕ) → is_entry text entries ≡ true → word ≢ text) → P default) → P (look word entries default)
look_gives P word [] default h k = k (λ text m. absurd (cc))
look_gives P word (e ∷ es) default h k =
    cond_both (bytes_eq word e.0) e.1 (look word es default) P
    (λ t. h.0 ((bytes_eq-Decides word e.0).0 t))
    (λ f. look_gives P word es default h.1 (λ n. k (λ text m. beside f n text (or_cases (bytes_eq text e.0) (is_entry text es) m))))
  where
    beside : bytes_eq word e.0 ≡ false → ((text : List ℕ) → is_entry text es ≡ true → word ≢ text) → (text : List ℕ) → (bytes_eq text e.0 ≡ true) ⊎ (is_entry text es ≡ true) → word ≢ text
    beside f n text (inl m) q = let same = (bytes_eq-Decides word e.0).1 (q ∙ (bytes_eq-Decides text e.0).0 m) in absurd (cc)
    beside f n text (inr m) q = n text m q

look_lacks : (word : List ℕ) (entries : List (List ℕ × Token)) (default : Token) → Each (λ e. word ≢ e.0) entries → look word entries default ≡ default
look_lacks word [] default n = refl
look_lacks word (e ∷ es) default n =
    let f = false_from_ne_true (bytes_eq word e.0) (λ t. n.0 ((bytes_eq-Decides word e.0).0 t)) in
    rw f (look_lacks word es default n.1)

-- ---- the bytes are those of the token

all_weaken : (p q : ℕ → Bool) (xs : List ℕ) → ((b : ℕ) → p b ≡ true → q b ≡ true) → IsTrue (list_all p xs) → IsTrue (list_all q xs)
all_weaken p q [] k h = refl
all_weaken p q (x ∷ xs) k h = let parts = and_parts (p x) (list_all p xs) h in and_from (q x) (list_all q xs) (k x parts.0) (all_weaken p q xs k parts.1)

extends_word : (a b : ℕ) → extends a b ≡ true → is_name_byte b ≡ true
extends_word a b h = by (or_cases (is_letter a && is_name_byte b) (is_digit a && is_digit b) h)
  where
    by : (is_letter a && is_name_byte b ≡ true) ⊎ (is_digit a && is_digit b ≡ true) → is_name_byte b ≡ true
    by (inl k) = (and_parts (is_letter a) (is_name_byte b) k).1
    by (inr k) = let d = (and_parts (is_digit a) (is_digit b) k).1 in or_right (is_letter b) (is_digit b || b == 95) (or_left (is_digit b) (b == 95) d)

extends_digits : (a b : ℕ) → is_letter a ≡ false → extends a b ≡ true → is_digit b ≡ true
extends_digits a b n h = by (or_cases (is_letter a && is_name_byte b) (is_digit a && is_digit b) h)
  where
    by : (is_letter a && is_name_byte b ≡ true) ⊎ (is_digit a && is_digit b ≡ true) → is_digit b ≡ true
    by (inl k) = let l = (and_parts (is_letter a) (is_name_byte b) k).0 in absurd (cc)
    by (inr k) = (and_parts (is_digit a) (is_digit b) k).1

-- a letter or a digit goes on by itself
self_extends : (a : ℕ) → (is_letter a ≡ true) ⊎ (is_digit a ≡ true) → extends a a ≡ true
self_extends a (inl h) = or_left (is_letter a && is_name_byte a) (is_digit a && is_digit a) (and_from (is_letter a) (is_name_byte a) h (or_left (is_letter a) (is_digit a || a == 95) h))
self_extends a (inr h) = or_right (is_letter a && is_name_byte a) (is_digit a && is_digit a) (and_from (is_digit a) (is_digit a) h h)

extended : (a : ℕ) (more : List ℕ) → (is_letter a ≡ true) ⊎ (is_digit a ≡ true) → IsTrue (list_all (extends a) more) ⊎ IsPair (a ∷ more) → IsTrue (list_all (extends a) more)
extended a more k (inl h) = h
extended a more k (inr h) = absurd (no_pair a a more h (self_extends a k))

module _ (place a : ℕ) (more : List ℕ) (run : IsRun (a ∷ more)) where
  not_reserved : ((text : List ℕ) → is_entry text reserved ≡ true → a ∷ more ≢ text) → (t : Token) → WordIs (a ∷ more) t → ⊥
  not_reserved n token.True e = n _ refl e
  not_reserved n token.False e = n _ refl e
  not_reserved n token.Not e = n _ refl e
  not_reserved n token.And e = n _ refl e
  not_reserved n token.Or e = n _ refl e
  not_reserved n token.Implies e = n _ refl e
  not_reserved n token.Iff e = n _ refl e
  not_reserved n token.Ex e = n _ refl e
  not_reserved n token.All e = n _ refl e
  not_reserved n token.Other (inl e) = n _ refl e
  not_reserved n token.Other (inr (inl e)) = n _ refl e
  not_reserved n token.Other (inr (inr e)) = n _ refl e
  not_reserved n t e = absurd e

  word_spells : is_letter a ≡ true → Spells place (a ∷ more) (word_token place (a ∷ more))
  word_spells h =
      let rest = all_weaken (extends a) is_name_byte more (extends_word a) (extended a more (inl h) run.1) in
      let first = or_left (is_letter a) (is_digit a || a == 95) h in
      look_gives (Spells place (a ∷ more)) (a ∷ more) reserved _
      (λ e. e, (λ e. e, (λ e. e, (λ e. e, (λ e. e, (λ e. e, (λ e. e, (λ e. e, (λ e. e, (λ e. inl (inl e), (λ e. inl (inr (inl e)), (λ e. inl (inr (inr e)), tt))))))))))))
      (λ n. ((h, and_from (is_name_byte a) (list_all is_name_byte more) first rest), not_reserved n, refl, refl))

  digits_spell : is_letter a ≡ false → is_digit a ≡ true → Spells place (a ∷ more) (token.Number (min (number_of (a ∷ more)) (2 ^ 127)))
  digits_spell n h =
      let rest = all_weaken (extends a) is_digit more (λ b. extends_digits a b n) (extended a more (inr h) run.1) in
      ((λ e. absurd (cc)), and_from (is_digit a) (list_all is_digit more) h rest, refl)

  -- where no sign is the byte
  sign_is_none : (ss : List ℕ) → Each (λ s. a ≢ s) ss → list_any (λ s. s == a) ss ≡ false
  sign_is_none [] n = refl
  sign_is_none (s ∷ ss) n = or_from (s == a) (list_any (λ s. s == a) ss) (ne_eqb s a (λ e. n.0 (sym e))) (sign_is_none ss n.1)

  unknown_by : is_letter a ≡ false → is_digit a ≡ false → (more : List ℕ) → is_blank a ≡ false → IsTrue (list_all (extends a) more) ⊎ IsPair (a ∷ more) → ((text : List ℕ) → is_entry text (signs place) ≡ true → a ∷ more ≢ text) → IsUnknown (a ∷ more)
  unknown_by l d [] k (inl h) n =
      let bar = λ (s : ℕ) (m : is_entry (s ∷ []) (signs place) ≡ true) (e : a ≡ s). n (s ∷ []) m (ap (λ b. b ∷ []) e) in
      (a, refl, k, l, d, sign_is_none (codes "[]().+-*^=<>") (bar 91 refl, (bar 93 refl, (bar 40 refl, (bar 41 refl, (bar 46 refl, (bar 43 refl, (bar 45 refl, (bar 42 refl, (bar 94 refl, (bar 61 refl, (bar 60 refl, (bar 62 refl, tt)))))))))))))
  unknown_by l d (c ∷ more) k (inl h) n =
      let goes : extends a c ≡ true = (and_parts (extends a c) (list_all (extends a) more) h).0 in
      let stops : extends a c ≡ false = rw (l, d) refl in
      absurd (cc)
  unknown_by l d more k (inr (inl e)) n = absurd (n _ refl e)
  unknown_by l d more k (inr (inr (inl e))) n = absurd (n _ refl e)
  unknown_by l d more k (inr (inr (inr e))) n = absurd (n _ refl e)

  sign_spells : is_letter a ≡ false → is_digit a ≡ false → Spells place (a ∷ more) (sign_token place (a ∷ more))
  sign_spells l d =
      let P = Spells place (a ∷ more) in
      look_gives P (a ∷ more) (signs place) token.Other
      (λ e. e, (λ e. e, (λ e. e, (λ e. e, (λ e. e, (λ e. (e, refl), (λ e. (e, refl), (λ e. (e, refl), (λ e. (e, refl), (λ e. (e, refl), (λ e. (e, refl), (λ e. (e, refl), (λ e. (e, refl), (λ e. (e, refl), (λ e. (e, refl), tt)))))))))))))))
      (λ n. inr (unknown_by l d more run.0 run.1 n))

  -- the bytes of a token spell the one that the scan finds
  pub spells : Spells place (a ∷ more) (token_of place (a ∷ more))
  spells =
      let w = a ∷ more in
      let number = token.Number (min (number_of w) (2 ^ 127)) in
      cond_both (is_letter a) (word_token place w) (if is_digit a then number else sign_token place w) (Spells place w)
      word_spells
      (λ l. cond_both (is_digit a) number (sign_token place w) (Spells place w) (digits_spell l) (sign_spells l))

-- ---- no other token is spelled by them

pub record IsTokenOf (place : ℕ) (word : List ℕ) (t : Token) : Type 0 where
  pub token : t ≡ token_of place word
  pub run : IsRun word
  pub some : word ≢ []

fixed : (place : ℕ) (word : List ℕ) (a : ℕ) (more : List ℕ) (t : Token) → word ≡ a ∷ more → t ≡ token_of place (a ∷ more) → IsRun (a ∷ more) → IsTokenOf place word t
fixed place word a more t e k r = record {
  token = k ∙ ap (token_of place) (sym e);
  run = subst IsRun (sym e) r;
  some = λ n. absurd (cc);
}

letter_no_blank : (a : ℕ) → is_letter a ≡ true → is_blank a ≡ false
letter_no_blank a h = grind (arith, nat_tests)

digit_no_blank : (a : ℕ) → is_digit a ≡ true → is_blank a ≡ false
digit_no_blank a h = grind (arith, nat_tests)

digit_no_letter : (a : ℕ) → is_digit a ≡ true → is_letter a ≡ false
digit_no_letter a h = grind (arith, nat_tests)

number_is : (place : ℕ) (word : List ℕ) (n : ℕ) → Spells place word (token.Number n) → IsTokenOf place word (token.Number n)
number_is place [] n h = absurd (h.0 refl)
number_is place (a ∷ more) n h =
    let parts = and_parts (is_digit a) (list_all is_digit more) h.1 in
    let l = digit_no_letter a parts.0 in
    record {
      token = rw (l, parts.0) (ap token.Number h.2);
      run = (digit_no_blank a parts.0, inl (all_weaken is_digit (extends a) more (λ b k. or_right (is_letter a && is_name_byte b) (is_digit a && is_digit b) (and_from (is_digit a) (is_digit b) parts.0 k)) parts.1));
      some = λ e. absurd (cc);
    }

name_is : (place : ℕ) (word : List ℕ) (name : Name) → Spells place word (token.Name name) → IsTokenOf place word (token.Name name)
name_is place [] name h = let e : false ≡ true = h.0.0 in absurd (cc)
name_is place (a ∷ more) name h =
    let l : is_letter a ≡ true = h.0.0 in
    let n = h.1 in
    let parts = and_parts (is_name_byte a) (list_all is_name_byte more) h.0.1 in
    let same : name ≡ record { start = place; end = place + length (a ∷ more) } = λ i. record { start = h.2 i; end = h.3 i } in
    record {
      token = rw l (ap token.Name same ∙ sym (look_lacks (a ∷ more) reserved _ (
        n token.True,
        (
          n token.False,
          (
            n token.Not,
            (
              n token.And,
              (
                n token.Or,
                (
                  n token.Implies,
                  (
                    n token.Iff,
                    (
                      n token.Ex,
                      (
                        n token.All,
                        (λ e. n token.Other (inl e), (λ e. n token.Other (inr (inl e)), (λ e. n token.Other (inr (inr e)), tt))),
                      ),
                    ),
                  ),
                ),
              ),
            ),
          ),
        ),
      )));
      run = (letter_no_blank a l, inl (all_weaken is_name_byte (extends a) more (λ b k. or_left (is_letter a && is_name_byte b) (is_digit a && is_digit b) (and_from (is_letter a) (is_name_byte b) l k)) parts.1));
      some = λ e. absurd (cc);
    }

unknown_is : (place : ℕ) (word : List ℕ) → IsUnknown word → IsTokenOf place word token.Other
unknown_is place word u =
    let b = u.0 in
    let apart = λ (text : List ℕ) (s : begins is_sign text ≡ true) (e : b ∷ [] ≡ text). no_sign text s e in
    fixed place word b [] token.Other u.1
    (rw (u.3, u.4) (sym (look_lacks (b ∷ []) (signs place) token.Other
    (apart _ refl, (apart _ refl, (apart _ refl, (apart _ refl, (apart _ refl, (apart _ refl, (apart _ refl, (apart _ refl, (apart _ refl, (apart _ refl, (apart _ refl, (apart _ refl, (apart _ refl, (apart _ refl, (apart _ refl, tt))))))))))))))))))
    (u.2, inl refl)
  where
    no_sign : (text : List ℕ) → begins is_sign text ≡ true → u.0 ∷ [] ≡ text → ⊥
    no_sign text s e = let k : is_sign u.0 ≡ true = ap (begins is_sign) e ∙ s in let n : is_sign u.0 ≡ false = u.5 in absurd (cc)

relation_is : (place : ℕ) (word : List ℕ) (r : Relation) → word ≡ relation_text r → IsTokenOf place word (token.Relation place r)
relation_is place word Equal e = fixed place word _ _ _ e refl (refl, inl refl)
relation_is place word NotEqual e = fixed place word _ _ _ e refl (refl, inr (inr (inl refl)))
relation_is place word Less e = fixed place word _ _ _ e refl (refl, inl refl)
relation_is place word LessOrEqual e = fixed place word _ _ _ e refl (refl, inr (inl refl))
relation_is place word Greater e = fixed place word _ _ _ e refl (refl, inl refl)
relation_is place word GreaterOrEqual e = fixed place word _ _ _ e refl (refl, inr (inr (inr refl)))

-- what bytes spell is the token that the scan finds
pub spelled : (place : ℕ) (word : List ℕ) (t : Token) → Spells place word t → IsTokenOf place word t
spelled place word token.OpenBracket e = fixed place word _ _ _ e refl (refl, inl refl)
spelled place word token.CloseBracket e = fixed place word _ _ _ e refl (refl, inl refl)
spelled place word token.OpenParenthesis e = fixed place word _ _ _ e refl (refl, inl refl)
spelled place word token.CloseParenthesis e = fixed place word _ _ _ e refl (refl, inl refl)
spelled place word token.Dot e = fixed place word _ _ _ e refl (refl, inl refl)
spelled place word (token.Plus at) h = fixed place word _ _ _ h.0 (ap token.Plus h.1) (refl, inl refl)
spelled place word (token.Minus at) h = fixed place word _ _ _ h.0 (ap token.Minus h.1) (refl, inl refl)
spelled place word (token.Star at) h = fixed place word _ _ _ h.0 (ap token.Star h.1) (refl, inl refl)
spelled place word (token.Caret at) h = fixed place word _ _ _ h.0 (ap token.Caret h.1) (refl, inl refl)
spelled place word (token.Relation at r) h = subst (λ p. IsTokenOf place word (token.Relation p r)) (sym h.1) (relation_is place word r h.0)
spelled place word (token.Number n) h = number_is place word n h
spelled place word (token.Name name) h = name_is place word name h
spelled place word token.Other (inl (inl e)) = fixed place word _ _ _ e refl (refl, inl refl)
spelled place word token.Other (inl (inr (inl e))) = fixed place word _ _ _ e refl (refl, inl refl)
spelled place word token.Other (inl (inr (inr e))) = fixed place word _ _ _ e refl (refl, inl refl)
spelled place word token.Other (inr u) = unknown_is place word u
spelled place word token.True e = fixed place word _ _ _ e refl (refl, inl refl)
spelled place word token.False e = fixed place word _ _ _ e refl (refl, inl refl)
spelled place word token.Not e = fixed place word _ _ _ e refl (refl, inl refl)
spelled place word token.And e = fixed place word _ _ _ e refl (refl, inl refl)
spelled place word token.Or e = fixed place word _ _ _ e refl (refl, inl refl)
spelled place word token.Implies e = fixed place word _ _ _ e refl (refl, inl refl)
spelled place word token.Iff e = fixed place word _ _ _ e refl (refl, inl refl)
spelled place word token.Ex e = fixed place word _ _ _ e refl (refl, inl refl)
spelled place word token.All e = fixed place word _ _ _ e refl (refl, inl refl)
