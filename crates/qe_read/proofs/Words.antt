-- The names among the tokens of bytes: the letters of each are a word that has no meaning of its own, and so text, and there are no more of them than bytes.
use Rattle.std.proofs.Common.{ℕ, ◌+◌, ◌-◌, ◌≡◌, ◌<◌, ◌≤◌, refl, sym, ap, subst, ◌∙◌, List, [], ◌∷◌, ◌++◌, append_assoc, length, length-append, drop, true, leb, Some, arith}
use Rattle.std.specs.List.{AllByRecursion, list_all}
use Rattle.std.specs.Str.{IsUtf8, IsAscii}
use Rattle.std.proofs.Math.Seq.{take-append_seam, drop-append_seam}
use Rattle.std.proofs.lemmas.Bool.{le-leb}
use Rattle.std.proofs.lemmas.Bool.Decides.{nat_tests}
use Rattle.std.proofs.lemmas.Str.{IsUtf8-from_ascii}
use Rattle.std.proofs.lemmas.Str.Ascii.{IsAscii-nil, IsAscii-cons}
use Rattle.qe_ring.proofs.Bools.{both_hold}
use Rattle.qe_token.specs.declared.token.Token.{Token}
use Rattle.qe_token.specs.declared.token.Token.TheVariants as token
use Rattle.qe_token.specs.declared.token.Located.{Located}
use Rattle.qe_token.specs.declared.token.Name.{Name}
use Rattle.qe_token.specs.Bytes.{is_name_byte, is_letter, begins}
use Rattle.qe_token.specs.Tokens.{AreTokens, Spells, IsWord, WordIs}
use Rattle.qe_syntax.specs.Grammar.{with_end}
use Rattle.qe_read.specs.Names.{letters}
use Rattle.qe_read.proofs.Named.{name_in, named}

name_byte_ascii : (b : ℕ) → is_name_byte b ≡ true → b < 128
name_byte_ascii b h = grind (arith, nat_tests)

word_ascii : (word : List ℕ) → list_all is_name_byte word ≡ true → IsAscii word
word_ascii [] h = IsAscii-nil
word_ascii (b ∷ bs) h = let p = both_hold (is_name_byte b) (list_all is_name_byte bs) h in IsAscii-cons b bs (name_byte_ascii b p.0) (word_ascii bs p.1)

word_long : (word : List ℕ) → begins is_letter word ≡ true → 1 ≤ length word
word_long [] h = absurd (cc)
word_long (b ∷ bs) h = omega arith

-- the letters of a name that stands behind `front`
pub letters_at : (front word rest : List ℕ) (x : Name) → x.start ≡ length front → x.end ≡ x.start + length word → letters (front ++ (word ++ rest)) x ≡ word
letters_at front word rest x s e =
    let l : leb x.start x.end ≡ true = le-leb x.start x.end (omega arith) in
    let m : leb x.end (length (front ++ (word ++ rest))) ≡ true = le-leb x.end (length (front ++ (word ++ rest))) (omega (arith, length-append front (word ++ rest), length-append word rest)) in
    let n : x.end - x.start ≡ length word = omega arith in
    let d : drop x.start (front ++ (word ++ rest)) ≡ word ++ rest = ap (λ k. drop k (front ++ (word ++ rest))) s ∙ drop-append_seam front (word ++ rest) in
    rw (l, m, n, d) (take-append_seam word rest)

-- what holds of each word without a meaning of its own
module _ (P : List ℕ → Type 0) (of_word : (word : List ℕ) → IsWord word → ((t : Token) → WordIs word t → ⊥) → P word) where
  abbrev Is : List ℕ → Name → Type 0
  Is bytes x = P (letters bytes x)

  -- one token more: `named` are the names of the later tokens
  name_of_token : (bytes front word rest : List ℕ) (place : ℕ) (t : Token) (later : List Name) → bytes ≡ front ++ (word ++ rest) → place ≡ length front → Spells place word t
      → AllByRecursion (Is bytes) later × (length later ≤ length rest)
      → AllByRecursion (Is bytes) (name_in (Some t) ++ later) × (length (name_in (Some t) ++ later) ≤ length word + length rest)
  name_of_token bytes front word rest place (token.Name x) later b p s h =
      let w : letters bytes x ≡ word = ap (λ l. letters l x) b ∙ letters_at front word rest x (s.2 ∙ p) (s.3 ∙ ap (λ k. k + length word) (sym s.2)) in
      ((subst P (sym w) (of_word word s.0 s.1), h.0), (let l = word_long word s.0.0 in omega (arith, h.1, l)))
  name_of_token bytes front word rest place t later b p s h = (h.0, omega (arith, h.1))

  words : (bytes front left : List ℕ) (place : ℕ) (ts : List Located) → bytes ≡ front ++ left → place ≡ length front → AreTokens place left ts
      → AllByRecursion (Is bytes) (named (with_end ts)) × (length (named (with_end ts)) ≤ length left)
  words bytes front left place [] b p a = (tt, omega arith)
  words bytes front left place (t ∷ ts) b p (before, word, rest, l, k, q, s, g, a) =
      let behind : bytes ≡ (front ++ before) ++ (word ++ rest) = b ∙ ap (λ r. front ++ r) l ∙ sym (append_assoc front before (word ++ rest)) in
      let here : t.place ≡ length (front ++ before) = omega (arith, length-append front before) in
      let further : bytes ≡ ((front ++ before) ++ word) ++ rest = behind ∙ sym (append_assoc (front ++ before) word rest) in
      let there : t.place + length word ≡ length ((front ++ before) ++ word) = omega (arith, length-append (front ++ before) word) in
      let later = words bytes ((front ++ before) ++ word) rest (t.place + length word) ts further there a in
      let both = name_of_token bytes (front ++ before) word rest t.place t.token (named (with_end ts)) behind here s later in
      (both.0, omega (arith, both.1, ap length l, length-append before (word ++ rest), length-append word rest))

  -- of all bytes
  pub each_word : (bytes : List ℕ) (ts : List Located) → AreTokens 0 bytes ts → AllByRecursion (λ x. P (letters bytes x)) (named (with_end ts)) × (length (named (with_end ts)) ≤ length bytes)
  each_word bytes ts a = words bytes [] bytes 0 ts refl refl a

abbrev pub IsTextIn : List ℕ → Name → Type 0
IsTextIn bytes x = IsUtf8 (letters bytes x)

pub words_of : (bytes : List ℕ) (ts : List Located) → AreTokens 0 bytes ts → AllByRecursion (IsTextIn bytes) (named (with_end ts)) × (length (named (with_end ts)) ≤ length bytes)
words_of = each_word IsUtf8 (λ word is other. IsUtf8-from_ascii word (word_ascii word is.1))
