-- The tokens of texts that are joined.
use Rattle.std.proofs.Common.{ℕ, ◌+◌, ◌≡◌, refl, sym, ap, subst, ◌∙◌, Bool, true, false, ◌&&◌, ◌||◌, List, [], ◌∷◌, ◌++◌, append_assoc, length, length-append, Some, arith}
use Rattle.std.specs.Prelude.{◌==◌}
use Rattle.std.specs.List.{list_all}
use Rattle.std.proofs.lemmas.List.Folds.{list_all-append}
use Rattle.std.proofs.lemmas.Bool.{and_from}
use Rattle.qe_token.specs.declared.token.Token.{Token}
use Rattle.qe_token.specs.declared.token.Located.{Located}
use Rattle.qe_token.specs.Bytes.{is_blank, is_digit, is_letter, is_name_byte, begins}
use Rattle.qe_token.specs.Tokens.{AreBlanks, AreTokens, Spells, extends, makes_relation, goes_on}
use Rattle.qe_syntax.specs.Grammar.{Occurrence, tokens_of, with_end}
use Rattle.qe_syntax.proofs.Clean.{Fits, AllFit}

-- From this place on, the bytes are the tokens of these occurrences, and no number among them is too great.
pub record Reads (place : ℕ) (bytes : List ℕ) (ms : List Occurrence) : Type 0 where
  pub tokens : List Located
  pub are : AreTokens place bytes tokens
  pub spelled : tokens_of ms ≡ with_end tokens
  pub fit : AllFit ms

-- ---- one token, and blanks

blanks_before : (place : ℕ) (before rest : List ℕ) (ts : List Located) → AreBlanks before → AreTokens (place + length before) rest ts → AreTokens place (before ++ rest) ts
blanks_before place before rest [] h a = list_all-append is_blank before rest ∙ and_from (list_all is_blank before) (list_all is_blank rest) h a
blanks_before place before rest (t ∷ ts) h (blanks, word, more, e, b, p, s, g, a) = (
  before ++ blanks,
  word,
  more,
  ap (λ bs. before ++ bs) e ∙ sym (append_assoc before blanks (word ++ more)),
  list_all-append is_blank before blanks ∙ and_from (list_all is_blank before) (list_all is_blank blanks) h b,
  omega (arith, length-append before blanks, p),
  s,
  g,
  a,
)

pub reads_blanks : (place : ℕ) (before rest : List ℕ) (ms : List Occurrence) → AreBlanks before → Reads (place + length before) rest ms → Reads place (before ++ rest) ms
reads_blanks place before rest ms h r = record { tokens = r.tokens; are = blanks_before place before rest r.tokens h r.are; spelled = r.spelled; fit = r.fit }

pub reads_token : (place : ℕ) (word rest : List ℕ) (m : Occurrence) (ms : List Occurrence) (t : Token) → m.token ≡ Some t → Fits m → Spells place word t → begins (goes_on word) rest ≡ false
    → Reads (place + length word) rest ms → Reads place (word ++ rest) (m ∷ ms)
reads_token place word rest m ms t is fits spells ends r = record {
  tokens = record { token = t; place = place } ∷ r.tokens;
  are = ([], word, rest, refl, refl, omega arith, spells, ends, r.are);
  spelled = (λ i. is i ∷ r.spelled i);
  fit = (fits, r.fit);
}

-- ---- what may follow

pub or_no : (x y : Bool) → (x || y) ≡ false → (x ≡ false) × (y ≡ false)
or_no true y h = absurd (cc)
or_no false y h = (refl, h)

no_or : (x y : Bool) → x ≡ false → y ≡ false → (x || y) ≡ false
no_or true y h k = absurd (cc)
no_or false y h k = k

no_and : (x y : Bool) → y ≡ false → (x && y) ≡ false
no_and true y h = h
no_and false y h = refl

-- the bytes that may make a token longer
abbrev pub may_go_on : ℕ → Bool
may_go_on b = is_name_byte b || (b == 61 || b == 62)

-- The bytes do not go on with any token.
abbrev pub Parts : List ℕ → Type 0
Parts rest = begins may_go_on rest ≡ false

extends_not : (a b : ℕ) → is_name_byte b ≡ false → extends a b ≡ false
extends_not a b h =
    let d = or_no (is_digit b) (b == 95) (or_no (is_letter b) (is_digit b || b == 95) h).1 in
    no_or (is_letter a && is_name_byte b) (is_digit a && is_digit b) (no_and (is_letter a) (is_name_byte b) h) (no_and (is_digit a) (is_digit b) d.0)

pairs_not : (a b : ℕ) → (b == 61 || b == 62) ≡ false → makes_relation a b ≡ false
pairs_not a b h =
    no_or (a == 60 && (b == 61 || b == 62)) (a == 62 && b == 61) (no_and (a == 60) (b == 61 || b == 62) h) (no_and (a == 62) (b == 61) (or_no (b == 61) (b == 62) h).0)

stays : (word : List ℕ) (b : ℕ) → may_go_on b ≡ false → goes_on word b ≡ false
stays [] b h = refl
stays (a ∷ []) b h = let p = or_no (is_name_byte b) (b == 61 || b == 62) h in no_or (makes_relation a b) (extends a b) (pairs_not a b p.1) (extends_not a b p.0)
stays (a ∷ c ∷ word) b h = extends_not a b (or_no (is_name_byte b) (b == 61 || b == 62) h).0

pub ends_before : (word rest : List ℕ) → Parts rest → begins (goes_on word) rest ≡ false
ends_before word [] h = refl
ends_before word (b ∷ rest) h = stays word b h

-- ---- pieces of a text: what stands behind them is read as it is

-- The text at this place is the tokens of occurrences, which are put before those of what follows, if this parts from it.
pub record Open (place : ℕ) (text : List ℕ) (put : List Occurrence → List Occurrence) : Type 0 where
  pub reads : (rest : List ℕ) (ms : List Occurrence) → Parts rest → Reads (place + length text) rest ms → Reads place (text ++ rest) (put ms)

-- The same whatever follows.
pub record Closed (place : ℕ) (text : List ℕ) (put : List Occurrence → List Occurrence) : Type 0 where
  pub reads : (rest : List ℕ) (ms : List Occurrence) → Reads (place + length text) rest ms → Reads place (text ++ rest) (put ms)

pub opened : (place : ℕ) (text : List ℕ) (put : List Occurrence → List Occurrence) → Closed place text put → Open place text put
opened place text put c = record { reads = λ rest ms p r. c.reads rest ms r }

-- no text
pub nothing : (place : ℕ) → Closed place [] (λ ms. ms)
nothing place = record { reads = λ rest ms r. (let e : place + 0 ≡ place = omega arith in subst (λ n. Reads n rest ms) e r) }

joined : (place : ℕ) (a b rest : List ℕ) (ms : List Occurrence) → Reads (place + length (a ++ b)) rest ms → Reads (place + length a + length b) rest ms
joined place a b rest ms r = let e : place + length (a ++ b) ≡ place + length a + length b = omega (arith, length-append a b) in subst (λ n. Reads n rest ms) e r

module _ (place : ℕ) (a b : List ℕ) (f g : List Occurrence → List Occurrence) where
  pub closed_closed : Closed place a f → Closed (place + length a) b g → Closed place (a ++ b) (λ ms. f (g ms))
  closed_closed c d = record { reads = λ rest ms r. subst (λ bs. Reads place bs (f (g ms))) (sym (append_assoc a b rest)) (c.reads (b ++ rest) (g ms) (d.reads rest ms (joined place a b rest ms r))) }

  pub closed_open : Closed place a f → Open (place + length a) b g → Open place (a ++ b) (λ ms. f (g ms))
  closed_open c d = record { reads = λ rest ms p r. subst (λ bs. Reads place bs (f (g ms))) (sym (append_assoc a b rest)) (c.reads (b ++ rest) (g ms) (d.reads rest ms p (joined place a b rest ms r))) }

  pub open_closed : Open place a f → ((rest : List ℕ) → Parts (b ++ rest)) → Closed (place + length a) b g → Closed place (a ++ b) (λ ms. f (g ms))
  open_closed c q d = record { reads = λ rest ms r. subst (λ bs. Reads place bs (f (g ms))) (sym (append_assoc a b rest)) (c.reads (b ++ rest) (g ms) (q rest) (d.reads rest ms (joined place a b rest ms r))) }

  pub open_open : Open place a f → ((rest : List ℕ) → Parts rest → Parts (b ++ rest)) → Open (place + length a) b g → Open place (a ++ b) (λ ms. f (g ms))
  open_open c q d = record { reads = λ rest ms p r. subst (λ bs. Reads place bs (f (g ms))) (sym (append_assoc a b rest)) (c.reads (b ++ rest) (g ms) (q rest p) (d.reads rest ms p (joined place a b rest ms r))) }

-- one token with blanks around it, which parts it from what follows
pub blank_token : (place : ℕ) (before word after : List ℕ) (m : Occurrence) (t : Token) → AreBlanks before → AreBlanks after → ((rest : List ℕ) → begins (goes_on word) (after ++ rest) ≡ false)
    → m.token ≡ Some t → Fits m → Spells (place + length before) word t → Closed place (before ++ (word ++ after)) (λ ms. m ∷ ms)
blank_token place before word after m t b a ends is fits spells = record {
  reads = λ rest ms r.
      let e : place + length (before ++ (word ++ after)) ≡ place + length before + length word + length after = omega (arith, length-append before (word ++ after), length-append word after) in
      let s : before ++ (word ++ (after ++ rest)) ≡ (before ++ (word ++ after)) ++ rest = ap (λ bs. before ++ bs) (sym (append_assoc word after rest)) ∙ sym (append_assoc before (word ++ after) rest) in
      let behind : Reads (place + length before + length word) (after ++ rest) ms = reads_blanks (place + length before + length word) after rest ms a (subst (λ n. Reads n rest ms) e r) in
      subst (λ bs. Reads place bs (m ∷ ms)) s (reads_blanks place before (word ++ (after ++ rest)) (m ∷ ms) b (reads_token (place + length before) word (after ++ rest) m ms t is fits spells (ends rest) behind));
}

-- one token alone
pub one_token : (place : ℕ) (word : List ℕ) (m : Occurrence) (t : Token) → m.token ≡ Some t → Fits m → Spells place word t → Open place word (λ ms. m ∷ ms)
one_token place word m t is fits spells = record { reads = λ rest ms p r. reads_token place word rest m ms t is fits spells (ends_before word rest p) r }
