-- Bytes are split into tokens in one way only, which the scan finds.
use Rattle.std.proofs.Common.{ℕ, ◌+◌, ◌≡◌, ◌≤◌, ◌∙◌, sym, ap, subst, refl, true, false, List, [], ◌∷◌, ◌++◌, length, All, take, drop, ◌-◌, arith}
use Rattle.std.proofs.lemmas.Bool.{and_parts, and_from, cond_both}
use Rattle.std.proofs.lemmas.List.{append_assoc, append-nil, length-append}
use Rattle.std.proofs.lemmas.List.Elements.{All-cons, All-nil}
use Rattle.std.proofs.Math.Seq.{drop-append_seam, take-append_seam}
use Rattle.std.specs.Prelude.{if◌then◌else◌}
use Rattle.std.specs.List.{list_all}
use Rattle.qe_token.specs.declared.token.Token.{Token}
use Rattle.qe_token.specs.declared.token.Token.TheVariants as token
use Rattle.qe_token.specs.declared.token.Located.{Located}
use Rattle.qe_token.specs.Bytes.{is_blank, begins}
use Rattle.qe_token.specs.Tokens.{AreBlanks, Spells, goes_on, AreTokens, NameIsIn, IsWord}
use Rattle.qe_token.specs.Scanning.{IsRun, token_of, finished, scan}
use Rattle.qe_token.proofs.Runs.{run_begins, run_grows, run_goes_on}
use Rattle.qe_token.proofs.Spelled.{IsTokenOf, spells, spelled}

-- ---- what the scan finds are the tokens

plus_zero : (n : ℕ) → n ≡ n + 0
plus_zero n = omega arith

-- a token, and those of what follows it
first_token : (place a : ℕ) (more rest : List ℕ) (ts : List Located) → IsRun (a ∷ more) → begins (goes_on (a ∷ more)) rest ≡ false → AreTokens (place + length (a ∷ more)) rest ts → AreTokens place (a ∷ (more ++ rest)) (finished place (a ∷ more) ++ ts)
first_token place a more rest ts run stops h = ([], a ∷ more, rest, refl, refl, plus_zero place, spells place a more run, stops, h)

word_first : (word : List ℕ) (place : ℕ) (rest : List ℕ) (ts : List Located) → IsRun word → begins (goes_on word) rest ≡ false → AreTokens (place + length word) rest ts → AreTokens place (word ++ rest) (finished place word ++ ts)
word_first [] place rest ts run stops h = subst (λ p. AreTokens p rest ts) (sym (plus_zero place)) h
word_first (a ∷ more) place rest ts run stops h = first_token place a more rest ts run stops h

-- a blank before the tokens
blank_before : (place b : ℕ) (bytes : List ℕ) (ts : List Located) → is_blank b ≡ true → AreTokens (place + 1) bytes ts → AreTokens place (b ∷ bytes) ts
blank_before place b bytes [] k h = and_from (is_blank b) (list_all is_blank bytes) k h
blank_before place b bytes (t ∷ ts) k h =
    let at : t.place ≡ place + length (b ∷ h.0) = omega (arith, h.5) in
    (b ∷ h.0, h.1, h.2, ap (λ l. b ∷ l) h.3, and_from (is_blank b) (list_all is_blank h.0) k h.4, at, h.6, h.7, h.8)

pub found : (word : List ℕ) (place : ℕ) (bytes : List ℕ) → IsRun word → AreTokens place (word ++ bytes) (scan word place bytes)
found [] place [] run = refl
found (a ∷ more) place [] run = first_token place a more [] [] run refl refl
found word place (b ∷ bs) run =
    let end = place + length word in
    let grown = scan (word ++ b ∷ []) place bs in
    let blank = scan [] (end + 1) bs in
    let begun = scan (b ∷ []) end bs in
    cond_both (goes_on word b) grown (finished place word ++ (if is_blank b then blank else begun)) (AreTokens place (word ++ b ∷ bs))
    (λ g. subst (λ l. AreTokens place l grown) (append_assoc word (b ∷ []) bs) (found (word ++ b ∷ []) place bs (run_grows word b run g)))
    (λ g. word_first word place (b ∷ bs) (if is_blank b then blank else begun) run g
    (cond_both (is_blank b) blank begun (AreTokens end (b ∷ bs))
    (λ k. blank_before end b bs blank k (found [] (end + 1) bs tt))
    (λ k. found (b ∷ []) end bs (run_begins b k))))

-- ---- no others are

scan_blanks : (blanks : List ℕ) (place : ℕ) (bytes : List ℕ) → AreBlanks blanks → scan [] place (blanks ++ bytes) ≡ scan [] (place + length blanks) bytes
scan_blanks [] place bytes h = ap (λ p. scan [] p bytes) (plus_zero place)
scan_blanks (b ∷ bs) place bytes h =
    let parts = and_parts (is_blank b) (list_all is_blank bs) h in
    let at : place + 0 + 1 + length bs ≡ place + length (b ∷ bs) = omega arith in
    rw parts.0 (scan_blanks bs (place + 0 + 1) bytes parts.1 ∙ ap (λ p. scan [] p bytes) at)

scan_word : (a : ℕ) (done : List ℕ) (place : ℕ) (more bytes : List ℕ) → IsRun (a ∷ (done ++ more)) → scan (a ∷ done) place (more ++ bytes) ≡ scan (a ∷ (done ++ more)) place bytes
scan_word a done place [] bytes run = ap (λ l. scan (a ∷ l) place bytes) (sym (append-nil done))
scan_word a done place (b ∷ more) bytes run =
    let joined : (done ++ b ∷ []) ++ more ≡ done ++ b ∷ more = append_assoc done (b ∷ []) more in
    let goes = run_goes_on a done b more run in
    rw goes (scan_word a (done ++ b ∷ []) place more bytes (subst (λ l. IsRun (a ∷ l)) (sym joined) run) ∙ ap (λ l. scan (a ∷ l) place bytes) joined)

scan_end : (a : ℕ) (more : List ℕ) (place : ℕ) (bytes : List ℕ) → begins (goes_on (a ∷ more)) bytes ≡ false → scan (a ∷ more) place bytes ≡ finished place (a ∷ more) ++ scan [] (place + length (a ∷ more)) bytes
scan_end a more place [] h = refl
scan_end a more place (b ∷ bs) h = rw h (ap (λ p. finished place (a ∷ more) ++ (if is_blank b then scan [] (p + 1) bs else scan (b ∷ []) p bs)) (plus_zero (place + length (a ∷ more))))

scan_begins : (a place : ℕ) (bytes : List ℕ) → is_blank a ≡ false → scan [] place (a ∷ bytes) ≡ scan (a ∷ []) place bytes
scan_begins a place bytes h = rw h (ap (λ p. scan (a ∷ []) p bytes) (sym (plus_zero place)))

scan_token : (a place : ℕ) (more rest : List ℕ) → IsRun (a ∷ more) → begins (goes_on (a ∷ more)) rest ≡ false → scan [] place (a ∷ (more ++ rest)) ≡ finished place (a ∷ more) ++ scan [] (place + length (a ∷ more)) rest
scan_token a place more rest run stops = scan_begins a place (more ++ rest) run.0 ∙ scan_word a [] place more rest run ∙ scan_end a more place rest stops

pub only : (place : ℕ) (bytes : List ℕ) (ts : List Located) → AreTokens place bytes ts → ts ≡ scan [] place bytes
only place bytes [] h = sym (ap (scan [] place) (sym (append-nil bytes)) ∙ scan_blanks bytes place [] h)
only place bytes (t ∷ ts) h =
    let before = h.0 in
    let word = h.1 in
    let rest = h.2 in
    let front : scan [] place bytes ≡ scan [] t.place (word ++ rest) = ap (scan [] place) h.3 ∙ scan_blanks before place (word ++ rest) h.4 ∙ ap (λ p. scan [] p (word ++ rest)) (sym h.5) in
    by_word word (spelled t.place word t.token h.6) h.7 (only (t.place + length word) rest ts h.8) ∙ sym front
  where
    by_word : (word : List ℕ) → IsTokenOf t.place word t.token → begins (goes_on word) h.2 ≡ false → ts ≡ scan [] (t.place + length word) h.2 → t ∷ ts ≡ scan [] t.place (word ++ h.2)
    by_word [] is stops e = absurd (is.some refl)
    by_word (a ∷ more) is stops e =
        let first : t ≡ record { token = token_of t.place (a ∷ more); place = t.place } = λ i. record { token = is.token i; place = t.place } in
        ap (λ l. l ∷ ts) first ∙ ap (λ l. finished t.place (a ∷ more) ++ l) e ∙ sym (scan_token a t.place more h.2 is.run stops)

-- two lists of tokens of the same bytes are one
pub single : (place : ℕ) (bytes : List ℕ) (ts us : List Located) → AreTokens place bytes ts → AreTokens place bytes us → ts ≡ us
single place bytes ts us h k = only place bytes ts h ∙ sym (only place bytes us k)

-- all bytes have tokens
pub exist : (place : ℕ) (bytes : List ℕ) → (ts : List Located) × AreTokens place bytes ts
exist place bytes = (scan [] place bytes, found [] place bytes tt)

-- ---- the letters of names

-- a part of a text, by its place and its length
part : (front word rest : List ℕ) → take (length word) (drop (length front) (front ++ (word ++ rest))) ≡ word
part front word rest = ap (take (length word)) (drop-append_seam front (word ++ rest)) ∙ take-append_seam word rest

module _ (text : List ℕ) where
  is_in : (place : ℕ) (word : List ℕ) (t : Token) → take (length word) (drop place text) ≡ word → place + length word ≤ length text → Spells place word t → NameIsIn text t
  is_in place word (token.Name name) e k h =
      let count : name.end - name.start ≡ length word = omega (arith, h.2, h.3) in
      let piece : take (name.end - name.start) (drop name.start text) ≡ word = rw (count, h.2) e in
      (omega (arith, h.2, h.3), omega (arith, h.3), subst IsWord (sym piece) h.0)
  is_in place word t e k h = tt

  -- `front` stands before the bytes
  names_within_behind : (front bytes : List ℕ) (ts : List Located) → text ≡ front ++ bytes → AreTokens (length front) bytes ts → All (λ t. NameIsIn text t.token) ts
  names_within_behind front bytes [] e h = All-nil (λ t. NameIsIn text t.token)
  names_within_behind front bytes (t ∷ ts) e h =
      let before = front ++ h.0 in
      let after = before ++ h.1 in
      let whole : text ≡ before ++ (h.1 ++ h.2) = e ∙ ap (λ l. front ++ l) h.3 ∙ sym (append_assoc front h.0 (h.1 ++ h.2)) in
      let split : text ≡ after ++ h.2 = whole ∙ sym (append_assoc before h.1 h.2) in
      let place : t.place ≡ length before = h.5 ∙ sym (length-append front h.0) in
      let next : t.place + length h.1 ≡ length after = ap (λ n. n + length h.1) place ∙ sym (length-append before h.1) in
      let here : take (length h.1) (drop t.place text) ≡ h.1 = rw (place, whole) (part before h.1 h.2) in
      let size : length text ≡ length after + length h.2 = ap length split ∙ length-append after h.2 in
      let end : t.place + length h.1 ≤ length text = omega arith in
      All-cons (λ t. NameIsIn text t.token) t ts (is_in t.place h.1 t.token here end h.6)
      (names_within_behind after h.2 ts split (subst (λ p. AreTokens p h.2 ts) next h.8))

-- ---- the clauses of the scan

pub are_found : (bytes : List ℕ) (ts : List Located) → ts ≡ scan [] 0 bytes → AreTokens 0 bytes ts
are_found bytes ts e = subst (AreTokens 0 bytes) (sym e) (found [] 0 bytes tt)

pub no_others : (bytes : List ℕ) (ts : List Located) → ts ≡ scan [] 0 bytes → (us : List Located) → AreTokens 0 bytes us → us ≡ ts
no_others bytes ts e us h = only 0 bytes us h ∙ sym e

pub names_within : (bytes : List ℕ) (ts : List Located) → ts ≡ scan [] 0 bytes → All (λ t. NameIsIn bytes t.token) ts
names_within bytes ts e = names_within_behind bytes [] bytes ts refl (are_found bytes ts e)
