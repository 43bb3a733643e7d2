-- One turn of the scan.
use Rattle.std.proofs.Common.{ℕ, ◌≡◌, ◌≤◌, ◌<◌, ◌+◌, ◌-◌, ◌∙◌, sym, ap, subst, refl, add-one, Bool, true, false, List, [], ◌∷◌, ◌++◌, length, get_or, drop, take, suc, arith}
use Rattle.std.specs.Prelude.{if◌then◌else◌}
use Rattle.std.proofs.Math.Seq.{drop-cons, take-suc}
use Rattle.std.proofs.lemmas.List.{append_assoc, length-drop, length-take-le, get_or-drop}
use Rattle.qe_token.specs.declared.token.Located.{Located}
use Rattle.qe_token.specs.Bytes.{is_blank}
use Rattle.qe_token.specs.Tokens.{goes_on}
use Rattle.qe_token.specs.Scanning.{IsRun, finished, scan}
use Rattle.qe_token.proofs.Runs.{run_begins, run_grows}

-- the bytes from `start` up to `end`
abbrev pub piece : List ℕ → ℕ → ℕ → List ℕ
piece bytes start end = take (end - start) (drop start bytes)

-- up to `end` the tokens are found, apart from the one that begins at `start`
pub record Scans (bytes : List ℕ) (found : List Located) (start : ℕ) (end : ℕ) : Type 0 where
  pub tokens : found ++ scan (piece bytes start end) start (drop end bytes) ≡ scan [] 0 bytes
  pub run : IsRun (piece bytes start end)
  pub before : start ≤ end

module _ (bytes : List ℕ) (start end byte : ℕ) (before : start ≤ end) (inside : end < length bytes) (is : byte ≡ get_or bytes end 0) where
  next : drop end bytes ≡ byte ∷ drop (end + 1) bytes
  next = rw (is, add-one) (drop-cons bytes end 0 inside)

  longer : piece bytes start (end + 1) ≡ piece bytes start end ++ byte ∷ []
  longer =
      let count : end + 1 - start ≡ suc (end - start) = omega arith in
      let at : start + (end - start) ≡ end = omega arith in
      let room : end - start < length (drop start bytes) = omega (arith, length-drop start bytes) in
      let last : get_or (drop start bytes) (end - start) 0 ≡ byte = get_or-drop start bytes (end - start) 0 ∙ ap (λ i. get_or bytes i 0) at ∙ sym is in
      ap (λ n. take n (drop start bytes)) count ∙ take-suc (drop start bytes) (end - start) 0 room ∙ ap (λ b. take (end - start) (drop start bytes) ++ b ∷ []) last

none : (bytes : List ℕ) (start : ℕ) → piece bytes start start ≡ []
none bytes start = let e : start - start ≡ 0 = omega arith in rw e refl

one : (bytes : List ℕ) (end byte : ℕ) → end < length bytes → byte ≡ get_or bytes end 0 → piece bytes end (end + 1) ≡ byte ∷ []
one bytes end byte inside is = let le : end ≤ end = omega arith in longer bytes end end byte le inside is ∙ ap (λ l. l ++ byte ∷ []) (none bytes end)

length_piece : (bytes : List ℕ) (start end : ℕ) → start ≤ end → end ≤ length bytes → start + length (piece bytes start end) ≡ end
length_piece bytes start end h k =
    let room : end - start ≤ length (drop start bytes) = omega (arith, length-drop start bytes) in
    omega (arith, length-take-le (end - start) (drop start bytes) room)

-- where the byte does not make the token longer
ends : (word : List ℕ) (start byte : ℕ) (rest : List ℕ) (x : Bool) → is_blank byte ≡ x → goes_on word byte ≡ false → scan word start (byte ∷ rest) ≡ finished start word ++ (if x then scan [] (start + length word + 1) rest else scan (byte ∷ []) (start + length word) rest)
ends word start byte rest x e h = rw (h, e) refl

pub grew : (bytes : List ℕ) (found : List Located) (start end byte : ℕ) → Scans bytes found start end → end < length bytes → byte ≡ get_or bytes end 0 → goes_on (piece bytes start end) byte ≡ true → Scans bytes found start (end + 1)
grew bytes found start end byte s inside is h =
    let word = piece bytes start end in
    let rest = drop (end + 1) bytes in
    let turn : scan word start (byte ∷ rest) ≡ scan (word ++ byte ∷ []) start rest = rw h refl in
    let grown = longer bytes start end byte s.before inside is in
    record {
      tokens = ap (λ w. found ++ scan w start rest) grown ∙ ap (λ l. found ++ l) (sym turn ∙ ap (scan word start) (sym (next bytes start end byte s.before inside is))) ∙ s.tokens;
      run = subst IsRun (sym grown) (run_grows word byte s.run h);
      before = omega (arith, s.before);
    }

module _ (bytes : List ℕ) (found more : List Located) (start end byte : ℕ) (s : Scans bytes found start end) (inside : end < length bytes) (is : byte ≡ get_or bytes end 0)
    (h : goes_on (piece bytes start end) byte ≡ false) (e : more ≡ found ++ finished start (piece bytes start end)) where
  ended : (x : Bool) → is_blank byte ≡ x → more ++ (if x then scan [] (end + 1) (drop (end + 1) bytes) else scan (byte ∷ []) end (drop (end + 1) bytes)) ≡ scan [] 0 bytes
  ended x k =
      let word = piece bytes start end in
      let rest = drop (end + 1) bytes in
      let le : end ≤ length bytes = omega arith in
      let at = length_piece bytes start end s.before le in
      let turn = ends word start byte rest x k h in
      let left = λ (n : ℕ). (if x then scan [] (n + 1) rest else scan (byte ∷ []) n rest) in
      ap (λ l. l ++ left end) e ∙ append_assoc found (finished start word) (left end) ∙ ap (λ n. found ++ (finished start word ++ left n)) (sym at) ∙ ap (λ l. found ++ l) (sym turn ∙ ap (scan word start) (sym (next bytes start end byte s.before inside is))) ∙ s.tokens

  pub ended_by_blank : is_blank byte ≡ true → Scans bytes more (end + 1) (end + 1)
  ended_by_blank k =
      let empty = none bytes (end + 1) in
      record {
        tokens = ap (λ w. more ++ scan w (end + 1) (drop (end + 1) bytes)) empty ∙ ended true k;
        run = subst IsRun (sym empty) tt;
        before = omega arith;
      }

  pub ended_by_next : is_blank byte ≡ false → Scans bytes more end (end + 1)
  ended_by_next k =
      let first = one bytes end byte inside is in
      record {
        tokens = ap (λ w. more ++ scan w end (drop (end + 1) bytes)) first ∙ ended false k;
        run = subst IsRun (sym first) (run_begins byte k);
        before = omega arith;
      }
