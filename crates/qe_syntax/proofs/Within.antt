-- A fault in a part is the fault of the whole.
use Rattle.std.proofs.Common.{◌≡◌, ℕ, Bool, List, [], ◌∷◌, ◌++◌, Some, refl, sym, ap, subst, ◌∙◌, append_assoc}
use Rattle.std.specs.Prelude.{Err}
use Rattle.std.proofs.lemmas.List.{append-nil}
use Rattle.qe_syntax.specs.declared.fault.TextFault.{TextFault}
use Rattle.qe_syntax.specs.declared.fault.TextFault.TheVariants.{Syntax, Wide, Exponent, TooDeep, TooMany}
use Rattle.qe_halt.specs.declared.halt.Halt.{Halt}
use Rattle.qe_halt.specs.declared.halt.Halt.TheVariants as halt
use Rattle.qe_syntax.specs.Grammar.{Occurrence, tokens_of}
use Rattle.qe_syntax.specs.Faults.{Tok, passed_limit, counted}
use Rattle.qe_syntax.specs.Reading.{Stops, IsClean, IsRefused, HasFault, IsStopped, Reads}
use Rattle.qe_syntax.proofs.Spelling.{tokens_of-append}

pub counted-append : (b : ℕ) (m n : List Occurrence) → counted b (m ++ n) ≡ counted (counted b m) n
counted-append b [] n = refl
counted-append b (x ∷ m) n = counted-append (counted b (x ∷ [])) m n

pub clean-append : (b c : ℕ) (m n : List Occurrence) → counted b m ≡ c → IsClean b m → IsClean c n → IsClean b (m ++ n)
clean-append b c [] n e h k = subst (λ d. IsClean d n) (sym e) k
clean-append b c (x ∷ m) n e h k = (h.0, clean-append (counted b (x ∷ [])) c m n e h.1 k)

-- the first token, if there is one
abbrev pub FirstIs : Tok → List Tok → Type 0
FirstIs h [] = Unit {0}
FirstIs h (t ∷ ts) = t ≡ h

-- a fault that is no syntax fault
module _ {A X : Type 0} (spell : A → List Occurrence → List Occurrence) (goes_on : Tok → Bool) (spell' : X → List Occurrence → List Occurrence) (goes_on' : Tok → Bool) where
  same_fault : (f : TextFault) (c : ℕ) (before before' more more' : List Occurrence) (new : List Tok)
      → (IsRefused spell goes_on before new → IsRefused spell' goes_on' before' new)
      → HasFault spell goes_on f c before more new → HasFault spell' goes_on' f c before' (more ++ more') new
  same_fault Syntax c before before' more more' new r h = r h
  same_fault Wide c before before' [] more' new r h = absurd h
  same_fault Wide c before before' (m ∷ more) more' [] r h = absurd h
  same_fault Wide c before before' (m ∷ more) more' (t ∷ ts) r h = h
  same_fault Exponent c before before' [] more' new r h = absurd h
  same_fault Exponent c before before' (m ∷ more) more' [] r h = absurd h
  same_fault Exponent c before before' (m ∷ more) more' (t ∷ ts) r h = h
  same_fault TooDeep c before before' [] more' new r h = absurd h
  same_fault TooDeep c before before' (m ∷ more) more' [] r h = absurd h
  same_fault TooDeep c before before' (m ∷ more) more' (t ∷ ts) r h = h
  same_fault TooMany c before before' [] more' new r h = absurd h
  same_fault TooMany c before before' (m ∷ more) more' [] r h = absurd h
  same_fault TooMany c before before' (m ∷ more) more' (t ∷ ts) r h = h

  -- What begins with the front goes on with a part.
  abbrev pub GoesOn : List Occurrence → Type 0
  GoesOn front = (x : X) (rest : List Occurrence) (ts : List Tok) → Stops goes_on' (tokens_of rest) → tokens_of (spell' x rest) ≡ tokens_of front ++ ts
      → (a : A) × (after : List Occurrence) × Stops goes_on (tokens_of after) × (tokens_of (spell a after) ≡ ts)

  refused : (front before : List Occurrence) (new : List Tok) → GoesOn front → IsRefused spell goes_on before new → IsRefused spell' goes_on' (front ++ before) new
  refused front before [] g h = h
  refused front before (t ∷ new) g h = λ x rest more stops e.
      let e' : tokens_of (spell' x rest) ≡ tokens_of front ++ (tokens_of before ++ t ∷ more) = e ∙ ap (λ (ts : List Tok). ts ++ t ∷ more) (tokens_of-append front before) ∙ append_assoc (tokens_of front) (tokens_of before) (t ∷ more) in
      let w = g x rest (tokens_of before ++ t ∷ more) stops e' in
      h w.0 w.1 more w.2 w.3

  -- A part that stops where the front was read: so does the whole.
  pub within : (append : (a : A) (r q : List Occurrence) → spell a (r ++ q) ≡ spell a r ++ q) (front tail : List Occurrence) (make : A → X)
      → ((a : A) → spell' (make a) [] ≡ front ++ spell a tail) → GoesOn front
      → (f : TextFault) (old mid new : List Tok) (b c : ℕ) → old ≡ tokens_of front ++ mid → IsClean b front → counted b front ≡ c
      → IsStopped spell goes_on f mid new c → IsStopped spell' goes_on' f old new b
  within append front tail make made goes f old mid new b c e clean count s =
      let total : counted b (front ++ s.before) ≡ counted c s.before = counted-append b front s.before ∙ ap (λ (n : ℕ). counted n s.before) count in
      record {
        found = make s.found;
        before = front ++ s.before;
        more = s.more ++ tail;
        is = made s.found ∙ ap (λ (ms : List Occurrence). front ++ ms) (append s.found [] tail ∙ ap (λ (ms : List Occurrence). ms ++ tail) s.is ∙ append_assoc s.before s.more tail) ∙ sym (append_assoc front s.before (s.more ++ tail));
        spelled = e ∙ ap (λ (ts : List Tok). tokens_of front ++ ts) s.spelled ∙ sym (append_assoc (tokens_of front) (tokens_of s.before) new) ∙ ap (λ (ts : List Tok). ts ++ new) (sym (tokens_of-append front s.before));
        clean = clean-append b c front s.before count clean s.clean;
        fault = subst (λ (n : ℕ). HasFault spell' goes_on' f n (front ++ s.before) (s.more ++ tail) new) (sym total) (same_fault f (counted c s.before) s.before (front ++ s.before) s.more tail new (refused front s.before new goes) s.fault);
      }

  -- ---- an alternative that falls through, at its first token

  -- What begins with this token is a part.
  abbrev pub GoesFrom : Tok → Type 0
  GoesFrom h = (x : X) (rest : List Occurrence) (ts : List Tok) → Stops goes_on' (tokens_of rest) → tokens_of (spell' x rest) ≡ h ∷ ts
      → (a : A) × (after : List Occurrence) × Stops goes_on (tokens_of after) × (tokens_of (spell a after) ≡ h ∷ ts)

  from_refused : (h : Tok) (before : List Occurrence) (new : List Tok) → FirstIs h (tokens_of before ++ new) → GoesFrom h → IsRefused spell goes_on before new → IsRefused spell' goes_on' before new
  from_refused h before [] f g r = r
  from_refused h [] (t ∷ new) f g r = λ x rest more stops e.
      let w = g x rest more stops (e ∙ ap (λ (u : Tok). u ∷ more) f) in
      r w.0 w.1 more w.2 (w.3 ∙ ap (λ (u : Tok). u ∷ more) (sym f))
  from_refused h (m ∷ before) (t ∷ new) f g r = λ x rest more stops e.
      let us : List Tok = tokens_of before ++ t ∷ more in
      let w = g x rest us stops (e ∙ ap (λ (u : Tok). u ∷ us) f) in
      r w.0 w.1 more w.2 (w.3 ∙ ap (λ (u : Tok). u ∷ us) (sym f))

  pub from_first : (h : Tok) (make : A → X) → ((a : A) → spell' (make a) [] ≡ spell a []) → GoesFrom h → (f : TextFault) (old new : List Tok) (b : ℕ) → FirstIs h old → IsStopped spell goes_on f old new b → IsStopped spell' goes_on' f old new b
  from_first h make made goes f old new b first s = record {
    found = make s.found;
    before = s.before;
    more = s.more ++ [];
    is = made s.found ∙ s.is ∙ ap (λ (ms : List Occurrence). s.before ++ ms) (sym (append-nil s.more));
    spelled = s.spelled;
    clean = s.clean;
    fault = same_fault f (counted b s.before) s.before s.before s.more [] new (from_refused h s.before new (subst (λ ts. FirstIs h ts) s.spelled first) goes) s.fault;
  }

-- the same, of what a method returns
module _ {A X : Type 0} (spell : A → List Occurrence → List Occurrence) (goes_on : Tok → Bool) (spell' : X → List Occurrence → List Occurrence) (goes_on' : Tok → Bool) where
  pub within_err : {F G S T : Type 0} (of : A → S) (of' : X → T) (view : F → S) (view' : G → T) (append : (a : A) (r q : List Occurrence) → spell a (r ++ q) ≡ spell a r ++ q) (front tail : List Occurrence) (make : A → X)
      → ((a : A) → spell' (make a) [] ≡ front ++ spell a tail) → GoesOn spell goes_on spell' goes_on' front
      → (e : Halt TextFault) (old mid new : List Tok) (b c d d' : ℕ) → old ≡ tokens_of front ++ mid → IsClean b front → counted b front ≡ c
      → Reads spell goes_on of view (Err e) mid new c d → Reads spell' goes_on' of' view' (Err e) old new b d'
  within_err of of' view view' append front tail make made goes halt.OutOfMemory old mid new b c d d' e clean count s = tt
  within_err of of' view view' append front tail make made goes (halt.Limit f) old mid new b c d d' e clean count s = within spell goes_on spell' goes_on' append front tail make made goes f old mid new b c e clean count s

abbrev pub IsValue : TextFault → Type 0
IsValue Syntax = ⊥
IsValue f = Unit {0}

-- a fault at an occurrence of the part itself
module _ {A : Type 0} (spell : A → List Occurrence → List Occurrence) (goes_on : Tok → Bool) where
  value_at : (f : TextFault) (c : ℕ) (before : List Occurrence) (m : Occurrence) (more : List Occurrence) (mid : List Tok) → IsValue f → passed_limit c m ≡ Some f → HasFault spell goes_on f c before (m ∷ more) (m.token ∷ mid)
  value_at Syntax c before m more mid v e = absurd v
  value_at Wide c before m more mid v e = (refl, e)
  value_at Exponent c before m more mid v e = (refl, e)
  value_at TooDeep c before m more mid v e = (refl, e)
  value_at TooMany c before m more mid v e = (refl, e)

  pub stops_at : (found : A) (front : List Occurrence) (m : Occurrence) (more : List Occurrence) (f : TextFault) (old new mid : List Tok) (b : ℕ)
      → spell found [] ≡ front ++ m ∷ more → old ≡ tokens_of front ++ new → new ≡ m.token ∷ mid → IsClean b front
      → IsValue f → passed_limit (counted b front) m ≡ Some f → IsStopped spell goes_on f old new b
  stops_at found front m more f old new mid b is e n clean v h = record {
    found = found;
    before = front;
    more = m ∷ more;
    is = is;
    spelled = e;
    clean = clean;
    fault = subst (λ ts. HasFault spell goes_on f (counted b front) front (m ∷ more) ts) (sym n) (value_at f (counted b front) front m more mid v h);
  }

  -- a token that does not go on
  pub refused_at : (found : A) (front more : List Occurrence) (t : Tok) (old new mid : List Tok) (b : ℕ)
      → spell found [] ≡ front ++ more → old ≡ tokens_of front ++ new → new ≡ t ∷ mid → IsClean b front
      → ((a : A) (rest : List Occurrence) (ts : List Tok) → Stops goes_on (tokens_of rest) → tokens_of (spell a rest) ≡ tokens_of front ++ t ∷ ts → ⊥)
      → IsStopped spell goes_on Syntax old new b
  refused_at found front more t old new mid b is e n clean r = record {
    found = found;
    before = front;
    more = more;
    is = is;
    spelled = e;
    clean = clean;
    fault = subst (λ ts. IsRefused spell goes_on front ts) (sym n) r;
  }
