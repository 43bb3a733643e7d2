-- The first fault of a text, from what the method on formulas says.
use Rattle.std.proofs.Common.{◌≡◌, ℕ, ◌-◌, List, [], ◌∷◌, ◌++◌, Some, None, refl, sym, ap, subst, ◌∙◌, append_assoc, length, length-append, ◌≤◌, drop, arith}
use Rattle.std.specs.Prelude.{Result, Ok, Err}
use Rattle.std.proofs.lemmas.List.{append-nil}
use Rattle.qe_token.specs.declared.token.Located.{Located}
use Rattle.qe_syntax.specs.declared.fault.TextFault.{TextFault}
use Rattle.qe_syntax.specs.declared.fault.TextFault.TheVariants.{Syntax, Wide, Exponent, TooDeep, TooMany}
use Rattle.qe_syntax.specs.declared.fault.ParseStop.{ParseStop}
use Rattle.qe_syntax.specs.declared.fault.ParseStop.TheVariants as stops
use Rattle.qe_syntax.specs.declared.tree.Formula as code
use Rattle.qe_syntax.specs.Tree.{FormulaTree}
use Rattle.qe_syntax.specs.Code.{tree_of}
use Rattle.qe_syntax.specs.Grammar.{Formula, Occurrence, the_end, formula, input, tokens_of, with_end, formula_tree}
use Rattle.qe_syntax.specs.Faults.{Tok, passed_limit, counted, IsFaultAt, bare_tokens, head, next_place, IsFirstFault, HasNoFault, IsText, Answers, GivesTree}
use Rattle.qe_syntax.specs.Reading.{IsClean, IsRead, HasFault, IsStopped, on_simple}
use Rattle.qe_syntax.proofs.Spelling.{tokens_of-append, formula-append, one_formula, same_formula}
use Rattle.qe_syntax.proofs.Within.{clean-append}
use Rattle.qe_syntax.proofs.Terms.{some_first, length-with_end}

-- As far as the tokens are the same, the occurrences are.
abbrev pub Agree : List Occurrence → List Occurrence → Type 0
Agree [] n = Unit {0}
Agree (x ∷ m) [] = Unit {0}
Agree (x ∷ m) (y ∷ n) = x.token ≡ y.token → (x ≡ y) × Agree m n

pub agree_inputs : (s t : Formula) → Agree (input s) (input t)
agree_inputs s t = same_formula Agree (λ x y m n f. f) 0 s t (the_end ∷ []) (the_end ∷ []) refl refl (λ e h. (refl, tt))

agree_prefix : (before more ms more' : List Occurrence) (m : Occurrence) (a : List Tok) → Agree (before ++ more) (ms ++ m ∷ more') → tokens_of before ≡ tokens_of ms ++ m.token ∷ a → (rest : List Occurrence) × (before ≡ ms ++ m ∷ rest)
agree_prefix [] more [] more' m a g e = absurd cc
agree_prefix [] more (y ∷ ms) more' m a g e = absurd cc
agree_prefix (x ∷ before) more [] more' m a g e = let f : x.token ≡ m.token = cc in (before, ap (λ (z : Occurrence). z ∷ before) (g f).0)
agree_prefix (x ∷ before) more (y ∷ ms) more' m a g e =
    let f : x.token ≡ y.token = cc in
    let h : tokens_of before ≡ tokens_of ms ++ m.token ∷ a = cc in
    let r = agree_prefix before more ms more' m a (g f).1 h in (r.0, grown x y before (ms ++ m ∷ r.0) (g f).0 r.1)
  where
    grown : (x y : Occurrence) (m n : List Occurrence) → x ≡ y → m ≡ n → x ∷ m ≡ y ∷ n
    grown x y m n e f = cc

clean_at : (b : ℕ) (ms rest : List Occurrence) (m : Occurrence) → IsClean b (ms ++ m ∷ rest) → passed_limit (counted b ms) m ≡ None
clean_at b [] rest m h = h.0
clean_at b (x ∷ ms) rest m h = clean_at (counted b (x ∷ [])) ms rest m h.1

-- A part of an input without a fault has none by any other derivation.
value_earlier : (s : Formula) (before more : List Occurrence) (b a : List Tok) (u : Tok) (g : TextFault) → input s ≡ before ++ more → IsClean 0 before → tokens_of before ≡ b ++ u ∷ a
    → (s' : Formula) (ms : List Occurrence) (m : Occurrence) (more' : List Occurrence) → input s' ≡ ms ++ m ∷ more' → tokens_of ms ≡ b → m.token ≡ u → passed_limit (counted 0 ms) m ≡ Some g → ⊥
value_earlier s before more b a u g is clean e s' ms m more' is' eb eu h =
    let ag : Agree (before ++ more) (ms ++ m ∷ more') = subst (λ (x : List Occurrence). Agree x (ms ++ m ∷ more')) is (subst (λ (x : List Occurrence). Agree (input s) x) is' (agree_inputs s s')) in
    let r = agree_prefix before more ms more' m a ag (e ∙ ap (λ (x : List Tok). x ++ u ∷ a) (sym eb) ∙ ap (λ (x : Tok). tokens_of ms ++ x ∷ a) (sym eu)) in
    let none : passed_limit (counted 0 ms) m ≡ None = clean_at 0 ms r.0 m (subst (λ (x : List Occurrence). IsClean 0 x) r.1 clean) in
    let bad : Some g ≡ None = sym h ∙ none in absurd cc

no_earlier : (s : Formula) (before more : List Occurrence) → input s ≡ before ++ more → IsClean 0 before → (b : List Tok) (u : Tok) (a : List Tok) (g : TextFault) → tokens_of before ≡ b ++ u ∷ a → IsFaultAt b u g → ⊥
no_earlier s before more is clean b u a Syntax e h =
    h s (a ++ tokens_of more) (ap tokens_of is ∙ tokens_of-append before more ∙ ap (λ (x : List Tok). x ++ tokens_of more) e ∙ append_assoc b (u ∷ a) (tokens_of more))
no_earlier s before more is clean b u a Wide e h = value_earlier s before more b a u Wide is clean e h.0 h.1 h.2 h.3 h.4 h.5 h.6 h.7
no_earlier s before more is clean b u a Exponent e h = value_earlier s before more b a u Exponent is clean e h.0 h.1 h.2 h.3 h.4 h.5 h.6 h.7
no_earlier s before more is clean b u a TooDeep e h = value_earlier s before more b a u TooDeep is clean e h.0 h.1 h.2 h.3 h.4 h.5 h.6 h.7
no_earlier s before more is clean b u a TooMany e h = value_earlier s before more b a u TooMany is clean e h.0 h.1 h.2 h.3 h.4 h.5 h.6 h.7

whole : (s : Formula) → input s ≡ formula 0 s [] ++ the_end ∷ []
whole s = formula-append 0 s [] (the_end ∷ [])

regroup : (before more : List Occurrence) → (before ++ more) ++ the_end ∷ [] ≡ before ++ (more ++ the_end ∷ [])
regroup before more = append_assoc before more (the_end ∷ [])

abbrev pub HasLimit : List Tok → Tok → TextFault → Type 0
HasLimit before t f = (s : Formula) × (ms : List Occurrence) × (n : Occurrence) × (rest : List Occurrence) × (input s ≡ ms ++ n ∷ rest) × (tokens_of ms ≡ before) × (n.token ≡ t) × (passed_limit (counted 0 ms) n ≡ Some f)

value_here : (f : TextFault) (s : Formula) (before more : List Occurrence) (m : Occurrence) (t : Tok) → formula 0 s [] ≡ before ++ m ∷ more → m.token ≡ t → passed_limit (counted 0 before) m ≡ Some f → HasLimit (tokens_of before) t f
value_here f s before more m t is e h = (s, before, m, more ++ the_end ∷ [], whole s ∙ ap (λ (x : List Occurrence). x ++ the_end ∷ []) is ∙ regroup before (m ∷ more), refl, e, h)

here_at : (f : TextFault) (s : Formula) (before more : List Occurrence) (t : Tok) (after : List Tok) → formula 0 s [] ≡ before ++ more → HasFault (formula 0) on_simple f (counted 0 before) before more (t ∷ after) → IsFaultAt (tokens_of before) t f
here_at Syntax s before more t after is h = λ x w e. h x (the_end ∷ []) w refl e
here_at Wide s before [] t after is h = absurd h
here_at Wide s before (m ∷ more) t after is h = value_here Wide s before more m t is h.0 h.1
here_at Exponent s before [] t after is h = absurd h
here_at Exponent s before (m ∷ more) t after is h = value_here Exponent s before more m t is h.0 h.1
here_at TooDeep s before [] t after is h = absurd h
here_at TooDeep s before (m ∷ more) t after is h = value_here TooDeep s before more m t is h.0 h.1
here_at TooMany s before [] t after is h = absurd h
here_at TooMany s before (m ∷ more) t after is h = value_here TooMany s before more m t is h.0 h.1

-- ---- located tokens

bare_tokens-append : (m n : List Located) → bare_tokens (m ++ n) ≡ bare_tokens m ++ bare_tokens n
bare_tokens-append [] n = refl
bare_tokens-append (l ∷ m) n = ap (λ (ts : List Tok). Some l.token ∷ ts) (bare_tokens-append m n)

with_end-append : (m n : List Located) → with_end (m ++ n) ≡ bare_tokens m ++ with_end n
with_end-append [] n = refl
with_end-append (l ∷ m) n = ap (λ (ts : List Tok). Some l.token ∷ ts) (with_end-append m n)

-- the tokens that were taken, and those that are left
record Split (tokens : List Located) (taken left : List Tok) : Type 0 where
  before : List Located
  after : List Located
  stands : tokens ≡ before ++ after
  taken_are : bare_tokens before ≡ taken
  left_are : with_end after ≡ left

not_empty : (ts : List Tok) (rest : List Located) → [] ≡ ts ++ with_end rest → ⊥
not_empty [] [] e = absurd cc
not_empty [] (l ∷ rest) e = absurd cc
not_empty (t ∷ ts) rest e = absurd cc

split : (tokens rest : List Located) (taken : List Tok) → with_end tokens ≡ taken ++ with_end rest → Split tokens taken (with_end rest)
split tokens rest [] e = record { before = []; after = tokens; stands = refl; taken_are = refl; left_are = e }
split [] rest (t ∷ taken) e = absurd (not_empty taken rest (let f : [] ≡ taken ++ with_end rest = cc in f))
split (l ∷ ls) rest (t ∷ taken) e =
    let f : with_end ls ≡ taken ++ with_end rest = cc in
    let g : Some l.token ≡ t = cc in
    let w = split ls rest taken f in
    record { before = l ∷ w.before; after = w.after; stands = ap (λ (x : List Located). l ∷ x) w.stands; taken_are = ap (λ (x : List Tok). Some l.token ∷ x) w.taken_are ∙ ap (λ (x : Tok). x ∷ taken) g; left_are = w.left_are }

drop_front : (m n : List Located) → drop (length m) (m ++ n) ≡ n
drop_front [] n = refl
drop_front (l ∷ m) n = drop_front m n

left_length : (after rest : List Located) → with_end after ≡ with_end rest → length after ≡ length rest
left_length after rest e = omega (arith, ap length e, length-with_end after, length-with_end rest)

place_is : (tokens before after rest : List Located) (n : ℕ) → tokens ≡ before ++ after → with_end after ≡ with_end rest → next_place (drop (length tokens - length rest) tokens) n ≡ next_place after n
place_is tokens before after rest n s e =
    let h : length tokens - length rest ≡ length before = omega (arith, ap length s, length-append before after, left_length after rest e) in
    ap (λ (k : ℕ). next_place (drop k tokens) n) h ∙ ap (λ (x : List Located). next_place (drop (length before) x) n) s ∙ ap (λ (x : List Located). next_place x n) (drop_front before after)

same_head : (after rest : List Located) → with_end after ≡ with_end rest → head after ≡ head rest
same_head [] [] e = refl
same_head [] (l ∷ rest) e = absurd cc
same_head (l ∷ after) [] e = absurd cc
same_head (l ∷ after) (k ∷ rest) e = cc

-- What stops the reading of the one formula is the first fault.
pub stopped : (f : TextFault) (tokens rest : List Located) (n place : ℕ) → place ≡ next_place (drop (length tokens - length rest) tokens) n → IsStopped (formula 0) on_simple f (with_end tokens) (with_end rest) 0 → Answers tokens n (Err (stops.Fault f place))
stopped f tokens rest n place p s =
    let w = some_first rest in
    let d = split tokens rest (tokens_of s.before) s.spelled in
    let fault : HasFault (formula 0) on_simple f (counted 0 s.before) s.before s.more (head rest ∷ w.0) = subst (λ (x : List Tok). HasFault (formula 0) on_simple f (counted 0 s.before) s.before s.more x) w.1 s.fault in
    let here : IsFaultAt (tokens_of s.before) (head rest) f = here_at f s.found s.before s.more (head rest) w.0 s.is fault in (
      d.before,
      d.after,
      record {
        stands = d.stands;
        here = subst (λ (x : List Tok). IsFaultAt x (head d.after) f) (sym d.taken_are) (subst (λ (x : Tok). IsFaultAt (tokens_of s.before) x f) (sym (same_head d.after rest d.left_are)) here);
        none_earlier = λ b l a g e. no_earlier s.found s.before (s.more ++ the_end ∷ []) (whole s.found ∙ ap (λ (x : List Occurrence). x ++ the_end ∷ []) s.is ∙ regroup s.before s.more) s.clean (bare_tokens b) (Some l.token) (bare_tokens a) g (sym d.taken_are ∙ ap bare_tokens e ∙ bare_tokens-append b (l ∷ a));
      },
      p ∙ place_is tokens d.before d.after rest n d.stands d.left_are,
    )

-- A token stands behind the one formula.
pub goes_further : (of : FormulaTree) (tokens rest : List Located) (n c place : ℕ) → place ≡ next_place (drop (length tokens - length rest) tokens) n → (rest ≡ [] → ⊥) → IsRead (formula 0) on_simple formula_tree of (with_end tokens) (with_end rest) 0 c → Answers tokens n (Err (stops.Fault Syntax place))
goes_further of tokens [] n c place p bad r = absurd (bad refl)
goes_further of tokens (l ∷ rest) n c place p bad r =
    let S = formula 0 r.found [] in
    let d = split tokens (l ∷ rest) (tokens_of S) r.spelled in
    let here : IsFaultAt (tokens_of S) (Some l.token) Syntax = λ x w e.
    let one = one_formula 0 x r.found (the_end ∷ []) (Some l.token ∷ w) refl r.stops e in
    let q : None ∷ [] ≡ Some l.token ∷ w = one.1 in absurd cc in (
      d.before,
      d.after,
      record {
        stands = d.stands;
        here = subst (λ (x : List Tok). IsFaultAt x (head d.after) Syntax) (sym d.taken_are) (subst (λ (x : Tok). IsFaultAt (tokens_of S) x Syntax) (sym (same_head d.after (l ∷ rest) d.left_are)) here);
        none_earlier = λ b u a g e. no_earlier r.found S (the_end ∷ []) (whole r.found) r.clean (bare_tokens b) (Some u.token) (bare_tokens a) g (sym d.taken_are ∙ ap bare_tokens e ∙ bare_tokens-append b (u ∷ a));
      },
      p ∙ place_is tokens d.before d.after (l ∷ rest) n d.stands d.left_are,
    )

clean_input : (s : Formula) → IsClean 0 (formula 0 s []) → IsClean 0 (input s)
clean_input s h = subst (λ (x : List Occurrence). IsClean 0 x) (sym (whole s)) (clean-append 0 (counted 0 (formula 0 s [])) (formula 0 s []) (the_end ∷ []) refl h (refl, tt))

ended_first : (after : List Located) → (more : List Tok) × (with_end after ≡ head after ∷ more)
ended_first after = some_first after

pub no_fault_of : (s : Formula) (tokens : List Located) → tokens_of (input s) ≡ with_end tokens → IsClean 0 (input s) → HasNoFault tokens
no_fault_of s tokens spelled clean before after f e h =
    let w = ended_first after in
    no_earlier s (input s) [] (sym (append-nil (input s))) clean (bare_tokens before) (head after) w.0 f (spelled ∙ ap with_end e ∙ with_end-append before after ∙ ap (λ (x : List Tok). bare_tokens before ++ x) w.1) h

pub read_all : (f : code.Formula) (tokens rest : List Located) (n c : ℕ) → rest ≡ [] → IsRead (formula 0) on_simple formula_tree (tree_of f) (with_end tokens) (with_end rest) 0 c → Answers tokens n (Ok f)
read_all f tokens rest n c e r =
    let S = formula 0 r.found [] in
    let spelled : tokens_of (input r.found) ≡ with_end tokens = ap tokens_of (whole r.found) ∙ tokens_of-append S (the_end ∷ []) ∙ ap (λ (x : List Located). tokens_of S ++ with_end x) (sym e) ∙ sym r.spelled in
    record { derived = r.found; spelled = spelled; stands_for = r.is; no_fault = no_fault_of r.found tokens spelled (clean_input r.found r.clean) }

-- ---- what is in the grammar is read

one_derivation : (s t : Formula) → tokens_of (input s) ≡ tokens_of (input t) → s ≡ t
one_derivation s t e = (one_formula 0 s t (the_end ∷ []) (None ∷ []) refl refl (e ∙ ap tokens_of (whole t) ∙ tokens_of-append (formula 0 t []) (the_end ∷ []))).0

pub one_tree : (tokens : List Located) (t u : FormulaTree) → IsText tokens t → IsText tokens u → t ≡ u
one_tree tokens t u a b = sym a.stands_for ∙ ap formula_tree (one_derivation a.derived b.derived (a.spelled ∙ sym b.spelled)) ∙ b.stands_for

pub text_or_fault : (tokens before after : List Located) (t : FormulaTree) (f : TextFault) → IsText tokens t → IsFirstFault tokens before after f → ⊥
text_or_fault tokens before after t f a s = a.no_fault before after f s.stands s.here

pub read_as : (tokens : List Located) (n : ℕ) (result : Result code.Formula ParseStop) → Answers tokens n result → (t : FormulaTree) → IsText tokens t → GivesTree t result
read_as tokens n (Ok f) a t i = one_tree tokens (tree_of f) t a i
read_as tokens n (Err stops.OutOfMemory) a t i = tt
read_as tokens n (Err (stops.Fault f place)) a t i = text_or_fault tokens a.0 a.1 t f i a.2

pub no_longer_read : (of : FormulaTree) (tokens rest : List Located) (c : ℕ) → IsRead (formula 0) on_simple formula_tree of (with_end tokens) (with_end rest) 0 c → length rest ≤ length tokens
no_longer_read of tokens rest c r = omega (arith, ap length r.spelled, length-append (tokens_of (formula 0 r.found [])) (with_end rest), length-with_end tokens, length-with_end rest)

pub no_longer_stopped : (f : TextFault) (tokens rest : List Located) → IsStopped (formula 0) on_simple f (with_end tokens) (with_end rest) 0 → length rest ≤ length tokens
no_longer_stopped f tokens rest s = omega (arith, ap length s.spelled, length-append (tokens_of s.before) (with_end rest), length-with_end tokens, length-with_end rest)

pub none_left : (rest : List Located) → length rest ≡ 0 → rest ≡ []
none_left [] h = refl
none_left (l ∷ rest) h = absurd (omega arith)
