-- What each exit of the methods on atoms, and on unaries, owes.
use Rattle.std.proofs.Common.{◌≡◌, ℕ, ◌+◌, Bool, true, false, List, [], ◌∷◌, ◌++◌, Option, Some, None, nat_le, nat_lt, refl, sym, ap, subst, ◌∙◌, append_assoc}
use Rattle.std.specs.Prelude.{Err, Ok, Result, if◌then◌else◌}
use Rattle.std.proofs.lemmas.List.{append-nil}
use Rattle.qe_token.specs.declared.token.Token.{Token}
use Rattle.qe_token.specs.declared.token.Token.TheVariants as token
use Rattle.qe_token.specs.declared.token.Located.{Located}
use Rattle.qe_token.specs.declared.token.Relation.{Relation}
use Rattle.qe_token.specs.declared.token.Relation.TheVariants as relations
use Rattle.qe_syntax.specs.declared.fault.TextFault.{TextFault}
use Rattle.qe_syntax.specs.declared.fault.TextFault.TheVariants.{Syntax, Wide, Exponent, TooDeep, TooMany}
use Rattle.qe_halt.specs.declared.halt.Halt.{Halt}
use Rattle.qe_halt.specs.declared.halt.Halt.TheVariants as halt
use Rattle.qe_syntax.specs.declared.tree.Formula as code
use Rattle.qe_syntax.specs.Tree as tree
use Rattle.qe_syntax.specs.Tree.{TermTree, FormulaTree}
use Rattle.qe_syntax.specs.Code.{term_of, tree_of}
use Rattle.qe_syntax.specs.Grammar.{Term, Sums, Product, Times, Signed, Power, Primary, Atom, sum, no_sum, sign, factors, no_times, times, negative, positive, base, raised, number, name, group, compare, literal, Formula, Unary, open_formula, not, constant, bracket, atom, Occurrence, plain, opener, figure, word, plus_or_minus, constant_token, term, sums, product, timeses, signed, power, primary, comparison, formula, unary, tokens_of, with_end, term_tree, formula_tree, unary_tree, atom_tree, constant_tree}
use Rattle.qe_syntax.specs.Faults.{Tok, passed_limit, is_wide, is_high_exponent, is_deep, counted, head}
use Rattle.qe_syntax.specs.Reading.{Stops, IsClean, IsRead, IsRefused, HasFault, IsStopped, Reads, Takes, TakesRelation, Tests, next_constant, is_not, is_bracket, fault_at_limit, on_term, on_simple}
use Rattle.qe_syntax.proofs.Spelling.{tokens_of-append, term-append, formula-append, one_term, one_formula, starts_term, comparison_begins, begins_else, not_first, unary-append}
use Rattle.qe_syntax.proofs.Within.{GoesOn, GoesFrom, within, within_err, from_first, stops_at, refused_at, clean-append, counted-append, IsValue}
use Rattle.qe_syntax.proofs.Terms.{at_head, some_first, stops_at_head, first_head}
use Rattle.qe_syntax.proofs.Formulas.{constant_head, not_head, bracket_head, some_simple}

-- ---- a term begins nothing, but an atom begins at its first token

-- nothing begins at these occurrences
abbrev BeginsNone : List Occurrence → Type 0
BeginsNone [] = Unit {0}
BeginsNone (m ∷ ms) = (m.begins ≡ false) × BeginsNone ms

sign_begins : (at : ℕ) (minus : Bool) → (plain (plus_or_minus at minus)).begins ≡ false
sign_begins at true = refl
sign_begins at false = refl

mutual
  term_none : (depth : ℕ) (t : Term) (r : List Occurrence) → BeginsNone r → BeginsNone (term depth false t r)
  term_none depth (sum p ps) r h = product_none depth p (sums depth ps r) (sums_none depth ps r h)

  sums_none : (depth : ℕ) (ps : Sums) (r : List Occurrence) → BeginsNone r → BeginsNone (sums depth ps r)
  sums_none depth no_sum r h = h
  sums_none depth (sign at minus p ps) r h = (sign_begins at minus, product_none depth p (sums depth ps r) (sums_none depth ps r h))

  product_none : (depth : ℕ) (p : Product) (r : List Occurrence) → BeginsNone r → BeginsNone (product depth false p r)
  product_none depth (factors s ss) r h = signed_none depth s (timeses depth ss r) (times_none depth ss r h)

  times_none : (depth : ℕ) (ss : Times) (r : List Occurrence) → BeginsNone r → BeginsNone (timeses depth ss r)
  times_none depth no_times r h = h
  times_none depth (times at s ss) r h = (refl, signed_none depth s (timeses depth ss r) (times_none depth ss r h))

  signed_none : (depth : ℕ) (s : Signed) (r : List Occurrence) → BeginsNone r → BeginsNone (signed depth false s r)
  signed_none depth (negative at s) r h = (refl, signed_none (depth + 1) s r h)
  signed_none depth (positive p) r h = power_none depth p r h

  power_none : (depth : ℕ) (p : Power) (r : List Occurrence) → BeginsNone r → BeginsNone (power depth false p r)
  power_none depth (base b) r h = primary_none depth b r h
  power_none depth (raised b at n) r h = primary_none depth b _ (refl, (refl, h))

  primary_none : (depth : ℕ) (b : Primary) (r : List Occurrence) → BeginsNone r → BeginsNone (primary depth false b r)
  primary_none depth (number n) r h = (refl, h)
  primary_none depth (name x) r h = (refl, h)
  primary_none depth (group t) r h = (refl, term_none (depth + 1) t (plain token.CloseParenthesis ∷ r) (refl, h))

-- the occurrences of an atom whose first term has these
abbrev beginning : List Occurrence → List Occurrence
beginning [] = []
beginning (m ∷ ms) = record { token = m.token; opens = m.opens; role = m.role; begins = true } ∷ ms

primary_first : (depth : ℕ) (b : Primary) (r : List Occurrence) → primary depth true b r ≡ beginning (primary depth false b r)
primary_first depth (number n) r = refl
primary_first depth (name x) r = refl
primary_first depth (group t) r = refl

power_first : (depth : ℕ) (p : Power) (r : List Occurrence) → power depth true p r ≡ beginning (power depth false p r)
power_first depth (base b) r = primary_first depth b r
power_first depth (raised b at n) r = primary_first depth b _

signed_first : (depth : ℕ) (s : Signed) (r : List Occurrence) → signed depth true s r ≡ beginning (signed depth false s r)
signed_first depth (negative at s) r = refl
signed_first depth (positive p) r = power_first depth p r

product_first : (depth : ℕ) (p : Product) (r : List Occurrence) → product depth true p r ≡ beginning (product depth false p r)
product_first depth (factors s ss) r = signed_first depth s _

term_first : (depth : ℕ) (t : Term) (r : List Occurrence) → term depth true t r ≡ beginning (term depth false t r)
term_first depth (sum p ps) r = product_first depth p _

tokens_of-beginning : (ms : List Occurrence) → tokens_of (beginning ms) ≡ tokens_of ms
tokens_of-beginning [] = refl
tokens_of-beginning (m ∷ ms) = refl

tokens_of-first : (depth : ℕ) (t : Term) (r : List Occurrence) → tokens_of (term depth true t r) ≡ tokens_of (term depth false t r)
tokens_of-first depth t r = ap tokens_of (term_first depth t r) ∙ tokens_of-beginning (term depth false t r)

-- ---- counts

none-append : (m n : List Occurrence) → BeginsNone (m ++ n) → BeginsNone m × BeginsNone n
none-append [] n h = (tt, h)
none-append (x ∷ m) n h = let w = none-append m n h.1 in ((h.0, w.0), w.1)

counted_none : (b : ℕ) (ms : List Occurrence) → BeginsNone ms → counted b ms ≡ b
counted_none b [] h = refl
counted_none b (m ∷ ms) h = ap (λ (x : Bool). counted (if x then b + 1 else b) ms) h.0 ∙ counted_none b ms h.1

-- the fault of a token with the last test done
abbrev fault_with : Bool → Occurrence → Option TextFault
fault_with many m =
    if is_wide m.token m.role then Some Wide
    else if is_high_exponent m.token m.role then Some Exponent
    else if is_deep m.opens then Some TooDeep
    else if many then Some TooMany
    else None

fault_none : (b c : ℕ) (m : Occurrence) → m.begins ≡ false → passed_limit b m ≡ passed_limit c m
fault_none b c m h = ap (λ (x : Bool). fault_with (if x then nat_le 65536 b else false) m) h ∙ sym (ap (λ (x : Bool). fault_with (if x then nat_le 65536 c else false) m) h)

clean_none : (b c : ℕ) (ms : List Occurrence) → BeginsNone ms → IsClean b ms → IsClean c ms
clean_none b c [] h k = tt
clean_none b c (m ∷ ms) h k = (fault_none c b m h.0 ∙ k.0, clean_none (counted b (m ∷ [])) (counted c (m ∷ [])) ms h.1 k.1)

-- the first occurrence of an atom has no fault of its own, where the atom may begin
fault_begun : (b : ℕ) (m : Occurrence) → m.begins ≡ false → nat_le 65536 b ≡ false → passed_limit b (record { token = m.token; opens = m.opens; role = m.role; begins = true }) ≡ passed_limit 0 m
fault_begun b m h k = ap (λ (x : Bool). fault_with x m) k ∙ sym (ap (λ (x : Bool). fault_with (if x then nat_le 65536 0 else false) m) h)

clean_begun : (b : ℕ) (ms : List Occurrence) → BeginsNone ms → nat_le 65536 b ≡ false → IsClean 0 ms → IsClean b (beginning ms)
clean_begun b [] h k c = tt
clean_begun b (m ∷ ms) h k c = (fault_begun b m h.0 k ∙ c.0, clean_none (counted 0 (m ∷ [])) (b + 1) ms h.1 c.1)

-- at least one occurrence
abbrev NotEmpty : List Occurrence → Type 0
NotEmpty [] = ⊥
NotEmpty (m ∷ ms) = Unit {0}

counted_begun : (b : ℕ) (ms : List Occurrence) → BeginsNone ms → NotEmpty ms → counted b (beginning ms) ≡ b + 1
counted_begun b [] h k = absurd k
counted_begun b (m ∷ ms) h k = counted_none (b + 1) ms h.1

primary_some : (depth : ℕ) (b : Primary) (r : List Occurrence) → NotEmpty (primary depth false b r)
primary_some depth (number n) r = tt
primary_some depth (name x) r = tt
primary_some depth (group t) r = tt

power_some : (depth : ℕ) (p : Power) (r : List Occurrence) → NotEmpty (power depth false p r)
power_some depth (base b) r = primary_some depth b r
power_some depth (raised b at n) r = primary_some depth b _

signed_some : (depth : ℕ) (s : Signed) (r : List Occurrence) → NotEmpty (signed depth false s r)
signed_some depth (negative at s) r = tt
signed_some depth (positive p) r = power_some depth p r

product_some : (depth : ℕ) (p : Product) (r : List Occurrence) → NotEmpty (product depth false p r)
product_some depth (factors s ss) r = signed_some depth s _

term_some : (depth : ℕ) (t : Term) (r : List Occurrence) → NotEmpty (term depth false t r)
term_some depth (sum p ps) r = product_some depth p _

-- ---- what was read of a term, in an atom

-- the first term
pub first_read : (depth : ℕ) (value : TermTree) (old new : List Tok) (b : ℕ) → nat_le 65536 b ≡ false → IsRead (term depth false) on_term term_tree value old new 0 0 → IsRead (term depth true) on_term term_tree value old new b (b + 1)
first_read depth value old new b k r =
    let T = term depth false r.found [] in
    let none : BeginsNone T = term_none depth r.found [] tt in
    record {
      found = r.found;
      is = r.is;
      spelled = r.spelled ∙ ap (λ (x : List Tok). x ++ new) (sym (tokens_of-first depth r.found []));
      clean = subst (λ (ms : List Occurrence). IsClean b ms) (sym (term_first depth r.found [])) (clean_begun b T none k r.clean);
      count = ap (counted b) (term_first depth r.found []) ∙ counted_begun b T none (term_some depth r.found []);
      stops = r.stops;
    }

-- the second term
pub second_read : (depth : ℕ) (value : TermTree) (old new : List Tok) (b : ℕ) → IsRead (term depth false) on_term term_tree value old new 0 0 → IsRead (term depth false) on_term term_tree value old new b b
second_read depth value old new b r =
    let none : BeginsNone (term depth false r.found []) = term_none depth r.found [] tt in
    record { found = r.found; is = r.is; spelled = r.spelled; clean = clean_none 0 b (term depth false r.found []) none r.clean; count = counted_none b (term depth false r.found []) none; stops = r.stops }

fault_elsewhere : (depth : ℕ) (f : TextFault) (c c' : ℕ) (before more : List Occurrence) (new : List Tok) → BeginsNone more → HasFault (term depth false) on_term f c before more new → HasFault (term depth false) on_term f c' before more new
fault_elsewhere depth Syntax c c' before more new n h = h
fault_elsewhere depth Wide c c' before [] new n h = absurd h
fault_elsewhere depth Wide c c' before (m ∷ more) [] n h = absurd h
fault_elsewhere depth Wide c c' before (m ∷ more) (t ∷ ts) n h = (h.0, fault_none c' c m n.0 ∙ h.1)
fault_elsewhere depth Exponent c c' before [] new n h = absurd h
fault_elsewhere depth Exponent c c' before (m ∷ more) [] n h = absurd h
fault_elsewhere depth Exponent c c' before (m ∷ more) (t ∷ ts) n h = (h.0, fault_none c' c m n.0 ∙ h.1)
fault_elsewhere depth TooDeep c c' before [] new n h = absurd h
fault_elsewhere depth TooDeep c c' before (m ∷ more) [] n h = absurd h
fault_elsewhere depth TooDeep c c' before (m ∷ more) (t ∷ ts) n h = (h.0, fault_none c' c m n.0 ∙ h.1)
fault_elsewhere depth TooMany c c' before [] new n h = absurd h
fault_elsewhere depth TooMany c c' before (m ∷ more) [] n h = absurd h
fault_elsewhere depth TooMany c c' before (m ∷ more) (t ∷ ts) n h = (h.0, fault_none c' c m n.0 ∙ h.1)

second_stopped : (depth : ℕ) (f : TextFault) (old new : List Tok) (b : ℕ) → IsStopped (term depth false) on_term f old new 0 → IsStopped (term depth false) on_term f old new b
second_stopped depth f old new b s =
    let w = none-append s.before s.more (subst (λ (ms : List Occurrence). BeginsNone ms) s.is (term_none depth s.found [] tt)) in
    record {
      found = s.found;
      before = s.before;
      more = s.more;
      is = s.is;
      spelled = s.spelled;
      clean = clean_none 0 b s.before w.0 s.clean;
      fault = fault_elsewhere depth f (counted 0 s.before) (counted b s.before) s.before s.more new w.1 s.fault;
    }

first_refused : (depth : ℕ) (before before' : List Occurrence) (new : List Tok) → tokens_of before' ≡ tokens_of before → IsRefused (term depth false) on_term before new → IsRefused (term depth true) on_term before' new
first_refused depth before before' [] e h = h
first_refused depth before before' (t ∷ new) e h = λ a rest more st g. h a rest more st (sym (tokens_of-first depth a rest) ∙ g ∙ ap (λ (x : List Tok). x ++ t ∷ more) e)

-- at the first token
fault_first : (depth : ℕ) (f : TextFault) (b : ℕ) (more : List Occurrence) (new : List Tok) → nat_le 65536 b ≡ false → BeginsNone more → HasFault (term depth false) on_term f 0 [] more new → HasFault (term depth true) on_term f b [] (beginning more) new
fault_first depth Syntax b more new k n h = first_refused depth [] [] new refl h
fault_first depth Wide b [] new k n h = absurd h
fault_first depth Wide b (m ∷ more) [] k n h = absurd h
fault_first depth Wide b (m ∷ more) (t ∷ ts) k n h = (h.0, fault_begun b m n.0 k ∙ h.1)
fault_first depth Exponent b [] new k n h = absurd h
fault_first depth Exponent b (m ∷ more) [] k n h = absurd h
fault_first depth Exponent b (m ∷ more) (t ∷ ts) k n h = (h.0, fault_begun b m n.0 k ∙ h.1)
fault_first depth TooDeep b [] new k n h = absurd h
fault_first depth TooDeep b (m ∷ more) [] k n h = absurd h
fault_first depth TooDeep b (m ∷ more) (t ∷ ts) k n h = (h.0, fault_begun b m n.0 k ∙ h.1)
fault_first depth TooMany b [] new k n h = absurd h
fault_first depth TooMany b (m ∷ more) [] k n h = absurd h
fault_first depth TooMany b (m ∷ more) (t ∷ ts) k n h = (h.0, fault_begun b m n.0 k ∙ h.1)

-- behind it
fault_later : (depth : ℕ) (f : TextFault) (c c' : ℕ) (before before' more : List Occurrence) (new : List Tok) → tokens_of before' ≡ tokens_of before → BeginsNone more → HasFault (term depth false) on_term f c before more new → HasFault (term depth true) on_term f c' before' more new
fault_later depth Syntax c c' before before' more new e n h = first_refused depth before before' new e h
fault_later depth Wide c c' before before' [] new e n h = absurd h
fault_later depth Wide c c' before before' (m ∷ more) [] e n h = absurd h
fault_later depth Wide c c' before before' (m ∷ more) (t ∷ ts) e n h = (h.0, fault_none c' c m n.0 ∙ h.1)
fault_later depth Exponent c c' before before' [] new e n h = absurd h
fault_later depth Exponent c c' before before' (m ∷ more) [] e n h = absurd h
fault_later depth Exponent c c' before before' (m ∷ more) (t ∷ ts) e n h = (h.0, fault_none c' c m n.0 ∙ h.1)
fault_later depth TooDeep c c' before before' [] new e n h = absurd h
fault_later depth TooDeep c c' before before' (m ∷ more) [] e n h = absurd h
fault_later depth TooDeep c c' before before' (m ∷ more) (t ∷ ts) e n h = (h.0, fault_none c' c m n.0 ∙ h.1)
fault_later depth TooMany c c' before before' [] new e n h = absurd h
fault_later depth TooMany c c' before before' (m ∷ more) [] e n h = absurd h
fault_later depth TooMany c c' before before' (m ∷ more) (t ∷ ts) e n h = (h.0, fault_none c' c m n.0 ∙ h.1)

first_stopped_at : (depth : ℕ) (f : TextFault) (found : Term) (before more : List Occurrence) (old new : List Tok) (b : ℕ) → nat_le 65536 b ≡ false → term depth false found [] ≡ before ++ more → old ≡ tokens_of before ++ new
    → IsClean 0 before → HasFault (term depth false) on_term f (counted 0 before) before more new → IsStopped (term depth true) on_term f old new b
first_stopped_at depth f found [] more old new b k is e c h = record {
  found = found;
  before = [];
  more = beginning more;
  is = term_first depth found [] ∙ ap beginning is;
  spelled = e;
  clean = tt;
  fault = fault_first depth f b more new k (subst (λ (ms : List Occurrence). BeginsNone ms) is (term_none depth found [] tt)) h;
}
first_stopped_at depth f found (m ∷ before) more old new b k is e c h =
    let w = none-append (m ∷ before) more (subst (λ (ms : List Occurrence). BeginsNone ms) is (term_none depth found [] tt)) in
    record {
      found = found;
      before = beginning (m ∷ before);
      more = more;
      is = term_first depth found [] ∙ ap beginning is;
      spelled = e;
      clean = clean_begun b (m ∷ before) w.0 k c;
      fault = fault_later depth f (counted 0 (m ∷ before)) (counted b (beginning (m ∷ before))) (m ∷ before) (beginning (m ∷ before)) more new refl w.1 h;
    }

first_stopped : (depth : ℕ) (f : TextFault) (old new : List Tok) (b : ℕ) → nat_le 65536 b ≡ false → IsStopped (term depth false) on_term f old new 0 → IsStopped (term depth true) on_term f old new b
first_stopped depth f old new b k s = first_stopped_at depth f s.found s.before s.more old new b k s.is s.spelled s.clean s.fault

-- ---- an atom

-- a term and a relation to stand for what is not read
abbrev some_term : Term
some_term = sum (factors (positive (base (number 0))) no_times) no_sum

goes_first_term : (depth : ℕ) → GoesOn (term depth true) on_term (comparison depth) on_term []
goes_first_term depth (compare t at r u) rest ts st e = (t, plain (token.Relation at r) ∷ term depth false u rest, refl, e)

pub left_term_err : (depth : ℕ) (e : Halt TextFault) (old new : List Tok) (b d : ℕ) → nat_le 65536 b ≡ false → Reads (term depth false) on_term term_tree term_of (Err e) old new 0 0 → Reads (comparison depth) on_term atom_tree tree_of (Err e) old new b d
left_term_err depth halt.OutOfMemory old new b d k r = tt
left_term_err depth (halt.Limit f) old new b d k r =
    within (term depth true) on_term (comparison depth) on_term (term-append depth true) [] (plain (token.Relation 0 relations.Less) ∷ term depth false some_term []) (λ t. compare t 0 relations.Less some_term) (λ t. refl) (goes_first_term depth)
    f old old new b b refl tt refl (first_stopped depth f old new b k r)

abbrev before_second : ℕ → Term → ℕ → Relation → List Occurrence
before_second depth t at r = term depth true t [] ++ plain (token.Relation at r) ∷ []

tokens_of-before_second : (depth : ℕ) (t : Term) (at : ℕ) (r : Relation) (ts : List Tok) → tokens_of (before_second depth t at r) ++ ts ≡ tokens_of (term depth true t []) ++ Some (token.Relation at r) ∷ ts
tokens_of-before_second depth t at r ts = ap (λ (x : List Tok). x ++ ts) (tokens_of-append (term depth true t []) (plain (token.Relation at r) ∷ [])) ∙ append_assoc (tokens_of (term depth true t [])) (Some (token.Relation at r) ∷ []) ts

goes_second : (depth : ℕ) (t : Term) (at : ℕ) (r : Relation) → GoesOn (term depth false) on_term (comparison depth) on_term (before_second depth t at r)
goes_second depth t at r (compare u at' r' v) rest ts st e =
    let w = one_term depth true u t (plain (token.Relation at' r') ∷ term depth false v rest) (Some (token.Relation at r) ∷ ts) refl refl (e ∙ tokens_of-before_second depth t at r ts) in
    (v, rest, st, let x : Some (token.Relation at' r') ∷ tokens_of (term depth false v rest) ≡ Some (token.Relation at r) ∷ ts = w.1 in cc)

second_clean : (depth : ℕ) (t : Term) (at : ℕ) (r : Relation) (b c : ℕ) → IsClean b (term depth true t []) → counted b (term depth true t []) ≡ c → IsClean b (before_second depth t at r)
second_clean depth t at r b c h k = clean-append b c (term depth true t []) (plain (token.Relation at r) ∷ []) k h (refl, tt)

second_count : (depth : ℕ) (t : Term) (at : ℕ) (r : Relation) (b c : ℕ) → counted b (term depth true t []) ≡ c → counted b (before_second depth t at r) ≡ c
second_count depth t at r b c k = counted-append b (term depth true t []) (plain (token.Relation at r) ∷ []) ∙ k

second_made : (depth : ℕ) (t : Term) (at : ℕ) (r : Relation) (u : Term) → comparison depth (compare t at r u) [] ≡ before_second depth t at r ++ term depth false u []
second_made depth t at r u = term-append depth true t [] (plain (token.Relation at r) ∷ term depth false u []) ∙ sym (append_assoc (term depth true t []) (plain (token.Relation at r) ∷ []) (term depth false u []))

not_relation : (depth : ℕ) (t : Term) (x : Tok) (ts : List Tok) → Stops on_term (x ∷ ts) → ((p : ℕ) (r : Relation) (us : List Tok) → x ∷ ts ≡ Some (token.Relation p r) ∷ us → ⊥)
    → (a : Atom) (rest : List Occurrence) (us : List Tok) → tokens_of (comparison depth a rest) ≡ tokens_of (term depth true t []) ++ x ∷ us → ⊥
not_relation depth t x ts st bad (compare u at r v) rest us e =
    let w = one_term depth true u t (plain (token.Relation at r) ∷ term depth false v rest) (x ∷ us) refl st e in
    let f : Some (token.Relation at r) ≡ x = let y : Some (token.Relation at r) ∷ tokens_of (term depth false v rest) ≡ x ∷ us = w.1 in cc in
    bad at r ts (ap (λ (y : Tok). y ∷ ts) (sym f))

pub relation_err : (depth : ℕ) (e : Halt TextFault) (left : TermTree) (old mid new : List Located) (b d : ℕ) → nat_le 65536 b ≡ false → IsRead (term depth false) on_term term_tree left (with_end old) (with_end mid) 0 0 → TakesRelation (Err e) (with_end mid) (with_end new)
    → Reads (comparison depth) on_term atom_tree tree_of (Err e) (with_end old) (with_end new) b d
relation_err depth halt.OutOfMemory left old mid new b d k r s = absurd s
relation_err depth (halt.Limit Syntax) left old mid new b d k r s =
    let w = some_first mid in
    let l = first_read depth left (with_end old) (with_end mid) b k r in
    let T = term depth true l.found [] in
    let R = plain (token.Relation 0 relations.Less) ∷ term depth false some_term [] in
    refused_at (comparison depth) on_term (compare l.found 0 relations.Less some_term) T R (head mid) (with_end old) (with_end new) w.0 b (term-append depth true l.found [] R)
    (l.spelled ∙ ap (λ (x : List Tok). tokens_of T ++ x) (sym s.0)) (s.0 ∙ w.1) l.clean
    (λ a rest us st e. not_relation depth l.found (head mid) w.0 (subst (λ x. Stops on_term x) w.1 l.stops) (λ p q vs f. s.1 p q vs (w.1 ∙ f)) a rest us e)
relation_err depth (halt.Limit Wide) left old mid new b d k r s = absurd s
relation_err depth (halt.Limit Exponent) left old mid new b d k r s = absurd s
relation_err depth (halt.Limit TooDeep) left old mid new b d k r s = absurd s
relation_err depth (halt.Limit TooMany) left old mid new b d k r s = absurd s

pub right_term_err : (depth : ℕ) (at : ℕ) (q : Relation) (e : Halt TextFault) (left : TermTree) (old mid mid' new : List Tok) (b d : ℕ) → nat_le 65536 b ≡ false → IsRead (term depth false) on_term term_tree left old mid 0 0 → mid ≡ Some (token.Relation at q) ∷ mid'
    → Reads (term depth false) on_term term_tree term_of (Err e) mid' new 0 0 → Reads (comparison depth) on_term atom_tree tree_of (Err e) old new b d
right_term_err depth at q halt.OutOfMemory left old mid mid' new b d k r m s = tt
right_term_err depth at q (halt.Limit f) left old mid mid' new b d k r m s =
    let l = first_read depth left old mid b k r in
    within (term depth false) on_term (comparison depth) on_term (term-append depth false) (before_second depth l.found at q) [] (λ u. compare l.found at q u) (second_made depth l.found at q) (goes_second depth l.found at q)
    f old mid' new b (b + 1) (l.spelled ∙ ap (λ (x : List Tok). tokens_of (term depth true l.found []) ++ x) m ∙ sym (tokens_of-before_second depth l.found at q mid'))
    (second_clean depth l.found at q b (b + 1) l.clean l.count) (second_count depth l.found at q b (b + 1) l.count) (second_stopped depth f mid' new (b + 1) s)

pub read_atom : (depth : ℕ) (at : ℕ) (q : Relation) (value : FormulaTree) (left right : TermTree) (old mid mid' new : List Tok) (b c : ℕ) → value ≡ tree.Atom left at q right → c ≡ b + 1 → nat_le 65536 b ≡ false → IsRead (term depth false) on_term term_tree left old mid 0 0 → mid ≡ Some (token.Relation at q) ∷ mid'
    → IsRead (term depth false) on_term term_tree right mid' new 0 0 → IsRead (comparison depth) on_term atom_tree value old new b c
read_atom depth at q value left right old mid mid' new b c is n k r m s =
    let l = first_read depth left old mid b k r in
    let u = second_read depth right mid' new (b + 1) s in
    let F = before_second depth l.found at q in
    let U = term depth false u.found [] in
    let split = second_made depth l.found at q u.found in
    record {
      found = compare l.found at q u.found;
      is = ap (λ (x : TermTree). tree.Atom x at q (term_tree u.found)) l.is ∙ ap (tree.Atom left at q) u.is ∙ sym is;
      spelled = l.spelled ∙ ap (λ (x : List Tok). tokens_of (term depth true l.found []) ++ x) (m ∙ ap (λ (x : List Tok). Some (token.Relation at q) ∷ x) u.spelled)
          ∙ sym (tokens_of-before_second depth l.found at q (tokens_of U ++ new)) ∙ sym (append_assoc (tokens_of F) (tokens_of U) new) ∙ ap (λ (x : List Tok). x ++ new) (sym (ap tokens_of split ∙ tokens_of-append F U));
      clean = subst (λ (ms : List Occurrence). IsClean b ms) (sym split) (clean-append b (b + 1) F U (second_count depth l.found at q b (b + 1) l.count) (second_clean depth l.found at q b (b + 1) l.clean l.count) u.clean);
      count = ap (counted b) split ∙ counted-append b F U ∙ ap (λ (x : ℕ). counted x U) (second_count depth l.found at q b (b + 1) l.count) ∙ u.count ∙ sym n;
      stops = u.stops;
    }

-- the first token of an atom, where none may begin
no_atom : (depth : ℕ) (old : List Located) (b : ℕ) → starts_term (head old) ≡ false → IsStopped (comparison depth) on_term Syntax (with_end old) (with_end old) b
no_atom depth old b h =
    let w = some_first old in
    refused_at (comparison depth) on_term (compare some_term 0 relations.Less some_term) [] (comparison depth (compare some_term 0 relations.Less some_term) []) (head old) (with_end old) (with_end old) w.0 b refl refl w.1 tt
    (λ a rest us st e. begins_else starts_term _ _ _ (comparison_begins depth a rest) h e)

-- a term that begins with this primary
abbrev term_with : Primary → Term
term_with p = sum (factors (positive (base p)) no_times) no_sum

-- one of two faults, neither of which is a syntax fault
one_of_two : (p : Bool) (f : TextFault) (P : TextFault → Type 0) → (p ≡ true → P f) → (p ≡ false → P TooMany) → P (if p then f else TooMany)
one_of_two true f P a b = a refl
one_of_two false f P a b = b refl

stopped_first : (depth : ℕ) (t : Term) (m : Occurrence) (more : List Occurrence) (f : TextFault) (x : Token) (old : List Located) (b : ℕ) → head old ≡ Some x → m.token ≡ Some x → comparison depth (compare t 0 relations.Less some_term) [] ≡ m ∷ more → IsValue f → passed_limit b m ≡ Some f
    → IsStopped (comparison depth) on_term f (with_end old) (with_end old) b
stopped_first depth t m more f x old b h e is v w =
    let u = at_head old x h in
    stops_at (comparison depth) on_term (compare t 0 relations.Less some_term) [] m more f (with_end old) (with_end old) u.0 b is refl (u.1 ∙ ap (λ (y : Tok). y ∷ u.0) (sym e)) tt v w

at_token : (depth : ℕ) (t : Tok) (old : List Located) (b : ℕ) → head old ≡ t → nat_le 65536 b ≡ true → IsStopped (comparison depth) on_term (fault_at_limit t depth) (with_end old) (with_end old) b
at_token depth (Some (token.Number n)) old b h k =
    one_of_two (nat_lt 170141183460469231731687303715884105727 n) Wide (λ (f : TextFault). IsStopped (comparison depth) on_term f (with_end old) (with_end old) b)
    (λ w. stopped_first depth (term_with (number n)) (figure n literal true) (plain (token.Relation 0 relations.Less) ∷ term depth false some_term []) Wide (token.Number n) old b h refl refl tt (ap (λ (x : Bool). if x then Some Wide else if nat_le 65536 b then Some TooMany else None) w))
    (λ w. stopped_first depth (term_with (number n)) (figure n literal true) (plain (token.Relation 0 relations.Less) ∷ term depth false some_term []) TooMany (token.Number n) old b h refl refl tt
    (ap (λ (x : Bool). if x then Some Wide else if nat_le 65536 b then Some TooMany else None) w ∙ ap (λ (x : Bool). if x then Some TooMany else None) k))
at_token depth (Some (token.Minus p)) old b h k =
    one_of_two (nat_le 256 depth) TooDeep (λ (f : TextFault). IsStopped (comparison depth) on_term f (with_end old) (with_end old) b)
    (λ w. stopped_first depth (sum (factors (negative p (positive (base (number 0)))) no_times) no_sum) (opener (token.Minus p) depth true) (figure 0 literal false ∷ plain (token.Relation 0 relations.Less) ∷ term depth false some_term []) TooDeep (token.Minus p) old b h refl refl tt (ap (λ (x : Bool). if x then Some TooDeep else if nat_le 65536 b then Some TooMany else None) w))
    (λ w. stopped_first depth (sum (factors (negative p (positive (base (number 0)))) no_times) no_sum) (opener (token.Minus p) depth true) (figure 0 literal false ∷ plain (token.Relation 0 relations.Less) ∷ term depth false some_term []) TooMany (token.Minus p) old b h refl refl tt
    (ap (λ (x : Bool). if x then Some TooDeep else if nat_le 65536 b then Some TooMany else None) w ∙ ap (λ (x : Bool). if x then Some TooMany else None) k))
at_token depth (Some token.OpenParenthesis) old b h k =
    one_of_two (nat_le 256 depth) TooDeep (λ (f : TextFault). IsStopped (comparison depth) on_term f (with_end old) (with_end old) b)
    (λ w. stopped_first depth (term_with (group some_term)) (opener token.OpenParenthesis depth true) (figure 0 literal false ∷ plain token.CloseParenthesis ∷ plain (token.Relation 0 relations.Less) ∷ term depth false some_term []) TooDeep token.OpenParenthesis old b h refl refl tt (ap (λ (x : Bool). if x then Some TooDeep else if nat_le 65536 b then Some TooMany else None) w))
    (λ w. stopped_first depth (term_with (group some_term)) (opener token.OpenParenthesis depth true) (figure 0 literal false ∷ plain token.CloseParenthesis ∷ plain (token.Relation 0 relations.Less) ∷ term depth false some_term []) TooMany token.OpenParenthesis old b h refl refl tt
    (ap (λ (x : Bool). if x then Some TooDeep else if nat_le 65536 b then Some TooMany else None) w ∙ ap (λ (x : Bool). if x then Some TooMany else None) k))
at_token depth (Some (token.Name x)) old b h k =
    stopped_first depth (term_with (name x)) (word (token.Name x) true) (plain (token.Relation 0 relations.Less) ∷ term depth false some_term []) TooMany (token.Name x) old b h refl refl tt (ap (λ (x : Bool). if x then Some TooMany else None) k)
at_token depth t old b h k = no_atom depth old b (ap starts_term h)

pub at_limit : (depth : ℕ) (f : TextFault) (old : List Located) (b : ℕ) → f ≡ fault_at_limit (head old) depth → nat_le 65536 b ≡ true → IsStopped (comparison depth) on_term f (with_end old) (with_end old) b
at_limit depth f old b e k = subst (λ (g : TextFault). IsStopped (comparison depth) on_term g (with_end old) (with_end old) b) (sym e) (at_token depth (head old) old b refl k)

-- ---- a negation

not_at_first : (depth : ℕ) (a : Atom) (t : Tok) (rest : List Occurrence) (ts : List Tok) → starts_term t ≡ false → tokens_of (comparison depth a rest) ≡ t ∷ ts → ⊥
not_at_first depth a t rest ts h e = begins_else starts_term _ _ _ (comparison_begins depth a rest) h e

goes_not : (depth : ℕ) → GoesOn (unary (depth + 1)) on_term (unary depth) on_term (opener token.Not depth false ∷ [])
goes_not depth (not u) rest ts st e = (u, rest, st, cc)
goes_not depth (constant true) rest ts st e = absurd cc
goes_not depth (constant false) rest ts st e = absurd cc
goes_not depth (bracket f) rest ts st e = absurd cc
goes_not depth (atom a) rest ts st e = absurd (not_at_first depth a (Some token.Not) rest ts refl e)

level_clean : (b depth : ℕ) → nat_le 256 depth ≡ false → (if nat_le 256 depth then Some TooDeep else None) ≡ None
level_clean b depth h = ap (λ (x : Bool). if x then Some TooDeep else None) h

pub not_deep : (depth : ℕ) (e : Halt TextFault) (old : List Located) (b d : ℕ) → is_not (head old) ≡ true → Tests (nat_le 256 depth) TooDeep (Err e) → Reads (unary depth) on_term unary_tree tree_of (Err e) (with_end old) (with_end old) b d
not_deep depth halt.OutOfMemory old b d h k = tt
not_deep depth (halt.Limit f) old b d h k =
    let w = at_head old token.Not (not_head (head old) h) in
    subst (λ g. IsStopped (unary depth) on_term g (with_end old) (with_end old) b) (sym k.1)
    (stops_at (unary depth) on_term (not (constant true)) [] (opener token.Not depth false) (word token.True true ∷ []) TooDeep (with_end old) (with_end old) w.0 b refl refl w.1 tt tt (ap (λ (x : Bool). if x then Some TooDeep else None) k.0))

pub not_err : (depth : ℕ) (e : Halt TextFault) (old mid new : List Tok) (b d : ℕ) → old ≡ Some token.Not ∷ mid → nat_le 256 depth ≡ false → Reads (unary (depth + 1)) on_term unary_tree tree_of (Err e) mid new b d → Reads (unary depth) on_term unary_tree tree_of (Err e) old new b d
not_err depth e old mid new b d h k r =
    within_err (unary (depth + 1)) on_term (unary depth) on_term unary_tree unary_tree tree_of tree_of (unary-append (depth + 1)) (opener token.Not depth false ∷ []) [] not (λ a. refl) (goes_not depth) e old mid new b b d d h (level_clean b depth k, tt) refl r

pub read_not : (depth : ℕ) (value inner : FormulaTree) (old mid new : List Tok) (b d : ℕ) → value ≡ tree.Not inner → old ≡ Some token.Not ∷ mid → nat_le 256 depth ≡ false → IsRead (unary (depth + 1)) on_term unary_tree inner mid new b d → IsRead (unary depth) on_term unary_tree value old new b d
read_not depth value inner old mid new b d is h k r = record {
  found = not r.found;
  is = ap tree.Not r.is ∙ sym is;
  spelled = h ∙ ap (λ (x : List Tok). Some token.Not ∷ x) r.spelled;
  clean = (level_clean b depth k, r.clean);
  count = r.count;
  stops = r.stops;
}

-- ---- a constant

constant_fault : (b : ℕ) (value : Bool) → passed_limit b (word (constant_token value) true) ≡ (if nat_le 65536 b then Some TooMany else None)
constant_fault b true = refl
constant_fault b false = refl

pub constant_many : (depth : ℕ) (value : Bool) (e : Halt TextFault) (old new : List Located) (b d : ℕ) → next_constant (head old) ≡ Some value → new ≡ old → Tests (nat_le 65536 b) TooMany (Err e) → Reads (unary depth) on_term unary_tree tree_of (Err e) (with_end old) (with_end new) b d
constant_many depth value halt.OutOfMemory old new b d h n k = tt
constant_many depth value (halt.Limit f) old new b d h n k =
    let w = at_head old (constant_token value) (constant_head (head old) value h) in
    subst (λ g. IsStopped (unary depth) on_term g (with_end old) (with_end new) b) (sym k.1)
    (stops_at (unary depth) on_term (constant value) [] (word (constant_token value) true) [] TooMany (with_end old) (with_end new) w.0 b refl (ap with_end (sym n)) (ap with_end n ∙ w.1) tt tt (constant_fault b value ∙ ap (λ (x : Bool). if x then Some TooMany else None) k.0))

-- no operator of terms goes on with a constant
constant_alone : (depth : ℕ) (value : Bool) (t : Tok) → on_term t ≡ true → (a : Unary) (rest : List Occurrence) (us : List Tok) → Stops on_term (tokens_of rest) → tokens_of (unary depth a rest) ≡ Some (constant_token value) ∷ t ∷ us → ⊥
constant_alone depth true t h (not u) rest us st e = absurd cc
constant_alone depth false t h (not u) rest us st e = absurd cc
constant_alone depth value t h (constant w) [] us st e = absurd st
constant_alone depth value t h (constant w) (x ∷ rest) us st e = let f : x.token ≡ t = cc in absurd (not_first on_term x.token t st h f)
constant_alone depth true t h (bracket g) rest us st e = absurd cc
constant_alone depth false t h (bracket g) rest us st e = absurd cc
constant_alone depth true t h (atom a) rest us st e = not_at_first depth a (Some token.True) rest _ refl e
constant_alone depth false t h (atom a) rest us st e = not_at_first depth a (Some token.False) rest _ refl e

pub constant_operator : (depth : ℕ) (value : Bool) (e : Halt TextFault) (old mid new : List Located) (b d : ℕ) → next_constant (head old) ≡ Some value → mid ≡ old → nat_le 65536 b ≡ false → with_end mid ≡ head mid ∷ with_end new → Tests (on_term (head new)) Syntax (Err e)
    → Reads (unary depth) on_term unary_tree tree_of (Err e) (with_end old) (with_end new) b d
constant_operator depth value halt.OutOfMemory old mid new b d h n k m s = tt
constant_operator depth value (halt.Limit f) old mid new b d h n k m s =
    let w = some_first new in
    subst (λ g. IsStopped (unary depth) on_term g (with_end old) (with_end new) b) (sym s.1)
    (refused_at (unary depth) on_term (constant value) (word (constant_token value) true ∷ []) [] (head new) (with_end old) (with_end new) w.0 b refl
    (ap with_end (sym n) ∙ m ∙ ap (λ (x : Tok). x ∷ with_end new) (ap head n ∙ constant_head (head old) value h)) w.1 (constant_fault b value ∙ ap (λ (x : Bool). if x then Some TooMany else None) k, tt)
    (λ a rest us st e. constant_alone depth value (head new) s.0 a rest us st e))

pub read_constant : (depth : ℕ) (value : Bool) (form : FormulaTree) (old mid new : List Located) (b c : ℕ) → form ≡ constant_tree value → next_constant (head old) ≡ Some value → mid ≡ old → nat_le 65536 b ≡ false → c ≡ b + 1 → with_end mid ≡ head mid ∷ with_end new → on_term (head new) ≡ false
    → IsRead (unary depth) on_term unary_tree form (with_end old) (with_end new) b c
read_constant depth value form old mid new b c is h n k q m s = record {
  found = constant value;
  is = sym is;
  spelled = ap with_end (sym n) ∙ m ∙ ap (λ (x : Tok). x ∷ with_end new) (ap head n ∙ constant_head (head old) value h);
  clean = (constant_fault b value ∙ ap (λ (x : Bool). if x then Some TooMany else None) k, tt);
  count = sym q;
  stops = stops_at_head on_term new s;
}

-- ---- a formula in brackets

goes_bracket : (depth : ℕ) → GoesOn (formula (depth + 1)) on_simple (unary depth) on_term (opener token.OpenBracket depth false ∷ [])
goes_bracket depth (not u) rest ts st e = absurd cc
goes_bracket depth (constant true) rest ts st e = absurd cc
goes_bracket depth (constant false) rest ts st e = absurd cc
goes_bracket depth (bracket f) rest ts st e = (f, plain token.CloseBracket ∷ rest, refl, cc)
goes_bracket depth (atom a) rest ts st e = absurd (not_at_first depth a (Some token.OpenBracket) rest ts refl e)

pub bracket_deep : (depth : ℕ) (e : Halt TextFault) (old : List Located) (b d : ℕ) → is_bracket (head old) ≡ true → Tests (nat_le 256 depth) TooDeep (Err e) → Reads (unary depth) on_term unary_tree tree_of (Err e) (with_end old) (with_end old) b d
bracket_deep depth halt.OutOfMemory old b d h k = tt
bracket_deep depth (halt.Limit f) old b d h k =
    let w = at_head old token.OpenBracket (bracket_head (head old) h) in
    subst (λ g. IsStopped (unary depth) on_term g (with_end old) (with_end old) b) (sym k.1)
    (stops_at (unary depth) on_term (bracket (open_formula some_simple)) [] (opener token.OpenBracket depth false) (word token.True true ∷ plain token.CloseBracket ∷ []) TooDeep (with_end old) (with_end old) w.0 b refl refl w.1 tt tt (ap (λ (x : Bool). if x then Some TooDeep else None) k.0))

pub bracket_err : (depth : ℕ) (e : Halt TextFault) (old mid new : List Tok) (b d d' : ℕ) → old ≡ Some token.OpenBracket ∷ mid → nat_le 256 depth ≡ false → Reads (formula (depth + 1)) on_simple formula_tree tree_of (Err e) mid new b d → Reads (unary depth) on_term unary_tree tree_of (Err e) old new b d'
bracket_err depth e old mid new b d d' h k r =
    within_err (formula (depth + 1)) on_simple (unary depth) on_term formula_tree unary_tree tree_of tree_of (formula-append (depth + 1)) (opener token.OpenBracket depth false ∷ []) (plain token.CloseBracket ∷ []) bracket (λ a. refl) (goes_bracket depth) e old mid new b b d d' h (level_clean b depth k, tt) refl r

no_close : (depth : ℕ) (f : Formula) (t : Tok) (ts : List Tok) → Stops on_simple (t ∷ ts) → ((us : List Tok) → t ∷ ts ≡ Some token.CloseBracket ∷ us → ⊥)
    → (a : Unary) (rest : List Occurrence) (us : List Tok) → tokens_of (unary depth a rest) ≡ Some token.OpenBracket ∷ (tokens_of (formula (depth + 1) f []) ++ t ∷ us) → ⊥
no_close depth f t ts st bad (not u) rest us e = absurd cc
no_close depth f t ts st bad (constant true) rest us e = absurd cc
no_close depth f t ts st bad (constant false) rest us e = absurd cc
no_close depth f t ts st bad (atom a) rest us e = not_at_first depth a (Some token.OpenBracket) rest _ refl e
no_close depth f t ts st bad (bracket g) rest us e =
    let e' : tokens_of (formula (depth + 1) g (plain token.CloseBracket ∷ rest)) ≡ tokens_of (formula (depth + 1) f []) ++ t ∷ us = cc in
    let w = one_formula (depth + 1) g f (plain token.CloseBracket ∷ rest) (t ∷ us) refl st e' in
    let x : Some token.CloseBracket ≡ t = let y : Some token.CloseBracket ∷ tokens_of rest ≡ t ∷ us = w.1 in cc in
    bad ts (ap (λ (v : Tok). v ∷ ts) (sym x))

pub close_err : (depth : ℕ) (e : Halt TextFault) (value : FormulaTree) (old mid ts new : List Located) (b c d : ℕ) → with_end old ≡ Some token.OpenBracket ∷ with_end mid → nat_le 256 depth ≡ false → IsRead (formula (depth + 1)) on_simple formula_tree value (with_end mid) (with_end ts) b c
    → Takes token.CloseBracket (Err e) (with_end ts) (with_end new) → Reads (unary depth) on_term unary_tree tree_of (Err e) (with_end old) (with_end new) b d
close_err depth halt.OutOfMemory value old mid ts new b c d h k r s = tt
close_err depth (halt.Limit Syntax) value old mid ts new b c d h k r s =
    let w = some_first ts in
    let F = formula (depth + 1) r.found [] in
    refused_at (unary depth) on_term (bracket r.found) (opener token.OpenBracket depth false ∷ F) (plain token.CloseBracket ∷ []) (head ts) (with_end old) (with_end new) w.0 b
    (ap (λ (ms : List Occurrence). opener token.OpenBracket depth false ∷ ms) (formula-append (depth + 1) r.found [] (plain token.CloseBracket ∷ [])))
    (h ∙ ap (λ (x : List Tok). Some token.OpenBracket ∷ x) (r.spelled ∙ ap (λ (x : List Tok). tokens_of F ++ x) (sym s.0))) (s.0 ∙ w.1) (level_clean b depth k, r.clean)
    (λ a rest us st e. no_close depth r.found (head ts) w.0 (subst (λ x. Stops on_simple x) w.1 r.stops) (λ us e. s.1 us (w.1 ∙ e)) a rest us e)
close_err depth (halt.Limit Wide) value old mid ts new b c d h k r s = absurd s
close_err depth (halt.Limit Exponent) value old mid ts new b c d h k r s = absurd s
close_err depth (halt.Limit TooDeep) value old mid ts new b c d h k r s = absurd s
close_err depth (halt.Limit TooMany) value old mid ts new b c d h k r s = absurd s

-- the occurrences of a formula in brackets
abbrev in_brackets : ℕ → Formula → List Occurrence
in_brackets depth f = opener token.OpenBracket depth false ∷ (formula (depth + 1) f [] ++ plain token.CloseBracket ∷ [])

bracket_made : (depth : ℕ) (f : Formula) → unary depth (bracket f) [] ≡ in_brackets depth f
bracket_made depth f = ap (λ (ms : List Occurrence). opener token.OpenBracket depth false ∷ ms) (formula-append (depth + 1) f [] (plain token.CloseBracket ∷ []))

bracket_spelled : (depth : ℕ) (f : Formula) (old mid ts new : List Tok) → old ≡ Some token.OpenBracket ∷ mid → mid ≡ tokens_of (formula (depth + 1) f []) ++ ts → ts ≡ Some token.CloseBracket ∷ new → old ≡ tokens_of (in_brackets depth f) ++ new
bracket_spelled depth f old mid ts new h k g =
    h ∙ ap (λ (x : List Tok). Some token.OpenBracket ∷ x) (
    k ∙ ap (λ (x : List Tok). tokens_of (formula (depth + 1) f []) ++ x) g ∙ sym (append_assoc (tokens_of (formula (depth + 1) f [])) (Some token.CloseBracket ∷ []) new)
    ∙ ap (λ (x : List Tok). x ++ new) (sym (tokens_of-append (formula (depth + 1) f []) (plain token.CloseBracket ∷ [])))
    )

bracket_clean : (depth : ℕ) (f : Formula) (b c : ℕ) → nat_le 256 depth ≡ false → IsClean b (formula (depth + 1) f []) → counted b (formula (depth + 1) f []) ≡ c → IsClean b (in_brackets depth f)
bracket_clean depth f b c k h n = (level_clean b depth k, clean-append b c (formula (depth + 1) f []) (plain token.CloseBracket ∷ []) n h (refl, tt))

bracket_alone : (depth : ℕ) (f : Formula) (t : Tok) → on_term t ≡ true → (a : Unary) (rest : List Occurrence) (us : List Tok) → Stops on_term (tokens_of rest) → tokens_of (unary depth a rest) ≡ Some token.OpenBracket ∷ (tokens_of (formula (depth + 1) f []) ++ Some token.CloseBracket ∷ t ∷ us) → ⊥
bracket_alone depth f t h (not u) rest us st e = absurd cc
bracket_alone depth f t h (constant true) rest us st e = absurd cc
bracket_alone depth f t h (constant false) rest us st e = absurd cc
bracket_alone depth f t h (atom a) rest us st e = not_at_first depth a (Some token.OpenBracket) rest _ refl e
bracket_alone depth f t h (bracket g) rest us st e =
    let e' : tokens_of (formula (depth + 1) g (plain token.CloseBracket ∷ rest)) ≡ tokens_of (formula (depth + 1) f []) ++ Some token.CloseBracket ∷ t ∷ us = cc in
    let w = one_formula (depth + 1) g f (plain token.CloseBracket ∷ rest) (Some token.CloseBracket ∷ t ∷ us) refl refl e' in
    goes rest st (let y : Some token.CloseBracket ∷ tokens_of rest ≡ Some token.CloseBracket ∷ t ∷ us = w.1 in cc)
  where
    goes : (rest : List Occurrence) → Stops on_term (tokens_of rest) → tokens_of rest ≡ t ∷ us → ⊥
    goes [] st e = st
    goes (x ∷ rest) st e = let i : x.token ≡ t = cc in not_first on_term x.token t st h i

pub bracket_operator : (depth : ℕ) (e : Halt TextFault) (value : FormulaTree) (old mid ts new : List Located) (b c d : ℕ) → with_end old ≡ Some token.OpenBracket ∷ with_end mid → nat_le 256 depth ≡ false → IsRead (formula (depth + 1)) on_simple formula_tree value (with_end mid) (with_end ts) b c
    → with_end ts ≡ Some token.CloseBracket ∷ with_end new → Tests (on_term (head new)) Syntax (Err e) → Reads (unary depth) on_term unary_tree tree_of (Err e) (with_end old) (with_end new) b d
bracket_operator depth halt.OutOfMemory value old mid ts new b c d h k r g s = tt
bracket_operator depth (halt.Limit f) value old mid ts new b c d h k r g s =
    let w = some_first new in
    let B = in_brackets depth r.found in
    let flat : tokens_of B ≡ Some token.OpenBracket ∷ (tokens_of (formula (depth + 1) r.found []) ++ Some token.CloseBracket ∷ []) = ap (λ (x : List Tok). Some token.OpenBracket ∷ x) (tokens_of-append (formula (depth + 1) r.found []) (plain token.CloseBracket ∷ [])) in
    subst (λ g. IsStopped (unary depth) on_term g (with_end old) (with_end new) b) (sym s.1)
    (refused_at (unary depth) on_term (bracket r.found) B [] (head new) (with_end old) (with_end new) w.0 b (bracket_made depth r.found ∙ sym (append-nil B))
    (bracket_spelled depth r.found (with_end old) (with_end mid) (with_end ts) (with_end new) h r.spelled g) w.1 (bracket_clean depth r.found b c k r.clean r.count)
    (λ a rest us st e. bracket_alone depth r.found (head new) s.0 a rest us st
    (e ∙ ap (λ (x : List Tok). x ++ head new ∷ us) flat ∙ ap (λ (x : List Tok). Some token.OpenBracket ∷ x) (append_assoc (tokens_of (formula (depth + 1) r.found [])) (Some token.CloseBracket ∷ []) (head new ∷ us)))))

pub read_bracket : (depth : ℕ) (value : FormulaTree) (old mid ts new : List Located) (b c : ℕ) → with_end old ≡ Some token.OpenBracket ∷ with_end mid → nat_le 256 depth ≡ false → IsRead (formula (depth + 1)) on_simple formula_tree value (with_end mid) (with_end ts) b c
    → with_end ts ≡ Some token.CloseBracket ∷ with_end new → on_term (head new) ≡ false → IsRead (unary depth) on_term unary_tree value (with_end old) (with_end new) b c
read_bracket depth value old mid ts new b c h k r g s = record {
  found = bracket r.found;
  is = r.is;
  spelled = bracket_spelled depth r.found (with_end old) (with_end mid) (with_end ts) (with_end new) h r.spelled g ∙ ap (λ (ms : List Occurrence). tokens_of ms ++ with_end new) (sym (bracket_made depth r.found));
  clean = subst (λ (ms : List Occurrence). IsClean b ms) (sym (bracket_made depth r.found)) (bracket_clean depth r.found b c k r.clean r.count);
  count = ap (counted b) (bracket_made depth r.found) ∙ counted-append b (formula (depth + 1) r.found []) (plain token.CloseBracket ∷ []) ∙ r.count;
  stops = stops_at_head on_term new s;
}

-- ---- an atom as a unary

goes_atom : (depth : ℕ) (h : Tok) → is_not h ≡ false → is_bracket h ≡ false → next_constant h ≡ None → GoesFrom (comparison depth) on_term (unary depth) on_term h
goes_atom depth h a b c (not u) rest ts st e = let g : Some token.Not ≡ h = cc in let w : true ≡ false = ap is_not g ∙ a in absurd cc
goes_atom depth h a b c (bracket f) rest ts st e = let g : Some token.OpenBracket ≡ h = cc in let w : true ≡ false = ap is_bracket g ∙ b in absurd cc
goes_atom depth h a b c (constant true) rest ts st e = let g : Some token.True ≡ h = cc in let w : Some true ≡ None = ap next_constant g ∙ c in absurd cc
goes_atom depth h a b c (constant false) rest ts st e = let g : Some token.False ≡ h = cc in let w : Some false ≡ None = ap next_constant g ∙ c in absurd cc
goes_atom depth h a b c (atom d) rest ts st e = (d, rest, st, e)

pub atom_through : (depth : ℕ) (result : Result code.Formula (Halt TextFault)) (old new : List Located) (b c : ℕ) → is_not (head old) ≡ false → is_bracket (head old) ≡ false → next_constant (head old) ≡ None → Reads (comparison depth) on_term atom_tree tree_of result (with_end old) (with_end new) b c
    → Reads (unary depth) on_term unary_tree tree_of result (with_end old) (with_end new) b c
atom_through depth (Ok f) old new b c x y z r = record { found = atom r.found; is = r.is; spelled = r.spelled; clean = r.clean; count = r.count; stops = r.stops }
atom_through depth (Err halt.OutOfMemory) old new b c x y z r = tt
atom_through depth (Err (halt.Limit f)) old new b c x y z r = from_first (comparison depth) on_term (unary depth) on_term (head old) atom (λ a. refl) (goes_atom depth (head old) x y z) f (with_end old) (with_end new) b (first_head old) r
