-- What each exit of the methods on terms owes.
use Rattle.std.proofs.Common.{◌≡◌, ℕ, ◌+◌, ◌<◌, suc, Bool, true, false, List, [], ◌∷◌, ◌++◌, Some, None, nat_le, nat_lt, refl, sym, ap, subst, ◌∙◌, append_assoc, length, length-append, arith}
use Rattle.std.specs.Prelude.{Err, Ok, Result, if◌then◌else◌, is_some}
use Rattle.std.proofs.lemmas.List.{append-nil}
use Rattle.qe_token.specs.declared.token.Token.{Token}
use Rattle.qe_token.specs.declared.token.Token.TheVariants as token
use Rattle.qe_token.specs.declared.token.Located.{Located}
use Rattle.qe_token.specs.declared.token.Name.{Name}
use Rattle.qe_syntax.specs.declared.fault.TextFault.{TextFault}
use Rattle.qe_syntax.specs.declared.fault.TextFault.TheVariants.{Syntax, Wide, Exponent, TooDeep, TooMany}
use Rattle.qe_halt.specs.declared.halt.Halt.{Halt}
use Rattle.qe_halt.specs.declared.halt.Halt.TheVariants as halt
use Rattle.qe_syntax.specs.declared.tree.Term as code
use Rattle.qe_syntax.specs.Tree as tree
use Rattle.qe_syntax.specs.Tree.{TermTree}
use Rattle.qe_syntax.specs.Code.{AddendTree, FactorTree, term_of, addends_of, factors_of}
use Rattle.qe_syntax.specs.Grammar.{Term, Sums, Product, Times, Signed, Power, Primary, sum, no_sum, sign, factors, no_times, times, negative, positive, base, raised, number, name, group, exponent, literal, Occurrence, plain, opener, figure, plus_or_minus, is_name, term, sums, product, timeses, signed, power, primary, tokens_of, with_end, term_tree, product_tree, sums_tree, times_tree, signed_tree, power_tree, primary_tree, sum_of, product_of}
use Rattle.qe_syntax.specs.Faults.{Tok, passed_limit, counted, most_exponent, head}
use Rattle.qe_syntax.specs.Reading.{Stops, IsClean, IsRead, IsStopped, Reads, Takes, TakesExponent, Tests, is_minus, is_parenthesis, next_number, next_name, next_caret, next_star, next_sign, on_primary, on_power, on_product, on_term}
use Rattle.qe_syntax.proofs.Spelling.{tokens_of-append, term-append, product-append, signed-append, primary-append, one_term, one_product, one_signed, one_primary, sign_stops, sign_goes, to_power, to_product, starts_primary, primary_begins, power_begins, begins_else}
use Rattle.qe_syntax.proofs.Within.{GoesOn, GoesFrom, FirstIs, within_err, from_first, stops_at, refused_at, clean-append, counted-append}
use Rattle.qe_syntax.proofs.Chain.{tail, chain, items, chain_tree, IsChain, adds_nothing, start, turn, end, first_err, turn_err, chain-append, recast}

-- ---- tokens

pub at_head : (ts : List Located) (t : Token) → head ts ≡ Some t → (us : List Tok) × (with_end ts ≡ Some t ∷ us)
at_head [] t h = absurd cc
at_head (x ∷ ts) t h = (with_end ts, ap (λ (o : Tok). o ∷ with_end ts) h)

pub some_first : (ts : List Located) → (us : List Tok) × (with_end ts ≡ head ts ∷ us)
some_first [] = ([], refl)
some_first (x ∷ ts) = (with_end ts, refl)

pub stops_at_head : (on : Tok → Bool) (ts : List Located) → on (head ts) ≡ false → Stops on (with_end ts)
stops_at_head on [] h = h
stops_at_head on (x ∷ ts) h = h

pub head_stops : (on : Tok → Bool) (ts : List Located) → Stops on (with_end ts) → on (head ts) ≡ false
head_stops on [] h = h
head_stops on (x ∷ ts) h = h

pub first_head : (ts : List Located) → FirstIs (head ts) (with_end ts)
first_head [] = refl
first_head (t ∷ ts) = refl

pub length-with_end : (ts : List Located) → length (with_end ts) ≡ length ts + 1
length-with_end [] = refl
length-with_end (t ∷ ts) = ap suc (length-with_end ts) ∙ omega arith

pub shorter : {A T : Type 0} (spell : A → List Occurrence → List Occurrence) (on : Tok → Bool) (of : A → T) (value : T) (old mid new : List Located) (b c : ℕ) → length mid < length old → IsRead spell on of value (with_end mid) (with_end new) b c → length new < length old
shorter spell on of value old mid new b c h r = omega (arith, h, ap length r.spelled, length-append (tokens_of (spell r.found [])) (with_end new), length-with_end mid, length-with_end new)

any_stop : (on : Tok → Bool) (ts : List Tok) → Stops on ts → Stops on_primary ts
any_stop on [] s = s
any_stop on (t ∷ ts) s = refl

pub next_is : (old mid : List Located) (t : Token) → with_end old ≡ head old ∷ with_end mid → head old ≡ Some t → with_end old ≡ Some t ∷ with_end mid
next_is old mid t e h = e ∙ ap (λ (o : Tok). o ∷ with_end mid) h

pub sign_head : (t : Tok) (p : ℕ) (m : Bool) → next_sign t ≡ Some (p, m) → t ≡ Some (plus_or_minus p m)
sign_head (Some (token.Plus q)) p m h =
    let g : ◌≡◌ {A = ℕ × Bool} (q, false) (p, m) = cc in
    let e : q ≡ p = ap (λ (x : ℕ × Bool). x.0) g in
    let f : false ≡ m = ap (λ (x : ℕ × Bool). x.1) g in ap (λ (x : ℕ). Some (token.Plus x)) e ∙ ap (λ (b : Bool). Some (plus_or_minus p b)) f
sign_head (Some (token.Minus q)) p m h =
    let g : ◌≡◌ {A = ℕ × Bool} (q, true) (p, m) = cc in
    let e : q ≡ p = ap (λ (x : ℕ × Bool). x.0) g in
    let f : true ≡ m = ap (λ (x : ℕ × Bool). x.1) g in ap (λ (x : ℕ). Some (token.Minus x)) e ∙ ap (λ (b : Bool). Some (plus_or_minus p b)) f
sign_head t p m h = absurd cc

pub star_head : (t : Tok) (p : ℕ) → next_star t ≡ Some p → t ≡ Some (token.Star p)
star_head (Some (token.Star q)) p h = let e : q ≡ p = cc in ap (λ (x : ℕ). Some (token.Star x)) e
star_head t p h = absurd cc

pub caret_head : (t : Tok) (p : ℕ) → next_caret t ≡ Some p → t ≡ Some (token.Caret p)
caret_head (Some (token.Caret q)) p h = let e : q ≡ p = cc in ap (λ (x : ℕ). Some (token.Caret x)) e
caret_head t p h = absurd cc

pub number_head : (t : Tok) (n : ℕ) → next_number t ≡ Some n → t ≡ Some (token.Number n)
number_head (Some (token.Number q)) n h = let e : q ≡ n = cc in ap (λ (x : ℕ). Some (token.Number x)) e
number_head t n h = absurd cc

pub name_head : (t : Tok) (x : Name) → next_name t ≡ Some x → t ≡ Some (token.Name x)
name_head (Some (token.Name y)) x h = let e : y ≡ x = cc in ap (λ (z : Name). Some (token.Name z)) e
name_head t x h = absurd cc

pub parenthesis_head : (t : Tok) → is_parenthesis t ≡ true → t ≡ Some token.OpenParenthesis
parenthesis_head (Some token.OpenParenthesis) h = refl
parenthesis_head t h = absurd cc

none_of_three : (t : Tok) → next_number t ≡ None → next_name t ≡ None → is_parenthesis t ≡ false → starts_primary t ≡ false
none_of_three (Some (token.Number q)) a b c = absurd cc
none_of_three (Some (token.Name q)) a b c = absurd cc
none_of_three (Some token.OpenParenthesis) a b c = absurd cc
none_of_three t a b c = refl

pub minus_head : (t : Tok) → is_minus t ≡ true → (p : ℕ) × (t ≡ Some (token.Minus p))
minus_head (Some (token.Minus p)) h = (p, refl)
minus_head t h = absurd cc

no_sign : (t : Tok) → on_product t ≡ false → next_sign t ≡ None → on_term t ≡ false
no_sign (Some (token.Plus q)) p h = absurd cc
no_sign (Some (token.Minus q)) p h = absurd cc
no_sign t p h = p

pub sum_ends : (new : List Located) → Stops on_product (with_end new) → next_sign (head new) ≡ None → Stops on_term (with_end new)
sum_ends new s h = stops_at_head on_term new (no_sign (head new) (head_stops on_product new s) h)

no_star : (t : Tok) → on_power t ≡ false → next_star t ≡ None → on_product t ≡ false
no_star (Some (token.Star q)) p h = absurd cc
no_star t p h = p

pub product_ends : (new : List Located) → Stops on_power (with_end new) → next_star (head new) ≡ None → Stops on_product (with_end new)
product_ends new s h = stops_at_head on_product new (no_star (head new) (head_stops on_power new s) h)

no_caret_on : (t : Tok) → next_caret t ≡ None → on_power t ≡ false
no_caret_on (Some (token.Caret q)) h = absurd cc
no_caret_on t h = refl

pub power_ends : (new : List Located) → next_caret (head new) ≡ None → Stops on_power (with_end new)
power_ends new h = stops_at_head on_power new (no_caret_on (head new) h)

-- ---- sums

abbrev sign_mark : ℕ × Bool → Occurrence
sign_mark o = plain (plus_or_minus o.0 o.1)

abbrev pub addend_item : ℕ × Bool → TermTree → AddendTree
addend_item o t = (o.0, o.1, t)

abbrev pub whole_sum : TermTree → List AddendTree → TermTree
whole_sum t xs = sum_of t (addends_of xs)

sign_clean : adds_nothing sign_mark
sign_clean b (p, true) = (refl, refl)
sign_clean b (p, false) = (refl, refl)

sums_of : List ((ℕ × Bool) × Product) → Sums
sums_of [] = no_sum
sums_of (x ∷ xs) = sign x.0.0 x.0.1 x.1 (sums_of xs)

list_of : Sums → List ((ℕ × Bool) × Product)
list_of no_sum = []
list_of (sign a m p ps) = ((a, m), p) ∷ list_of ps

sums_of-spells : (depth : ℕ) (xs : List ((ℕ × Bool) × Product)) (r : List Occurrence) → sums depth (sums_of xs) r ≡ tail (product depth false) sign_mark xs r
unfolding sums_of
sums_of-spells depth [] r = refl
sums_of-spells depth (x ∷ xs) r = ap (λ (ms : List Occurrence). sign_mark x.0 ∷ product depth false x.1 ms) (sums_of-spells depth xs r)

list_of-spells : (depth : ℕ) (ps : Sums) (r : List Occurrence) → tail (product depth false) sign_mark (list_of ps) r ≡ sums depth ps r
unfolding list_of
list_of-spells depth no_sum r = refl
list_of-spells depth (sign a m p ps) r = ap (λ (ms : List Occurrence). sign_mark (a, m) ∷ product depth false p ms) (list_of-spells depth ps r)

sums_of-tree : (xs : List ((ℕ × Bool) × Product)) → sums_tree (sums_of xs) ≡ addends_of (items product_tree addend_item xs)
unfolding sums_of
sums_of-tree [] = refl
sums_of-tree (x ∷ xs) = ap (tree.addend x.0.0 x.0.1 (product_tree x.1)) (sums_of-tree xs)

abbrev pub IsSums : ℕ → TermTree → List AddendTree → List Tok → List Tok → Type 0
IsSums depth first later old new = IsChain {O = ℕ × Bool} {A = Product} {P = TermTree} {I = AddendTree} (product depth false) on_product sign_mark product_tree addend_item first later old new 0 0

term_list : Term → Product × List ((ℕ × Bool) × Product)
term_list (sum p ps) = (p, list_of ps)

term_list-spells : (depth : ℕ) (t : Term) (r : List Occurrence) → chain (product depth false) sign_mark (term_list t) r ≡ term depth false t r
unfolding term_list
term_list-spells depth (sum p ps) r = ap (product depth false p) (list_of-spells depth ps r)

module _ (depth : ℕ) where
  term_exit : (result : Result code.Term (Halt TextFault)) (old new : List Tok) → Reads (chain {O = ℕ × Bool} {A = Product} (product depth false) sign_mark) on_term (chain_tree product_tree addend_item whole_sum) term_of result old new 0 0 → Reads (term depth false) on_term term_tree term_of result old new 0 0
  term_exit result old new r =
      recast {A = Product × List ((ℕ × Bool) × Product)} {X = Term} (chain (product depth false) sign_mark) (term depth false) on_term (λ c. sum c.0 (sums_of c.1)) term_list
      (λ c r. ap (product depth false c.0) (sums_of-spells depth c.1 r)) (term_list-spells depth) (chain_tree product_tree addend_item whole_sum) term_tree term_of (λ c. ap (sum_of (product_tree c.0)) (sums_of-tree c.1))
      (chain-append (product depth false) on_product on_term sign_mark product_tree addend_item (product-append depth false) (one_product depth) sign_clean (λ o. sign_stops o.0 o.1) (λ o. sign_goes o.0 o.1) to_product) result old new 0 0 r

  pub term_first_err : (e : Halt TextFault) (old new : List Tok) → Reads (product depth false) on_product product_tree term_of (Err e) old new 0 0 → Reads (term depth false) on_term term_tree term_of (Err e) old new 0 0
  term_first_err e old new r = term_exit (Err e) old new (first_err (product depth false) on_product on_term sign_mark product_tree addend_item (product-append depth false) (one_product depth) sign_clean (λ o. sign_stops o.0 o.1) (λ o. sign_goes o.0 o.1) to_product term_of term_of (chain_tree product_tree addend_item whole_sum) e old new 0 0 r)

  pub term_turn_err : (at : ℕ) (minus : Bool) (e : Halt TextFault) (first : TermTree) (later : List AddendTree) (old mid mid' new : List Tok) → mid ≡ Some (plus_or_minus at minus) ∷ mid' → IsSums depth first later old mid → Reads (product depth false) on_product product_tree term_of (Err e) mid' new 0 0 → Reads (term depth false) on_term term_tree term_of (Err e) old new 0 0
  term_turn_err at minus e first later old mid mid' new m k r = term_exit (Err e) old new (turn_err (product depth false) on_product on_term sign_mark product_tree addend_item (product-append depth false) (one_product depth) sign_clean (λ o. sign_stops o.0 o.1) (λ o. sign_goes o.0 o.1) to_product term_of term_of (chain_tree product_tree addend_item whole_sum) (at, minus) e first later old mid mid' new 0 0 0 m k r)

  pub term_start : (first : TermTree) (later : List AddendTree) (old new : List Tok) → later ≡ [] → IsRead (product depth false) on_product product_tree first old new 0 0 → IsSums depth first later old new
  term_start first later old new e r = subst (λ (x : List AddendTree). IsSums depth first x old new) (sym e) (start (product depth false) on_product on_term sign_mark product_tree addend_item (product-append depth false) (one_product depth) sign_clean (λ o. sign_stops o.0 o.1) (λ o. sign_goes o.0 o.1) to_product first old new 0 0 r)

  pub term_turn : (at : ℕ) (minus : Bool) (first part : TermTree) (later later' : List AddendTree) (old mid mid' new : List Tok) → mid ≡ Some (plus_or_minus at minus) ∷ mid' → later' ≡ later ++ (at, minus, part) ∷ [] → IsSums depth first later old mid → IsRead (product depth false) on_product product_tree part mid' new 0 0 → IsSums depth first later' old new
  term_turn at minus first part later later' old mid mid' new m v k r = turn (product depth false) on_product on_term sign_mark product_tree addend_item (product-append depth false) (one_product depth) sign_clean (λ o. sign_stops o.0 o.1) (λ o. sign_goes o.0 o.1) to_product (at, minus) first part later later' old mid mid' new 0 0 0 m v k r

  pub term_end : (t : code.Term) (first : TermTree) (later : List AddendTree) (old new : List Tok) → term_of t ≡ sum_of first (addends_of later) → Stops on_term new → IsSums depth first later old new → IsRead (term depth false) on_term term_tree (term_of t) old new 0 0
  term_end t first later old new v s k = term_exit (Ok t) old new (end (product depth false) on_product on_term sign_mark product_tree addend_item (product-append depth false) (one_product depth) sign_clean (λ o. sign_stops o.0 o.1) (λ o. sign_goes o.0 o.1) to_product whole_sum (term_of t) first later old new 0 0 v s k)

-- ---- products

abbrev star_mark : ℕ → Occurrence
star_mark at = plain (token.Star at)

abbrev pub factor_item : ℕ → TermTree → FactorTree
factor_item at t = (at, t)

abbrev pub whole_product : TermTree → List FactorTree → TermTree
whole_product t xs = product_of t (factors_of xs)

times_of : List (ℕ × Signed) → Times
times_of [] = no_times
times_of (x ∷ xs) = times x.0 x.1 (times_of xs)

signed_list : Times → List (ℕ × Signed)
signed_list no_times = []
signed_list (times at s ss) = (at, s) ∷ signed_list ss

times_of-spells : (depth : ℕ) (xs : List (ℕ × Signed)) (r : List Occurrence) → timeses depth (times_of xs) r ≡ tail (signed depth false) star_mark xs r
unfolding times_of
times_of-spells depth [] r = refl
times_of-spells depth (x ∷ xs) r = ap (λ (ms : List Occurrence). star_mark x.0 ∷ signed depth false x.1 ms) (times_of-spells depth xs r)

signed_list-spells : (depth : ℕ) (ss : Times) (r : List Occurrence) → tail (signed depth false) star_mark (signed_list ss) r ≡ timeses depth ss r
unfolding signed_list
signed_list-spells depth no_times r = refl
signed_list-spells depth (times at s ss) r = ap (λ (ms : List Occurrence). star_mark at ∷ signed depth false s ms) (signed_list-spells depth ss r)

times_of-tree : (xs : List (ℕ × Signed)) → times_tree (times_of xs) ≡ factors_of (items signed_tree factor_item xs)
unfolding times_of
times_of-tree [] = refl
times_of-tree (x ∷ xs) = ap (tree.factor x.0 (signed_tree x.1)) (times_of-tree xs)

product_list : Product → Signed × List (ℕ × Signed)
product_list (factors s ss) = (s, signed_list ss)

product_list-spells : (depth : ℕ) (p : Product) (r : List Occurrence) → chain (signed depth false) star_mark (product_list p) r ≡ product depth false p r
unfolding product_list
product_list-spells depth (factors s ss) r = ap (signed depth false s) (signed_list-spells depth ss r)

abbrev pub IsTimes : ℕ → TermTree → List FactorTree → List Tok → List Tok → Type 0
IsTimes depth first later old new = IsChain {O = ℕ} {A = Signed} {P = TermTree} {I = FactorTree} (signed depth false) on_power star_mark signed_tree factor_item first later old new 0 0

module _ (depth : ℕ) where
  product_exit : (result : Result code.Term (Halt TextFault)) (old new : List Tok) → Reads (chain {O = ℕ} {A = Signed} (signed depth false) star_mark) on_product (chain_tree signed_tree factor_item whole_product) term_of result old new 0 0 → Reads (product depth false) on_product product_tree term_of result old new 0 0
  product_exit result old new r =
      recast {A = Signed × List (ℕ × Signed)} {X = Product} (chain (signed depth false) star_mark) (product depth false) on_product (λ c. factors c.0 (times_of c.1)) product_list
      (λ c r. ap (signed depth false c.0) (times_of-spells depth c.1 r)) (product_list-spells depth) (chain_tree signed_tree factor_item whole_product) product_tree term_of (λ c. ap (product_of (signed_tree c.0)) (times_of-tree c.1))
      (chain-append (signed depth false) on_power on_product star_mark signed_tree factor_item (signed-append depth false) (one_signed depth) (λ b o. (refl, refl)) (λ o. refl) (λ o. refl) to_power) result old new 0 0 r

  pub product_first_err : (e : Halt TextFault) (old new : List Tok) → Reads (signed depth false) on_power signed_tree term_of (Err e) old new 0 0 → Reads (product depth false) on_product product_tree term_of (Err e) old new 0 0
  product_first_err e old new r = product_exit (Err e) old new (first_err (signed depth false) on_power on_product star_mark signed_tree factor_item (signed-append depth false) (one_signed depth) (λ b o. (refl, refl)) (λ o. refl) (λ o. refl) to_power term_of term_of (chain_tree signed_tree factor_item whole_product) e old new 0 0 r)

  pub product_turn_err : (at : ℕ) (e : Halt TextFault) (first : TermTree) (later : List FactorTree) (old mid mid' new : List Tok) → mid ≡ Some (token.Star at) ∷ mid' → IsTimes depth first later old mid → Reads (signed depth false) on_power signed_tree term_of (Err e) mid' new 0 0 → Reads (product depth false) on_product product_tree term_of (Err e) old new 0 0
  product_turn_err at e first later old mid mid' new m k r = product_exit (Err e) old new (turn_err (signed depth false) on_power on_product star_mark signed_tree factor_item (signed-append depth false) (one_signed depth) (λ b o. (refl, refl)) (λ o. refl) (λ o. refl) to_power term_of term_of (chain_tree signed_tree factor_item whole_product) at e first later old mid mid' new 0 0 0 m k r)

  pub product_start : (first : TermTree) (later : List FactorTree) (old new : List Tok) → later ≡ [] → IsRead (signed depth false) on_power signed_tree first old new 0 0 → IsTimes depth first later old new
  product_start first later old new e r = subst (λ (x : List FactorTree). IsTimes depth first x old new) (sym e) (start (signed depth false) on_power on_product star_mark signed_tree factor_item (signed-append depth false) (one_signed depth) (λ b o. (refl, refl)) (λ o. refl) (λ o. refl) to_power first old new 0 0 r)

  pub product_turn : (at : ℕ) (first part : TermTree) (later later' : List FactorTree) (old mid mid' new : List Tok) → mid ≡ Some (token.Star at) ∷ mid' → later' ≡ later ++ (at, part) ∷ [] → IsTimes depth first later old mid → IsRead (signed depth false) on_power signed_tree part mid' new 0 0 → IsTimes depth first later' old new
  product_turn at first part later later' old mid mid' new m v k r = turn (signed depth false) on_power on_product star_mark signed_tree factor_item (signed-append depth false) (one_signed depth) (λ b o. (refl, refl)) (λ o. refl) (λ o. refl) to_power at first part later later' old mid mid' new 0 0 0 m v k r

  pub product_end : (t : code.Term) (first : TermTree) (later : List FactorTree) (old new : List Tok) → term_of t ≡ product_of first (factors_of later) → Stops on_product new → IsTimes depth first later old new → IsRead (product depth false) on_product product_tree (term_of t) old new 0 0
  product_end t first later old new v s k = product_exit (Ok t) old new (end (signed depth false) on_power on_product star_mark signed_tree factor_item (signed-append depth false) (one_signed depth) (λ b o. (refl, refl)) (λ o. refl) (λ o. refl) to_power whole_product (term_of t) first later old new 0 0 v s k)

-- ---- a signed

goes_negative : (depth at : ℕ) → GoesOn (signed (depth + 1) false) on_power (signed depth false) on_power (opener (token.Minus at) depth false ∷ [])
goes_negative depth at (negative i s) rest ts stops e = (s, rest, stops, cc)
goes_negative depth at (positive p) rest ts stops e = absurd (begins_else starts_primary _ _ _ (power_begins depth false p rest) refl e)

minus_clean : (depth at : ℕ) → nat_le 256 depth ≡ false → passed_limit 0 (opener (token.Minus at) depth false) ≡ None
minus_clean depth at h = ap (λ (x : Bool). if x then Some TooDeep else None) h

pub negative_err : (depth : ℕ) (e : Halt TextFault) (old mid : List Located) (new : List Tok) → with_end old ≡ head old ∷ with_end mid → is_minus (head old) ≡ true → nat_le 256 depth ≡ false
    → Reads (signed (depth + 1) false) on_power signed_tree term_of (Err e) (with_end mid) new 0 0 → Reads (signed depth false) on_power signed_tree term_of (Err e) (with_end old) new 0 0
negative_err depth e old mid new h m k r =
    let w = minus_head (head old) m in
    within_err (signed (depth + 1) false) on_power (signed depth false) on_power signed_tree signed_tree term_of term_of (signed-append (depth + 1) false) (opener (token.Minus w.0) depth false ∷ []) [] (negative w.0) (λ a. refl) (goes_negative depth w.0) e (with_end old) (with_end mid) new 0 0 0 0
    (next_is old mid (token.Minus w.0) h w.1) (minus_clean depth w.0 k, tt) refl r

pub negative_deep : (depth : ℕ) (e : Halt TextFault) (old : List Located) → is_minus (head old) ≡ true → Tests (nat_le 256 depth) TooDeep (Err e) → Reads (signed depth false) on_power signed_tree term_of (Err e) (with_end old) (with_end old) 0 0
negative_deep depth halt.OutOfMemory old h k = tt
negative_deep depth (halt.Limit f) old h k =
    let m = minus_head (head old) h in
    let w = at_head old (token.Minus m.0) m.1 in
    subst (λ g. IsStopped (signed depth false) on_power g (with_end old) (with_end old) 0) (sym k.1)
    (stops_at (signed depth false) on_power (negative m.0 (positive (base (number 0)))) [] (opener (token.Minus m.0) depth false) (figure 0 literal false ∷ []) TooDeep (with_end old) (with_end old) w.0 0 refl refl w.1 tt tt (ap (λ (x : Bool). if x then Some TooDeep else None) k.0))

pub read_negative : (depth : ℕ) (value inner : TermTree) (old mid : List Located) (new : List Tok) → value ≡ tree.Negative inner → with_end old ≡ head old ∷ with_end mid → is_minus (head old) ≡ true → nat_le 256 depth ≡ false
    → IsRead (signed (depth + 1) false) on_power signed_tree inner (with_end mid) new 0 0 → IsRead (signed depth false) on_power signed_tree value (with_end old) new 0 0
read_negative depth value inner old mid new is h m k r =
    let w = minus_head (head old) m in
    record {
      found = negative w.0 r.found;
      is = ap tree.Negative r.is ∙ sym is;
      spelled = next_is old mid (token.Minus w.0) h w.1 ∙ ap (λ (x : List Tok). Some (token.Minus w.0) ∷ x) r.spelled;
      clean = (minus_clean depth w.0 k, r.clean);
      count = r.count;
      stops = r.stops;
    }

goes_positive : (depth : ℕ) (h : Tok) → is_minus h ≡ false → GoesFrom (power depth false) on_power (signed depth false) on_power h
goes_positive depth h m (negative at s) rest ts st e = let g : Some (token.Minus at) ≡ h = cc in let w : true ≡ false = ap is_minus g ∙ m in absurd cc
goes_positive depth h m (positive p) rest ts st e = (p, rest, st, e)

-- no sign stands first
pub falls_through : (depth : ℕ) (result : Result code.Term (Halt TextFault)) (old new : List Located) → is_minus (head old) ≡ false → Reads (power depth false) on_power power_tree term_of result (with_end old) (with_end new) 0 0 → Reads (signed depth false) on_power signed_tree term_of result (with_end old) (with_end new) 0 0
falls_through depth (Ok f) old new m r = record { found = positive r.found; is = r.is; spelled = r.spelled; clean = r.clean; count = r.count; stops = r.stops }
falls_through depth (Err halt.OutOfMemory) old new m r = tt
falls_through depth (Err (halt.Limit f)) old new m r = from_first (power depth false) on_power (signed depth false) on_power (head old) positive (λ a. refl) (goes_positive depth (head old) m) f (with_end old) (with_end new) 0 (first_head old) r

-- ---- a power

goes_base : (depth : ℕ) → GoesOn (primary depth false) on_primary (power depth false) on_power []
goes_base depth (base b) rest ts st e = (b, rest, any_stop on_power (tokens_of rest) st, e)
goes_base depth (raised b at n) rest ts st e = (b, plain (token.Caret at) ∷ figure n (exponent (is_name b)) false ∷ rest, refl, e)

pub base_err : (depth : ℕ) (e : Halt TextFault) (old new : List Tok) → Reads (primary depth false) on_primary primary_tree term_of (Err e) old new 0 0 → Reads (power depth false) on_power power_tree term_of (Err e) old new 0 0
base_err depth e old new r = within_err (primary depth false) on_primary (power depth false) on_power primary_tree power_tree term_of term_of (primary-append depth false) [] [] base (λ a. refl) (goes_base depth) e old old new 0 0 0 0 refl tt refl r

pub read_base : (depth : ℕ) (value : TermTree) (old new : List Tok) → Stops on_power new → IsRead (primary depth false) on_primary primary_tree value old new 0 0 → IsRead (power depth false) on_power power_tree value old new 0 0
read_base depth value old new s r = record { found = base r.found; is = r.is; spelled = r.spelled; clean = r.clean; count = r.count; stops = s }

named_none : (depth : ℕ) (b : Primary) (ts : List Tok) → None ∷ [] ≡ tokens_of (primary depth false b []) ++ ts → false ≡ is_name b
named_none depth (number n) ts e = absurd cc
named_none depth (name n) ts e = absurd cc
named_none depth (group t) ts e = absurd cc

named_some : (depth : ℕ) (b : Primary) (x : Token) (old ts : List Tok) → Some x ∷ old ≡ tokens_of (primary depth false b []) ++ ts → is_some (next_name (Some x)) ≡ is_name b
named_some depth (number n) x old ts e = let f : x ≡ token.Number n = cc in ap (λ (t : Token). is_some (next_name (Some t))) f
named_some depth (name n) x old ts e = let f : x ≡ token.Name n = cc in ap (λ (t : Token). is_some (next_name (Some t))) f
named_some depth (group t) x old ts e = let f : x ≡ token.OpenParenthesis = cc in ap (λ (t : Token). is_some (next_name (Some t))) f

-- whether a name stands first
named : (depth : ℕ) (b : Primary) (old : List Located) (ts : List Tok) → with_end old ≡ tokens_of (primary depth false b []) ++ ts → is_some (next_name (head old)) ≡ is_name b
named depth b [] ts e = named_none depth b ts e
named depth b (x ∷ old) ts e = named_some depth b x.token (with_end old) ts e

no_caret : (rest : List Occurrence) (at : ℕ) (ts : List Tok) → Stops on_power (tokens_of rest) → tokens_of rest ≡ Some (token.Caret at) ∷ ts → ⊥
no_caret [] at ts s e = s
no_caret (x ∷ rest) at ts s e = let f : x.token ≡ Some (token.Caret at) = cc in let g : true ≡ false = sym (ap on_power f) ∙ s in absurd cc

no_exponent : (depth at : ℕ) (b : Primary) (t : Tok) (ts : List Tok) → ((m : ℕ) (us : List Tok) → t ∷ ts ≡ Some (token.Number m) ∷ us → ⊥)
    → (p : Power) (rest : List Occurrence) (us : List Tok) → Stops on_power (tokens_of rest) → tokens_of (power depth false p rest) ≡ tokens_of (primary depth false b []) ++ (Some (token.Caret at) ∷ t ∷ us) → ⊥
no_exponent depth at b t ts bad (base c) rest us st e =
    let w = one_primary depth c b rest (Some (token.Caret at) ∷ t ∷ us) (any_stop on_power (tokens_of rest) st) refl e in no_caret rest at (t ∷ us) st w.1
no_exponent depth at b t ts bad (raised c i m) rest us st e =
    let w = one_primary depth c b (plain (token.Caret i) ∷ figure m (exponent (is_name c)) false ∷ rest) (Some (token.Caret at) ∷ t ∷ us) refl refl e in
    let f : Some (token.Number m) ≡ t = let x : Some (token.Caret i) ∷ Some (token.Number m) ∷ tokens_of rest ≡ Some (token.Caret at) ∷ t ∷ us = w.1 in cc in
    bad m ts (ap (λ (v : Tok). v ∷ ts) (sym f))

figure_clean : (n : ℕ) (b : Bool) → nat_lt (most_exponent b) n ≡ false → passed_limit 0 (figure n (exponent b) false) ≡ None
figure_clean n b h = ap (λ (x : Bool). if x then Some Exponent else None) h

pub exponent_err : (depth at : ℕ) (e : Halt TextFault) (value : TermTree) (n : Bool) (old mid mid' new : List Located) → n ≡ is_some (next_name (head old)) → IsRead (primary depth false) on_primary primary_tree value (with_end old) (with_end mid) 0 0 → with_end mid ≡ Some (token.Caret at) ∷ with_end mid'
    → TakesExponent (most_exponent n) (Err e) (with_end mid') (with_end new) → Reads (power depth false) on_power power_tree term_of (Err e) (with_end old) (with_end new) 0 0
exponent_err depth at halt.OutOfMemory value n old mid mid' new nm r m s = tt
exponent_err depth at (halt.Limit Syntax) value n old mid mid' new nm r m s =
    let w = some_first mid' in
    let B = primary depth false r.found [] in
    let C = plain (token.Caret at) in
    let F = figure 0 (exponent (is_name r.found)) false in
    let front : tokens_of (B ++ C ∷ []) ≡ tokens_of B ++ Some (token.Caret at) ∷ [] = tokens_of-append B (C ∷ []) in
    refused_at (power depth false) on_power (raised r.found at 0) (B ++ C ∷ []) (F ∷ []) (head mid') (with_end old) (with_end new) w.0 0
    (primary-append depth false r.found [] (C ∷ F ∷ []) ∙ sym (append_assoc B (C ∷ []) (F ∷ [])))
    (r.spelled ∙ ap (λ (x : List Tok). tokens_of B ++ x) (m ∙ ap (λ (x : List Tok). Some (token.Caret at) ∷ x) (sym s.0)) ∙ sym (append_assoc (tokens_of B) (Some (token.Caret at) ∷ []) (with_end new)) ∙ ap (λ (x : List Tok). x ++ with_end new) (sym front))
    (s.0 ∙ w.1) (clean-append 0 0 B (C ∷ []) r.count r.clean (refl, tt))
    (λ p rest us st e. no_exponent depth at r.found (head mid') w.0 (λ q vs f. s.1 q vs (w.1 ∙ f)) p rest us st (e ∙ ap (λ (x : List Tok). x ++ head mid' ∷ us) front ∙ append_assoc (tokens_of B) (Some (token.Caret at) ∷ []) (head mid' ∷ us)))
exponent_err depth at (halt.Limit Exponent) value n old mid mid' new nm r m s =
    let B = primary depth false r.found [] in
    let C = plain (token.Caret at) in
    let q = s.1 in
    let F = figure q (exponent (is_name r.found)) false in
    let front : tokens_of (B ++ C ∷ []) ≡ tokens_of B ++ Some (token.Caret at) ∷ [] = tokens_of-append B (C ∷ []) in
    let same : n ≡ is_name r.found = nm ∙ named depth r.found old (with_end mid) r.spelled in
    stops_at (power depth false) on_power (raised r.found at q) (B ++ C ∷ []) F [] Exponent (with_end old) (with_end new) s.2 0
    (primary-append depth false r.found [] (C ∷ F ∷ []) ∙ sym (append_assoc B (C ∷ []) (F ∷ [])))
    (r.spelled ∙ ap (λ (x : List Tok). tokens_of B ++ x) (m ∙ ap (λ (x : List Tok). Some (token.Caret at) ∷ x) (sym s.0)) ∙ sym (append_assoc (tokens_of B) (Some (token.Caret at) ∷ []) (with_end new)) ∙ ap (λ (x : List Tok). x ++ with_end new) (sym front))
    (s.0 ∙ s.3) (clean-append 0 0 B (C ∷ []) r.count r.clean (refl, tt)) tt
    (ap (λ (x : Bool). if x then Some Exponent else None) (ap (λ (b : Bool). nat_lt (most_exponent b) q) (sym same) ∙ s.4))
exponent_err depth at (halt.Limit Wide) value n old mid mid' new nm r m s = absurd s
exponent_err depth at (halt.Limit TooDeep) value n old mid mid' new nm r m s = absurd s
exponent_err depth at (halt.Limit TooMany) value n old mid mid' new nm r m s = absurd s

raised_clean : (depth at q : ℕ) (b : Primary) → IsClean 0 (primary depth false b []) → counted 0 (primary depth false b []) ≡ 0 → nat_lt (most_exponent (is_name b)) q ≡ false
    → IsClean 0 (primary depth false b [] ++ plain (token.Caret at) ∷ figure q (exponent (is_name b)) false ∷ [])
raised_clean depth at q b h c k = clean-append 0 0 (primary depth false b []) _ c h (refl, (figure_clean q (is_name b) k, tt))

pub read_power : (depth at q : ℕ) (value inner : TermTree) (n : Bool) (old mid mid' new : List Located) → value ≡ tree.Power inner at q → n ≡ is_some (next_name (head old)) → IsRead (primary depth false) on_primary primary_tree inner (with_end old) (with_end mid) 0 0 → with_end mid ≡ Some (token.Caret at) ∷ with_end mid'
    → with_end mid' ≡ Some (token.Number q) ∷ with_end new → nat_lt (most_exponent n) q ≡ false → Stops on_power (with_end new) → IsRead (power depth false) on_power power_tree value (with_end old) (with_end new) 0 0
read_power depth at q value inner n old mid mid' new is nm r m h k st =
    let B = primary depth false r.found [] in
    let F = plain (token.Caret at) ∷ figure q (exponent (is_name r.found)) false ∷ [] in
    let same : n ≡ is_name r.found = nm ∙ named depth r.found old (with_end mid) r.spelled in
    let split = primary-append depth false r.found [] F in
    record {
      found = raised r.found at q;
      is = ap (λ (t : TermTree). tree.Power t at q) r.is ∙ sym is;
      spelled = r.spelled ∙ ap (λ (x : List Tok). tokens_of B ++ x) (m ∙ ap (λ (x : List Tok). Some (token.Caret at) ∷ x) h) ∙ sym (append_assoc (tokens_of B) (tokens_of F) (with_end new)) ∙ ap (λ (x : List Tok). x ++ with_end new) (sym (ap tokens_of split ∙ tokens_of-append B F));
      clean = subst (λ (ms : List Occurrence). IsClean 0 ms) (sym split) (raised_clean depth at q r.found r.clean r.count (ap (λ (b : Bool). nat_lt (most_exponent b) q) (sym same) ∙ k));
      count = ap (counted 0) split ∙ counted-append 0 B F ∙ ap (λ (x : ℕ). counted x F) r.count;
      stops = st;
    }

no_second : (depth at at' : ℕ) (b : Primary) (q : ℕ) → (p : Power) (rest : List Occurrence) (us : List Tok) → Stops on_power (tokens_of rest)
    → tokens_of (power depth false p rest) ≡ tokens_of (primary depth false b []) ++ (Some (token.Caret at) ∷ Some (token.Number q) ∷ Some (token.Caret at') ∷ us) → ⊥
no_second depth at at' b q (base c) rest us st e =
    let w = one_primary depth c b rest (Some (token.Caret at) ∷ Some (token.Number q) ∷ Some (token.Caret at') ∷ us) (any_stop on_power (tokens_of rest) st) refl e in no_caret rest at _ st w.1
no_second depth at at' b q (raised c i m) rest us st e =
    let w = one_primary depth c b (plain (token.Caret i) ∷ figure m (exponent (is_name c)) false ∷ rest) (Some (token.Caret at) ∷ Some (token.Number q) ∷ Some (token.Caret at') ∷ us) refl refl e in
    no_caret rest at' us st (let x : Some (token.Caret i) ∷ Some (token.Number m) ∷ tokens_of rest ≡ Some (token.Caret at) ∷ Some (token.Number q) ∷ Some (token.Caret at') ∷ us = w.1 in cc)

some_caret : (t : Tok) → is_some (next_caret t) ≡ true → (p : ℕ) × (t ≡ Some (token.Caret p))
some_caret (Some (token.Caret p)) h = (p, refl)
some_caret t h = absurd cc

pub second_caret : (depth at q : ℕ) (inner : TermTree) (n : Bool) (old mid mid' new : List Located) → n ≡ is_some (next_name (head old)) → IsRead (primary depth false) on_primary primary_tree inner (with_end old) (with_end mid) 0 0 → with_end mid ≡ Some (token.Caret at) ∷ with_end mid'
    → with_end mid' ≡ Some (token.Number q) ∷ with_end new → nat_lt (most_exponent n) q ≡ false → is_some (next_caret (head new)) ≡ true → IsStopped (power depth false) on_power Syntax (with_end old) (with_end new) 0
second_caret depth at q inner n old mid mid' new nm r m h k st =
    let B = primary depth false r.found [] in
    let F = plain (token.Caret at) ∷ figure q (exponent (is_name r.found)) false ∷ [] in
    let same : n ≡ is_name r.found = nm ∙ named depth r.found old (with_end mid) r.spelled in
    let front : tokens_of (B ++ F) ≡ tokens_of B ++ tokens_of F = tokens_of-append B F in
    let p = some_caret (head new) st in
    let w = at_head new (token.Caret p.0) p.1 in
    refused_at (power depth false) on_power (raised r.found at q) (B ++ F) [] (Some (token.Caret p.0)) (with_end old) (with_end new) w.0 0
    (primary-append depth false r.found [] F ∙ sym (append-nil (B ++ F)))
    (r.spelled ∙ ap (λ (x : List Tok). tokens_of B ++ x) (m ∙ ap (λ (x : List Tok). Some (token.Caret at) ∷ x) h) ∙ sym (append_assoc (tokens_of B) (tokens_of F) (with_end new)) ∙ ap (λ (x : List Tok). x ++ with_end new) (sym front))
    w.1 (raised_clean depth at q r.found r.clean r.count (ap (λ (b : Bool). nat_lt (most_exponent b) q) (sym same) ∙ k))
    (λ y rest us s e. no_second depth at p.0 r.found q y rest us s (e ∙ ap (λ (x : List Tok). x ++ Some (token.Caret p.0) ∷ us) front ∙ append_assoc (tokens_of B) (tokens_of F) (Some (token.Caret p.0) ∷ us)))

-- ---- a primary

pub no_primary : (depth : ℕ) (old : List Located) → next_number (head old) ≡ None → next_name (head old) ≡ None → is_parenthesis (head old) ≡ false → IsStopped (primary depth false) on_primary Syntax (with_end old) (with_end old) 0
no_primary depth old a b c =
    let s = none_of_three (head old) a b c in
    let w = some_first old in
    refused_at (primary depth false) on_primary (number 0) [] (figure 0 literal false ∷ []) (head old) (with_end old) (with_end old) w.0 0 refl refl w.1 tt
    (λ a rest us st e. begins_else starts_primary _ _ _ (primary_begins depth false a rest) s e)

open_clean : (depth : ℕ) → nat_le 256 depth ≡ false → passed_limit 0 (opener token.OpenParenthesis depth false) ≡ None
open_clean depth h = ap (λ (x : Bool). if x then Some TooDeep else None) h

pub number_wide : (depth n : ℕ) (e : Halt TextFault) (old : List Located) → head old ≡ Some (token.Number n) → Tests (nat_lt 170141183460469231731687303715884105727 n) Wide (Err e) → Reads (primary depth false) on_primary primary_tree term_of (Err e) (with_end old) (with_end old) 0 0
number_wide depth n halt.OutOfMemory old h k = tt
number_wide depth n (halt.Limit f) old h k =
    let w = at_head old (token.Number n) h in
    subst (λ g. IsStopped (primary depth false) on_primary g (with_end old) (with_end old) 0) (sym k.1)
    (stops_at (primary depth false) on_primary (number n) [] (figure n literal false) [] Wide (with_end old) (with_end old) w.0 0 refl refl w.1 tt tt (ap (λ (x : Bool). if x then Some Wide else None) k.0))

pub group_deep : (depth : ℕ) (e : Halt TextFault) (old : List Located) → head old ≡ Some token.OpenParenthesis → Tests (nat_le 256 depth) TooDeep (Err e) → Reads (primary depth false) on_primary primary_tree term_of (Err e) (with_end old) (with_end old) 0 0
group_deep depth halt.OutOfMemory old h k = tt
group_deep depth (halt.Limit f) old h k =
    let w = at_head old token.OpenParenthesis h in
    subst (λ g. IsStopped (primary depth false) on_primary g (with_end old) (with_end old) 0) (sym k.1)
    (stops_at (primary depth false) on_primary (group (sum (factors (positive (base (number 0))) no_times) no_sum)) [] (opener token.OpenParenthesis depth false) (figure 0 literal false ∷ plain token.CloseParenthesis ∷ []) TooDeep (with_end old) (with_end old) w.0 0 refl refl w.1 tt tt (ap (λ (x : Bool). if x then Some TooDeep else None) k.0))

goes_group : (depth : ℕ) → GoesOn (term (depth + 1) false) on_term (primary depth false) on_primary (opener token.OpenParenthesis depth false ∷ [])
goes_group depth (number n) rest ts stops e = absurd cc
goes_group depth (name n) rest ts stops e = absurd cc
goes_group depth (group t) rest ts stops e = (t, plain token.CloseParenthesis ∷ rest, refl, cc)

pub group_err : (depth : ℕ) (e : Halt TextFault) (old mid new : List Tok) → old ≡ Some token.OpenParenthesis ∷ mid → nat_le 256 depth ≡ false → Reads (term (depth + 1) false) on_term term_tree term_of (Err e) mid new 0 0 → Reads (primary depth false) on_primary primary_tree term_of (Err e) old new 0 0
group_err depth e old mid new h k r =
    within_err (term (depth + 1) false) on_term (primary depth false) on_primary term_tree primary_tree term_of term_of (term-append (depth + 1) false) (opener token.OpenParenthesis depth false ∷ []) (plain token.CloseParenthesis ∷ []) group (λ a. refl) (goes_group depth) e old mid new 0 0 0 0 h (open_clean depth k, tt) refl r

no_close : (depth : ℕ) (s : Term) (t : Tok) (ts : List Tok) → Stops on_term (t ∷ ts) → ((us : List Tok) → t ∷ ts ≡ Some token.CloseParenthesis ∷ us → ⊥)
    → (a : Primary) (rest : List Occurrence) (us : List Tok) → Stops on_primary (tokens_of rest) → tokens_of (primary depth false a rest) ≡ Some token.OpenParenthesis ∷ (tokens_of (term (depth + 1) false s []) ++ t ∷ us) → ⊥
no_close depth s t ts st bad (number n) rest us stops e = absurd cc
no_close depth s t ts st bad (name n) rest us stops e = absurd cc
no_close depth s t ts st bad (group q) rest us stops e =
    let e' : tokens_of (term (depth + 1) false q (plain token.CloseParenthesis ∷ rest)) ≡ tokens_of (term (depth + 1) false s []) ++ t ∷ us = cc in
    let w = one_term (depth + 1) false q s (plain token.CloseParenthesis ∷ rest) (t ∷ us) refl st e' in
    let f : Some token.CloseParenthesis ≡ t = let x : Some token.CloseParenthesis ∷ tokens_of rest ≡ t ∷ us = w.1 in cc in
    bad ts (ap (λ (v : Tok). v ∷ ts) (sym f))

pub close_err : (depth : ℕ) (e : Halt TextFault) (value : TermTree) (old mid ts new : List Located) → with_end old ≡ Some token.OpenParenthesis ∷ with_end mid → nat_le 256 depth ≡ false → IsRead (term (depth + 1) false) on_term term_tree value (with_end mid) (with_end ts) 0 0
    → Takes token.CloseParenthesis (Err e) (with_end ts) (with_end new) → Reads (primary depth false) on_primary primary_tree term_of (Err e) (with_end old) (with_end new) 0 0
close_err depth halt.OutOfMemory value old mid ts new h k r s = tt
close_err depth (halt.Limit Syntax) value old mid ts new h k r s =
    let w = some_first ts in
    let S = term (depth + 1) false r.found [] in
    refused_at (primary depth false) on_primary (group r.found) (opener token.OpenParenthesis depth false ∷ S) (plain token.CloseParenthesis ∷ []) (head ts) (with_end old) (with_end new) w.0 0
    (ap (λ (ms : List Occurrence). opener token.OpenParenthesis depth false ∷ ms) (term-append (depth + 1) false r.found [] (plain token.CloseParenthesis ∷ [])))
    (h ∙ ap (λ (x : List Tok). Some token.OpenParenthesis ∷ x) (r.spelled ∙ ap (λ (x : List Tok). tokens_of S ++ x) (sym s.0))) (s.0 ∙ w.1) (open_clean depth k, r.clean)
    (no_close depth r.found (head ts) w.0 (subst (λ x. Stops on_term x) w.1 r.stops) (λ us e. s.1 us (w.1 ∙ e)))
close_err depth (halt.Limit Wide) value old mid ts new h k r s = absurd s
close_err depth (halt.Limit Exponent) value old mid ts new h k r s = absurd s
close_err depth (halt.Limit TooDeep) value old mid ts new h k r s = absurd s
close_err depth (halt.Limit TooMany) value old mid ts new h k r s = absurd s

pub read_number : (depth n : ℕ) (value : TermTree) (old new : List Located) → value ≡ tree.Number n → with_end old ≡ Some (token.Number n) ∷ with_end new → nat_lt 170141183460469231731687303715884105727 n ≡ false → IsRead (primary depth false) on_primary primary_tree value (with_end old) (with_end new) 0 0
read_number depth n value old new is h k = record { found = number n; is = sym is; spelled = h; clean = (ap (λ (x : Bool). if x then Some Wide else None) k, tt); count = refl; stops = stops_at_head on_primary new refl }

pub read_name : (depth : ℕ) (x : Name) (value : TermTree) (old new : List Located) → value ≡ tree.Variable x → with_end old ≡ Some (token.Name x) ∷ with_end new → IsRead (primary depth false) on_primary primary_tree value (with_end old) (with_end new) 0 0
read_name depth x value old new is h = record { found = name x; is = sym is; spelled = h; clean = (refl, tt); count = refl; stops = stops_at_head on_primary new refl }

pub read_group : (depth : ℕ) (value : TermTree) (old mid mid' new : List Located) → with_end old ≡ Some token.OpenParenthesis ∷ with_end mid → nat_le 256 depth ≡ false → IsRead (term (depth + 1) false) on_term term_tree value (with_end mid) (with_end mid') 0 0
    → with_end mid' ≡ Some token.CloseParenthesis ∷ with_end new → IsRead (primary depth false) on_primary primary_tree value (with_end old) (with_end new) 0 0
read_group depth value old mid mid' new h k r g =
    let S = term (depth + 1) false r.found [] in
    let C = plain token.CloseParenthesis ∷ [] in
    let split = term-append (depth + 1) false r.found [] C in
    record {
      found = group r.found;
      is = r.is;
      spelled = h ∙ ap (λ (x : List Tok). Some token.OpenParenthesis ∷ x) (r.spelled ∙ ap (λ (x : List Tok). tokens_of S ++ x) g ∙ sym (append_assoc (tokens_of S) (Some token.CloseParenthesis ∷ []) (with_end new)) ∙ ap (λ (x : List Tok). x ++ with_end new) (sym (ap tokens_of split ∙ tokens_of-append S C)));
      clean = (open_clean depth k, subst (λ ms. IsClean 0 ms) (sym split) (clean-append 0 0 S C r.count r.clean (refl, tt)));
      count = ap (counted 0) split ∙ counted-append 0 S C ∙ ap (λ (n : ℕ). counted n C) r.count;
      stops = stops_at_head on_primary new refl;
    }
