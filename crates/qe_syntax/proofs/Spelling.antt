-- What derivations spell determines them: the grammar reads one token ahead.
use Rattle.std.proofs.Common.{◌≡◌, ℕ, ◌+◌, Bool, true, false, List, [], ◌∷◌, ◌++◌, Some, None, refl, sym, ap, subst, ◌∙◌}
use Rattle.qe_token.specs.declared.token.Token.TheVariants as token
use Rattle.qe_token.specs.declared.token.Name.{Name}
use Rattle.qe_syntax.specs.declared.formula.Quantifier.{Quantifier}
use Rattle.qe_syntax.specs.declared.formula.Quantifier.TheVariants as quantifiers
use Rattle.qe_syntax.specs.declared.formula.Arrow.{Arrow}
use Rattle.qe_syntax.specs.declared.formula.Arrow.TheVariants as arrows
use Rattle.qe_syntax.specs.Grammar.{Term, Sums, Product, Times, Signed, Power, Primary, Atom, sum, no_sum, sign, factors, no_times, times, negative, positive, base, raised, number, name, group, compare, exponent, literal, Occurrence, plain, opener, figure, word, plus_or_minus, is_name, term, sums, product, timeses, signed, power, primary, comparison, tokens_of}
use Rattle.qe_syntax.specs.Grammar.{Formula, Scope, Simple, Disj, Ors, Conj, Ands, Unary, quantified, open_formula, further, body, alone, joined, ors, no_or, or, ands, no_and, and, not, constant, bracket, atom, quantifier_token, arrow_token, constant_token, formula, scope, simple, disj, orses, conj, andses, unary}
use Rattle.qe_syntax.specs.Faults.{Tok}
use Rattle.qe_syntax.specs.Reading.{Stops, on_primary, on_power, on_product, on_term, on_conj, on_disj, on_simple}

pub tokens_of-append : (m n : List Occurrence) → tokens_of (m ++ n) ≡ tokens_of m ++ tokens_of n
tokens_of-append [] n = refl
tokens_of-append (x ∷ m) n = ap (λ (ts : List Tok). x.token ∷ ts) (tokens_of-append m n)

-- occurrences for tokens
abbrev pub marks : List Tok → List Occurrence
marks [] = []
marks (t ∷ ts) = record { token = t; opens = None; role = literal; begins = false } ∷ marks ts

pub tokens_of-marks : (ts : List Tok) → tokens_of (marks ts) ≡ ts
tokens_of-marks [] = refl
tokens_of-marks (t ∷ ts) = ap (λ (us : List Tok). t ∷ us) (tokens_of-marks ts)

mutual
  pub term-append : (depth : ℕ) (b : Bool) (t : Term) (r q : List Occurrence) → term depth b t (r ++ q) ≡ term depth b t r ++ q
  term-append depth b (sum p ps) r q = ap (product depth b p) (sums-append depth ps r q) ∙ product-append depth b p (sums depth ps r) q

  pub sums-append : (depth : ℕ) (ps : Sums) (r q : List Occurrence) → sums depth ps (r ++ q) ≡ sums depth ps r ++ q
  sums-append depth no_sum r q = refl
  sums-append depth (sign at minus p ps) r q = ap (λ (ms : List Occurrence). plain (plus_or_minus at minus) ∷ ms) (ap (product depth false p) (sums-append depth ps r q) ∙ product-append depth false p (sums depth ps r) q)

  pub product-append : (depth : ℕ) (b : Bool) (p : Product) (r q : List Occurrence) → product depth b p (r ++ q) ≡ product depth b p r ++ q
  product-append depth b (factors s ss) r q = ap (signed depth b s) (timeses-append depth ss r q) ∙ signed-append depth b s (timeses depth ss r) q

  pub timeses-append : (depth : ℕ) (ss : Times) (r q : List Occurrence) → timeses depth ss (r ++ q) ≡ timeses depth ss r ++ q
  timeses-append depth no_times r q = refl
  timeses-append depth (times at s ss) r q = ap (λ (ms : List Occurrence). plain (token.Star at) ∷ ms) (ap (signed depth false s) (timeses-append depth ss r q) ∙ signed-append depth false s (timeses depth ss r) q)

  pub signed-append : (depth : ℕ) (b : Bool) (s : Signed) (r q : List Occurrence) → signed depth b s (r ++ q) ≡ signed depth b s r ++ q
  signed-append depth b (negative at s) r q = ap (λ (ms : List Occurrence). opener (token.Minus at) depth b ∷ ms) (signed-append (depth + 1) false s r q)
  signed-append depth b (positive p) r q = power-append depth b p r q

  pub power-append : (depth : ℕ) (b : Bool) (p : Power) (r q : List Occurrence) → power depth b p (r ++ q) ≡ power depth b p r ++ q
  power-append depth b (base a) r q = primary-append depth b a r q
  power-append depth b (raised a at n) r q = primary-append depth b a (plain (token.Caret at) ∷ figure n (exponent (is_name a)) false ∷ r) q

  pub primary-append : (depth : ℕ) (b : Bool) (a : Primary) (r q : List Occurrence) → primary depth b a (r ++ q) ≡ primary depth b a r ++ q
  primary-append depth b (number n) r q = refl
  primary-append depth b (name n) r q = refl
  primary-append depth b (group t) r q = ap (λ (ms : List Occurrence). opener token.OpenParenthesis depth b ∷ ms) (term-append (depth + 1) false t (plain token.CloseParenthesis ∷ r) q)

pub comparison-append : (depth : ℕ) (a : Atom) (r q : List Occurrence) → comparison depth a (r ++ q) ≡ comparison depth a r ++ q
comparison-append depth (compare t at k u) r q =
    ap (λ (ms : List Occurrence). term depth true t (plain (token.Relation at k) ∷ ms)) (term-append depth false u r q) ∙ term-append depth true t (plain (token.Relation at k) ∷ term depth false u r) q

mutual
  pub formula-append : (depth : ℕ) (f : Formula) (r q : List Occurrence) → formula depth f (r ++ q) ≡ formula depth f r ++ q
  formula-append depth (quantified quantifier x s) r q = ap (λ (ms : List Occurrence). plain (quantifier_token quantifier) ∷ opener (token.Name x) depth true ∷ ms) (scope-append (depth + 1) s r q)
  formula-append depth (open_formula s) r q = simple-append depth s r q

  pub scope-append : (depth : ℕ) (s : Scope) (r q : List Occurrence) → scope depth s (r ++ q) ≡ scope depth s r ++ q
  scope-append depth (further x s) r q = ap (λ (ms : List Occurrence). opener (token.Name x) depth true ∷ ms) (scope-append (depth + 1) s r q)
  scope-append depth (body f) r q = ap (λ (ms : List Occurrence). plain token.Dot ∷ ms) (formula-append depth f r q)

  pub simple-append : (depth : ℕ) (s : Simple) (r q : List Occurrence) → simple depth s (r ++ q) ≡ simple depth s r ++ q
  simple-append depth (alone d) r q = disj-append depth d r q
  simple-append depth (joined arrow d e) r q = ap (λ (ms : List Occurrence). disj depth d (plain (arrow_token arrow) ∷ ms)) (disj-append depth e r q) ∙ disj-append depth d (plain (arrow_token arrow) ∷ disj depth e r) q

  pub disj-append : (depth : ℕ) (d : Disj) (r q : List Occurrence) → disj depth d (r ++ q) ≡ disj depth d r ++ q
  disj-append depth (ors c cs) r q = ap (conj depth c) (orses-append depth cs r q) ∙ conj-append depth c (orses depth cs r) q

  pub orses-append : (depth : ℕ) (cs : Ors) (r q : List Occurrence) → orses depth cs (r ++ q) ≡ orses depth cs r ++ q
  orses-append depth no_or r q = refl
  orses-append depth (or c cs) r q = ap (λ (ms : List Occurrence). plain token.Or ∷ ms) (ap (conj depth c) (orses-append depth cs r q) ∙ conj-append depth c (orses depth cs r) q)

  pub conj-append : (depth : ℕ) (c : Conj) (r q : List Occurrence) → conj depth c (r ++ q) ≡ conj depth c r ++ q
  conj-append depth (ands u us) r q = ap (unary depth u) (andses-append depth us r q) ∙ unary-append depth u (andses depth us r) q

  pub andses-append : (depth : ℕ) (us : Ands) (r q : List Occurrence) → andses depth us (r ++ q) ≡ andses depth us r ++ q
  andses-append depth no_and r q = refl
  andses-append depth (and u us) r q = ap (λ (ms : List Occurrence). plain token.And ∷ ms) (ap (unary depth u) (andses-append depth us r q) ∙ unary-append depth u (andses depth us r) q)

  pub unary-append : (depth : ℕ) (u : Unary) (r q : List Occurrence) → unary depth u (r ++ q) ≡ unary depth u r ++ q
  unary-append depth (not u) r q = ap (λ (ms : List Occurrence). opener token.Not depth false ∷ ms) (unary-append (depth + 1) u r q)
  unary-append depth (constant value) r q = refl
  unary-append depth (bracket f) r q = ap (λ (ms : List Occurrence). opener token.OpenBracket depth false ∷ ms) (formula-append (depth + 1) f (plain token.CloseBracket ∷ r) q)
  unary-append depth (atom a) r q = comparison-append depth a r q

-- ---- what follows

pub to_power : (t : Tok) → on_product t ≡ false → on_power t ≡ false
to_power (Some (token.Star p)) h = refl
to_power t h = h

pub to_product : (t : Tok) → on_term t ≡ false → on_product t ≡ false
to_product (Some (token.Plus p)) h = refl
to_product (Some (token.Minus p)) h = refl
to_product t h = h

pub to_term : (t : Tok) → on_conj t ≡ false → on_term t ≡ false
to_term (Some token.And) h = refl
to_term t h = h

pub to_conj : (t : Tok) → on_disj t ≡ false → on_conj t ≡ false
to_conj (Some token.Or) h = refl
to_conj t h = h

pub to_disj : (t : Tok) → on_simple t ≡ false → on_disj t ≡ false
to_disj (Some token.Implies) h = refl
to_disj (Some token.Iff) h = refl
to_disj t h = h

pub weaker : (on on' : Tok → Bool) → ((t : Tok) → on' t ≡ false → on t ≡ false) → (ts : List Tok) → Stops on' ts → Stops on ts
weaker on on' w [] s = s
weaker on on' w (t ∷ ts) s = w t s

pub sign_stops : (at : ℕ) (minus : Bool) → on_product (Some (plus_or_minus at minus)) ≡ false
sign_stops at true = refl
sign_stops at false = refl

pub sign_goes : (at : ℕ) (minus : Bool) → on_term (Some (plus_or_minus at minus)) ≡ true
sign_goes at true = refl
sign_goes at false = refl

pub arrow_stops : (arrow : Arrow) → on_disj (Some (arrow_token arrow)) ≡ false
arrow_stops arrows.Implies = refl
arrow_stops arrows.Iff = refl

pub arrow_goes : (arrow : Arrow) → on_simple (Some (arrow_token arrow)) ≡ true
arrow_goes arrows.Implies = refl
arrow_goes arrows.Iff = refl

pub one_sign : (p q : ℕ) (m n : Bool) → Some (plus_or_minus p m) ≡ Some (plus_or_minus q n) → plain (plus_or_minus p m) ≡ plain (plus_or_minus q n) × (p ≡ q) × (m ≡ n)
one_sign p q true true e = let f : p ≡ q = cc in (ap (λ (i : ℕ). plain (token.Minus i)) f, f, refl)
one_sign p q true false e = absurd cc
one_sign p q false true e = absurd cc
one_sign p q false false e = let f : p ≡ q = cc in (ap (λ (i : ℕ). plain (token.Plus i)) f, f, refl)

pub one_arrow : (m n : Arrow) → Some (arrow_token m) ≡ Some (arrow_token n) → m ≡ n
one_arrow arrows.Implies arrows.Implies e = refl
one_arrow arrows.Implies arrows.Iff e = absurd cc
one_arrow arrows.Iff arrows.Implies e = absurd cc
one_arrow arrows.Iff arrows.Iff e = refl

pub one_quantifier : (m n : Quantifier) → Some (quantifier_token m) ≡ Some (quantifier_token n) → m ≡ n
one_quantifier quantifiers.Ex quantifiers.Ex e = refl
one_quantifier quantifiers.Ex quantifiers.All e = absurd cc
one_quantifier quantifiers.All quantifiers.Ex e = absurd cc
one_quantifier quantifiers.All quantifiers.All e = refl

pub one_constant : (m n : Bool) → Some (constant_token m) ≡ Some (constant_token n) → m ≡ n
one_constant true true e = refl
one_constant true false e = absurd cc
one_constant false true e = absurd cc
one_constant false false e = refl

pub sums_stop : (depth : ℕ) (ps : Sums) (r : List Occurrence) → Stops on_term (tokens_of r) → Stops on_product (tokens_of (sums depth ps r))
sums_stop depth no_sum r s = weaker on_product on_term to_product (tokens_of r) s
sums_stop depth (sign at minus p ps) r s = sign_stops at minus

pub times_stop : (depth : ℕ) (ss : Times) (r : List Occurrence) → Stops on_product (tokens_of r) → Stops on_power (tokens_of (timeses depth ss r))
times_stop depth no_times r s = weaker on_power on_product to_power (tokens_of r) s
times_stop depth (times at q ss) r s = refl

pub andses_stop : (depth : ℕ) (us : Ands) (r : List Occurrence) → Stops on_conj (tokens_of r) → Stops on_term (tokens_of (andses depth us r))
andses_stop depth no_and r s = weaker on_term on_conj to_term (tokens_of r) s
andses_stop depth (and u us) r s = refl

pub orses_stop : (depth : ℕ) (cs : Ors) (r : List Occurrence) → Stops on_disj (tokens_of r) → Stops on_conj (tokens_of (orses depth cs r))
orses_stop depth no_or r s = weaker on_conj on_disj to_conj (tokens_of r) s
orses_stop depth (or c cs) r s = refl

-- a token that goes on is not the first of what stops
pub not_first : (on : Tok → Bool) (t u : Tok) → on t ≡ false → on u ≡ true → t ≡ u → ⊥
not_first on t u a b e = let w : true ≡ false = sym b ∙ ap on (sym e) ∙ a in absurd cc

-- ---- what begins

abbrev pub starts_primary : Tok → Bool
starts_primary (Some (token.Number n)) = true
starts_primary (Some (token.Name x)) = true
starts_primary (Some token.OpenParenthesis) = true
starts_primary t = false

abbrev pub starts_term : Tok → Bool
starts_term (Some (token.Minus p)) = true
starts_term t = starts_primary t

abbrev pub starts_simple : Tok → Bool
starts_simple (Some token.Not) = true
starts_simple (Some token.True) = true
starts_simple (Some token.False) = true
starts_simple (Some token.OpenBracket) = true
starts_simple t = starts_term t

-- the first occurrence
pub record Begins (starts : Tok → Bool) (ms : List Occurrence) : Type 0 where
  pub mark : Occurrence
  pub others : List Occurrence
  pub is : ms ≡ mark ∷ others
  pub starts_with : starts mark.token ≡ true

pub primary_begins : (depth : ℕ) (b : Bool) (a : Primary) (r : List Occurrence) → Begins starts_primary (primary depth b a r)
primary_begins depth b (number n) r = record { mark = figure n literal b; others = r; is = refl; starts_with = refl }
primary_begins depth b (name x) r = record { mark = word (token.Name x) b; others = r; is = refl; starts_with = refl }
primary_begins depth b (group t) r = record { mark = opener token.OpenParenthesis depth b; others = term (depth + 1) false t (plain token.CloseParenthesis ∷ r); is = refl; starts_with = refl }

pub power_begins : (depth : ℕ) (b : Bool) (p : Power) (r : List Occurrence) → Begins starts_primary (power depth b p r)
power_begins depth b (base a) r = primary_begins depth b a r
power_begins depth b (raised a at n) r = primary_begins depth b a _

from_primary : (t : Tok) → starts_primary t ≡ true → starts_term t ≡ true
from_primary (Some (token.Minus p)) h = refl
from_primary t h = h

pub signed_begins : (depth : ℕ) (b : Bool) (s : Signed) (r : List Occurrence) → Begins starts_term (signed depth b s r)
signed_begins depth b (negative at s) r = record { mark = opener (token.Minus at) depth b; others = signed (depth + 1) false s r; is = refl; starts_with = refl }
signed_begins depth b (positive p) r = let w = power_begins depth b p r in record { mark = w.mark; others = w.others; is = w.is; starts_with = from_primary w.mark.token w.starts_with }

pub product_begins : (depth : ℕ) (b : Bool) (p : Product) (r : List Occurrence) → Begins starts_term (product depth b p r)
product_begins depth b (factors s ss) r = signed_begins depth b s _

pub term_begins : (depth : ℕ) (b : Bool) (t : Term) (r : List Occurrence) → Begins starts_term (term depth b t r)
term_begins depth b (sum p ps) r = product_begins depth b p _

pub comparison_begins : (depth : ℕ) (a : Atom) (r : List Occurrence) → Begins starts_term (comparison depth a r)
comparison_begins depth (compare t at k u) r = term_begins depth true t _

from_term : (t : Tok) → starts_term t ≡ true → starts_simple t ≡ true
from_term (Some token.Not) h = refl
from_term (Some token.True) h = refl
from_term (Some token.False) h = refl
from_term (Some token.OpenBracket) h = refl
from_term t h = h

constant_starts : (value : Bool) → starts_simple (Some (constant_token value)) ≡ true
constant_starts true = refl
constant_starts false = refl

pub unary_begins : (depth : ℕ) (u : Unary) (r : List Occurrence) → Begins starts_simple (unary depth u r)
unary_begins depth (not u) r = record { mark = opener token.Not depth false; others = unary (depth + 1) u r; is = refl; starts_with = refl }
unary_begins depth (constant value) r = record { mark = word (constant_token value) true; others = r; is = refl; starts_with = constant_starts value }
unary_begins depth (bracket f) r = record { mark = opener token.OpenBracket depth false; others = formula (depth + 1) f (plain token.CloseBracket ∷ r); is = refl; starts_with = refl }
unary_begins depth (atom a) r = let w = comparison_begins depth a r in record { mark = w.mark; others = w.others; is = w.is; starts_with = from_term w.mark.token w.starts_with }

pub conj_begins : (depth : ℕ) (c : Conj) (r : List Occurrence) → Begins starts_simple (conj depth c r)
conj_begins depth (ands u us) r = unary_begins depth u _

pub disj_begins : (depth : ℕ) (d : Disj) (r : List Occurrence) → Begins starts_simple (disj depth d r)
disj_begins depth (ors c cs) r = conj_begins depth c _

pub simple_begins : (depth : ℕ) (s : Simple) (r : List Occurrence) → Begins starts_simple (simple depth s r)
simple_begins depth (alone d) r = disj_begins depth d r
simple_begins depth (joined arrow d e) r = disj_begins depth d _

-- A token that begins none of these is not its first.
pub begins_else : (starts : Tok → Bool) (ms : List Occurrence) (t : Tok) (us : List Tok) → Begins starts ms → starts t ≡ false → tokens_of ms ≡ t ∷ us → ⊥
begins_else starts ms t us w h e =
    let f : w.mark.token ∷ tokens_of w.others ≡ t ∷ us = sym (ap tokens_of w.is) ∙ e in
    let g : w.mark.token ≡ t = cc in
    let i : true ≡ false = sym w.starts_with ∙ ap starts g ∙ h in absurd cc

-- A relation that holds of two lists if, where the first tokens are one, the first occurrences are one and it holds of the rest:
-- it holds of what two derivations spell if, where the derivations are one, it holds of what follows.
module _ (R : List Occurrence → List Occurrence → Type 0) (step : (x y : Occurrence) (m n : List Occurrence) → (x.token ≡ y.token → (x ≡ y) × R m n) → R (x ∷ m) (y ∷ n)) where
  left_else : (starts : Tok → Bool) (x : Occurrence) (q ms : List Occurrence) → starts x.token ≡ false → Begins starts ms → R (x ∷ q) ms
  left_else starts x q ms h w = subst (λ (z : List Occurrence). R (x ∷ q) z) (sym w.is) (step x w.mark q w.others (λ e. absurd (not_first starts x.token w.mark.token h w.starts_with e)))

  right_else : (starts : Tok → Bool) (x : Occurrence) (q ms : List Occurrence) → starts x.token ≡ false → Begins starts ms → R ms (x ∷ q)
  right_else starts x q ms h w = subst (λ (z : List Occurrence). R z (x ∷ q)) (sym w.is) (step w.mark x w.others q (λ e. absurd (not_first starts x.token w.mark.token h w.starts_with (sym e))))

  mutual
    pub same_term : (depth : ℕ) (b : Bool) (s t : Term) (p q : List Occurrence) → Stops on_term (tokens_of p) → Stops on_term (tokens_of q) → (s ≡ t → R p q) → R (term depth b s p) (term depth b t q)
    same_term depth b (sum u us) (sum v vs) p q sp sq k =
        same_product depth b u v (sums depth us p) (sums depth vs q) (sums_stop depth us p sp) (sums_stop depth vs q sq) (λ e. same_sums depth us vs p q sp sq (λ f. k (cc)))

    pub same_sums : (depth : ℕ) (us vs : Sums) (p q : List Occurrence) → Stops on_term (tokens_of p) → Stops on_term (tokens_of q) → (us ≡ vs → R p q) → R (sums depth us p) (sums depth vs q)
    same_sums depth no_sum no_sum p q sp sq k = k refl
    same_sums depth no_sum (sign a m v vs) [] q sp sq k = absurd sp
    same_sums depth no_sum (sign a m v vs) (x ∷ p) q sp sq k = step x _ p _ (λ e. absurd (not_first on_term x.token (Some (plus_or_minus a m)) sp (sign_goes a m) e))
    same_sums depth (sign a m u us) no_sum p [] sp sq k = absurd sq
    same_sums depth (sign a m u us) no_sum p (y ∷ q) sp sq k = step _ y _ q (λ e. absurd (not_first on_term y.token (Some (plus_or_minus a m)) sq (sign_goes a m) (sym e)))
    same_sums depth (sign a m u us) (sign b n v vs) p q sp sq k =
        step _ _ _ _ (λ h. (
          (one_sign a b m n h).0,
          same_product depth false u v (sums depth us p) (sums depth vs q) (sums_stop depth us p sp) (sums_stop depth vs q sq) (λ e. same_sums depth us vs p q sp sq (λ f. let g : a ≡ b = (one_sign a b m n h).1 in let i : m ≡ n = (one_sign a b m n h).2 in k (cc))),
        ))

    pub same_product : (depth : ℕ) (b : Bool) (s t : Product) (p q : List Occurrence) → Stops on_product (tokens_of p) → Stops on_product (tokens_of q) → (s ≡ t → R p q) → R (product depth b s p) (product depth b t q)
    same_product depth b (factors u us) (factors v vs) p q sp sq k =
        same_signed depth b u v (timeses depth us p) (timeses depth vs q) (times_stop depth us p sp) (times_stop depth vs q sq) (λ e. same_times depth us vs p q sp sq (λ f. k (cc)))

    pub same_times : (depth : ℕ) (us vs : Times) (p q : List Occurrence) → Stops on_product (tokens_of p) → Stops on_product (tokens_of q) → (us ≡ vs → R p q) → R (timeses depth us p) (timeses depth vs q)
    same_times depth no_times no_times p q sp sq k = k refl
    same_times depth no_times (times a v vs) [] q sp sq k = absurd sp
    same_times depth no_times (times a v vs) (x ∷ p) q sp sq k = step x _ p _ (λ e. absurd (not_first on_product x.token (Some (token.Star a)) sp refl e))
    same_times depth (times a u us) no_times p [] sp sq k = absurd sq
    same_times depth (times a u us) no_times p (y ∷ q) sp sq k = step _ y _ q (λ e. absurd (not_first on_product y.token (Some (token.Star a)) sq refl (sym e)))
    same_times depth (times a u us) (times b v vs) p q sp sq k =
        step _ _ _ _ (λ h.
        let g : a ≡ b = cc in (
          ap (λ (i : ℕ). plain (token.Star i)) g,
          same_signed depth false u v (timeses depth us p) (timeses depth vs q) (times_stop depth us p sp) (times_stop depth vs q sq) (λ e. same_times depth us vs p q sp sq (λ f. k (cc))),
        ))

    pub same_signed : (depth : ℕ) (b : Bool) (s t : Signed) (p q : List Occurrence) → Stops on_power (tokens_of p) → Stops on_power (tokens_of q) → (s ≡ t → R p q) → R (signed depth b s p) (signed depth b t q)
    same_signed depth b (negative i u) (negative j v) p q sp sq k = step _ _ _ _ (λ h. let g : i ≡ j = cc in (ap (λ (a : ℕ). opener (token.Minus a) depth b) g, same_signed (depth + 1) false u v p q sp sq (λ e. k (cc))))
    same_signed depth b (negative i u) (positive v) p q sp sq k = left_else starts_primary _ _ _ refl (power_begins depth b v q)
    same_signed depth b (positive u) (negative j v) p q sp sq k = right_else starts_primary _ _ _ refl (power_begins depth b u p)
    same_signed depth b (positive u) (positive v) p q sp sq k = same_power depth b u v p q sp sq (λ e. k (ap positive e))

    pub same_power : (depth : ℕ) (b : Bool) (s t : Power) (p q : List Occurrence) → Stops on_power (tokens_of p) → Stops on_power (tokens_of q) → (s ≡ t → R p q) → R (power depth b s p) (power depth b t q)
    same_power depth b (base a) (base c) p q sp sq k = same_primary depth b a c p q (λ e. k (ap base e))
    same_power depth b (base a) (raised c i n) [] q sp sq k = absurd sp
    same_power depth b (base a) (raised c i n) (x ∷ p) q sp sq k = same_primary depth b a c (x ∷ p) _ (λ e. step x _ p _ (λ e. absurd (not_first on_power x.token (Some (token.Caret i)) sp refl e)))
    same_power depth b (raised a i m) (base c) p [] sp sq k = absurd sq
    same_power depth b (raised a i m) (base c) p (y ∷ q) sp sq k = same_primary depth b a c _ (y ∷ q) (λ e. step _ y _ q (λ e. absurd (not_first on_power y.token (Some (token.Caret i)) sq refl (sym e))))
    same_power depth b (raised a i m) (raised c j n) p q sp sq k =
        same_primary depth b a c _ _ (λ e. step _ _ _ _ (λ h.
        let l : i ≡ j = cc in (
          ap (λ (o : ℕ). plain (token.Caret o)) l,
          step _ _ _ _ (λ i'. let f : m ≡ n = cc in let g : is_name a ≡ is_name c = ap is_name e in (cc, k (cc))),
        )))

    pub same_primary : (depth : ℕ) (b : Bool) (s t : Primary) (p q : List Occurrence) → (s ≡ t → R p q) → R (primary depth b s p) (primary depth b t q)
    same_primary depth b (number m) (number n) p q k = step _ _ _ _ (λ h. let f : m ≡ n = cc in (ap (λ (x : ℕ). figure x literal b) f, k (ap number f)))
    same_primary depth b (name m) (name n) p q k = step _ _ _ _ (λ h. let f : m ≡ n = cc in (ap (λ (x : Name). word (token.Name x) b) f, k (ap name f)))
    same_primary depth b (group s) (group t) p q k =
        step _ _ _ _ (λ h. (refl, same_term (depth + 1) false s t (plain token.CloseParenthesis ∷ p) (plain token.CloseParenthesis ∷ q) refl refl (λ e. step _ _ _ _ (λ h. (refl, k (ap group e))))))
    same_primary depth b s t p q k = step _ _ _ _ (λ h. absurd cc)

  pub same_comparison : (depth : ℕ) (a b : Atom) (p q : List Occurrence) → Stops on_term (tokens_of p) → Stops on_term (tokens_of q) → (a ≡ b → R p q) → R (comparison depth a p) (comparison depth b q)
  same_comparison depth (compare s i k t) (compare u j l v) p q sp sq c =
      same_term depth true s u _ _ refl refl (λ e. step _ _ _ _ (λ h.
      let f : i ≡ j = cc in
      let g : k ≡ l = cc in (
        cc,
        same_term depth false t v p q sp sq (λ w. c (cc)),
      )))

  mutual
    pub same_formula : (depth : ℕ) (f g : Formula) (p q : List Occurrence) → Stops on_simple (tokens_of p) → Stops on_simple (tokens_of q) → (f ≡ g → R p q) → R (formula depth f p) (formula depth g q)
    same_formula depth (quantified a x s) (quantified b y t) p q sp sq k =
        step _ _ _ _ (λ h.
        let g : a ≡ b = one_quantifier a b h in (
          ap (λ q. plain (quantifier_token q)) g,
          step _ _ _ _ (λ i. let f : x ≡ y = cc in (ap (λ (o : Name). opener (token.Name o) depth true) f, same_scope (depth + 1) s t p q sp sq (λ e. k (cc)))),
        ))
    same_formula depth (quantified quantifiers.Ex x s) (open_formula t) p q sp sq k = left_else starts_simple _ _ _ refl (simple_begins depth t q)
    same_formula depth (quantified quantifiers.All x s) (open_formula t) p q sp sq k = left_else starts_simple _ _ _ refl (simple_begins depth t q)
    same_formula depth (open_formula s) (quantified quantifiers.Ex y t) p q sp sq k = right_else starts_simple _ _ _ refl (simple_begins depth s p)
    same_formula depth (open_formula s) (quantified quantifiers.All y t) p q sp sq k = right_else starts_simple _ _ _ refl (simple_begins depth s p)
    same_formula depth (open_formula s) (open_formula t) p q sp sq k = same_simple depth s t p q sp sq (λ e. k (ap open_formula e))

    pub same_scope : (depth : ℕ) (s t : Scope) (p q : List Occurrence) → Stops on_simple (tokens_of p) → Stops on_simple (tokens_of q) → (s ≡ t → R p q) → R (scope depth s p) (scope depth t q)
    same_scope depth (further x s) (further y t) p q sp sq k = step _ _ _ _ (λ i. let f : x ≡ y = cc in (ap (λ (o : Name). opener (token.Name o) depth true) f, same_scope (depth + 1) s t p q sp sq (λ e. k (cc))))
    same_scope depth (body f) (body g) p q sp sq k = step _ _ _ _ (λ h. (refl, same_formula depth f g p q sp sq (λ e. k (ap body e))))
    same_scope depth s t p q sp sq k = step _ _ _ _ (λ h. absurd cc)

    pub same_simple : (depth : ℕ) (s t : Simple) (p q : List Occurrence) → Stops on_simple (tokens_of p) → Stops on_simple (tokens_of q) → (s ≡ t → R p q) → R (simple depth s p) (simple depth t q)
    same_simple depth (alone d) (alone e) p q sp sq k = same_disj depth d e p q (weaker on_disj on_simple to_disj (tokens_of p) sp) (weaker on_disj on_simple to_disj (tokens_of q) sq) (λ e. k (ap alone e))
    same_simple depth (alone d) (joined a e f) [] q sp sq k = absurd sp
    same_simple depth (alone d) (joined a e f) (x ∷ p) q sp sq k = same_disj depth d e (x ∷ p) _ (to_disj x.token sp) (arrow_stops a) (λ g. step x _ p _ (λ h. absurd (not_first on_simple x.token (Some (arrow_token a)) sp (arrow_goes a) h)))
    same_simple depth (joined a d e) (alone f) p [] sp sq k = absurd sq
    same_simple depth (joined a d e) (alone f) p (y ∷ q) sp sq k = same_disj depth d f _ (y ∷ q) (arrow_stops a) (to_disj y.token sq) (λ g. step _ y _ q (λ h. absurd (not_first on_simple y.token (Some (arrow_token a)) sq (arrow_goes a) (sym h))))
    same_simple depth (joined a d e) (joined b f g) p q sp sq k =
        same_disj depth d f _ _ (arrow_stops a) (arrow_stops b) (λ h. step _ _ _ _ (λ i.
        let j : a ≡ b = one_arrow a b i in (
          ap (λ o. plain (arrow_token o)) j,
          same_disj depth e g p q (weaker on_disj on_simple to_disj (tokens_of p) sp) (weaker on_disj on_simple to_disj (tokens_of q) sq) (λ l. k (cc)),
        )))

    pub same_disj : (depth : ℕ) (d e : Disj) (p q : List Occurrence) → Stops on_disj (tokens_of p) → Stops on_disj (tokens_of q) → (d ≡ e → R p q) → R (disj depth d p) (disj depth e q)
    same_disj depth (ors c cs) (ors d ds) p q sp sq k =
        same_conj depth c d (orses depth cs p) (orses depth ds q) (orses_stop depth cs p sp) (orses_stop depth ds q sq) (λ e. same_orses depth cs ds p q sp sq (λ f. k (cc)))

    pub same_orses : (depth : ℕ) (cs ds : Ors) (p q : List Occurrence) → Stops on_disj (tokens_of p) → Stops on_disj (tokens_of q) → (cs ≡ ds → R p q) → R (orses depth cs p) (orses depth ds q)
    same_orses depth no_or no_or p q sp sq k = k refl
    same_orses depth no_or (or d ds) [] q sp sq k = absurd sp
    same_orses depth no_or (or d ds) (x ∷ p) q sp sq k = step x _ p _ (λ e. absurd (not_first on_disj x.token (Some token.Or) sp refl e))
    same_orses depth (or c cs) no_or p [] sp sq k = absurd sq
    same_orses depth (or c cs) no_or p (y ∷ q) sp sq k = step _ y _ q (λ e. absurd (not_first on_disj y.token (Some token.Or) sq refl (sym e)))
    same_orses depth (or c cs) (or d ds) p q sp sq k =
        step _ _ _ _ (λ h. (refl, same_conj depth c d (orses depth cs p) (orses depth ds q) (orses_stop depth cs p sp) (orses_stop depth ds q sq) (λ e. same_orses depth cs ds p q sp sq (λ f. k (cc)))))

    pub same_conj : (depth : ℕ) (c d : Conj) (p q : List Occurrence) → Stops on_conj (tokens_of p) → Stops on_conj (tokens_of q) → (c ≡ d → R p q) → R (conj depth c p) (conj depth d q)
    same_conj depth (ands u us) (ands v vs) p q sp sq k =
        same_unary depth u v (andses depth us p) (andses depth vs q) (andses_stop depth us p sp) (andses_stop depth vs q sq) (λ e. same_andses depth us vs p q sp sq (λ f. k (cc)))

    pub same_andses : (depth : ℕ) (us vs : Ands) (p q : List Occurrence) → Stops on_conj (tokens_of p) → Stops on_conj (tokens_of q) → (us ≡ vs → R p q) → R (andses depth us p) (andses depth vs q)
    same_andses depth no_and no_and p q sp sq k = k refl
    same_andses depth no_and (and v vs) [] q sp sq k = absurd sp
    same_andses depth no_and (and v vs) (x ∷ p) q sp sq k = step x _ p _ (λ e. absurd (not_first on_conj x.token (Some token.And) sp refl e))
    same_andses depth (and u us) no_and p [] sp sq k = absurd sq
    same_andses depth (and u us) no_and p (y ∷ q) sp sq k = step _ y _ q (λ e. absurd (not_first on_conj y.token (Some token.And) sq refl (sym e)))
    same_andses depth (and u us) (and v vs) p q sp sq k =
        step _ _ _ _ (λ h. (refl, same_unary depth u v (andses depth us p) (andses depth vs q) (andses_stop depth us p sp) (andses_stop depth vs q sq) (λ e. same_andses depth us vs p q sp sq (λ f. k (cc)))))

    pub same_unary : (depth : ℕ) (u v : Unary) (p q : List Occurrence) → Stops on_term (tokens_of p) → Stops on_term (tokens_of q) → (u ≡ v → R p q) → R (unary depth u p) (unary depth v q)
    same_unary depth (not u) (not v) p q sp sq k = step _ _ _ _ (λ h. (refl, same_unary (depth + 1) u v p q sp sq (λ e. k (ap not e))))
    same_unary depth (constant a) (constant b) p q sp sq k = step _ _ _ _ (λ h. let g : a ≡ b = one_constant a b h in (ap (λ (o : Bool). word (constant_token o) true) g, k (ap constant g)))
    same_unary depth (bracket f) (bracket g) p q sp sq k =
        step _ _ _ _ (λ h. (refl, same_formula (depth + 1) f g (plain token.CloseBracket ∷ p) (plain token.CloseBracket ∷ q) refl refl (λ e. step _ _ _ _ (λ h. (refl, k (ap bracket e))))))
    same_unary depth (atom a) (atom b) p q sp sq k = same_comparison depth a b p q sp sq (λ e. k (ap atom e))
    same_unary depth (atom a) (not v) p q sp sq k = right_else starts_term _ _ _ refl (comparison_begins depth a p)
    same_unary depth (atom a) (bracket f) p q sp sq k = right_else starts_term _ _ _ refl (comparison_begins depth a p)
    same_unary depth (atom a) (constant true) p q sp sq k = right_else starts_term _ _ _ refl (comparison_begins depth a p)
    same_unary depth (atom a) (constant false) p q sp sq k = right_else starts_term _ _ _ refl (comparison_begins depth a p)
    same_unary depth (not v) (atom b) p q sp sq k = left_else starts_term _ _ _ refl (comparison_begins depth b q)
    same_unary depth (bracket f) (atom b) p q sp sq k = left_else starts_term _ _ _ refl (comparison_begins depth b q)
    same_unary depth (constant true) (atom b) p q sp sq k = left_else starts_term _ _ _ refl (comparison_begins depth b q)
    same_unary depth (constant false) (atom b) p q sp sq k = left_else starts_term _ _ _ refl (comparison_begins depth b q)
    same_unary depth (constant true) v p q sp sq k = step _ _ _ _ (λ h. absurd cc)
    same_unary depth (constant false) v p q sp sq k = step _ _ _ _ (λ h. absurd cc)
    same_unary depth u (constant true) p q sp sq k = step _ _ _ _ (λ h. absurd cc)
    same_unary depth u (constant false) p q sp sq k = step _ _ _ _ (λ h. absurd cc)
    same_unary depth u v p q sp sq k = step _ _ _ _ (λ h. absurd cc)

abbrev tokens_tell : (Q : Type 0) → List Occurrence → List Occurrence → Type 0
tokens_tell Q m n = tokens_of m ≡ tokens_of n → Q

tell : (Q : Type 0) (x y : Occurrence) (m n : List Occurrence) → (x.token ≡ y.token → (x ≡ y) × tokens_tell Q m n) → tokens_tell Q (x ∷ m) (y ∷ n)
tell Q x y m n f h =
    let e : x.token ≡ y.token = cc in
    let g : tokens_of m ≡ tokens_of n = cc in (f e).1 g

-- A part, and what follows it, are told by the tokens.
abbrev pub IsOne : {A : Type 0} → (A → List Occurrence → List Occurrence) → (Tok → Bool) → Type 0
IsOne {A = A} spell on = (a b : A) (p : List Occurrence) (ts : List Tok) → Stops on (tokens_of p) → Stops on ts → tokens_of (spell a p) ≡ tokens_of (spell b []) ++ ts → (a ≡ b) × (tokens_of p ≡ ts)

module _ {A : Type 0} (spell : A → List Occurrence → List Occurrence) (on : Tok → Bool) (append : (a : A) (r q : List Occurrence) → spell a (r ++ q) ≡ spell a r ++ q) where
  one_of : ((Q : Type 0) (a b : A) (p q : List Occurrence) → Stops on (tokens_of p) → Stops on (tokens_of q) → (a ≡ b → tokens_tell Q p q) → tokens_tell Q (spell a p) (spell b q)) → IsOne spell on
  one_of same a b p ts sp st h =
      let e : tokens_of (spell b (marks ts)) ≡ tokens_of (spell b []) ++ ts = ap tokens_of (append b [] (marks ts)) ∙ tokens_of-append (spell b []) (marks ts) ∙ ap (λ (us : List Tok). tokens_of (spell b []) ++ us) (tokens_of-marks ts) in
      let sq : Stops on (tokens_of (marks ts)) = subst (λ us. Stops on us) (sym (tokens_of-marks ts)) st in
      same ((a ≡ b) × (tokens_of p ≡ ts)) a b p (marks ts) sp sq (λ x y. (x, y ∙ tokens_of-marks ts)) (h ∙ sym e)

pub one_term : (depth : ℕ) (b : Bool) → IsOne (term depth b) on_term
one_term depth b = one_of (term depth b) on_term (term-append depth b) (λ Q. same_term (tokens_tell Q) (tell Q) depth b)

pub one_product : (depth : ℕ) → IsOne (product depth false) on_product
one_product depth = one_of (product depth false) on_product (product-append depth false) (λ Q. same_product (tokens_tell Q) (tell Q) depth false)

pub one_signed : (depth : ℕ) → IsOne (signed depth false) on_power
one_signed depth = one_of (signed depth false) on_power (signed-append depth false) (λ Q. same_signed (tokens_tell Q) (tell Q) depth false)

pub one_primary : (depth : ℕ) → IsOne (primary depth false) on_primary
one_primary depth = one_of (primary depth false) on_primary (primary-append depth false) (λ Q a b p q sp sq. same_primary (tokens_tell Q) (tell Q) depth false a b p q)

pub one_unary : (depth : ℕ) → IsOne (unary depth) on_term
one_unary depth = one_of (unary depth) on_term (unary-append depth) (λ Q. same_unary (tokens_tell Q) (tell Q) depth)

pub one_conj : (depth : ℕ) → IsOne (conj depth) on_conj
one_conj depth = one_of (conj depth) on_conj (conj-append depth) (λ Q. same_conj (tokens_tell Q) (tell Q) depth)

pub one_disj : (depth : ℕ) → IsOne (disj depth) on_disj
one_disj depth = one_of (disj depth) on_disj (disj-append depth) (λ Q. same_disj (tokens_tell Q) (tell Q) depth)

pub one_formula : (depth : ℕ) → IsOne (formula depth) on_simple
one_formula depth = one_of (formula depth) on_simple (formula-append depth) (λ Q. same_formula (tokens_tell Q) (tell Q) depth)
