-- What each exit of the methods on formulas owes.
use Rattle.std.proofs.Common.{◌≡◌, ℕ, ◌+◌, Bool, true, false, List, [], ◌∷◌, ◌++◌, Some, None, nat_le, refl, sym, ap, subst, ◌∙◌, append_assoc, ◌⊎◌, inl, inr}
use Rattle.std.specs.Prelude.{Err, Ok, Result, if◌then◌else◌, is_some}
use Rattle.std.proofs.lemmas.List.{append-nil}
use Rattle.qe_token.specs.declared.token.Token.TheVariants as token
use Rattle.qe_token.specs.declared.token.Located.{Located}
use Rattle.qe_token.specs.declared.token.Name.{Name}
use Rattle.qe_syntax.specs.declared.formula.Quantifier.{Quantifier}
use Rattle.qe_syntax.specs.declared.formula.Quantifier.TheVariants as quantifiers
use Rattle.qe_syntax.specs.declared.formula.Arrow.{Arrow}
use Rattle.qe_syntax.specs.declared.formula.Arrow.TheVariants as arrows
use Rattle.qe_syntax.specs.declared.fault.TextFault.{TextFault}
use Rattle.qe_syntax.specs.declared.fault.TextFault.TheVariants.{Syntax, Wide, Exponent, TooDeep, TooMany}
use Rattle.qe_halt.specs.declared.halt.Halt.{Halt}
use Rattle.qe_halt.specs.declared.halt.Halt.TheVariants as halt
use Rattle.qe_syntax.specs.declared.tree.Formula as code
use Rattle.qe_syntax.specs.Tree as tree
use Rattle.qe_syntax.specs.Tree.{FormulaTree, FormulaTrees}
use Rattle.qe_syntax.specs.Code.{tree_of, as_parts}
use Rattle.qe_syntax.specs.Grammar.{Formula, Scope, Simple, Disj, Ors, Conj, Ands, Unary, quantified, open_formula, further, body, alone, joined, ors, no_or, or, ands, no_and, and, constant, Occurrence, plain, opener, word, quantifier_token, arrow_token, constant_token, formula, scope, simple, disj, orses, conj, andses, unary, tokens_of, with_end, formula_tree, scope_tree, simple_tree, disj_tree, ors_trees, conj_tree, ands_trees, unary_tree, bound, linked, conjoined, disjoined}
use Rattle.qe_syntax.specs.Faults.{Tok, passed_limit, counted, head}
use Rattle.qe_syntax.specs.Reading.{Stops, IsClean, IsRead, IsStopped, Reads, Takes, Binds, bound_fault, next_name, next_quantifier, next_arrow, next_constant, is_or, is_and, is_not, is_bracket, on_term, on_conj, on_disj, on_simple}
use Rattle.qe_syntax.proofs.Spelling.{tokens_of-append, formula-append, scope-append, disj-append, conj-append, unary-append, one_unary, one_conj, one_disj, to_term, to_conj, to_disj, weaker, arrow_stops, arrow_goes, starts_simple, simple_begins, begins_else, not_first}
use Rattle.qe_syntax.proofs.Within.{GoesOn, GoesFrom, within_err, from_first, stops_at, refused_at, clean-append, counted-append, IsValue}
use Rattle.qe_syntax.proofs.Chain.{tail, chain, items}
use Rattle.qe_syntax.proofs.Parts.{Parts, IsParts, whole, part_item, parts_first_err, parts_turn_err, parts_alone, parts_start, parts_turn, parts_end}
use Rattle.qe_syntax.proofs.Terms.{at_head, some_first, stops_at_head, head_stops, first_head, name_head}

-- ---- tokens

pub quantifier_head : (t : Tok) (quantifier : Quantifier) → next_quantifier t ≡ Some quantifier → t ≡ Some (quantifier_token quantifier)
quantifier_head (Some token.Ex) quantifier h = let e : quantifiers.Ex ≡ quantifier = cc in ap (λ q. Some (quantifier_token q)) e
quantifier_head (Some token.All) quantifier h = let e : quantifiers.All ≡ quantifier = cc in ap (λ q. Some (quantifier_token q)) e
quantifier_head t quantifier h = absurd cc

pub arrow_head : (t : Tok) (arrow : Arrow) → next_arrow t ≡ Some arrow → t ≡ Some (arrow_token arrow)
arrow_head (Some token.Implies) arrow h = let e : arrows.Implies ≡ arrow = cc in ap (λ a. Some (arrow_token a)) e
arrow_head (Some token.Iff) arrow h = let e : arrows.Iff ≡ arrow = cc in ap (λ a. Some (arrow_token a)) e
arrow_head t arrow h = absurd cc

pub constant_head : (t : Tok) (value : Bool) → next_constant t ≡ Some value → t ≡ Some (constant_token value)
constant_head (Some token.False) value h = let e : false ≡ value = cc in ap (λ (b : Bool). Some (constant_token b)) e
constant_head (Some token.True) value h = let e : true ≡ value = cc in ap (λ (b : Bool). Some (constant_token b)) e
constant_head t value h = absurd cc

pub or_head : (t : Tok) → is_or t ≡ true → t ≡ Some token.Or
or_head (Some token.Or) h = refl
or_head t h = absurd cc

pub and_head : (t : Tok) → is_and t ≡ true → t ≡ Some token.And
and_head (Some token.And) h = refl
and_head t h = absurd cc

pub not_head : (t : Tok) → is_not t ≡ true → t ≡ Some token.Not
not_head (Some token.Not) h = refl
not_head t h = absurd cc

pub bracket_head : (t : Tok) → is_bracket t ≡ true → t ≡ Some token.OpenBracket
bracket_head (Some token.OpenBracket) h = refl
bracket_head t h = absurd cc

no_and_on : (t : Tok) → on_term t ≡ false → is_and t ≡ false → on_conj t ≡ false
no_and_on (Some token.And) p h = h
no_and_on t p h = p

pub conj_ends : (new : List Located) → Stops on_term (with_end new) → is_and (head new) ≡ false → Stops on_conj (with_end new)
conj_ends new s h = stops_at_head on_conj new (no_and_on (head new) (head_stops on_term new s) h)

no_or_on : (t : Tok) → on_conj t ≡ false → is_or t ≡ false → on_disj t ≡ false
no_or_on (Some token.Or) p h = h
no_or_on t p h = p

pub disj_ends : (new : List Located) → Stops on_conj (with_end new) → is_or (head new) ≡ false → Stops on_disj (with_end new)
disj_ends new s h = stops_at_head on_disj new (no_or_on (head new) (head_stops on_conj new s) h)

no_arrow_on : (t : Tok) → on_disj t ≡ false → next_arrow t ≡ None → on_simple t ≡ false
no_arrow_on (Some token.Implies) p h = absurd cc
no_arrow_on (Some token.Iff) p h = absurd cc
no_arrow_on t p h = p

pub simple_ends : (new : List Located) → Stops on_disj (with_end new) → next_arrow (head new) ≡ None → Stops on_simple (with_end new)
simple_ends new s h = stops_at_head on_simple new (no_arrow_on (head new) (head_stops on_disj new s) h)

pub unary_ends : (new : List Located) → on_term (head new) ≡ false → Stops on_term (with_end new)
unary_ends new h = stops_at_head on_term new h

-- ---- conjunctions and disjunctions

pub ands_of : List (Unit {0} × Unary) → Ands
ands_of [] = no_and
ands_of (x ∷ xs) = and x.1 (ands_of xs)

list_of_ands : Ands → List (Unit {0} × Unary)
list_of_ands no_and = []
list_of_ands (and u us) = (tt, u) ∷ list_of_ands us

abbrev pub and_op : Unit {0} → Occurrence
and_op u = plain token.And

pub ands_of-spells : (depth : ℕ) (xs : List (Unit {0} × Unary)) (r : List Occurrence) → andses depth (ands_of xs) r ≡ tail (unary depth) and_op xs r
unfolding ands_of
ands_of-spells depth [] r = refl
ands_of-spells depth (x ∷ xs) r = ap (λ (ms : List Occurrence). plain token.And ∷ unary depth x.1 ms) (ands_of-spells depth xs r)

list_of_ands-spells : (depth : ℕ) (us : Ands) (r : List Occurrence) → tail (unary depth) and_op (list_of_ands us) r ≡ andses depth us r
unfolding list_of_ands
list_of_ands-spells depth no_and r = refl
list_of_ands-spells depth (and u us) r = ap (λ (ms : List Occurrence). plain token.And ∷ unary depth u ms) (list_of_ands-spells depth us r)

pub ands_of-trees : (xs : List (Unit {0} × Unary)) → ands_trees (ands_of xs) ≡ as_parts (items unary_tree part_item xs)
unfolding ands_of
ands_of-trees [] = refl
ands_of-trees (x ∷ xs) = ap (tree.more (unary_tree x.1)) (ands_of-trees xs)

pub conjoined_whole : (f : FormulaTree) (gs : List FormulaTree) → conjoined f (as_parts gs) ≡ whole tree.And f gs
conjoined_whole f [] = refl
conjoined_whole f (g ∷ gs) = refl

pub conj_list : Conj → Unary × List (Unit {0} × Unary)
conj_list (ands u us) = (u, list_of_ands us)

pub conj_list-spells : (depth : ℕ) (c : Conj) (r : List Occurrence) → chain (unary depth) and_op (conj_list c) r ≡ conj depth c r
unfolding conj_list
conj_list-spells depth (ands u us) r = ap (unary depth u) (list_of_ands-spells depth us r)

abbrev pub conj_parts : ℕ → Parts Unary Conj
conj_parts depth = record {
  spell = unary depth;
  on = on_term;
  of = unary_tree;
  spell' = conj depth;
  on' = on_conj;
  of' = conj_tree;
  mark = and_op;
  node = tree.And;
  append = unary-append depth;
  one = one_unary depth;
  clean = λ b o. (refl, refl);
  stops = λ o. refl;
  goes = λ o. refl;
  weak = to_term;
  to = λ c. ands c.0 (ands_of c.1);
  from = conj_list;
  to-spells = λ c r. ap (unary depth c.0) (ands_of-spells depth c.1 r);
  from-spells = conj_list-spells depth;
  to-tree = λ c. ap (conjoined (unary_tree c.0)) (ands_of-trees c.1) ∙ conjoined_whole (unary_tree c.0) (items unary_tree part_item c.1);
}

abbrev pub IsConj : ℕ → List FormulaTree → Bool → List Tok → List Tok → ℕ → ℕ → Type 0
IsConj depth = IsParts (conj_parts depth)

pub conj_first_err : (depth : ℕ) (e : Halt TextFault) (old new : List Tok) (b c : ℕ) → Reads (unary depth) on_term unary_tree tree_of (Err e) old new b c → Reads (conj depth) on_conj conj_tree tree_of (Err e) old new b c
conj_first_err depth = parts_first_err (conj_parts depth)

pub conj_turn_err : (depth : ℕ) (e : Halt TextFault) (parts : List FormulaTree) (goes : Bool) (old mid mid' new : List Tok) (b c d : ℕ) → mid ≡ Some token.And ∷ mid' → IsConj depth parts goes old mid b c → Reads (unary depth) on_term unary_tree tree_of (Err e) mid' new c d → Reads (conj depth) on_conj conj_tree tree_of (Err e) old new b d
conj_turn_err depth = parts_turn_err (conj_parts depth)

pub conj_alone : (depth : ℕ) (f : code.Formula) (old new : List Tok) (b c : ℕ) → Stops on_conj new → IsRead (unary depth) on_term unary_tree (tree_of f) old new b c → IsRead (conj depth) on_conj conj_tree (tree_of f) old new b c
conj_alone depth = parts_alone (conj_parts depth)

pub conj_start : (depth : ℕ) (first : FormulaTree) (parts : List FormulaTree) (goes : Bool) (old new : List Tok) (b c : ℕ) → parts ≡ first ∷ [] → goes ≡ true → IsRead (unary depth) on_term unary_tree first old new b c → IsConj depth parts goes old new b c
conj_start depth = parts_start (conj_parts depth)

pub conj_turn : (depth : ℕ) (part : FormulaTree) (parts parts' : List FormulaTree) (goes goes' : Bool) (old mid mid' new : List Tok) (b c d : ℕ) → mid ≡ Some token.And ∷ mid' → parts' ≡ parts ++ part ∷ [] → IsConj depth parts goes old mid b c → IsRead (unary depth) on_term unary_tree part mid' new c d → IsConj depth parts' goes' old new b d
conj_turn depth = parts_turn (conj_parts depth)

pub conj_end : (depth : ℕ) (f : code.Formula) (parts : List FormulaTree) (goes : Bool) (old new : List Tok) (b c : ℕ) → tree_of f ≡ tree.And (as_parts parts) → goes ≡ false → Stops on_conj new → IsConj depth parts goes old new b c → IsRead (conj depth) on_conj conj_tree (tree_of f) old new b c
conj_end depth = parts_end (conj_parts depth)

pub conj_read_stops : (depth : ℕ) (parts : List FormulaTree) (goes : Bool) (old new : List Tok) (b c : ℕ) → IsConj depth parts goes old new b c → Stops on_term new
conj_read_stops depth parts goes old new b c p = p.read.stops

pub ors_of : List (Unit {0} × Conj) → Ors
ors_of [] = no_or
ors_of (x ∷ xs) = or x.1 (ors_of xs)

list_of_ors : Ors → List (Unit {0} × Conj)
list_of_ors no_or = []
list_of_ors (or c cs) = (tt, c) ∷ list_of_ors cs

abbrev pub or_op : Unit {0} → Occurrence
or_op u = plain token.Or

pub ors_of-spells : (depth : ℕ) (xs : List (Unit {0} × Conj)) (r : List Occurrence) → orses depth (ors_of xs) r ≡ tail (conj depth) or_op xs r
unfolding ors_of
ors_of-spells depth [] r = refl
ors_of-spells depth (x ∷ xs) r = ap (λ (ms : List Occurrence). plain token.Or ∷ conj depth x.1 ms) (ors_of-spells depth xs r)

list_of_ors-spells : (depth : ℕ) (cs : Ors) (r : List Occurrence) → tail (conj depth) or_op (list_of_ors cs) r ≡ orses depth cs r
unfolding list_of_ors
list_of_ors-spells depth no_or r = refl
list_of_ors-spells depth (or c cs) r = ap (λ (ms : List Occurrence). plain token.Or ∷ conj depth c ms) (list_of_ors-spells depth cs r)

pub ors_of-trees : (xs : List (Unit {0} × Conj)) → ors_trees (ors_of xs) ≡ as_parts (items conj_tree part_item xs)
unfolding ors_of
ors_of-trees [] = refl
ors_of-trees (x ∷ xs) = ap (tree.more (conj_tree x.1)) (ors_of-trees xs)

pub disjoined_whole : (f : FormulaTree) (gs : List FormulaTree) → disjoined f (as_parts gs) ≡ whole tree.Or f gs
disjoined_whole f [] = refl
disjoined_whole f (g ∷ gs) = refl

pub disj_list : Disj → Conj × List (Unit {0} × Conj)
disj_list (ors c cs) = (c, list_of_ors cs)

pub disj_list-spells : (depth : ℕ) (d : Disj) (r : List Occurrence) → chain (conj depth) or_op (disj_list d) r ≡ disj depth d r
unfolding disj_list
disj_list-spells depth (ors c cs) r = ap (conj depth c) (list_of_ors-spells depth cs r)

abbrev pub disj_parts : ℕ → Parts Conj Disj
disj_parts depth = record {
  spell = conj depth;
  on = on_conj;
  of = conj_tree;
  spell' = disj depth;
  on' = on_disj;
  of' = disj_tree;
  mark = or_op;
  node = tree.Or;
  append = conj-append depth;
  one = one_conj depth;
  clean = λ b o. (refl, refl);
  stops = λ o. refl;
  goes = λ o. refl;
  weak = to_conj;
  to = λ c. ors c.0 (ors_of c.1);
  from = disj_list;
  to-spells = λ c r. ap (conj depth c.0) (ors_of-spells depth c.1 r);
  from-spells = disj_list-spells depth;
  to-tree = λ c. ap (disjoined (conj_tree c.0)) (ors_of-trees c.1) ∙ disjoined_whole (conj_tree c.0) (items conj_tree part_item c.1);
}

abbrev pub IsDisj : ℕ → List FormulaTree → Bool → List Tok → List Tok → ℕ → ℕ → Type 0
IsDisj depth = IsParts (disj_parts depth)

pub disj_first_err : (depth : ℕ) (e : Halt TextFault) (old new : List Tok) (b c : ℕ) → Reads (conj depth) on_conj conj_tree tree_of (Err e) old new b c → Reads (disj depth) on_disj disj_tree tree_of (Err e) old new b c
disj_first_err depth = parts_first_err (disj_parts depth)

pub disj_turn_err : (depth : ℕ) (e : Halt TextFault) (parts : List FormulaTree) (goes : Bool) (old mid mid' new : List Tok) (b c d : ℕ) → mid ≡ Some token.Or ∷ mid' → IsDisj depth parts goes old mid b c → Reads (conj depth) on_conj conj_tree tree_of (Err e) mid' new c d → Reads (disj depth) on_disj disj_tree tree_of (Err e) old new b d
disj_turn_err depth = parts_turn_err (disj_parts depth)

pub disj_alone : (depth : ℕ) (f : code.Formula) (old new : List Tok) (b c : ℕ) → Stops on_disj new → IsRead (conj depth) on_conj conj_tree (tree_of f) old new b c → IsRead (disj depth) on_disj disj_tree (tree_of f) old new b c
disj_alone depth = parts_alone (disj_parts depth)

pub disj_start : (depth : ℕ) (first : FormulaTree) (parts : List FormulaTree) (goes : Bool) (old new : List Tok) (b c : ℕ) → parts ≡ first ∷ [] → goes ≡ true → IsRead (conj depth) on_conj conj_tree first old new b c → IsDisj depth parts goes old new b c
disj_start depth = parts_start (disj_parts depth)

pub disj_turn : (depth : ℕ) (part : FormulaTree) (parts parts' : List FormulaTree) (goes goes' : Bool) (old mid mid' new : List Tok) (b c d : ℕ) → mid ≡ Some token.Or ∷ mid' → parts' ≡ parts ++ part ∷ [] → IsDisj depth parts goes old mid b c → IsRead (conj depth) on_conj conj_tree part mid' new c d → IsDisj depth parts' goes' old new b d
disj_turn depth = parts_turn (disj_parts depth)

pub disj_end : (depth : ℕ) (f : code.Formula) (parts : List FormulaTree) (goes : Bool) (old new : List Tok) (b c : ℕ) → tree_of f ≡ tree.Or (as_parts parts) → goes ≡ false → Stops on_disj new → IsDisj depth parts goes old new b c → IsRead (disj depth) on_disj disj_tree (tree_of f) old new b c
disj_end depth = parts_end (disj_parts depth)

pub disj_read_stops : (depth : ℕ) (parts : List FormulaTree) (goes : Bool) (old new : List Tok) (b c : ℕ) → IsDisj depth parts goes old new b c → Stops on_conj new
disj_read_stops depth parts goes old new b c p = p.read.stops

-- ---- a simple

to_disj_list : (ts : List Tok) → Stops on_simple ts → Stops on_disj ts
to_disj_list ts s = weaker on_disj on_simple to_disj ts s

goes_left : (depth : ℕ) → GoesOn (disj depth) on_disj (simple depth) on_simple []
goes_left depth (alone d) rest ts st e = (d, rest, to_disj_list (tokens_of rest) st, e)
goes_left depth (joined arrow d f) rest ts st e = (d, plain (arrow_token arrow) ∷ disj depth f rest, arrow_stops arrow, e)

pub left_err : (depth : ℕ) (e : Halt TextFault) (old new : List Tok) (b c : ℕ) → Reads (disj depth) on_disj disj_tree tree_of (Err e) old new b c → Reads (simple depth) on_simple simple_tree tree_of (Err e) old new b c
left_err depth e old new b c r = within_err (disj depth) on_disj (simple depth) on_simple disj_tree simple_tree tree_of tree_of (disj-append depth) [] [] alone (λ a. refl) (goes_left depth) e old old new b b c c refl tt refl r

pub read_alone : (depth : ℕ) (value : FormulaTree) (old new : List Tok) (b c : ℕ) → Stops on_simple new → IsRead (disj depth) on_disj disj_tree value old new b c → IsRead (simple depth) on_simple simple_tree value old new b c
read_alone depth value old new b c s r = record { found = alone r.found; is = r.is; spelled = r.spelled; clean = r.clean; count = r.count; stops = s }

arrow_clean : (b : ℕ) (arrow : Arrow) → (passed_limit b (plain (arrow_token arrow)) ≡ None) × (counted b (plain (arrow_token arrow) ∷ []) ≡ b)
arrow_clean b arrows.Implies = (refl, refl)
arrow_clean b arrows.Iff = (refl, refl)

no_arrow : (rest : List Occurrence) (arrow : Arrow) (ts : List Tok) → Stops on_simple (tokens_of rest) → tokens_of rest ≡ Some (arrow_token arrow) ∷ ts → ⊥
no_arrow [] arrow ts s e = s
no_arrow (x ∷ rest) arrow ts s e = let f : x.token ≡ Some (arrow_token arrow) = cc in absurd (not_first on_simple x.token (Some (arrow_token arrow)) s (arrow_goes arrow) f)

abbrev before_right : ℕ → Disj → Arrow → List Occurrence
before_right depth d arrow = disj depth d [] ++ plain (arrow_token arrow) ∷ []

tokens_of-before_right : (depth : ℕ) (d : Disj) (arrow : Arrow) (ts : List Tok) → tokens_of (before_right depth d arrow) ++ ts ≡ tokens_of (disj depth d []) ++ Some (arrow_token arrow) ∷ ts
tokens_of-before_right depth d arrow ts = ap (λ (x : List Tok). x ++ ts) (tokens_of-append (disj depth d []) (plain (arrow_token arrow) ∷ [])) ∙ append_assoc (tokens_of (disj depth d [])) (Some (arrow_token arrow) ∷ []) ts

goes_right : (depth : ℕ) (d : Disj) (arrow : Arrow) → GoesOn (disj depth) on_disj (simple depth) on_simple (before_right depth d arrow)
goes_right depth d arrow (alone f) rest ts st e =
    let w = one_disj depth f d rest (Some (arrow_token arrow) ∷ ts) (to_disj_list (tokens_of rest) st) (arrow_stops arrow) (e ∙ tokens_of-before_right depth d arrow ts) in
    absurd (no_arrow rest arrow ts st w.1)
goes_right depth d arrow (joined q f g) rest ts st e =
    let w = one_disj depth f d (plain (arrow_token q) ∷ disj depth g rest) (Some (arrow_token arrow) ∷ ts) (arrow_stops q) (arrow_stops arrow) (e ∙ tokens_of-before_right depth d arrow ts) in
    (g, rest, to_disj_list (tokens_of rest) st, let x : Some (arrow_token q) ∷ tokens_of (disj depth g rest) ≡ Some (arrow_token arrow) ∷ ts = w.1 in cc)

right_clean : (depth : ℕ) (d : Disj) (arrow : Arrow) (b c : ℕ) → IsClean b (disj depth d []) → counted b (disj depth d []) ≡ c → IsClean b (before_right depth d arrow)
right_clean depth d arrow b c h k = clean-append b c (disj depth d []) (plain (arrow_token arrow) ∷ []) k h ((arrow_clean c arrow).0, tt)

right_count : (depth : ℕ) (d : Disj) (arrow : Arrow) (b c : ℕ) → counted b (disj depth d []) ≡ c → counted b (before_right depth d arrow) ≡ c
right_count depth d arrow b c k = counted-append b (disj depth d []) (plain (arrow_token arrow) ∷ []) ∙ ap (λ (n : ℕ). counted n (plain (arrow_token arrow) ∷ [])) k ∙ (arrow_clean c arrow).1

right_made : (depth : ℕ) (d : Disj) (arrow : Arrow) (f : Disj) → simple depth (joined arrow d f) [] ≡ before_right depth d arrow ++ disj depth f []
right_made depth d arrow f = disj-append depth d [] (plain (arrow_token arrow) ∷ disj depth f []) ∙ sym (append_assoc (disj depth d []) (plain (arrow_token arrow) ∷ []) (disj depth f []))

pub right_err : (depth : ℕ) (arrow : Arrow) (e : Halt TextFault) (left : FormulaTree) (old mid mid' new : List Tok) (b c d : ℕ) → mid ≡ Some (arrow_token arrow) ∷ mid' → IsRead (disj depth) on_disj disj_tree left old mid b c
    → Reads (disj depth) on_disj disj_tree tree_of (Err e) mid' new c d → Reads (simple depth) on_simple simple_tree tree_of (Err e) old new b d
right_err depth arrow e left old mid mid' new b c d m l r =
    within_err (disj depth) on_disj (simple depth) on_simple disj_tree simple_tree tree_of tree_of (disj-append depth) (before_right depth l.found arrow) [] (λ f. joined arrow l.found f) (right_made depth l.found arrow)
    (goes_right depth l.found arrow) e old mid' new b c d d
    (l.spelled ∙ ap (λ (x : List Tok). tokens_of (disj depth l.found []) ++ x) m ∙ sym (tokens_of-before_right depth l.found arrow mid'))
    (right_clean depth l.found arrow b c l.clean l.count) (right_count depth l.found arrow b c l.count) r

joined_spelled : (depth : ℕ) (arrow : Arrow) (d f : Disj) (old mid mid' new : List Tok) → mid ≡ Some (arrow_token arrow) ∷ mid' → old ≡ tokens_of (disj depth d []) ++ mid → mid' ≡ tokens_of (disj depth f []) ++ new → old ≡ tokens_of (simple depth (joined arrow d f) []) ++ new
joined_spelled depth arrow d f old mid mid' new m h k =
    h ∙ ap (λ (x : List Tok). tokens_of (disj depth d []) ++ x) (m ∙ ap (λ (x : List Tok). Some (arrow_token arrow) ∷ x) k)
    ∙ sym (append_assoc (tokens_of (disj depth d [])) (Some (arrow_token arrow) ∷ tokens_of (disj depth f [])) new)
    ∙ ap (λ (x : List Tok). x ++ new) (sym (ap tokens_of (disj-append depth d [] (plain (arrow_token arrow) ∷ disj depth f [])) ∙ tokens_of-append (disj depth d []) (plain (arrow_token arrow) ∷ disj depth f [])))

pub read_joined : (depth : ℕ) (arrow : Arrow) (value left right : FormulaTree) (old mid mid' : List Tok) (new : List Located) (b c d : ℕ) → value ≡ linked arrow left right → mid ≡ Some (arrow_token arrow) ∷ mid'
    → IsRead (disj depth) on_disj disj_tree left old mid b c → IsRead (disj depth) on_disj disj_tree right mid' (with_end new) c d → is_some (next_arrow (head new)) ≡ false → IsRead (simple depth) on_simple simple_tree value old (with_end new) b d
read_joined depth arrow value left right old mid mid' new b c d is m l r s = record {
  found = joined arrow l.found r.found;
  is = ap (λ (x : FormulaTree). linked arrow x (disj_tree r.found)) l.is ∙ ap (linked arrow left) r.is ∙ sym is;
  spelled = joined_spelled depth arrow l.found r.found old mid mid' (with_end new) m l.spelled r.spelled;
  clean = subst (λ (ms : List Occurrence). IsClean b ms) (sym (right_made depth l.found arrow r.found)) (clean-append b c (before_right depth l.found arrow) (disj depth r.found []) (right_count depth l.found arrow b c l.count) (right_clean depth l.found arrow b c l.clean l.count) r.clean);
  count = ap (counted b) (right_made depth l.found arrow r.found) ∙ counted-append b (before_right depth l.found arrow) (disj depth r.found []) ∙ ap (λ (n : ℕ). counted n (disj depth r.found [])) (right_count depth l.found arrow b c l.count) ∙ r.count;
  stops = simple_ends new r.stops (none_arrow (head new) s);
}
  where
    none_arrow : (t : Tok) → is_some (next_arrow t) ≡ false → next_arrow t ≡ None
    none_arrow (Some token.Implies) h = absurd cc
    none_arrow (Some token.Iff) h = absurd cc
    none_arrow t h = refl

some_arrow : (t : Tok) → is_some (next_arrow t) ≡ true → (arrow : Arrow) × (t ≡ Some (arrow_token arrow))
some_arrow (Some token.Implies) h = (arrows.Implies, refl)
some_arrow (Some token.Iff) h = (arrows.Iff, refl)
some_arrow t h = absurd cc

no_second : (depth : ℕ) (arrow q : Arrow) (d f : Disj) → (s : Simple) (rest : List Occurrence) (us : List Tok) → Stops on_simple (tokens_of rest)
    → tokens_of (simple depth s rest) ≡ tokens_of (disj depth d []) ++ (Some (arrow_token arrow) ∷ (tokens_of (disj depth f []) ++ Some (arrow_token q) ∷ us)) → ⊥
no_second depth arrow q d f (alone g) rest us st e =
    let w = one_disj depth g d rest (Some (arrow_token arrow) ∷ (tokens_of (disj depth f []) ++ Some (arrow_token q) ∷ us)) (to_disj_list (tokens_of rest) st) (arrow_stops arrow) e in
    no_arrow rest arrow _ st w.1
no_second depth arrow q d f (joined p g h) rest us st e =
    let w = one_disj depth g d (plain (arrow_token p) ∷ disj depth h rest) (Some (arrow_token arrow) ∷ (tokens_of (disj depth f []) ++ Some (arrow_token q) ∷ us)) (arrow_stops p) (arrow_stops arrow) e in
    let x : tokens_of (disj depth h rest) ≡ tokens_of (disj depth f []) ++ Some (arrow_token q) ∷ us = let y : Some (arrow_token p) ∷ tokens_of (disj depth h rest) ≡ Some (arrow_token arrow) ∷ (tokens_of (disj depth f []) ++ Some (arrow_token q) ∷ us) = w.1 in cc in
    let v = one_disj depth h f rest (Some (arrow_token q) ∷ us) (to_disj_list (tokens_of rest) st) (arrow_stops q) x in
    no_arrow rest q us st v.1

pub second_arrow : (depth : ℕ) (arrow : Arrow) (left right : FormulaTree) (old mid mid' : List Tok) (new : List Located) (b c d : ℕ) → mid ≡ Some (arrow_token arrow) ∷ mid'
    → IsRead (disj depth) on_disj disj_tree left old mid b c → IsRead (disj depth) on_disj disj_tree right mid' (with_end new) c d → is_some (next_arrow (head new)) ≡ true → IsStopped (simple depth) on_simple Syntax old (with_end new) b
second_arrow depth arrow left right old mid mid' new b c d m l r s =
    let p = some_arrow (head new) s in
    let w = at_head new (arrow_token p.0) p.1 in
    let F = simple depth (joined arrow l.found r.found) [] in
    let split : tokens_of F ≡ tokens_of (disj depth l.found []) ++ (Some (arrow_token arrow) ∷ tokens_of (disj depth r.found [])) = ap tokens_of (disj-append depth l.found [] (plain (arrow_token arrow) ∷ disj depth r.found [])) ∙ tokens_of-append (disj depth l.found []) (plain (arrow_token arrow) ∷ disj depth r.found []) in
    refused_at (simple depth) on_simple (joined arrow l.found r.found) F [] (Some (arrow_token p.0)) old (with_end new) w.0 b
    (sym (append-nil F))
    (joined_spelled depth arrow l.found r.found old mid mid' (with_end new) m l.spelled r.spelled)
    w.1
    (subst (λ (ms : List Occurrence). IsClean b ms) (sym (right_made depth l.found arrow r.found)) (clean-append b c (before_right depth l.found arrow) (disj depth r.found []) (right_count depth l.found arrow b c l.count) (right_clean depth l.found arrow b c l.clean l.count) r.clean))
    (λ y rest us st e. no_second depth arrow p.0 l.found r.found y rest us st (e ∙ ap (λ (x : List Tok). x ++ Some (arrow_token p.0) ∷ us) split ∙ append_assoc (tokens_of (disj depth l.found [])) (Some (arrow_token arrow) ∷ tokens_of (disj depth r.found [])) (Some (arrow_token p.0) ∷ us)))

-- ---- a formula

-- a formula to stand for what is not read
abbrev pub some_simple : Simple
some_simple = alone (ors (ands (constant true) no_and) no_or)

quantifier_clean : (b : ℕ) (quantifier : Quantifier) → (passed_limit b (plain (quantifier_token quantifier)) ≡ None) × (counted b (plain (quantifier_token quantifier) ∷ []) ≡ b)
quantifier_clean b quantifiers.Ex = (refl, refl)
quantifier_clean b quantifiers.All = (refl, refl)

not_quantified : (depth : ℕ) (quantifier : Quantifier) (s : Simple) (rest : List Occurrence) (ts : List Tok) → tokens_of (simple depth s rest) ≡ Some (quantifier_token quantifier) ∷ ts → ⊥
not_quantified depth quantifiers.Ex s rest ts e = begins_else starts_simple _ _ _ (simple_begins depth s rest) refl e
not_quantified depth quantifiers.All s rest ts e = begins_else starts_simple _ _ _ (simple_begins depth s rest) refl e

no_name : (depth : ℕ) (quantifier : Quantifier) (t : Tok) → next_name t ≡ None → (f : Formula) (rest : List Occurrence) (us : List Tok) → tokens_of (formula depth f rest) ≡ Some (quantifier_token quantifier) ∷ t ∷ us → ⊥
no_name depth quantifier t n (quantified q x s) rest us e = let g : Some (token.Name x) ≡ t = cc in let w : Some x ≡ None = ap next_name g ∙ n in absurd cc
no_name depth quantifier t n (open_formula s) rest us e = not_quantified depth quantifier s rest (t ∷ us) e

pub name_missing : (depth : ℕ) (quantifier : Quantifier) (old mid : List Located) (b : ℕ) → with_end old ≡ Some (quantifier_token quantifier) ∷ with_end mid → next_name (head mid) ≡ None → IsStopped (formula depth) on_simple Syntax (with_end old) (with_end mid) b
name_missing depth quantifier old mid b h n =
    let w = some_first mid in
    let x : Name = record { start = 0; end = 0 } in
    refused_at (formula depth) on_simple (quantified quantifier x (body (open_formula some_simple))) (plain (quantifier_token quantifier) ∷ []) (opener (token.Name x) depth true ∷ plain token.Dot ∷ word token.True true ∷ []) (head mid) (with_end old) (with_end mid) w.0 b refl h w.1 ((quantifier_clean b quantifier).0, tt)
    (λ f rest us st e. no_name depth quantifier (head mid) n f rest us e)

goes_open : (depth : ℕ) (h : Tok) → next_quantifier h ≡ None → GoesFrom (simple depth) on_simple (formula depth) on_simple h
goes_open depth h n (quantified quantifiers.All x s) rest ts st e = let g : Some token.All ≡ h = cc in let w : Some quantifiers.All ≡ None = ap next_quantifier g ∙ n in absurd cc
goes_open depth h n (quantified quantifiers.Ex x s) rest ts st e = let g : Some token.Ex ≡ h = cc in let w : Some quantifiers.Ex ≡ None = ap next_quantifier g ∙ n in absurd cc
goes_open depth h n (open_formula s) rest ts st e = (s, rest, st, e)

pub simple_through : (depth : ℕ) (result : Result code.Formula (Halt TextFault)) (old new : List Located) (b c : ℕ) → next_quantifier (head old) ≡ None → Reads (simple depth) on_simple simple_tree tree_of result (with_end old) (with_end new) b c → Reads (formula depth) on_simple formula_tree tree_of result (with_end old) (with_end new) b c
simple_through depth (Ok f) old new b c n r = record { found = open_formula r.found; is = r.is; spelled = r.spelled; clean = r.clean; count = r.count; stops = r.stops }
simple_through depth (Err halt.OutOfMemory) old new b c n r = tt
simple_through depth (Err (halt.Limit f)) old new b c n r = from_first (simple depth) on_simple (formula depth) on_simple (head old) open_formula (λ a. refl) (goes_open depth (head old) n) f (with_end old) (with_end new) b (first_head old) r

-- a fault of a bound name is no syntax fault
if_bound : (deep many : Bool) (f : TextFault) → (if deep then Some TooDeep else if many then Some TooMany else None) ≡ Some f → (f ≡ TooDeep) ⊎ (f ≡ TooMany)
if_bound true many f h = inl (cc)
if_bound false true f h = inr (cc)
if_bound false false f h = absurd cc

bound_first : (depth b : ℕ) (f : TextFault) → bound_fault depth b ≡ Some f → IsValue f
bound_first depth b f h = elim (if_bound (nat_le 256 depth) (nat_le 65536 b) f h) [ inl e ↦ subst (λ (g : TextFault). IsValue g) (sym e) tt | inr e ↦ subst (λ (g : TextFault). IsValue g) (sym e) tt ]

pub bind_err : (depth : ℕ) (quantifier : Quantifier) (x : Name) (e : Halt TextFault) (old mid new : List Located) (b d : ℕ) → with_end old ≡ Some (quantifier_token quantifier) ∷ with_end mid → next_name (head mid) ≡ Some x
    → Binds depth (Err e) (head mid) (with_end mid) (with_end new) b d → Reads (formula depth) on_simple formula_tree tree_of (Err e) (with_end old) (with_end new) b d
bind_err depth quantifier x halt.OutOfMemory old mid new b d h n s = tt
bind_err depth quantifier x (halt.Limit f) old mid new b d h n s =
    let w = at_head mid (token.Name x) (name_head (head mid) x n) in
    stops_at (formula depth) on_simple (quantified quantifier x (body (open_formula some_simple))) (plain (quantifier_token quantifier) ∷ []) (opener (token.Name x) depth true) (plain token.Dot ∷ word token.True true ∷ []) f (with_end old) (with_end new) w.0 b refl
    (h ∙ ap (λ (y : List Tok). Some (quantifier_token quantifier) ∷ y) (sym s.0)) (s.0 ∙ w.1) ((quantifier_clean b quantifier).0, tt) (bound_first depth b f s.1) (ap (λ (n : ℕ). bound_fault depth n) (quantifier_clean b quantifier).1 ∙ s.1)

goes_scope : (depth : ℕ) (quantifier : Quantifier) (x : Name) → GoesOn (scope (depth + 1)) on_simple (formula depth) on_simple (plain (quantifier_token quantifier) ∷ opener (token.Name x) depth true ∷ [])
goes_scope depth quantifier x (quantified q y s) rest ts st e = (s, rest, st, cc)
goes_scope depth quantifier x (open_formula s) rest ts st e = absurd (not_quantified depth quantifier s rest _ e)

pub scope_err : (depth : ℕ) (quantifier : Quantifier) (x : Name) (e : Halt TextFault) (old mid mid' new : List Located) (b c d : ℕ) → with_end old ≡ Some (quantifier_token quantifier) ∷ with_end mid → next_name (head mid) ≡ Some x
    → Binds depth (Ok tt) (head mid) (with_end mid) (with_end mid') b c → Reads (scope (depth + 1)) on_simple (scope_tree quantifier) tree_of (Err e) (with_end mid') (with_end new) c d
    → Reads (formula depth) on_simple formula_tree tree_of (Err e) (with_end old) (with_end new) b d
scope_err depth quantifier x e old mid mid' new b c d h n s r =
    within_err (scope (depth + 1)) on_simple (formula depth) on_simple (scope_tree quantifier) formula_tree tree_of tree_of (scope-append (depth + 1)) (plain (quantifier_token quantifier) ∷ opener (token.Name x) depth true ∷ []) [] (quantified quantifier x) (λ a. refl) (goes_scope depth quantifier x)
    e (with_end old) (with_end mid') (with_end new) b c d d
    (h ∙ ap (λ (y : List Tok). Some (quantifier_token quantifier) ∷ y) (s.0 ∙ ap (λ (t : Tok). t ∷ with_end mid') (name_head (head mid) x n)))
    ((quantifier_clean b quantifier).0, (ap (λ (n : ℕ). bound_fault depth n) (quantifier_clean b quantifier).1 ∙ s.2, tt)) (ap (λ (k : ℕ). k + 1) (quantifier_clean b quantifier).1 ∙ sym s.1) r

pub read_quantified : (depth : ℕ) (quantifier : Quantifier) (x : Name) (value inner : FormulaTree) (old mid mid' new : List Located) (b c d : ℕ) → value ≡ bound quantifier x inner → with_end old ≡ Some (quantifier_token quantifier) ∷ with_end mid → next_name (head mid) ≡ Some x
    → Binds depth (Ok tt) (head mid) (with_end mid) (with_end mid') b c → IsRead (scope (depth + 1)) on_simple (scope_tree quantifier) inner (with_end mid') (with_end new) c d → IsRead (formula depth) on_simple formula_tree value (with_end old) (with_end new) b d
read_quantified depth quantifier x value inner old mid mid' new b c d is h n s r =
    let count : counted b (plain (quantifier_token quantifier) ∷ opener (token.Name x) depth true ∷ []) ≡ c = ap (λ (k : ℕ). k + 1) (quantifier_clean b quantifier).1 ∙ sym s.1 in
    record {
      found = quantified quantifier x r.found;
      is = ap (bound quantifier x) r.is ∙ sym is;
      spelled = h ∙ ap (λ (y : List Tok). Some (quantifier_token quantifier) ∷ y) (s.0 ∙ ap (λ (t : Tok). t ∷ with_end mid') (name_head (head mid) x n) ∙ ap (λ (y : List Tok). Some (token.Name x) ∷ y) r.spelled);
      clean = ((quantifier_clean b quantifier).0, (ap (λ (n : ℕ). bound_fault depth n) (quantifier_clean b quantifier).1 ∙ s.2, subst (λ (k : ℕ). IsClean k (scope (depth + 1) r.found [])) (sym count) r.clean));
      count = ap (λ (k : ℕ). counted k (scope (depth + 1) r.found [])) count ∙ r.count;
      stops = r.stops;
    }

-- ---- a scope

no_dot : (depth : ℕ) (t : Tok) (ts : List Tok) → next_name t ≡ None → ((us : List Tok) → t ∷ ts ≡ Some token.Dot ∷ us → ⊥) → (s : Scope) (rest : List Occurrence) (us : List Tok) → tokens_of (scope depth s rest) ≡ t ∷ us → ⊥
no_dot depth t ts n bad (further x s) rest us e = let g : Some (token.Name x) ≡ t = cc in let w : Some x ≡ None = ap next_name g ∙ n in absurd cc
no_dot depth t ts n bad (body f) rest us e = let g : Some token.Dot ≡ t = cc in bad ts (ap (λ (v : Tok). v ∷ ts) (sym g))

pub dot_err : (depth : ℕ) (quantifier : Quantifier) (e : Halt TextFault) (old new : List Located) (b c : ℕ) → next_name (head old) ≡ None → Takes token.Dot (Err e) (with_end old) (with_end new) → Reads (scope depth) on_simple (scope_tree quantifier) tree_of (Err e) (with_end old) (with_end new) b c
dot_err depth quantifier halt.OutOfMemory old new b c n s = tt
dot_err depth quantifier (halt.Limit Syntax) old new b c n s =
    let w = some_first old in
    refused_at (scope depth) on_simple (body (open_formula some_simple)) [] (plain token.Dot ∷ word token.True true ∷ []) (head old) (with_end old) (with_end new) w.0 b refl (sym s.0) (s.0 ∙ w.1) tt
    (λ a rest us st e. no_dot depth (head old) w.0 n (λ vs f. s.1 vs (w.1 ∙ f)) a rest us e)
dot_err depth quantifier (halt.Limit Wide) old new b c n s = absurd s
dot_err depth quantifier (halt.Limit Exponent) old new b c n s = absurd s
dot_err depth quantifier (halt.Limit TooDeep) old new b c n s = absurd s
dot_err depth quantifier (halt.Limit TooMany) old new b c n s = absurd s

goes_body : (depth : ℕ) → GoesOn (formula depth) on_simple (scope depth) on_simple (plain token.Dot ∷ [])
goes_body depth (further x s) rest ts st e = absurd cc
goes_body depth (body f) rest ts st e = (f, rest, st, cc)

pub body_through : (depth : ℕ) (quantifier : Quantifier) (result : Result code.Formula (Halt TextFault)) (old mid new : List Tok) (b c : ℕ) → Takes token.Dot (Ok tt) old mid → Reads (formula depth) on_simple formula_tree tree_of result mid new b c → Reads (scope depth) on_simple (scope_tree quantifier) tree_of result old new b c
body_through depth quantifier (Ok f) old mid new b c h r = record {
  found = body r.found;
  is = r.is;
  spelled = h ∙ ap (λ (x : List Tok). Some token.Dot ∷ x) r.spelled;
  clean = (refl, r.clean);
  count = r.count;
  stops = r.stops;
}
body_through depth quantifier (Err e) old mid new b c h r =
    within_err (formula depth) on_simple (scope depth) on_simple formula_tree (scope_tree quantifier) tree_of tree_of (formula-append depth) (plain token.Dot ∷ []) [] body (λ a. refl) (goes_body depth) e old mid new b b c c h (refl, tt) refl r

pub further_err : (depth : ℕ) (quantifier : Quantifier) (x : Name) (e : Halt TextFault) (old new : List Located) (b d : ℕ) → next_name (head old) ≡ Some x → Binds depth (Err e) (head old) (with_end old) (with_end new) b d → Reads (scope depth) on_simple (scope_tree quantifier) tree_of (Err e) (with_end old) (with_end new) b d
further_err depth quantifier x halt.OutOfMemory old new b d n s = tt
further_err depth quantifier x (halt.Limit f) old new b d n s =
    let w = at_head old (token.Name x) (name_head (head old) x n) in
    stops_at (scope depth) on_simple (further x (body (open_formula some_simple))) [] (opener (token.Name x) depth true) (plain token.Dot ∷ word token.True true ∷ []) f (with_end old) (with_end new) w.0 b refl
    (sym s.0) (s.0 ∙ w.1) tt (bound_first depth b f s.1) s.1

goes_further : (depth : ℕ) (x : Name) → GoesOn (scope (depth + 1)) on_simple (scope depth) on_simple (opener (token.Name x) depth true ∷ [])
goes_further depth x (further y s) rest ts st e = (s, rest, st, cc)
goes_further depth x (body f) rest ts st e = absurd cc

pub inner_err : (depth : ℕ) (quantifier : Quantifier) (x : Name) (e : Halt TextFault) (old mid new : List Located) (b c d : ℕ) → next_name (head old) ≡ Some x → Binds depth (Ok tt) (head old) (with_end old) (with_end mid) b c
    → Reads (scope (depth + 1)) on_simple (scope_tree quantifier) tree_of (Err e) (with_end mid) (with_end new) c d → Reads (scope depth) on_simple (scope_tree quantifier) tree_of (Err e) (with_end old) (with_end new) b d
inner_err depth quantifier x e old mid new b c d n s r =
    within_err (scope (depth + 1)) on_simple (scope depth) on_simple (scope_tree quantifier) (scope_tree quantifier) tree_of tree_of (scope-append (depth + 1)) (opener (token.Name x) depth true ∷ []) [] (further x) (λ a. refl) (goes_further depth x)
    e (with_end old) (with_end mid) (with_end new) b c d d (s.0 ∙ ap (λ (t : Tok). t ∷ with_end mid) (name_head (head old) x n)) (s.2, tt) (sym s.1) r

pub read_further : (depth : ℕ) (quantifier : Quantifier) (x : Name) (value inner : FormulaTree) (old mid new : List Located) (b c d : ℕ) → value ≡ bound quantifier x inner → next_name (head old) ≡ Some x → Binds depth (Ok tt) (head old) (with_end old) (with_end mid) b c
    → IsRead (scope (depth + 1)) on_simple (scope_tree quantifier) inner (with_end mid) (with_end new) c d → IsRead (scope depth) on_simple (scope_tree quantifier) value (with_end old) (with_end new) b d
read_further depth quantifier x value inner old mid new b c d is n s r = record {
  found = further x r.found;
  is = ap (bound quantifier x) r.is ∙ sym is;
  spelled = s.0 ∙ ap (λ (t : Tok). t ∷ with_end mid) (name_head (head old) x n) ∙ ap (λ (y : List Tok). Some (token.Name x) ∷ y) r.spelled;
  clean = (s.2, subst (λ (k : ℕ). IsClean k (scope (depth + 1) r.found [])) s.1 r.clean);
  count = ap (λ (k : ℕ). counted k (scope (depth + 1) r.found [])) (sym s.1) ∙ r.count;
  stops = r.stops;
}
