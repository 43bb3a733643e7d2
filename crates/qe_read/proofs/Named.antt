-- The names in a tree are those among the tokens of its text, in their order.
use Rattle.std.proofs.Common.{ℕ, ◌+◌, ◌≡◌, refl, sym, ap, ◌∙◌, List, [], ◌∷◌, ◌++◌, append_assoc, append-nil, Bool, true, false, Option, Some}
use Rattle.qe_token.specs.declared.token.Token.{Token}
use Rattle.qe_token.specs.declared.token.Token.TheVariants as token
use Rattle.qe_token.specs.declared.token.Located.{Located}
use Rattle.qe_token.specs.declared.token.Name.{Name}
use Rattle.qe_syntax.specs.declared.formula.Quantifier.{Quantifier}
use Rattle.qe_syntax.specs.declared.formula.Quantifier.TheVariants as quantifiers
use Rattle.qe_syntax.specs.declared.formula.Arrow.{Arrow}
use Rattle.qe_syntax.specs.declared.formula.Arrow.TheVariants as arrows
use Rattle.qe_syntax.specs.Tree as tree
use Rattle.qe_syntax.specs.Tree.{TermTree, Addends, no_addend, addend, Factors, no_factor, factor, FormulaTree, FormulaTrees, no_more, more}
use Rattle.qe_syntax.specs.Grammar as grammar
use Rattle.qe_syntax.specs.Grammar.{Occurrence, plain, sum_of, product_of, conjoined, disjoined, bound, linked, plus_or_minus, quantifier_token, arrow_token, constant_token, term_tree, sums_tree, product_tree, times_tree, signed_tree, power_tree, primary_tree, atom_tree, formula_tree, scope_tree, simple_tree, disj_tree, ors_trees, conj_tree, ands_trees, unary_tree, tokens_of, with_end, input, the_end}

-- the names in a term, in the order of the text
abbrev mutual
  pub all_in : TermTree → List Name
  all_in (tree.Number n) = []
  all_in (tree.Variable x) = x ∷ []
  all_in (tree.Negative t) = all_in t
  all_in (tree.Power t p n) = all_in t
  all_in (tree.Sum t us) = all_in t ++ all_in_addends us
  all_in (tree.Product t us) = all_in t ++ all_in_factors us

  pub all_in_addends : Addends → List Name
  all_in_addends no_addend = []
  all_in_addends (addend p minus t us) = all_in t ++ all_in_addends us

  pub all_in_factors : Factors → List Name
  all_in_factors no_factor = []
  all_in_factors (factor p t us) = all_in t ++ all_in_factors us

-- the names in a formula, those that are bound too
abbrev mutual
  pub all_names : FormulaTree → List Name
  all_names tree.True = []
  all_names tree.False = []
  all_names (tree.Atom t p r u) = all_in t ++ all_in u
  all_names (tree.And fs) = all_names_each fs
  all_names (tree.Or fs) = all_names_each fs
  all_names (tree.Not f) = all_names f
  all_names (tree.Implies f g) = all_names f ++ all_names g
  all_names (tree.Iff f g) = all_names f ++ all_names g
  all_names (tree.Ex x f) = x ∷ all_names f
  all_names (tree.All x f) = x ∷ all_names f

  pub all_names_each : FormulaTrees → List Name
  all_names_each no_more = []
  all_names_each (more f fs) = all_names f ++ all_names_each fs

abbrev pub name_in : Option Token → List Name
name_in (Some (token.Name x)) = x ∷ []
name_in t = []

-- the names among tokens
abbrev pub named : List (Option Token) → List Name
named [] = []
named (t ∷ ts) = name_in t ++ named ts

abbrev marked : List Occurrence → List Name
marked ms = named (tokens_of ms)

joined : (whole a mid b rest : List Name) → whole ≡ a ++ mid → mid ≡ b ++ rest → whole ≡ (a ++ b) ++ rest
joined whole a mid b rest h k = h ∙ ap (λ ns. a ++ ns) k ∙ sym (append_assoc a b rest)

pub all_summed : (t : TermTree) (us : Addends) → all_in (sum_of t us) ≡ all_in t ++ all_in_addends us
all_summed t no_addend = sym (append-nil (all_in t))
all_summed t (addend p minus u us) = refl

pub all_multiplied : (t : TermTree) (us : Factors) → all_in (product_of t us) ≡ all_in t ++ all_in_factors us
all_multiplied t no_factor = sym (append-nil (all_in t))
all_multiplied t (factor p u us) = refl

all_conjoined : (f : FormulaTree) (gs : FormulaTrees) → all_names (conjoined f gs) ≡ all_names f ++ all_names_each gs
all_conjoined f no_more = sym (append-nil (all_names f))
all_conjoined f (more g gs) = refl

all_disjoined : (f : FormulaTree) (gs : FormulaTrees) → all_names (disjoined f gs) ≡ all_names f ++ all_names_each gs
all_disjoined f no_more = sym (append-nil (all_names f))
all_disjoined f (more g gs) = refl

all_linked : (arrow : Arrow) (f g : FormulaTree) → all_names (linked arrow f g) ≡ all_names f ++ all_names g
all_linked arrows.Implies f g = refl
all_linked arrows.Iff f g = refl

all_bound : (quantifier : Quantifier) (x : Name) (f : FormulaTree) → all_names (bound quantifier x f) ≡ x ∷ all_names f
all_bound quantifiers.Ex x f = refl
all_bound quantifiers.All x f = refl

no_sign : (at : ℕ) (minus : Bool) → name_in (Some (plus_or_minus at minus)) ≡ []
no_sign at true = refl
no_sign at false = refl

no_quantifier : (quantifier : Quantifier) → name_in (Some (quantifier_token quantifier)) ≡ []
no_quantifier quantifiers.Ex = refl
no_quantifier quantifiers.All = refl

no_arrow : (arrow : Arrow) → name_in (Some (arrow_token arrow)) ≡ []
no_arrow arrows.Implies = refl
no_arrow arrows.Iff = refl

mutual
  in_term : (d : ℕ) (b : Bool) (t : grammar.Term) (rest : List Occurrence) → marked (grammar.term d b t rest) ≡ all_in (term_tree t) ++ marked rest
  in_term d b (grammar.sum p ps) rest =
      joined _ _ _ _ _ (in_product d b p (grammar.sums d ps rest)) (in_sums d ps rest) ∙ ap (λ ns. ns ++ marked rest) (sym (all_summed (product_tree p) (sums_tree ps)))

  in_sums : (d : ℕ) (ps : grammar.Sums) (rest : List Occurrence) → marked (grammar.sums d ps rest) ≡ all_in_addends (sums_tree ps) ++ marked rest
  in_sums d grammar.no_sum rest = refl
  in_sums d (grammar.sign at minus p ps) rest =
      ap (λ ns. ns ++ marked (grammar.product d false p (grammar.sums d ps rest))) (no_sign at minus)
      ∙ joined _ _ _ _ _ (in_product d false p (grammar.sums d ps rest)) (in_sums d ps rest)

  in_product : (d : ℕ) (b : Bool) (p : grammar.Product) (rest : List Occurrence) → marked (grammar.product d b p rest) ≡ all_in (product_tree p) ++ marked rest
  in_product d b (grammar.factors s ss) rest =
      joined _ _ _ _ _ (in_signed d b s (grammar.timeses d ss rest)) (in_timeses d ss rest) ∙ ap (λ ns. ns ++ marked rest) (sym (all_multiplied (signed_tree s) (times_tree ss)))

  in_timeses : (d : ℕ) (ss : grammar.Times) (rest : List Occurrence) → marked (grammar.timeses d ss rest) ≡ all_in_factors (times_tree ss) ++ marked rest
  in_timeses d grammar.no_times rest = refl
  in_timeses d (grammar.times at s ss) rest = joined _ _ _ _ _ (in_signed d false s (grammar.timeses d ss rest)) (in_timeses d ss rest)

  in_signed : (d : ℕ) (b : Bool) (s : grammar.Signed) (rest : List Occurrence) → marked (grammar.signed d b s rest) ≡ all_in (signed_tree s) ++ marked rest
  in_signed d b (grammar.negative at s) rest = in_signed (d + 1) false s rest
  in_signed d b (grammar.positive p) rest = in_power d b p rest

  in_power : (d : ℕ) (b : Bool) (p : grammar.Power) (rest : List Occurrence) → marked (grammar.power d b p rest) ≡ all_in (power_tree p) ++ marked rest
  in_power d b (grammar.base q) rest = in_primary d b q rest
  in_power d b (grammar.raised q at n) rest = in_primary d b q (plain (token.Caret at) ∷ grammar.figure n (grammar.exponent (grammar.is_name q)) false ∷ rest)

  in_primary : (d : ℕ) (b : Bool) (q : grammar.Primary) (rest : List Occurrence) → marked (grammar.primary d b q rest) ≡ all_in (primary_tree q) ++ marked rest
  in_primary d b (grammar.number n) rest = refl
  in_primary d b (grammar.name x) rest = refl
  in_primary d b (grammar.group t) rest = in_term (d + 1) false t (plain token.CloseParenthesis ∷ rest)

in_atom : (d : ℕ) (a : grammar.Atom) (rest : List Occurrence) → marked (grammar.comparison d a rest) ≡ all_names (atom_tree a) ++ marked rest
in_atom d (grammar.compare t at r u) rest = joined _ _ _ _ _ (in_term d true t (plain (token.Relation at r) ∷ grammar.term d false u rest)) (in_term d false u rest)

mutual
  in_formula : (d : ℕ) (f : grammar.Formula) (rest : List Occurrence) → marked (grammar.formula d f rest) ≡ all_names (formula_tree f) ++ marked rest
  in_formula d (grammar.quantified quantifier x s) rest =
      ap (λ ns. ns ++ (x ∷ marked (grammar.scope (d + 1) s rest))) (no_quantifier quantifier)
      ∙ ap (λ ns. x ∷ ns) (in_scope (d + 1) quantifier s rest)
      ∙ ap (λ ns. ns ++ marked rest) (sym (all_bound quantifier x (scope_tree quantifier s)))
  in_formula d (grammar.open_formula s) rest = in_simple d s rest

  in_scope : (d : ℕ) (quantifier : Quantifier) (s : grammar.Scope) (rest : List Occurrence) → marked (grammar.scope d s rest) ≡ all_names (scope_tree quantifier s) ++ marked rest
  in_scope d quantifier (grammar.further x s) rest =
      ap (λ ns. x ∷ ns) (in_scope (d + 1) quantifier s rest) ∙ ap (λ ns. ns ++ marked rest) (sym (all_bound quantifier x (scope_tree quantifier s)))
  in_scope d quantifier (grammar.body f) rest = in_formula d f rest

  in_simple : (d : ℕ) (s : grammar.Simple) (rest : List Occurrence) → marked (grammar.simple d s rest) ≡ all_names (simple_tree s) ++ marked rest
  in_simple d (grammar.alone e) rest = in_disj d e rest
  in_simple d (grammar.joined arrow e f) rest =
      joined _ _ _ _ _ (in_disj d e (plain (arrow_token arrow) ∷ grammar.disj d f rest)) (ap (λ ns. ns ++ marked (grammar.disj d f rest)) (no_arrow arrow) ∙ in_disj d f rest)
      ∙ ap (λ ns. ns ++ marked rest) (sym (all_linked arrow (disj_tree e) (disj_tree f)))

  in_disj : (d : ℕ) (e : grammar.Disj) (rest : List Occurrence) → marked (grammar.disj d e rest) ≡ all_names (disj_tree e) ++ marked rest
  in_disj d (grammar.ors c cs) rest =
      joined _ _ _ _ _ (in_conj d c (grammar.orses d cs rest)) (in_orses d cs rest) ∙ ap (λ ns. ns ++ marked rest) (sym (all_disjoined (conj_tree c) (ors_trees cs)))

  in_orses : (d : ℕ) (cs : grammar.Ors) (rest : List Occurrence) → marked (grammar.orses d cs rest) ≡ all_names_each (ors_trees cs) ++ marked rest
  in_orses d grammar.no_or rest = refl
  in_orses d (grammar.or c cs) rest = joined _ _ _ _ _ (in_conj d c (grammar.orses d cs rest)) (in_orses d cs rest)

  in_conj : (d : ℕ) (c : grammar.Conj) (rest : List Occurrence) → marked (grammar.conj d c rest) ≡ all_names (conj_tree c) ++ marked rest
  in_conj d (grammar.ands u us) rest =
      joined _ _ _ _ _ (in_unary d u (grammar.andses d us rest)) (in_andses d us rest) ∙ ap (λ ns. ns ++ marked rest) (sym (all_conjoined (unary_tree u) (ands_trees us)))

  in_andses : (d : ℕ) (us : grammar.Ands) (rest : List Occurrence) → marked (grammar.andses d us rest) ≡ all_names_each (ands_trees us) ++ marked rest
  in_andses d grammar.no_and rest = refl
  in_andses d (grammar.and u us) rest = joined _ _ _ _ _ (in_unary d u (grammar.andses d us rest)) (in_andses d us rest)

  in_unary : (d : ℕ) (u : grammar.Unary) (rest : List Occurrence) → marked (grammar.unary d u rest) ≡ all_names (unary_tree u) ++ marked rest
  in_unary d (grammar.not u) rest = in_unary (d + 1) u rest
  in_unary d (grammar.constant true) rest = refl
  in_unary d (grammar.constant false) rest = refl
  in_unary d (grammar.bracket f) rest = in_formula (d + 1) f (plain token.CloseBracket ∷ rest)
  in_unary d (grammar.atom a) rest = in_atom d a rest

-- all names of the tree are those among the tokens
pub in_text : (f : grammar.Formula) (tokens : List Located) → tokens_of (input f) ≡ with_end tokens → named (with_end tokens) ≡ all_names (formula_tree f)
in_text f tokens e = ap named (sym e) ∙ in_formula 0 f (the_end ∷ []) ∙ append-nil (all_names (formula_tree f))
