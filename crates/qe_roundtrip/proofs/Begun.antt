-- How many atoms, constants and bound names begin in a text, by its tree.
use Rattle.std.proofs.Common.{ℕ, ◌+◌, ◌≡◌, refl, sym, ap, ◌∙◌, Bool, true, false, List, arith}
use Rattle.std.specs.Prelude.{if◌then◌else◌}
use Rattle.qe_token.specs.declared.token.Name.{Name}
use Rattle.qe_syntax.specs.declared.formula.Quantifier.{Quantifier}
use Rattle.qe_syntax.specs.declared.formula.Quantifier.TheVariants as quantifiers
use Rattle.qe_syntax.specs.declared.formula.Arrow.{Arrow}
use Rattle.qe_syntax.specs.declared.formula.Arrow.TheVariants as arrows
use Rattle.qe_syntax.specs.Tree.{TermTree, Addends, no_addend, addend, Factors, no_factor, factor, FormulaTree, FormulaTrees, no_more, more}
use Rattle.qe_syntax.specs.Tree as tree
use Rattle.qe_syntax.specs.Grammar.{Term, Sums, Product, Times, Signed, Power, Primary, Atom, sum, no_sum, sign, factors, no_times, times, negative, positive, base, raised, number, name, group, compare, Formula, Scope, Simple, Disj, Ors, Conj, Ands, Unary, quantified, open_formula, further, body, alone, joined, ors, no_or, or, ands, no_and, and, not, constant, bracket, atom, Occurrence, term, sums, product, timeses, signed, power, primary, comparison, formula, scope, simple, disj, orses, conj, andses, unary, atom_tree, formula_tree, scope_tree, simple_tree, disj_tree, ors_trees, conj_tree, ands_trees, unary_tree, conjoined, disjoined, bound, linked, constant_tree}
use Rattle.qe_syntax.specs.Faults.{counted}

-- how many atoms, constants and bound names there are
abbrev mutual
  pub begun_in : FormulaTree → ℕ
  begun_in tree.True = 1
  begun_in tree.False = 1
  begun_in (tree.Atom t p r u) = 1
  begun_in (tree.And fs) = begun_each fs
  begun_in (tree.Or fs) = begun_each fs
  begun_in (tree.Not f) = begun_in f
  begun_in (tree.Implies f g) = begun_in f + begun_in g
  begun_in (tree.Iff f g) = begun_in f + begun_in g
  begun_in (tree.Ex x f) = 1 + begun_in f
  begun_in (tree.All x f) = 1 + begun_in f

  pub begun_each : FormulaTrees → ℕ
  begun_each no_more = 0
  begun_each (more f fs) = begun_in f + begun_each fs

-- one more where an occurrence begins something
abbrev pub one_if : Bool → ℕ → ℕ
one_if b k = if b then k + 1 else k

mutual
  count_term : (k depth : ℕ) (b : Bool) (t : Term) (r : List Occurrence) → counted k (term depth b t r) ≡ counted (one_if b k) r
  count_term k depth b (sum p ps) r = count_product k depth b p (sums depth ps r) ∙ count_sums (one_if b k) depth ps r

  count_sums : (k depth : ℕ) (ps : Sums) (r : List Occurrence) → counted k (sums depth ps r) ≡ counted k r
  count_sums k depth no_sum r = refl
  count_sums k depth (sign at minus p ps) r = count_product k depth false p (sums depth ps r) ∙ count_sums k depth ps r

  count_product : (k depth : ℕ) (b : Bool) (p : Product) (r : List Occurrence) → counted k (product depth b p r) ≡ counted (one_if b k) r
  count_product k depth b (factors s ss) r = count_signed k depth b s (timeses depth ss r) ∙ count_times (one_if b k) depth ss r

  count_times : (k depth : ℕ) (ss : Times) (r : List Occurrence) → counted k (timeses depth ss r) ≡ counted k r
  count_times k depth no_times r = refl
  count_times k depth (times at s ss) r = count_signed k depth false s (timeses depth ss r) ∙ count_times k depth ss r

  count_signed : (k depth : ℕ) (b : Bool) (s : Signed) (r : List Occurrence) → counted k (signed depth b s r) ≡ counted (one_if b k) r
  count_signed k depth b (negative at s) r = count_signed (one_if b k) (depth + 1) false s r
  count_signed k depth b (positive p) r = count_power k depth b p r

  count_power : (k depth : ℕ) (b : Bool) (p : Power) (r : List Occurrence) → counted k (power depth b p r) ≡ counted (one_if b k) r
  count_power k depth b (base a) r = count_primary k depth b a r
  count_power k depth b (raised a at n) r = count_primary k depth b a _

  count_primary : (k depth : ℕ) (b : Bool) (a : Primary) (r : List Occurrence) → counted k (primary depth b a r) ≡ counted (one_if b k) r
  count_primary k depth b (number n) r = refl
  count_primary k depth b (name x) r = refl
  count_primary k depth b (group t) r = count_term (one_if b k) (depth + 1) false t _

count_comparison : (k depth : ℕ) (a : Atom) (r : List Occurrence) → counted k (comparison depth a r) ≡ counted (k + begun_in (atom_tree a)) r
count_comparison k depth (compare t at q u) r = count_term k depth true t _ ∙ count_term (k + 1) depth false u r

count_bound : (quantifier : Quantifier) (x : Name) (f : FormulaTree) → begun_in (bound quantifier x f) ≡ 1 + begun_in f
count_bound quantifiers.Ex x f = refl
count_bound quantifiers.All x f = refl

count_linked : (arrow : Arrow) (f g : FormulaTree) → begun_in (linked arrow f g) ≡ begun_in f + begun_in g
count_linked arrows.Implies f g = refl
count_linked arrows.Iff f g = refl

count_constant : (value : Bool) → begun_in (constant_tree value) ≡ 1
count_constant true = refl
count_constant false = refl

count_conjoined : (f : FormulaTree) (gs : FormulaTrees) → begun_in (conjoined f gs) ≡ begun_in f + begun_each gs
count_conjoined f no_more = omega arith
count_conjoined f (more g gs) = refl

count_disjoined : (f : FormulaTree) (gs : FormulaTrees) → begun_in (disjoined f gs) ≡ begun_in f + begun_each gs
count_disjoined f no_more = omega arith
count_disjoined f (more g gs) = refl

sum_up : (k a b c : ℕ) → c ≡ a + b → k + a + b ≡ k + c
sum_up k a b c e = omega arith

mutual
  pub count_formula : (k depth : ℕ) (f : Formula) (r : List Occurrence) → counted k (formula depth f r) ≡ counted (k + begun_in (formula_tree f)) r
  count_formula k depth (quantified quantifier x s) r =
      count_scope (k + 1) (depth + 1) quantifier s r ∙ ap (λ n. counted n r) (sum_up k 1 (begun_in (scope_tree quantifier s)) (begun_in (bound quantifier x (scope_tree quantifier s))) (count_bound quantifier x (scope_tree quantifier s)))
  count_formula k depth (open_formula s) r = count_simple k depth s r

  count_scope : (k depth : ℕ) (quantifier : Quantifier) (s : Scope) (r : List Occurrence) → counted k (scope depth s r) ≡ counted (k + begun_in (scope_tree quantifier s)) r
  count_scope k depth quantifier (further x s) r =
      count_scope (k + 1) (depth + 1) quantifier s r ∙ ap (λ n. counted n r) (sum_up k 1 (begun_in (scope_tree quantifier s)) (begun_in (bound quantifier x (scope_tree quantifier s))) (count_bound quantifier x (scope_tree quantifier s)))
  count_scope k depth quantifier (body f) r = count_formula k depth f r

  count_simple : (k depth : ℕ) (s : Simple) (r : List Occurrence) → counted k (simple depth s r) ≡ counted (k + begun_in (simple_tree s)) r
  count_simple k depth (alone d) r = count_disj k depth d r
  count_simple k depth (joined arrow d e) r =
      count_disj k depth d _ ∙ count_disj (k + begun_in (disj_tree d)) depth e r
      ∙ ap (λ n. counted n r) (sum_up k (begun_in (disj_tree d)) (begun_in (disj_tree e)) (begun_in (linked arrow (disj_tree d) (disj_tree e))) (count_linked arrow (disj_tree d) (disj_tree e)))

  count_disj : (k depth : ℕ) (d : Disj) (r : List Occurrence) → counted k (disj depth d r) ≡ counted (k + begun_in (disj_tree d)) r
  count_disj k depth (ors c cs) r =
      count_conj k depth c (orses depth cs r) ∙ count_orses (k + begun_in (conj_tree c)) depth cs r
      ∙ ap (λ n. counted n r) (sum_up k (begun_in (conj_tree c)) (begun_each (ors_trees cs)) (begun_in (disjoined (conj_tree c) (ors_trees cs))) (count_disjoined (conj_tree c) (ors_trees cs)))

  count_orses : (k depth : ℕ) (cs : Ors) (r : List Occurrence) → counted k (orses depth cs r) ≡ counted (k + begun_each (ors_trees cs)) r
  count_orses k depth no_or r = ap (λ n. counted n r) (let e : k ≡ k + 0 = omega arith in e)
  count_orses k depth (or c cs) r =
      count_conj k depth c (orses depth cs r) ∙ count_orses (k + begun_in (conj_tree c)) depth cs r
      ∙ ap (λ n. counted n r) (sum_up k (begun_in (conj_tree c)) (begun_each (ors_trees cs)) (begun_in (conj_tree c) + begun_each (ors_trees cs)) refl)

  count_conj : (k depth : ℕ) (c : Conj) (r : List Occurrence) → counted k (conj depth c r) ≡ counted (k + begun_in (conj_tree c)) r
  count_conj k depth (ands u us) r =
      count_unary k depth u (andses depth us r) ∙ count_andses (k + begun_in (unary_tree u)) depth us r
      ∙ ap (λ n. counted n r) (sum_up k (begun_in (unary_tree u)) (begun_each (ands_trees us)) (begun_in (conjoined (unary_tree u) (ands_trees us))) (count_conjoined (unary_tree u) (ands_trees us)))

  count_andses : (k depth : ℕ) (us : Ands) (r : List Occurrence) → counted k (andses depth us r) ≡ counted (k + begun_each (ands_trees us)) r
  count_andses k depth no_and r = ap (λ n. counted n r) (let e : k ≡ k + 0 = omega arith in e)
  count_andses k depth (and u us) r =
      count_unary k depth u (andses depth us r) ∙ count_andses (k + begun_in (unary_tree u)) depth us r
      ∙ ap (λ n. counted n r) (sum_up k (begun_in (unary_tree u)) (begun_each (ands_trees us)) (begun_in (unary_tree u) + begun_each (ands_trees us)) refl)

  count_unary : (k depth : ℕ) (u : Unary) (r : List Occurrence) → counted k (unary depth u r) ≡ counted (k + begun_in (unary_tree u)) r
  count_unary k depth (not u) r = count_unary k (depth + 1) u r
  count_unary k depth (constant value) r = ap (λ n. counted n r) (let e : k + 1 ≡ k + begun_in (constant_tree value) = ap (λ n. k + n) (sym (count_constant value)) in e)
  count_unary k depth (bracket f) r = count_formula k (depth + 1) f _
  count_unary k depth (atom a) r = count_comparison k depth a r
