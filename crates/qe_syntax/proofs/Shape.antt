-- What the tree of a text is like: its numbers and exponents are not too great, and And and Or have two parts at least.
use Rattle.std.proofs.Common.{ℕ, suc, ◌+◌, ◌≡◌, ◌<◌, ◌≤◌, Bool, true, false, List, [], ◌∷◌, nat_lt, arith, subst}
use Rattle.std.proofs.lemmas.Bool.Decides.{nat_tests}
use Rattle.qe_token.specs.declared.token.Located.{Located}
use Rattle.qe_token.specs.declared.token.Name.{Name}
use Rattle.qe_syntax.specs.declared.formula.Quantifier.{Quantifier}
use Rattle.qe_syntax.specs.declared.formula.Quantifier.TheVariants as quantifiers
use Rattle.qe_syntax.specs.declared.formula.Arrow.{Arrow}
use Rattle.qe_syntax.specs.declared.formula.Arrow.TheVariants as arrows
use Rattle.qe_syntax.specs.Tree.{TermTree, Addends, no_addend, addend, Factors, no_factor, factor, FormulaTree, FormulaTrees, no_more, more}
use Rattle.qe_syntax.specs.Tree as tree
use Rattle.qe_syntax.specs.Grammar.{Term, Sums, Product, Times, Signed, Power, Primary, Atom, sum, no_sum, sign, factors, no_times, times, negative, positive, base, raised, number, name, group, compare, Formula, Scope, Simple, Disj, Ors, Conj, Ands, Unary, quantified, open_formula, further, body, alone, joined, ors, no_or, or, ands, no_and, and, not, constant, bracket, atom, Occurrence, the_end, input, term, sums, product, timeses, signed, power, primary, comparison, formula, scope, simple, disj, orses, conj, andses, unary, term_tree, sums_tree, product_tree, times_tree, signed_tree, power_tree, primary_tree, atom_tree, formula_tree, scope_tree, simple_tree, disj_tree, ors_trees, conj_tree, ands_trees, unary_tree, sum_of, product_of, conjoined, disjoined, bound, linked, constant_tree, is_name}
use Rattle.qe_syntax.specs.Faults.{most_exponent, IsText}
use Rattle.qe_syntax.proofs.Clean.{AllFit, clean_text, clean_fits}

-- ---- numbers and exponents, and lists of at least two parts

abbrev mutual
  pub IsLowTerm : TermTree → Type 0
  IsLowTerm (tree.Number n) = n ≤ 170141183460469231731687303715884105727
  IsLowTerm (tree.Variable x) = Unit {0}
  IsLowTerm (tree.Negative t) = IsLowTerm t
  IsLowTerm (tree.Power t p n) = IsLowTerm t × (n ≤ 65535)
  IsLowTerm (tree.Sum t us) = IsLowTerm t × AreLowAddends us
  IsLowTerm (tree.Product t us) = IsLowTerm t × AreLowFactors us

  pub AreLowAddends : Addends → Type 0
  AreLowAddends no_addend = Unit {0}
  AreLowAddends (addend p m t us) = IsLowTerm t × AreLowAddends us

  pub AreLowFactors : Factors → Type 0
  AreLowFactors no_factor = Unit {0}
  AreLowFactors (factor p t us) = IsLowTerm t × AreLowFactors us

abbrev pub tree_size : FormulaTrees → ℕ
tree_size no_more = 0
tree_size (more f fs) = suc (tree_size fs)

abbrev mutual
  pub IsShaped : FormulaTree → Type 0
  IsShaped tree.True = Unit {0}
  IsShaped tree.False = Unit {0}
  IsShaped (tree.Atom t p r u) = IsLowTerm t × IsLowTerm u
  IsShaped (tree.And fs) = (1 < tree_size fs) × AreShaped fs
  IsShaped (tree.Or fs) = (1 < tree_size fs) × AreShaped fs
  IsShaped (tree.Not f) = IsShaped f
  IsShaped (tree.Implies f g) = IsShaped f × IsShaped g
  IsShaped (tree.Iff f g) = IsShaped f × IsShaped g
  IsShaped (tree.Ex x f) = IsShaped f
  IsShaped (tree.All x f) = IsShaped f

  pub AreShaped : FormulaTrees → Type 0
  AreShaped no_more = Unit {0}
  AreShaped (more f fs) = IsShaped f × AreShaped fs

low_sum : (t : TermTree) (us : Addends) → IsLowTerm t → AreLowAddends us → IsLowTerm (sum_of t us)
low_sum t no_addend h k = h
low_sum t (addend at minus u us) h k = (h, k)

low_product : (t : TermTree) (us : Factors) → IsLowTerm t → AreLowFactors us → IsLowTerm (product_of t us)
low_product t no_factor h k = h
low_product t (factor at u us) h k = (h, k)

not_wide : (n : ℕ) → nat_lt 170141183460469231731687303715884105727 n ≡ false → n ≤ 170141183460469231731687303715884105727
not_wide n h = grind (arith, nat_tests)

not_above : (b : Bool) (n : ℕ) → nat_lt (most_exponent b) n ≡ false → n ≤ 65535
not_above true n h = grind (arith, nat_tests)
not_above false n h = let l : n ≤ 255 = grind (arith, nat_tests) in omega arith

mutual
  low_term : (depth : ℕ) (b : Bool) (t : Term) (r : List Occurrence) → AllFit (term depth b t r) → IsLowTerm (term_tree t) × AllFit r
  low_term depth b (sum p ps) r h =
      let w = low_of_product depth b p (sums depth ps r) h in
      let v = low_sums depth ps r w.1 in (low_sum (product_tree p) (sums_tree ps) w.0 v.0, v.1)

  low_sums : (depth : ℕ) (ps : Sums) (r : List Occurrence) → AllFit (sums depth ps r) → AreLowAddends (sums_tree ps) × AllFit r
  low_sums depth no_sum r h = (tt, h)
  low_sums depth (sign at minus p ps) r h =
      let w = low_of_product depth false p (sums depth ps r) h.1 in
      let v = low_sums depth ps r w.1 in ((w.0, v.0), v.1)

  low_of_product : (depth : ℕ) (b : Bool) (p : Product) (r : List Occurrence) → AllFit (product depth b p r) → IsLowTerm (product_tree p) × AllFit r
  low_of_product depth b (factors s ss) r h =
      let w = low_signed depth b s (timeses depth ss r) h in
      let v = low_times depth ss r w.1 in (low_product (signed_tree s) (times_tree ss) w.0 v.0, v.1)

  low_times : (depth : ℕ) (ss : Times) (r : List Occurrence) → AllFit (timeses depth ss r) → AreLowFactors (times_tree ss) × AllFit r
  low_times depth no_times r h = (tt, h)
  low_times depth (times at s ss) r h =
      let w = low_signed depth false s (timeses depth ss r) h.1 in
      let v = low_times depth ss r w.1 in ((w.0, v.0), v.1)

  low_signed : (depth : ℕ) (b : Bool) (s : Signed) (r : List Occurrence) → AllFit (signed depth b s r) → IsLowTerm (signed_tree s) × AllFit r
  low_signed depth b (negative at s) r h = low_signed (depth + 1) false s r h.1
  low_signed depth b (positive p) r h = low_power depth b p r h

  low_power : (depth : ℕ) (b : Bool) (p : Power) (r : List Occurrence) → AllFit (power depth b p r) → IsLowTerm (power_tree p) × AllFit r
  low_power depth b (base a) r h = low_primary depth b a r h
  low_power depth b (raised a at n) r h = let w = low_primary depth b a _ h in ((w.0, not_above (is_name a) n w.1.1.0.1), w.1.1.1)

  low_primary : (depth : ℕ) (b : Bool) (a : Primary) (r : List Occurrence) → AllFit (primary depth b a r) → IsLowTerm (primary_tree a) × AllFit r
  low_primary depth b (number n) r h = (not_wide n h.0.0, h.1)
  low_primary depth b (name x) r h = (tt, h.1)
  low_primary depth b (group t) r h = let w = low_term (depth + 1) false t _ h.1 in (w.0, w.1.1)

shaped_comparison : (depth : ℕ) (a : Atom) (r : List Occurrence) → AllFit (comparison depth a r) → IsShaped (atom_tree a) × AllFit r
shaped_comparison depth (compare t at k u) r h =
    let w = low_term depth true t _ h in
    let v = low_term depth false u r w.1.1 in ((w.0, v.0), v.1)

shaped_bound : (quantifier : Quantifier) (x : Name) (f : FormulaTree) → IsShaped f → IsShaped (bound quantifier x f)
shaped_bound quantifiers.Ex x f h = h
shaped_bound quantifiers.All x f h = h

shaped_linked : (arrow : Arrow) (f g : FormulaTree) → IsShaped f → IsShaped g → IsShaped (linked arrow f g)
shaped_linked arrows.Implies f g h k = (h, k)
shaped_linked arrows.Iff f g h k = (h, k)

shaped_constant : (value : Bool) → IsShaped (constant_tree value)
shaped_constant true = tt
shaped_constant false = tt

shaped_conjoined : (f : FormulaTree) (gs : FormulaTrees) → IsShaped f → AreShaped gs → IsShaped (conjoined f gs)
shaped_conjoined f no_more h k = h
shaped_conjoined f (more g gs) h k = (omega arith, (h, k))

shaped_disjoined : (f : FormulaTree) (gs : FormulaTrees) → IsShaped f → AreShaped gs → IsShaped (disjoined f gs)
shaped_disjoined f no_more h k = h
shaped_disjoined f (more g gs) h k = (omega arith, (h, k))

mutual
  pub shaped_formula : (depth : ℕ) (f : Formula) (r : List Occurrence) → AllFit (formula depth f r) → IsShaped (formula_tree f) × AllFit r
  shaped_formula depth (quantified quantifier x s) r h = let w = shaped_scope (depth + 1) quantifier s r h.1.1 in (shaped_bound quantifier x (scope_tree quantifier s) w.0, w.1)
  shaped_formula depth (open_formula s) r h = shaped_simple depth s r h

  shaped_scope : (depth : ℕ) (quantifier : Quantifier) (s : Scope) (r : List Occurrence) → AllFit (scope depth s r) → IsShaped (scope_tree quantifier s) × AllFit r
  shaped_scope depth quantifier (further x s) r h = let w = shaped_scope (depth + 1) quantifier s r h.1 in (shaped_bound quantifier x (scope_tree quantifier s) w.0, w.1)
  shaped_scope depth quantifier (body f) r h = shaped_formula depth f r h.1

  shaped_simple : (depth : ℕ) (s : Simple) (r : List Occurrence) → AllFit (simple depth s r) → IsShaped (simple_tree s) × AllFit r
  shaped_simple depth (alone d) r h = shaped_disj depth d r h
  shaped_simple depth (joined arrow d e) r h =
      let w = shaped_disj depth d _ h in
      let v = shaped_disj depth e r w.1.1 in (shaped_linked arrow (disj_tree d) (disj_tree e) w.0 v.0, v.1)

  shaped_disj : (depth : ℕ) (d : Disj) (r : List Occurrence) → AllFit (disj depth d r) → IsShaped (disj_tree d) × AllFit r
  shaped_disj depth (ors c cs) r h =
      let w = shaped_conj depth c (orses depth cs r) h in
      let v = shaped_orses depth cs r w.1 in (shaped_disjoined (conj_tree c) (ors_trees cs) w.0 v.0, v.1)

  shaped_orses : (depth : ℕ) (cs : Ors) (r : List Occurrence) → AllFit (orses depth cs r) → AreShaped (ors_trees cs) × AllFit r
  shaped_orses depth no_or r h = (tt, h)
  shaped_orses depth (or c cs) r h =
      let w = shaped_conj depth c (orses depth cs r) h.1 in
      let v = shaped_orses depth cs r w.1 in ((w.0, v.0), v.1)

  shaped_conj : (depth : ℕ) (c : Conj) (r : List Occurrence) → AllFit (conj depth c r) → IsShaped (conj_tree c) × AllFit r
  shaped_conj depth (ands u us) r h =
      let w = shaped_unary depth u (andses depth us r) h in
      let v = shaped_andses depth us r w.1 in (shaped_conjoined (unary_tree u) (ands_trees us) w.0 v.0, v.1)

  shaped_andses : (depth : ℕ) (us : Ands) (r : List Occurrence) → AllFit (andses depth us r) → AreShaped (ands_trees us) × AllFit r
  shaped_andses depth no_and r h = (tt, h)
  shaped_andses depth (and u us) r h =
      let w = shaped_unary depth u (andses depth us r) h.1 in
      let v = shaped_andses depth us r w.1 in ((w.0, v.0), v.1)

  shaped_unary : (depth : ℕ) (u : Unary) (r : List Occurrence) → AllFit (unary depth u r) → IsShaped (unary_tree u) × AllFit r
  shaped_unary depth (not u) r h = shaped_unary (depth + 1) u r h.1
  shaped_unary depth (constant value) r h = (shaped_constant value, h.1)
  shaped_unary depth (bracket f) r h = let w = shaped_formula (depth + 1) f _ h.1 in (w.0, w.1.1)
  shaped_unary depth (atom a) r h = shaped_comparison depth a r h

pub shaped_text : (tokens : List Located) (of : FormulaTree) → IsText tokens of → IsShaped of
shaped_text tokens of t =
    let fits = clean_fits 0 (input t.derived) (clean_text tokens of t) in
    subst (λ f. IsShaped f) t.stands_for (shaped_formula 0 t.derived (the_end ∷ []) fits).0
