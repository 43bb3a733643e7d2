-- A node over small linear polynomials does not fail, and its successors are such nodes again.
use Rattle.std.proofs.Common.{ℕ, zero, suc, ◌+◌, ◌*◌, ◌≡◌, ◌≤◌, refl, sym, ap, subst, ◌∙◌, ◌⊎◌, inl, inr, Bool, true, false, not, ◌&&◌, cond, eqb, List, [], ◌∷◌, ◌++◌, Option, Some, None, Result, Ok, arith}
use Rattle.std.specs.Prelude.{nat_lt, IfNone}
use Rattle.std.specs.List.{filter}
use Rattle.qe_poly.specs.declared.monomial.Var.{Var}
use Rattle.qe_poly.specs.Polynomial.{Polynomial, negative}
use Rattle.qe_poly.specs.Coefficients.{coefficient_in, degree_in}
use Rattle.qe_poly.specs.Equal.{poly_eq}
use Rattle.qe_poly.specs.Numbers.{is_negative}
use Rattle.qe_poly.proofs.Sorted as poly
use Rattle.qe_form.specs.declared.form.Atom as atom
use Rattle.qe_form.specs.Signs.{equal, not_equal}
use Rattle.qe_form.specs.Making.{atomic, both, is_true, is_false}
use Rattle.qe_form.specs.Measures.{count, degree, degree_of_some}
use Rattle.qe_form.specs.Formula.{Formula, Formulas, True, False, Atom, And, Or, Not, Implies, Iff, Ex, All, no_more, more}
use Rattle.qe_form.specs.Plain.{IsPlainWith, ArePlainWith}
use Rattle.qe_simp.specs.Simplified.{simplified}
use Rattle.qe_simp.proofs.Shapes.{plain_weaker}
use Rattle.qe_simp.proofs.Sizes.{simplified_size}
use Rattle.qe_root.specs.declared.point.RootPoint.{RootPoint}
use Rattle.qe_root.specs.declared.stop.SubstStop.{SubstStop}
use Rattle.qe_root.specs.Atoms.{atoms}
use Rattle.qe_points.specs.declared.candidate.Which.TheVariants.{Linear, Upper, Lower}
use Rattle.qe_points.specs.declared.candidate.Candidate.{Candidate}
use Rattle.qe_points.specs.declared.candidate.Candidate.TheVariants.{Root, MinusInf}
use Rattle.qe_points.specs.Candidates.{Numbered, gives, numbered, distinct, roots_of, roots, candidates}
use Rattle.qe_points.specs.Choice.{choice, AllAreHigh}
use Rattle.qe_points.specs.Guard.{guard, point_of, linear_root, turned}
use Rattle.qe_points.specs.Guarded.{own}
use Rattle.qe_points.proofs.Choosing.{choice_none}
use Rattle.qe_subst.specs.Substituted.{substituted}
use Rattle.qe_subst.specs.Stop.{stop}
use Rattle.qe_tree.specs.Expanded.{successors}
use Rattle.qe_tree.specs.Sound.{Each, forms_of}
use Rattle.qe_node.specs.declared.stop.NodeStop.{NodeStop}
use Rattle.qe_node.specs.Successors.{Tried, fails, skipped, gives as gives_one, after_stop, put_in, tried, before, and_then, given_by, at_variable, at_choice, as_vars, expansion}
use Rattle.qe_node.proofs.Candidates.{successor, each_given}
use Rattle.qe_linear.proofs.Small.{IsSmall, smaller, part_small, negative_small}
use Rattle.qe_linear.proofs.Products.{IsConstant, zero_is, number_is, shape_of, number_small}
use Rattle.qe_linear.proofs.Values.{IsLinearRoot, next, slope_number}
use Rattle.qe_linear.proofs.Simplifying.{IsGood, IsReady, simplified_good}
use Rattle.qe_linear.proofs.Substituting.{low_degree, each_atom, IsLinearPoint, IsRoomy, formula_ready, formula_count, no_stop}

-- ---- candidates

-- the root of a small linear polynomial, or what is below all numbers
abbrev IsLinearCandidate : ℕ → Candidate → Type 0
IsLinearCandidate s (Root g n Linear false) = IsSmall s g
IsLinearCandidate s (Root g n Linear true) = ⊥
IsLinearCandidate s (Root g n Upper plus) = ⊥
IsLinearCandidate s (Root g n Lower plus) = ⊥
IsLinearCandidate s MinusInf = Unit {0}

each_append : {A : Type 0} (P : A → Type 0) (xs ys : List A) → Each P xs → Each P ys → Each P (xs ++ ys)
each_append P [] ys h k = k
each_append P (x ∷ xs) ys h k = (h.0, each_append P xs ys h.1 k)

each_filter : {A : Type 0} (P : A → Type 0) (test : A → Bool) (xs : List A) → Each P xs → Each P (filter test xs)
each_filter P test [] h = tt
each_filter P test (x ∷ xs) h =
    let rest = each_filter P test xs h.1 in
    elim (test x) as (λ b. Each P (cond b (x ∷ filter test xs) (filter test xs))) [ true ↦ (h.0, rest) | false ↦ rest ]

module _ (s x : ℕ) where
  abbrev IsSmallOne : Numbered → Type 0
  IsSmallOne g = IsSmall s g.0

  numbered_small : (n : ℕ) (list : List atom.Atom) → poly.Each (IsGood s) list → Each IsSmallOne (numbered x true n list)
  numbered_small n [] h = tt
  numbered_small n (a ∷ list) h =
      let rest = numbered_small (suc n) list h.1 in
      elim (gives x true a) as (λ b. Each IsSmallOne (cond b ((a.poly, n) ∷ numbered x true (suc n) list) (numbered x true (suc n) list))) [ true ↦ (h.0.0, rest) | false ↦ rest ]

  never : (b : Bool) → (b && false) ≡ false
  never true = refl
  never false = refl

  -- each atom's signs have zero
  numbered_none : (n : ℕ) (list : List atom.Atom) → poly.Each (IsGood s) list → numbered x false n list ≡ []
  numbered_none n [] h = refl
  numbered_none n (a ∷ list) h =
      let none : gives x false a ≡ false = ap (λ z. nat_lt 0 (degree_in x a.poly) && not z) h.0.1 ∙ never (nat_lt 0 (degree_in x a.poly)) in
      ap (λ b. cond b ((a.poly, n) ∷ numbered x false (suc n) list) (numbered x false (suc n) list)) none ∙ numbered_none (suc n) list h.1

  distinct_small : (gs : List Numbered) → Each IsSmallOne gs → Each IsSmallOne (distinct gs)
  distinct_small [] h = tt
  distinct_small (g ∷ gs) h = (h.0, each_filter IsSmallOne (λ k. not (poly_eq g.0 k.0)) (distinct gs) (distinct_small gs h.1))

  not_two : (d : ℕ) → d ≤ 1 → eqb d 2 ≡ false
  not_two zero h = refl
  not_two (suc zero) h = refl
  not_two (suc (suc d)) h = absurd (omega (arith, h))

  roots_linear : (gs : List Numbered) → Each IsSmallOne gs → Each (IsLinearCandidate s) (roots x false gs)
  roots_linear [] h = tt
  roots_linear (g ∷ gs) h = each_append (IsLinearCandidate s) (roots_of x false g) (roots x false gs) (by (eqb (degree_in x g.0) 1) (eqb (degree_in x g.0) 2) (not_two (degree_in x g.0) (low_degree x g.0 h.0.linear))) (roots_linear gs h.1)
    where
      by : (one two : Bool) → two ≡ false
          → Each (IsLinearCandidate s) (cond one (Root g.0 g.1 Linear false ∷ []) (cond two (Root g.0 g.1 Linear false ∷ Root g.0 g.1 Upper false ∷ Root g.0 g.1 Lower false ∷ []) []))
      by true two e = (h.0, tt)
      by false true e = absurd (cc)
      by false false e = tt

  candidates_linear : (f : Formula) → IsPlainWith (IsGood s) f → Each (IsLinearCandidate s) (candidates x f)
  candidates_linear f h =
      let good = each_atom (IsGood s) f h in
      each_append (IsLinearCandidate s) (roots x false (distinct (numbered x true 0 (atoms f)))) (roots x true (distinct (numbered x false 0 (atoms f))) ++ MinusInf ∷ [])
      (roots_linear (distinct (numbered x true 0 (atoms f))) (distinct_small (numbered x true 0 (atoms f)) (numbered_small 0 (atoms f) good)))
      (subst (λ gs. Each (IsLinearCandidate s) (roots x true (distinct gs) ++ MinusInf ∷ [])) (sym (numbered_none 0 (atoms f) good)) (tt, tt))

  -- ---- their points and guards

  number_negative : (p : Polynomial) → IsConstant s p → IsConstant s (negative p)
  number_negative [] zero_is = zero_is
  number_negative (_ ∷ []) (number_is c some le) =
      let h = negative_small s (([], c) ∷ []) (number_small s (([], c) ∷ []) (number_is c some le)) in
      shape_of s (negative (([], c) ∷ [])) h.canonical (refl, tt) h.small
  number_negative (_ ∷ (_ ∷ _)) shape = elim shape [ ]

  root_linear : (g : Polynomial) → IsSmall s g → IsLinearRoot s (linear_root x g)
  root_linear g h = record { p = negative_small s (coefficient_in x 0 g) (part_small s x 0 g h); q = refl; r = refl; s_is = slope_number s x g h }

  turned_linear : (k : RootPoint) → IsLinearRoot s k → IsLinearRoot s (turned k)
  turned_linear k h = elim (is_negative k.s) as (λ b. IsLinearRoot s (cond b (record { p = negative k.p; q = negative k.q; r = k.r; s = negative k.s }) k)) [
    | true ↦ record { p = negative_small s k.p h.p; q = ap negative h.q; r = h.r; s_is = number_negative k.s h.s_is }
    | false ↦ h
  ]

  point_linear : (c : Candidate) → IsLinearCandidate s c → IsLinearPoint s (point_of x c)
  point_linear (Root g n Linear false) h = turned_linear (linear_root x g) (root_linear g h)
  point_linear (Root g n Linear true) h = absurd h
  point_linear (Root g n Upper plus) h = absurd h
  point_linear (Root g n Lower plus) h = absurd h
  point_linear MinusInf h = tt

  guard_ready : (c : Candidate) → IsLinearCandidate s c → IsPlainWith (IsReady s) (guard x c) × (count (guard x c) ≤ 2)
  guard_ready (Root g n Linear false) h = by (eqb (degree_in x g) 2)
    where
      slope : (b : Bool) → IsSmall s (coefficient_in x 1 g) × ((b ≡ true) ⊎ IsConstant s (coefficient_in x 1 g))
      slope b = (part_small s x 1 g h, inr (slope_number s x g h))

      square : IsSmall s (coefficient_in x 2 g) × ((true ≡ true) ⊎ IsConstant s (coefficient_in x 2 g))
      square = (part_small s x 2 g h, inl refl)

      by : (b : Bool) → IsPlainWith (IsReady s) (cond b (both (atomic (coefficient_in x 2 g) equal) (atomic (coefficient_in x 1 g) not_equal)) (atomic (coefficient_in x 1 g) not_equal))
          × (count (cond b (both (atomic (coefficient_in x 2 g) equal) (atomic (coefficient_in x 1 g) not_equal)) (atomic (coefficient_in x 1 g) not_equal)) ≤ 2)
      by true = ((square, (slope false, tt)), omega arith)
      by false = (slope false, omega arith)
  guard_ready (Root g n Linear true) h = absurd h
  guard_ready (Root g n Upper plus) h = absurd h
  guard_ready (Root g n Lower plus) h = absurd h
  guard_ready MinusInf h = (tt, omega arith)

-- ---- a degree over two does not come up

module _ (s x : ℕ) where
  mutual
    low : (f : Formula) → IsPlainWith (IsGood s) f → degree x f ≤ 1
    low True h = omega arith
    low False h = omega arith
    low (Atom a) h = low_degree x a.poly h.0.linear
    low (And fs) h = low_each fs h
    low (Or fs) h = low_each fs h
    low (Not f) h = absurd h
    low (Implies f g) h = absurd h
    low (Iff f g) h = absurd h
    low (Ex y f) h = absurd h
    low (All y f) h = absurd h

    low_each : (fs : Formulas) → ArePlainWith (IsGood s) fs → degree_of_some x fs ≤ 1
    low_each no_more h = omega arith
    low_each (more f fs) h = let one = low f h.0 in let rest = low_each fs h.1 in omega (arith, one, rest)

-- ---- what candidates give

-- it does not make the node fail
abbrev Passes : Tried → Type 0
Passes (fails t) = ⊥
Passes skipped = Unit {0}
Passes (gives_one g) = Unit {0}

abbrev IsGiven : Result (List (ℕ × Formula)) NodeStop → Type 0
IsGiven r = (parts : List (ℕ × Formula)) × (r ≡ Ok parts)

passes_on : (n : ℕ) (t : Tried) → Passes t → (others : Result (List (ℕ × Formula)) NodeStop) → IsGiven others → IsGiven (and_then n t others)
passes_on n (fails t) h others given = absurd h
passes_on n skipped h others given = given
passes_on n (gives_one g) h others given = elim (is_true g) as (λ b. IsGiven (cond b (Ok ((n, g) ∷ [])) (before (n, g) others))) [
  | true ↦ ((n, g) ∷ [], refl)
  | false ↦ ((n, g) ∷ given.0, ap (before (n, g)) given.1)
]

-- a node's formula: atoms on small linear polynomials whose signs have zero, and not many
pub record IsFit (s size : ℕ) (f : Formula) : Type 0 where
  pub good : IsPlainWith (IsGood s) f
  pub small : count f ≤ size

module _ (s size : ℕ) (roomy : IsRoomy s) (few : 6 * size ≤ 65536) (x : ℕ) (f : Formula) (fit : IsFit s size f) where
  meets_none : (c : Candidate) → IsLinearCandidate s c → stop x (point_of x c) (own c) f ≡ None
  meets_none c h = let small = fit.small in no_stop s x roomy (point_of x c) (own c) (point_linear s x c h) f fit.good (omega (arith, few, small))

  passes_unless : (b : Bool) (g : Formula) → Passes (cond b skipped (gives_one g))
  passes_unless true g = tt
  passes_unless false g = tt

  passes_stop : (n : ℕ) (g : Formula) (o : Option SubstStop) → o ≡ None → Passes (after_stop n g o)
  passes_stop n g (Some t) e = absurd (cc)
  passes_stop n g None e = passes_unless (is_false g) g

  passes_guard : (n : ℕ) (c : Candidate) → IsLinearCandidate s c → (b : Bool) → Passes (cond b skipped (put_in x f n (simplified (guard x c)) (point_of x c) (own c)))
  passes_guard n c h true = tt
  passes_guard n c h false = passes_stop n (successor x f c) (stop x (point_of x c) (own c) f) (meets_none c h)

  passes : (n : ℕ) (c : Candidate) → IsLinearCandidate s c → Passes (tried x f n c)
  passes n (Root g k Linear false) h = passes_guard n (Root g k Linear false) h (is_false (simplified (guard x (Root g k Linear false))))
  passes n (Root g k Linear true) h = absurd h
  passes n (Root g k Upper plus) h = absurd h
  passes n (Root g k Lower plus) h = absurd h
  passes n MinusInf h = passes_guard n MinusInf h (is_false (simplified (guard x MinusInf)))

  given_ok : (n : ℕ) (cs : List Candidate) → Each (IsLinearCandidate s) cs → IsGiven (given_by x f n cs)
  given_ok n [] h = ([], refl)
  given_ok n (c ∷ cs) h = passes_on n (tried x f n c) (passes n c h.0) (given_by x f (suc n) cs) (given_ok (suc n) cs h.1)

  -- ---- successors

  ready_too : (a : atom.Atom) → IsGood s a → IsReady (next s) a
  ready_too a h = (smaller s (next s) a.poly roomy.grows h.0, inl h.1)

  successor_fit : (c : Candidate) → IsLinearCandidate s c → IsFit (next s) (6 * size + 2) (successor x f c)
  successor_fit c h =
      let point = point_linear s x c h in
      let g = simplified (guard x c) in
      let there = substituted x (point_of x c) (own c) f in
      let guard_fine = guard_ready s x c h in
      let guard_good = simplified_good s (guard x c) guard_fine.0 in
      let guard_few = simplified_size (guard x c) in
      let there_few = formula_count s x roomy (point_of x c) (own c) point f fit.good in
      let all_few = simplified_size (both g there) in
      let small = fit.small in
      record {
        good = simplified_good (next s) (both g there) (plain_weaker (IsGood s) (IsReady (next s)) ready_too g guard_good, (formula_ready s x roomy (point_of x c) (own c) point f fit.good, tt));
        small = omega (arith, guard_few, guard_fine.1, there_few, all_few, small);
      }

  each_fit : (cs : List Candidate) → Each (IsLinearCandidate s) cs → Each (λ c. stop x (point_of x c) (own c) f ≡ None → IsFit (next s) (6 * size + 2) (successor x f c)) cs
  each_fit [] h = tt
  each_fit (c ∷ cs) h = ((λ none. successor_fit c h.0), each_fit cs h.1)

-- the successors of a node with variables
pub record Grows (s size : ℕ) (xs : List ℕ) (f : Formula) : Type 0 where
  pub var : ℕ
  pub parts : List (ℕ × Formula)
  pub grows : expansion.becomes xs f ≡ successors var parts
  pub fit : Each (IsFit (next s) (6 * size + 2)) (forms_of parts)

pub expansion_grows : (s size : ℕ) → IsRoomy s → 6 * size ≤ 65536 → (x : ℕ) (xs : List ℕ) (f : Formula) → IsFit s size f → Grows s size (x ∷ xs) f
expansion_grows s size roomy few x xs f fit = by (choice f (as_vars (x ∷ xs))) refl
  where
    by : (o : Option Var) → choice f (as_vars (x ∷ xs)) ≡ o → Grows s size (x ∷ xs) f
    by None e =
        let high = subst (λ o. IfNone o (AllAreHigh f (as_vars (x ∷ xs)))) e (choice_none f (as_vars (x ∷ xs))) in
        let flat = low s x f fit.good in
        absurd (omega (arith, high.0, flat))
    by (Some v) e =
        let linear = candidates_linear s v.0 f fit.good in
        let given = given_ok s size roomy few v.0 f fit 0 (candidates v.0 f) linear in
        record {
          var = v.0;
          parts = given.0;
          grows = ap (at_choice f) e ∙ ap (at_variable v.0) given.1;
          fit = each_given (IsFit (next s) (6 * size + 2)) v.0 f 0 (candidates v.0 f) (each_fit s size roomy few v.0 f fit (candidates v.0 f) linear) given.0 given.1;
        }
