-- The generated formulas are over small linear polynomials, and their prenex form is as they stand.
use Rattle.std.proofs.Common.{ℕ, ◌+◌, ◌*◌, ◌%◌, ◌≡◌, ◌<◌, ◌≤◌, refl, sym, ap, subst, ◌∙◌, inl, true, false, cond, List, [], ◌∷◌, map, length, pos, ◌+ℤ◌, unsigned_abs, arith}
use Rattle.std.specs.Prelude.{◌-ℤ◌}
use Rattle.std.specs.Ordering.{int_eq}
use Rattle.std.proofs.Math.IntN.{+ℤ_idr}
use Rattle.std.proofs.Math.Nat.{mod-lt}
use Rattle.std.proofs.lemmas.Int.{ints}
use Rattle.qe_poly.specs.Polynomial.{Group, gathered, total, totals}
use Rattle.qe_poly.proofs.Sorted.{Each}
use Rattle.qe_poly.proofs.Canonical.{IsPolynomial-collected}
use Rattle.qe_form.specs.Signs.{less_or_equal}
use Rattle.qe_form.specs.Formula.{Formulas, And, more}
use Rattle.qe_form.specs.Tree.{trees_of}
use Rattle.qe_form.specs.Measures.{count, count_each}
use Rattle.qe_form.specs.Plain.{IsPlainWith, ArePlainWith}
use Rattle.qe_form.specs.Blocks.{exists}
use Rattle.qe_norm.specs.declared.polarity.Polarity.TheVariants.{Positive}
use Rattle.qe_norm.specs.NormalForm.{normal_form, normal_forms}
use Rattle.qe_norm.specs.Numbering.{Walked, met_after, numbered, numbered_each, start}
use Rattle.qe_norm.specs.Prenex.{numbered_form, prenex_size}
use Rattle.qe_norm.specs.Blocks.{prefix, prefix_each, grouped}
use Rattle.qe_norm.specs.Blocks as prenex
use Rattle.qe_norm.specs.declared.blocks.Kind.TheVariants as code
use Rattle.qe_norm.specs.declared.walk.Quantifier.{Quantifier}
use Rattle.qe_gen.specs.Generated as gen
use Rattle.qe_linear.proofs.Small.{IsLinear, IsSmall, each_collected}
use Rattle.qe_linear.proofs.Simplifying.{IsReady}

-- ---- the polynomials

each_total_small : (s : ℕ) (gs : List Group) → Each (λ g. unsigned_abs (total g.1) ≤ s) gs → Each (λ t. unsigned_abs t.1 ≤ s) (totals gs)
each_total_small s [] h = tt
each_total_small s (g ∷ gs) h =
    let rest = each_total_small s gs h.1 in
    elim (int_eq (total g.1) (pos 0)) as (λ b. Each (λ t. unsigned_abs t.1 ≤ s) (cond b (totals gs) ((g.0, total g.1) ∷ totals gs))) [ true ↦ rest | false ↦ (h.0, rest) ]

nine_at_most : (n : ℕ) → n < 19 → unsigned_abs (pos n -ℤ pos 9) ≤ 9
nine_at_most n h = omega (arith, ints, h)

coefficient_small : (number i j : ℕ) → unsigned_abs (gen.coefficient_at number i j +ℤ pos 0) ≤ 9
coefficient_small number i j =
    subst (λ c. unsigned_abs c ≤ 9) (sym (+ℤ_idr (gen.coefficient_at number i j)))
    (nine_at_most (((i + 1) * (j + 2) * (number + 3) + i * i + j) % 19) (mod-lt ((i + 1) * (j + 2) * (number + 3) + i * i + j) {m = 19} (omega arith)))

polynomial_small : (number i : ℕ) → IsSmall 9 (gen.polynomial number i)
unfolding gen.polynomial
polynomial_small number i =
    let one : 0 < 1 = omega arith in
    let linear : (v : ℕ) → v < 4 → ◌≡◌ {A = ℕ} 1 1 × (v < 4) = λ v h. (refl, h) in
    record {
      canonical = IsPolynomial-collected (gen.terms number i) ((one, tt, tt), ((one, tt, tt), ((one, tt, tt), ((one, tt, tt), (tt, tt)))));
      linear = each_collected IsLinear (gen.terms number i) (linear 1 (omega arith), (linear 2 (omega arith), (linear 3 (omega arith), (linear 0 (omega arith), (tt, tt)))));
      small = each_total_small 9 (gathered (gen.terms number i)) (coefficient_small number i 4, (coefficient_small number i 1, (coefficient_small number i 2, (coefficient_small number i 3, (coefficient_small number i 5, tt)))));
    }

-- ---- the matrix

abbrev quantifier : ℕ → Quantifier
quantifier x = record { kind = code.Ex; var = record { 0 = x } }

module _ (number : ℕ) where
  abbrev Clauses : List ℕ → Formulas
  Clauses ks = trees_of (map (gen.clause number) ks)

  clauses_ready : (ks : List ℕ) → ArePlainWith (IsReady 9) (Clauses ks)
  clauses_ready [] = tt
  clauses_ready (k ∷ ks) =
      let left : IsReady 9 (record { poly = gen.polynomial number (2 * k); signs = less_or_equal }) = (polynomial_small number (2 * k), inl refl) in
      let right : IsReady 9 (record { poly = gen.polynomial number (2 * k + 1); signs = less_or_equal }) = (polynomial_small number (2 * k + 1), inl refl) in
      ((left, (right, tt)), clauses_ready ks)

  clauses_count : (ks : List ℕ) → count_each (Clauses ks) ≡ 2 * length ks
  clauses_count [] = refl
  clauses_count (k ∷ ks) = let rest = clauses_count ks in omega (arith, rest)

  pub matrix_ready : IsPlainWith (IsReady 9) (gen.matrix number)
  unfolding gen.matrix
  matrix_ready = clauses_ready (gen.numbers_below 8)

  pub matrix_count : count (gen.matrix number) ≡ 16
  unfolding gen.matrix
  matrix_count = clauses_count (gen.numbers_below 8)

  -- ---- the prenex form

  clauses_normal : (ks : List ℕ) → normal_forms Positive (Clauses ks) ≡ Clauses ks
  clauses_normal [] = refl
  clauses_normal (k ∷ ks) = ap (more (gen.clause number k)) (clauses_normal ks)

  clauses_numbered : (ks : List ℕ) (w : Walked) → numbered_each (Clauses ks) [] w ≡ (Clauses ks, w)
  clauses_numbered [] w = refl
  clauses_numbered (k ∷ ks) w = ap (λ r. (more (gen.clause number k) r.0, r.1)) (clauses_numbered ks w)

  clauses_prefix : (ks : List ℕ) → prefix_each (Clauses ks) ≡ []
  clauses_prefix [] = refl
  clauses_prefix (k ∷ ks) = clauses_prefix ks

  clauses_matrix : (ks : List ℕ) → prenex.matrix_each (Clauses ks) ≡ Clauses ks
  clauses_matrix [] = refl
  clauses_matrix (k ∷ ks) = ap (more (gen.clause number k)) (clauses_matrix ks)

  normal_is : normal_form Positive (gen.input_form number) ≡ gen.input_form number
  unfolding gen.matrix
  normal_is = ap (λ fs. gen.exists (And fs)) (clauses_normal (gen.numbers_below 8))

  pub size_is : prenex_size (gen.input_form number) ≡ 19
  size_is = ap count normal_is ∙ ap (λ n. 1 + (1 + (1 + n))) matrix_count

  numbered_is : (numbered_form (gen.input_form number) gen.input_names).0 ≡ gen.input_form number
  unfolding gen.matrix
  numbered_is =
      ap (λ f. (numbered f [] (start gen.input_names)).0) normal_is
      ∙ ap (λ r. gen.exists (And r.0)) (clauses_numbered (gen.numbers_below 8) (met_after (met_after (met_after (start gen.input_names) 1) 2) 3))

  pub blocks_are : grouped (prefix (numbered_form (gen.input_form number) gen.input_names).0) ≡ record { kind = exists; vars = 1 ∷ 2 ∷ 3 ∷ [] } ∷ []
  unfolding gen.matrix
  blocks_are =
      ap (λ f. grouped (prefix f)) numbered_is
      ∙ ap (λ qs. grouped (quantifier 1 ∷ quantifier 2 ∷ quantifier 3 ∷ qs)) (clauses_prefix (gen.numbers_below 8))

  pub matrix_is : prenex.matrix (numbered_form (gen.input_form number) gen.input_names).0 ≡ gen.matrix number
  unfolding gen.matrix
  matrix_is = ap prenex.matrix numbered_is ∙ ap And (clauses_matrix (gen.numbers_below 8))
