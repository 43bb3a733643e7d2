-- The elimination of a generated input gives a formula.
use Rattle.std.proofs.Common.{ℕ, suc, ◌≡◌, ◌≤◌, ap, ◌∙◌, Bool, true, false, cond, List, [], ◌∷◌, length, arith}
use Rattle.std.specs.List.{filter}
use Rattle.qe_poly.specs.Polynomial.{IsPolynomial}
use Rattle.qe_form.specs.Formula.{Formula}
use Rattle.qe_form.specs.Measures.{occurs}
use Rattle.qe_form.specs.Blocks.{exists}
use Rattle.qe_simp.specs.Simplified.{simplified}
use Rattle.qe_simp.proofs.Shapes.{plain_weaker}
use Rattle.qe_simp.proofs.Sizes.{simplified_size}
use Rattle.qe_norm.specs.Blocks.{prefix, grouped}
use Rattle.qe_norm.specs.Blocks as prenex
use Rattle.qe_norm.specs.Prenex.{numbered_form}
use Rattle.qe_tree.specs.Block.{given, of_inner, eliminated}
use Rattle.qe_node.specs.Successors.{expansion}
use Rattle.qe_node.proofs.Sound.{fine_simplified}
use Rattle.qe_gen.specs.Generated as gen
use Rattle.qe_linear.proofs.Values.{next}
use Rattle.qe_linear.proofs.Simplifying.{IsReady, simplified_good}
use Rattle.qe_linear.proofs.Substituting.{IsRoomy}
use Rattle.qe_linear.proofs.Trees.{Lasts, gives_formula}
use Rattle.qe_linear.proofs.Generated.{matrix_ready, matrix_count, blocks_are, matrix_is}

lasts : Lasts 3 9 16
lasts =
    let first : IsRoomy 9 = record { low = omega arith; high = omega arith; grows = omega arith } in
    let second : IsRoomy (next 9) = record { low = omega arith; high = omega arith; grows = omega arith } in
    let third : IsRoomy (next (next 9)) = record { low = omega arith; high = omega arith; grows = omega arith } in
    (first, omega arith, (second, omega arith, (third, omega arith, tt)))

filter_short : (test : ℕ → Bool) (xs : List ℕ) → length (filter test xs) ≤ length xs
filter_short test [] = omega arith
filter_short test (x ∷ xs) =
    let rest = filter_short test xs in
    elim (test x) as (λ b. length (cond b (x ∷ filter test xs) (filter test xs)) ≤ suc (length xs)) [ true ↦ omega (arith, rest) | false ↦ omega (arith, rest) ]

pub input_gives : (number : ℕ) → (g : Formula) × (eliminated expansion (grouped (prefix (numbered_form (gen.input_form number) gen.input_names).0)) (prenex.matrix (numbered_form (gen.input_form number) gen.input_names).0) ≡ given g)
input_gives number =
    let m = gen.matrix number in
    let ready = matrix_ready number in
    let few = simplified_size m in
    let small = matrix_count number in
    let found = gives_formula (1 ∷ 2 ∷ 3 ∷ []) 3 9 16 lasts (simplified m)
    (fine_simplified m (plain_weaker (IsReady 9) (λ a. IsPolynomial a.poly) (λ a h. h.0.canonical) m ready))
    (filter_short (λ x. occurs x (simplified m)) (1 ∷ 2 ∷ 3 ∷ []))
    (record { good = simplified_good 9 m ready; small = omega (arith, few, small) }) in
    (found.0, (λ i. eliminated expansion (blocks_are number i) (matrix_is number i)) ∙ ap (of_inner expansion exists 1) found.1)
