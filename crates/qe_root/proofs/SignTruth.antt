-- The formula for the sign of A + B*sqrt(r) is true at the points where that sign is in the set, and false at the others.
use Rattle.std.proofs.Common.{Option, Result, Ok, Err, IfOk, ◌≡◌, refl, sym, ap, ap₂, subst, ◌∙◌, T, Bool, true, false, [], ◌∷◌}
use Rattle.qe_ring.specs.Ring.{difference}
use Rattle.qe_ring.specs.Expression.{var, nought, ◌⊕◌, ⊖◌, ◌⊗◌, ◌⊝◌}
use Rattle.qe_ring.specs.Sign.{Sign, IsNotMinus, opposite, ◌·◌, adds, pick}
use Rattle.qe_ring.proofs.Signs.{same_sign, law}
use Rattle.qe_ring.proofs.Roots.{sign_at_root, root_has_sign}
use Rattle.qe_tower.specs.Number.{Number, sign_of, add, mul, ValidNumber}
use Rattle.qe_tower.specs.Point.{Point, IsPoint}
use Rattle.qe_tower.proofs.ValidNumbers.{valid_operations, valid_sign, ValidEqual, valid_ordered}
use Rattle.qe_line.proofs.Meaning.{means}
use Rattle.qe_poly.specs.Polynomial.{Polynomial, negative, product}
use Rattle.qe_form.specs.declared.signs.Signs.{Signs}
use Rattle.qe_poly.specs.declared.limit.PolyLimit.{PolyLimit}
use Rattle.qe_halt.specs.declared.halt.Halt.{Halt}
use Rattle.qe_form.specs.declared.form.Form.{Form}
use Rattle.qe_form.specs.Formula.{Formula}
use Rattle.qe_form.specs.Tree.{tree}
use Rattle.qe_form.specs.Value.{value}
use Rattle.qe_form.specs.Truth.{has_sign}
use Rattle.qe_form.proofs.Values.{value_of_negative, value_of_product}
use Rattle.qe_halt.specs.Outcome.{IsOutcome}
use Rattle.qe_root.specs.Shape.{Shape, atom, conjunction, disjunction, formula, is_met}
use Rattle.qe_form.specs.Signs.{IsProper}
use Rattle.qe_root.specs.SignForm.{sign_shape, side_shape, zero_shape, norm, sign_formula, IsSquareRoot, IsSignForm}
use Rattle.qe_root.proofs.Values.{polynomial_operations, valid_value, value_means}
use Rattle.qe_root.proofs.TestFormulas.{Reads, rereads, reads_atom, reads_both, reads_either}
use Rattle.qe_root.proofs.SignTable.{table}

-- ---- truth of a formula by the signs at its atoms

-- something else at the atoms
abbrev mapped : {X Y : Type 0} → (X → Y) → Shape X → Shape Y
mapped f (atom x signs) = atom (f x) signs
mapped f (conjunction s t) = conjunction (mapped f s) (mapped f t)
mapped f (disjunction s t) = disjunction (mapped f s) (mapped f t)

module _ (at : Point) where
  abbrev pub sign_at : Polynomial → Sign
  sign_at p = sign_of (value p at)

  abbrev holds : Shape Polynomial → Bool
  holds s = is_met (mapped sign_at s)

  shape_reads : (s : Shape Polynomial) → Reads at (holds s) (formula s)
  shape_reads (atom p signs) = reads_atom at p signs (sign_at p) refl
  shape_reads (conjunction s u) = reads_both at (holds s) (holds u) (formula s) (formula u) (shape_reads s) (shape_reads u)
  shape_reads (disjunction s u) = reads_either at (holds s) (holds u) (formula s) (formula u) (shape_reads s) (shape_reads u)

  pub truth_of : (s : Shape Polynomial) (x : Bool) → holds s ≡ x → Reads at x (formula s)
  truth_of s x same = rereads at (holds s) x (formula s) same (shape_reads s)

-- what stands at the atoms may be changed before or after the shape is made
side_shape-mapped : {X Y : Type 0} (f : X → Y) (zero : Bool) (a b n : X) → mapped f (side_shape zero a b n) ≡ side_shape zero (f a) (f b) (f n)
side_shape-mapped f true a b n = refl
side_shape-mapped f false a b n = refl

zero_shape-mapped : {X Y : Type 0} (f : X → Y) (zero : Bool) (e n : X) → mapped f (zero_shape zero e n) ≡ zero_shape zero (f e) (f n)
zero_shape-mapped f true e n = refl
zero_shape-mapped f false e n = refl

sign_shape-mapped : {X Y : Type 0} (f : X → Y) (u : X → X) (v : Y → Y) (signs : Signs) (a b e n : X) → f (u a) ≡ v (f a) → f (u b) ≡ v (f b)
    → mapped f (sign_shape u signs a b e n) ≡ sign_shape v signs (f a) (f b) (f e) (f n)
sign_shape-mapped {X} {Y} f u v signs a b e n same_a same_b = by_sides signs.minus signs.zero signs.plus
  where
    by_sides : (minus zero plus : Bool) → mapped f (sign_shape u (record { minus = minus; zero = zero; plus = plus }) a b e n)
        ≡ sign_shape v (record { minus = minus; zero = zero; plus = plus }) (f a) (f b) (f e) (f n)
    by_sides true zero true = zero_shape-mapped f zero e n
    by_sides true zero false = side_shape-mapped f zero a b n
    by_sides false zero true = side_shape-mapped f zero (u a) (u b) n ∙ ap₂ (λ x y. side_shape zero x y (f n)) same_a same_b
    by_sides false zero false = zero_shape-mapped f zero e n

-- ---- the signs at a point

module _ (at : Point) (valid : IsPoint at) where
  abbrev val : Polynomial → ValidNumber
  val p = valid_value at valid p

  sign_of_negative : (p : Polynomial) → sign_at at (negative p) ≡ opposite (sign_at at p)
  sign_of_negative p = valid_ordered.sign-same (val (negative p)) (valid_operations.neg (val p)) (value_of_negative p at valid) ∙ valid_ordered.sign-neg (val p)

  sign_of_product : (p q : Polynomial) → sign_at at (product p q) ≡ sign_at at p · sign_at at q
  sign_of_product p q = valid_ordered.sign-same (val (product p q)) (valid_operations.mul (val p) (val q)) (value_of_product p q at valid) ∙ valid_ordered.sign-mul (val p) (val q)

  -- A^2 - B^2*r, by the values
  abbrev norm_value : (a b r : Polynomial) → ValidNumber
  norm_value a b r = difference valid_operations (valid_operations.mul (val a) (val a)) (valid_operations.mul (valid_operations.mul (val b) (val b)) (val r))

  sign_of_norm : (a b r : Polynomial) → sign_at at (norm a b r) ≡ valid_sign (norm_value a b r)
  sign_of_norm a b r = valid_ordered.sign-same (val (norm a b r)) (norm_value a b r)
      (means polynomial_operations valid_operations ValidEqual val (value_means at valid) valid_ordered.ring (a ∷ b ∷ r ∷ []) (var 0 ⊗ var 0 ⊝ var 1 ⊗ var 1 ⊗ var 2))

  norm_law : (a b r : Polynomial)
      → T (adds (sign_at at a · sign_at at a) (opposite (sign_at at b · sign_at at b · sign_at at r)) (valid_sign (norm_value a b r)))
  norm_law a b r = law valid_operations valid_sign ValidEqual valid_ordered (val a ∷ val b ∷ val r ∷ [])
      (var 0 ⊗ var 0) (⊖ (var 1 ⊗ var 1 ⊗ var 2)) (var 0 ⊗ var 0 ⊝ var 1 ⊗ var 1 ⊗ var 2) refl

  module _ (w : Number) (r : Polynomial) (root : IsSquareRoot (value r at) w) where
    -- the sign of A + B*w
    abbrev whole : (a b : Polynomial) → Sign
    whole a b = sign_of (add (value a at) (mul (value b at) w))

    whole_is : (a b : Polynomial) → whole a b ≡ pick (valid_sign (norm_value a b r)) (sign_at at a) (sign_at at b · sign_at at r)
    whole_is a b = sign_at_root valid_operations valid_sign ValidEqual valid_ordered (val a) (val b) (val r) (w, root.number) root.not-minus root.square

    radicand : IsNotMinus (sign_at at r)
    radicand = subst (λ s. IsNotMinus s)
        (root_has_sign valid_operations valid_sign ValidEqual valid_ordered (w, root.number) (val r) root.not-minus
        (valid_ordered.sign-same (valid_operations.mul (w, root.number) (w, root.number)) (val r) root.square)) root.not-minus

    shape_is : (a b : Polynomial) (signs : Signs) → IsProper signs
        → is_met (mapped (sign_at at) (sign_shape negative signs a b (product a b) (norm a b r))) ≡ has_sign signs (whole a b)
    shape_is a b signs proper =
        ap is_met (sign_shape-mapped (sign_at at) negative opposite signs a b (product a b) (norm a b r) (sign_of_negative a) (sign_of_negative b))
        ∙ (ap₂ (λ e n. is_met (sign_shape opposite signs (sign_at at a) (sign_at at b) e n)) (sign_of_product a b) (sign_of_norm a b r)
        ∙ (table signs proper (sign_at at r) (sign_at at a) (sign_at at b) (valid_sign (norm_value a b r)) radicand (norm_law a b r)
        ∙ ap (has_sign signs) (sym (whole_is a b))))

    -- where B is zero, A + B*w has the sign of A
    plain_is : (a : Polynomial) → sign_at at a ≡ whole a []
    plain_is a = sym (same_sign valid_operations valid_sign ValidEqual valid_ordered (val a ∷ (w, root.number) ∷ []) (var 0 ⊕ nought ⊗ var 1) (var 0) refl)

sign_formula_is : (a b r : Polynomial) (signs : Signs) → IsProper signs → IsSignForm a b r signs (sign_formula a b r signs)
sign_formula_is a [] r signs proper at valid w root = truth_of at (atom a signs) (has_sign signs (whole at valid w r root a [])) (ap (has_sign signs) (plain_is at valid w r root a))
sign_formula_is a (t ∷ ts) r signs proper at valid w root =
    truth_of at (sign_shape negative signs a (t ∷ ts) (product a (t ∷ ts)) (norm a (t ∷ ts) r)) (has_sign signs (whole at valid w r root a (t ∷ ts)))
    (shape_is at valid w r root a (t ∷ ts) signs proper)

-- for the form that the code makes
pub form_is : (a b r : Polynomial) (signs : Signs) (f : Formula) → IsProper signs → f ≡ sign_formula a b r signs → IsSignForm a b r signs f
form_is a b r signs f proper same = subst (λ g. IsSignForm a b r signs g) (sym same) (sign_formula_is a b r signs proper)

-- and for its answer
pub answer_is : (a b r : Polynomial) (signs : Signs) (limit : Option PolyLimit) (result : Result Form (Halt PolyLimit)) → IsProper signs
    → IsOutcome limit (λ f. tree f ≡ sign_formula a b r signs) result → IfOk result (λ f. IsSignForm a b r signs (tree f))
answer_is a b r signs limit (Ok f) proper exact = form_is a b r signs (tree f) proper exact.1
answer_is a b r signs limit (Err stop) proper exact = tt
