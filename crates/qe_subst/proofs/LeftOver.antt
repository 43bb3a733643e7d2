-- Which variables are left in the substituted formula.
use Rattle.std.proofs.Common.{ℕ, zero, suc, ◌≡◌, ◌≢◌, ◌⊎◌, ◌<◌, ◌-◌, inl, inr, refl, sym, subst, true, false, cond, eqb, pos, ◌*ℤ◌, Option, [], ◌∷◌, ◌++◌, map, arith}
use Rattle.std.proofs.lemmas.Bool.{eqb-true}
use Rattle.qe_poly.specs.Monomial.{Monomial}
use Rattle.qe_poly.specs.Polynomial.{Polynomial, IsPolynomial, negative, product, sum}
use Rattle.qe_poly.specs.Coefficients.{exponent_of, degree_in, coefficient_in, lowered, derivative}
use Rattle.qe_poly.specs.Value.{scaled}
use Rattle.qe_poly.proofs.Derivatives.{IsPolynomial-derivative}
use Rattle.qe_form.specs.Making.{atomic, constant}
use Rattle.qe_form.specs.declared.form.Atom as atom
use Rattle.qe_form.specs.declared.signs.Signs.{Signs}
use Rattle.qe_form.specs.Signs.{equal, is_even, strict}
use Rattle.qe_form.specs.Formula.{Formula, Formulas, True, False, Atom, And, Or, no_more, more}
use Rattle.qe_form.specs.Same.{IsFree, IsFreeInSome}
use Rattle.qe_poly.specs.Occurs.{OccursIn, OccursInSome}
use Rattle.qe_root.specs.declared.point.RootPoint.{RootPoint}
use Rattle.qe_root.specs.declared.point.Point.{Point}
use Rattle.qe_root.specs.declared.point.Point.TheVariants.{Root, RootPlus, MinusInf}
use Rattle.qe_poly.specs.Numbers.{is_zero}
use Rattle.qe_root.specs.Value.{triple, square, plain_part_of, root_part_of}
use Rattle.qe_root.specs.Shape.{formula}
use Rattle.qe_root.proofs.Shapes.{shape_each, free_in_shape}
use Rattle.qe_root.specs.SignForm.{sign_shape, sign_formula, norm}
use Rattle.qe_root.specs.Atoms.{HasCanonicalAtoms, HaveCanonicalAtoms}
use Rattle.qe_root.specs.Occurs.{OccursInRoot, OccursInPoint}
use Rattle.qe_subst.specs.Left.{IsLeft}
use Rattle.qe_subst.specs.Substituted.{is_own, at_root, near, each_coefficient, everywhere, line_below, quadratic_below, at_minus_infinity, at_point, for_atom, substituted, substituted_each}
use Rattle.qe_poly.proofs.Occurring.{occurs_coefficient, occurs_nonzero, occurs_negative, occurs_scaled, occurs_sum, occurs_product}
use Rattle.qe_subst.proofs.Degrees.{coefficient_whole}
use Rattle.qe_subst.proofs.Derivatives.{degree_of_derivative}

module _ (y : ℕ) where
  -- ---- derivatives

  occurs_lowered : (x : ℕ) (m : Monomial) → OccursIn y (lowered x m) → OccursIn y m
  occurs_lowered x [] h = h
  occurs_lowered x (a ∷ m) h =
      elim (eqb a.var.0 x) as (λ b. OccursIn y (cond b (cond (eqb (a.exponent - 1) 0) [] (record { var = a.var; exponent = a.exponent - 1 } ∷ []) ++ m) (a ∷ lowered x m)) → OccursIn y (a ∷ m)) [
        | true ↦ elim (eqb (a.exponent - 1) 0) as (λ b. OccursIn y (cond b [] (record { var = a.var; exponent = a.exponent - 1 } ∷ []) ++ m) → OccursIn y (a ∷ m)) [
          | true ↦ λ k. inr k
          | false ↦ λ k. k
        ]
        | false ↦ λ k. elim k [ inl e ↦ inl e | inr k ↦ inr (occurs_lowered x m k) ]
      ] h

  occurs_derivative : (x : ℕ) (q : Polynomial) → OccursInSome y (derivative x q) → OccursInSome y q
  occurs_derivative x q h = terms q (occurs_nonzero y (map (λ t. (lowered x t.0, t.1 *ℤ pos (exponent_of x t.0))) q) h)
    where
      terms : (q : Polynomial) → OccursInSome y (map (λ t. (lowered x t.0, t.1 *ℤ pos (exponent_of x t.0))) q) → OccursInSome y q
      terms [] h = h
      terms (t ∷ ts) (inl h) = inl (occurs_lowered x t.0 h)
      terms (t ∷ ts) (inr h) = inr (terms ts h)

  -- ---- formulas of two and three parts

  module _ {G : Type 0} where
    in_two : {A B : Type 0} → (A → G) → (B → G) → A ⊎ (B ⊎ ⊥) → G
    in_two h k m = elim m [ inl n ↦ h n | inr n ↦ elim n [ inl l ↦ k l | inr l ↦ absurd l ] ]

    in_three : {A B C : Type 0} → (A → G) → (B → G) → (C → G) → A ⊎ (B ⊎ (C ⊎ ⊥)) → G
    in_three h k l m = elim m [ inl n ↦ h n | inr n ↦ in_two k l n ]

    product_from : (a b : Polynomial) → (OccursInSome y a → G) → (OccursInSome y b → G) → OccursInSome y (product a b) → G
    product_from a b h k m = elim (occurs_product y a b m) [ inl n ↦ h n | inr n ↦ k n ]

    sum_from : (a b : Polynomial) → (OccursInSome y a → G) → (OccursInSome y b → G) → OccursInSome y (sum a b) → G
    sum_from a b h k m = elim (occurs_sum y a b m) [ inl n ↦ h n | inr n ↦ k n ]

    triple_from : (a b c : Polynomial) → (OccursInSome y a → G) → (OccursInSome y b → G) → (OccursInSome y c → G) → OccursInSome y (triple a b c) → G
    triple_from a b c h k l = product_from (product a b) c (product_from a b h k) l

    norm_from : (a b r : Polynomial) → (OccursInSome y a → G) → (OccursInSome y b → G) → (OccursInSome y r → G) → OccursInSome y (norm a b r) → G
    norm_from a b r h k l =
        sum_from (product a a) (negative (triple b b r)) (product_from a a h h) (λ m. triple_from b b r k k l (occurs_negative y (triple b b r) m))

    sign_from : (a b r : Polynomial) (s : Signs) → (OccursInSome y a → G) → (OccursInSome y b → G) → (OccursInSome y r → G) → IsFree y (sign_formula a b r s) → G
    sign_from a b r s ha hb hr m =
        elim (is_zero b) as (λ t. IsFree y (cond t (atomic a s) (formula (sign_shape negative s a b (product a b) (norm a b r)))) → G) [
          | true ↦ λ h. ha h
          | false ↦ λ h. free_in_shape y (sign_shape negative s a b (product a b) (norm a b r))
              (shape_each (λ p. OccursInSome y p → G) negative a b (product a b) (norm a b r) ha hb (product_from a b ha hb) (norm_from a b r ha hb hr)
              (λ k. ha (occurs_negative y a k)) (λ k. hb (occurs_negative y b k)) s) h
        ] m

  module _ (x : ℕ) where
    -- ---- coefficients alone

    module _ {G : Type 0} (f : Polynomial) (h : (i : ℕ) → OccursInSome y (coefficient_in x i f) → G) where
      each_from : (n : ℕ) (s : Signs) → IsFreeInSome y (each_coefficient x n f s) → G
      each_from zero s m = elim m [ inl n ↦ h 0 n | inr n ↦ absurd n ]
      each_from (suc n) s m = elim m [ inl k ↦ h (suc n) k | inr k ↦ each_from n s k ]

      everywhere_from : (s : Signs) → IsFree y (everywhere x f s) → G
      everywhere_from s m =
          elim s.zero as (λ t. IsFree y (cond t (And (each_coefficient x (degree_in x f) f s)) (Or (each_coefficient x (degree_in x f) f s))) → G) [
            | true ↦ λ k. each_from (degree_in x f) s k
            | false ↦ λ k. each_from (degree_in x f) s k
          ] m

      below_from : (s : Signs) → IsFree y (at_minus_infinity x f s) → G
      below_from s m =
          elim (is_even s) as (λ t. IsFree y (cond t (everywhere x f s) (cond (eqb (degree_in x f) 1) (line_below x f s) (quadratic_below x f s))) → G) [
            | true ↦ λ k. everywhere_from s k
            | false ↦ elim (eqb (degree_in x f) 1) as (λ t. IsFree y (cond t (line_below x f s) (quadratic_below x f s)) → G) [
              | true ↦ λ k. in_two (h 1) (in_two (h 1) (h 0)) k
              | false ↦ λ k. in_three (h 2) (in_two (h 2) (h 1)) (in_three (h 2) (h 1) (h 0)) k
            ]
          ] m

    -- ---- at a root

    -- y is another variable of f
    abbrev IsOther : Polynomial → Type 0
    IsOther f = (y ≢ x) × OccursInSome y f

    -- a polynomial without x has no other
    other_of : (f : Polynomial) → IsPolynomial f → degree_in x f < 1 → OccursInSome y f → IsOther f
    other_of f canonical low h = occurs_coefficient x y 0 f canonical (subst (λ g. OccursInSome y g) (sym (coefficient_whole x f canonical low)) h)

    module _ (k : RootPoint) where
      abbrev From : Polynomial → Type 0
      From f = IsOther f ⊎ OccursInRoot y k

      module _ (f : Polynomial) (canonical : IsPolynomial f) where
        by_coefficient : (i : ℕ) → OccursInSome y (coefficient_in x i f) → From f
        by_coefficient i h = inl (occurs_coefficient x y i f canonical h)

        by_p : OccursInSome y k.p → From f
        by_p h = inr (inl h)

        by_q : OccursInSome y k.q → From f
        by_q h = inr (inr (inl h))

        by_r : OccursInSome y k.r → From f
        by_r h = inr (inr (inr (inl h)))

        by_s : OccursInSome y k.s → From f
        by_s h = inr (inr (inr (inr h)))

        plain_from : OccursInSome y (plain_part_of f x k) → From f
        plain_from = sum_from (sum (product (coefficient_in x 2 f) (square k)) (triple (coefficient_in x 1 f) k.p k.s)) (product (coefficient_in x 0 f) (product k.s k.s))
            (sum_from (product (coefficient_in x 2 f) (square k)) (triple (coefficient_in x 1 f) k.p k.s)
            (product_from (coefficient_in x 2 f) (square k) (by_coefficient 2) (sum_from (product k.p k.p) (triple k.q k.q k.r) (product_from k.p k.p by_p by_p) (triple_from k.q k.q k.r by_q by_q by_r)))
            (triple_from (coefficient_in x 1 f) k.p k.s (by_coefficient 1) by_p by_s))
            (product_from (coefficient_in x 0 f) (product k.s k.s) (by_coefficient 0) (product_from k.s k.s by_s by_s))

        root_from : OccursInSome y (root_part_of f x k) → From f
        root_from = sum_from (scaled (pos 2) (triple (coefficient_in x 2 f) k.p k.q)) (triple (coefficient_in x 1 f) k.q k.s)
            (λ h. triple_from (coefficient_in x 2 f) k.p k.q (by_coefficient 2) by_p by_q (occurs_scaled y (pos 2) (triple (coefficient_in x 2 f) k.p k.q) h))
            (triple_from (coefficient_in x 1 f) k.q k.s (by_coefficient 1) by_q by_s)

        at_root_from : (own : Option Polynomial) (s : Signs) → IsFree y (at_root x own k f s) → From f
        at_root_from own s m =
            elim (is_own own f) as (λ t. IsFree y (cond t (constant s.zero) (sign_formula (plain_part_of f x k) (root_part_of f x k) k.r s)) → From f) [
              | true ↦ λ h. absurd (elim s.zero as (λ t. IsFree y (constant t) → ⊥) [ true ↦ λ n. n | false ↦ λ n. n ] h)
              | false ↦ λ h. sign_from (plain_part_of f x k) (root_part_of f x k) k.r s plain_from root_from by_r h
            ] m

      of_derivative : (f : Polynomial) → From (derivative x f) → From f
      of_derivative f (inl o) = inl (o.0, occurs_derivative x f o.1)
      of_derivative f (inr h) = inr h

      near_from : (own : Option Polynomial) (s : Signs) (n : ℕ) (f : Polynomial) → IsPolynomial f → degree_in x f ≡ n → IsFree y (near x own k n f s) → From f
      near_from own s zero f canonical degree m = inl (other_of f canonical (omega (arith, degree)) m)
      near_from own s (suc n) f canonical degree m =
          let less : degree_in x (derivative x f) ≡ n = (let d = degree_of_derivative x f canonical in omega (arith, d, degree)) in
          in_two (at_root_from f canonical own (strict s))
          (in_two (at_root_from f canonical own equal)
          (λ h. of_derivative f (near_from own s n (derivative x f) (IsPolynomial-derivative x f canonical) less h))) m

    -- ---- at a test point

    module _ (own : Option Polynomial) where
      point_from : (point : Point) (f : Polynomial) → IsPolynomial f → (s : Signs) → IsFree y (at_point x point own f s) → IsOther f ⊎ OccursInPoint y point
      point_from (Root k) f canonical s m = at_root_from k f canonical own s m
      point_from (RootPlus k) f canonical s m =
          elim (is_even s) as (λ t. IsFree y (cond t (everywhere x f s) (near x own k (degree_in x f) f s)) → IsOther f ⊎ OccursInRoot y k) [
            | true ↦ λ h. everywhere_from f (λ i o. inl (occurs_coefficient x y i f canonical o)) s h
            | false ↦ λ h. near_from k own s (degree_in x f) f canonical refl h
          ] m
      point_from MinusInf f canonical s m = below_from f (λ i o. inl (occurs_coefficient x y i f canonical o)) s m

      module _ (point : Point) where
        atom_from : (a : atom.Atom) → IsPolynomial a.poly → IsFree y (for_atom x point own a) → IsOther a.poly ⊎ OccursInPoint y point
        atom_from a canonical m =
            elim (eqb (degree_in x a.poly) 0) as (λ t. eqb (degree_in x a.poly) 0 ≡ t → IsFree y (cond t (Atom a) (at_point x point own a.poly a.signs)) → IsOther a.poly ⊎ OccursInPoint y point) [
              | true ↦ λ none h. inl (other_of a.poly canonical (let d = eqb-true (degree_in x a.poly) 0 none in omega (arith, d)) h)
              | false ↦ λ some h. point_from point a.poly canonical a.signs h
            ] refl m

        mutual
          formula_from : (f : Formula) → HasCanonicalAtoms f → IsFree y (substituted x point own f) → ((y ≢ x) × IsFree y f) ⊎ OccursInPoint y point
          formula_from True canonical m = absurd m
          formula_from False canonical m = absurd m
          formula_from (Atom a) canonical m = atom_from a canonical m
          formula_from (And fs) canonical m = each_part_from fs canonical m
          formula_from (Or fs) canonical m = each_part_from fs canonical m
          formula_from f canonical m = absurd canonical

          each_part_from : (fs : Formulas) → HaveCanonicalAtoms fs → IsFreeInSome y (substituted_each x point own fs) → ((y ≢ x) × IsFreeInSome y fs) ⊎ OccursInPoint y point
          each_part_from no_more canonical m = absurd m
          each_part_from (more f fs) canonical (inl m) = elim (formula_from f canonical.0 m) [ inl h ↦ inl (h.0, inl h.1) | inr h ↦ inr h ]
          each_part_from (more f fs) canonical (inr m) = elim (each_part_from fs canonical.1 m) [ inl h ↦ inl (h.0, inr h.1) | inr h ↦ inr h ]

-- for the formula of the code
pub made_left : (x : ℕ) (point : Point) (own : Option Polynomial) (f g : Formula) → HasCanonicalAtoms f → g ≡ substituted x point own f → IsLeft x point f g
made_left x point own f g canonical made y free = formula_from y x own point f canonical (subst (λ h. IsFree y h) made free)
