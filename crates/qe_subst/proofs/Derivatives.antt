-- The derivative in a variable: its degree and its coefficients.
use Rattle.std.proofs.Common.{ℕ, zero, suc, ◌≡◌, ◌≢◌, ◌∙◌, ◌<◌, ◌-◌, ◌*◌, max, refl, sym, ap, ap₂, subst, true, false, cond, eqb, ℤ, pos, negsuc, ◌*ℤ◌, unsigned_abs, [], ◌∷◌, ◌++◌, arith}
use Rattle.std.proofs.Math.IntN.{*ℤ-zero}
use Rattle.std.proofs.lemmas.Int.{unsigned_abs-mul}
use Rattle.std.proofs.lemmas.Bool.{eqb-true}
use Rattle.std.proofs.lemmas.Bool.Decides.{nat_tests, Decides-int_eq}
use Rattle.std.specs.Ordering.{int_eq}
use Rattle.qe_ring.proofs.Bools.{fails}
use Rattle.qe_poly.specs.Monomial.{Monomial, IsMonomial, IsAbove}
use Rattle.qe_poly.specs.Polynomial.{Polynomial, IsPolynomial}
use Rattle.qe_poly.specs.Coefficients.{exponent_of, without, degree_in, coefficient_in, lowered, derivative}
use Rattle.qe_poly.specs.Value.{scaled}
use Rattle.qe_poly.proofs.Parts.{above_lower}

-- ---- one monomial

apart : (i j : ℕ) → i < j → eqb j i ≡ false
apart i j less = grind (arith, nat_tests)

exponent_above : (x : ℕ) (m : Monomial) → IsMonomial m → IsAbove x m → exponent_of x m ≡ 0
exponent_above x [] monomial above = refl
exponent_above x (a ∷ m) monomial above =
    ap (λ b. cond b a.exponent (exponent_of x m)) (apart x a.var.0 above) ∙ exponent_above x m monomial.2 (above_lower x a.var.0 m above monomial.1)

exponent_lowered : (x : ℕ) (m : Monomial) → IsMonomial m → exponent_of x (lowered x m) ≡ exponent_of x m - 1
exponent_lowered x [] monomial = refl
exponent_lowered x (a ∷ m) monomial =
    elim (eqb a.var.0 x) as (λ b. eqb a.var.0 x ≡ b → exponent_of x (cond b (cond (eqb (a.exponent - 1) 0) [] (record { var = a.var; exponent = a.exponent - 1 } ∷ []) ++ m) (a ∷ lowered x m))
    ≡ cond b a.exponent (exponent_of x m) - 1) [
      | true ↦ λ here. elim (eqb (a.exponent - 1) 0) as (λ b. eqb (a.exponent - 1) 0 ≡ b
          → exponent_of x (cond b [] (record { var = a.var; exponent = a.exponent - 1 } ∷ []) ++ m) ≡ a.exponent - 1) [
            | true ↦ λ gone. exponent_above x m monomial.2 (subst (λ y. IsAbove y m) (eqb-true a.var.0 x here) monomial.1) ∙ sym (eqb-true (a.exponent - 1) 0 gone)
            | false ↦ λ stays. ap (λ b. cond b (a.exponent - 1) (exponent_of x m)) here
          ] refl
      | false ↦ λ other. ap (λ b. cond b a.exponent (exponent_of x (lowered x m))) other ∙ exponent_lowered x m monomial.2
    ] refl

-- without the variable nothing is lowered
without_lowered : (x : ℕ) (m : Monomial) → IsMonomial m → without x (lowered x m) ≡ without x m
without_lowered x [] monomial = refl
without_lowered x (a ∷ m) monomial =
    elim (eqb a.var.0 x) as (λ b. eqb a.var.0 x ≡ b → without x (cond b (cond (eqb (a.exponent - 1) 0) [] (record { var = a.var; exponent = a.exponent - 1 } ∷ []) ++ m) (a ∷ lowered x m))
    ≡ cond b m (a ∷ without x m)) [
      | true ↦ λ here. elim (eqb (a.exponent - 1) 0) as (λ b. without x (cond b [] (record { var = a.var; exponent = a.exponent - 1 } ∷ []) ++ m) ≡ m) [
        | true ↦ without_above x m monomial.2 (subst (λ y. IsAbove y m) (eqb-true a.var.0 x here) monomial.1)
        | false ↦ ap (λ b. cond b m (record { var = a.var; exponent = a.exponent - 1 } ∷ without x m)) here
      ]
      | false ↦ λ other. ap (λ b. cond b (lowered x m) (a ∷ without x (lowered x m))) other ∙ ap (λ n. a ∷ n) (without_lowered x m monomial.2)
    ] refl
  where
    without_above : (y : ℕ) (n : Monomial) → IsMonomial n → IsAbove y n → without y n ≡ n
    without_above y [] monomial above = refl
    without_above y (b ∷ n) monomial above =
        ap (λ t. cond t n (b ∷ without y n)) (apart y b.var.0 above) ∙ ap (λ k. b ∷ k) (without_above y n monomial.2 (above_lower y b.var.0 n above monomial.1))

-- ---- one coefficient

not_none : (e : ℕ) → eqb (suc e) 0 ≡ false
not_none e = grind (arith, nat_tests)

-- whether the coefficient times the exponent is zero
is_gone : (c : ℤ) → c ≢ pos 0 → (e : ℕ) → int_eq (c *ℤ pos e) (pos 0) ≡ eqb e 0
is_gone c other zero = ap (λ d. int_eq d (pos 0)) (*ℤ-zero c)
is_gone c other (suc e) = fails (int_eq (c *ℤ pos (suc e)) (pos 0)) (Decides-int_eq (c *ℤ pos (suc e)) (pos 0)) (λ gone. product_positive (unsigned_abs c) (suc e) (positive c other) (omega arith) (sym (unsigned_abs-mul c (pos (suc e))) ∙ ap unsigned_abs gone)) ∙ sym (not_none e)
  where
    positive : (d : ℤ) → d ≢ pos 0 → 0 < unsigned_abs d
    positive (pos zero) other = absurd (other refl)
    positive (pos (suc n)) other = omega arith
    positive (negsuc n) other = omega arith

    product_positive : (m n : ℕ) → 0 < m → 0 < n → m * n ≡ 0 → ⊥
    product_positive zero n left right none = omega arith
    product_positive (suc m) n left right none = omega arith

-- ---- the degree

pub degree_of_derivative : (x : ℕ) (f : Polynomial) → IsPolynomial f → degree_in x (derivative x f) ≡ degree_in x f - 1
degree_of_derivative x [] canonical = refl
degree_of_derivative x (t ∷ ts) canonical =
    let rest : degree_in x (derivative x ts) ≡ degree_in x ts - 1 = degree_of_derivative x ts canonical.3 in
    ap (λ b. degree_in x (cond b (derivative x ts) ((lowered x t.0, t.1 *ℤ pos (exponent_of x t.0)) ∷ derivative x ts))) (is_gone t.1 canonical.0 (exponent_of x t.0))
    ∙ elim (eqb (exponent_of x t.0) 0) as (λ b. eqb (exponent_of x t.0) 0 ≡ b → degree_in x (cond b (derivative x ts) ((lowered x t.0, t.1 *ℤ pos (exponent_of x t.0)) ∷ derivative x ts))
    ≡ max (exponent_of x t.0) (degree_in x ts) - 1) [
      | true ↦ λ gone. rest ∙ none (exponent_of x t.0) (degree_in x ts) (eqb-true (exponent_of x t.0) 0 gone)
      | false ↦ λ stays. ap₂ max (exponent_lowered x t.0 canonical.1) rest ∙ some (exponent_of x t.0) (degree_in x ts)
    ] refl
  where
    none : (i j : ℕ) → i ≡ 0 → j - 1 ≡ max i j - 1
    none i j is_none = omega arith

    some : (i j : ℕ) → max (i - 1) (j - 1) ≡ max i j - 1
    some i j = omega arith

pub degree_over_derivative : (x : ℕ) (f : Polynomial) → IsPolynomial f → 0 < degree_in x f → suc (degree_in x (derivative x f)) ≡ degree_in x f
degree_over_derivative x f canonical positive = ap suc (degree_of_derivative x f canonical) ∙ back (degree_in x f) positive
  where
    back : (i : ℕ) → 0 < i → suc (i - 1) ≡ i
    back i more = omega arith

-- ---- the coefficients

-- the coefficient of x^k is that of x^(k+1) times k+1
pub coefficient_of_derivative : (x k : ℕ) (f : Polynomial) → IsPolynomial f → coefficient_in x k (derivative x f) ≡ scaled (pos (suc k)) (coefficient_in x (suc k) f)
coefficient_of_derivative x k [] canonical = refl
coefficient_of_derivative x k (t ∷ ts) canonical =
    let again : coefficient_in x k (derivative x ts) ≡ scaled (pos (suc k)) (coefficient_in x (suc k) ts) = coefficient_of_derivative x k ts canonical.3 in
    ap (λ b. coefficient_in x k (cond b (derivative x ts) ((lowered x t.0, t.1 *ℤ pos (exponent_of x t.0)) ∷ derivative x ts))) (is_gone t.1 canonical.0 (exponent_of x t.0))
    ∙ elim (eqb (exponent_of x t.0) 0) as (λ b. eqb (exponent_of x t.0) 0 ≡ b → coefficient_in x k (cond b (derivative x ts) ((lowered x t.0, t.1 *ℤ pos (exponent_of x t.0)) ∷ derivative x ts))
    ≡ scaled (pos (suc k)) (cond (eqb (exponent_of x t.0) (suc k)) ((without x t.0, t.1) ∷ coefficient_in x (suc k) ts) (coefficient_in x (suc k) ts))) [
      | true ↦ λ gone. again
          ∙ sym (ap (λ b. scaled (pos (suc k)) (cond b ((without x t.0, t.1) ∷ coefficient_in x (suc k) ts) (coefficient_in x (suc k) ts))) (past (exponent_of x t.0) gone))
      | false ↦ λ stays.
          ap (λ b. cond b ((without x (lowered x t.0), t.1 *ℤ pos (exponent_of x t.0)) ∷ coefficient_in x k (derivative x ts)) (coefficient_in x k (derivative x ts)))
          (ap (λ i. eqb i k) (exponent_lowered x t.0 canonical.1) ∙ less_one (exponent_of x t.0) stays)
          ∙ elim (eqb (exponent_of x t.0) (suc k)) as (λ b. eqb (exponent_of x t.0) (suc k) ≡ b
          → cond b ((without x (lowered x t.0), t.1 *ℤ pos (exponent_of x t.0)) ∷ coefficient_in x k (derivative x ts)) (coefficient_in x k (derivative x ts))
          ≡ scaled (pos (suc k)) (cond b ((without x t.0, t.1) ∷ coefficient_in x (suc k) ts) (coefficient_in x (suc k) ts))) [
            | true ↦ λ here. (λ i. (without_lowered x t.0 canonical.1 i, t.1 *ℤ pos (eqb-true (exponent_of x t.0) (suc k) here i)) ∷ again i)
                ∙ sym (ap (λ b. cond b (scaled (pos (suc k)) (coefficient_in x (suc k) ts)) ((without x t.0, t.1 *ℤ pos (suc k)) ∷ scaled (pos (suc k)) (coefficient_in x (suc k) ts)))
                (is_gone t.1 canonical.0 (suc k) ∙ not_none k))
            | false ↦ λ other. again
          ] refl
    ] refl
  where
    past : (i : ℕ) → eqb i 0 ≡ true → eqb i (suc k) ≡ false
    past i gone = grind (arith, nat_tests)

    less_one : (i : ℕ) → eqb i 0 ≡ false → eqb (i - 1) k ≡ eqb i (suc k)
    less_one zero stays = absurd (cc)
    less_one (suc i) stays = grind (arith, nat_tests)
