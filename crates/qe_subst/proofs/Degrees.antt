-- Polynomials without a variable.
use Rattle.std.proofs.Common.{ℕ, ◌≡◌, ◌∙◌, ◌<◌, refl, ap, true, false, cond, eqb, [], ◌∷◌, arith}
use Rattle.std.proofs.lemmas.Bool.Decides.{nat_tests}
use Rattle.qe_poly.specs.Monomial.{Monomial, IsMonomial}
use Rattle.qe_poly.specs.Polynomial.{Polynomial, IsPolynomial}
use Rattle.qe_poly.specs.Coefficients.{exponent_of, without, degree_in, coefficient_in}

without_free : (x : ℕ) (m : Monomial) → IsMonomial m → exponent_of x m ≡ 0 → without x m ≡ m
without_free x [] monomial free = refl
without_free x (a ∷ m) monomial free =
    elim (eqb a.var.0 x) as (λ b. cond b a.exponent (exponent_of x m) ≡ 0 → cond b m (a ∷ without x m) ≡ a ∷ m) [
      | true ↦ λ none. absurd (positive a.exponent monomial.0 none)
      | false ↦ λ none. ap (λ n. a ∷ n) (without_free x m monomial.2 none)
    ] free
  where
    positive : (i : ℕ) → 0 < i → i ≡ 0 → ⊥
    positive i more none = omega arith

-- a polynomial without the variable is its coefficient of the power 0
pub coefficient_whole : (x : ℕ) (q : Polynomial) → IsPolynomial q → degree_in x q < 1 → coefficient_in x 0 q ≡ q
coefficient_whole x [] canonical low = refl
coefficient_whole x (t ∷ ts) canonical low =
    let first : exponent_of x t.0 < 1 = omega arith in
    let rest : degree_in x ts < 1 = omega arith in
    ap (λ b. cond b ((without x t.0, t.1) ∷ coefficient_in x 0 ts) (coefficient_in x 0 ts)) (none (exponent_of x t.0) first)
    ∙ λ i. (without_free x t.0 canonical.1 (is_none (exponent_of x t.0) first) i, t.1) ∷ coefficient_whole x ts canonical.3 rest i
  where
    none : (i : ℕ) → i < 1 → eqb i 0 ≡ true
    none i less = grind (arith, nat_tests)

    is_none : (i : ℕ) → i < 1 → i ≡ 0
    is_none i less = omega arith
