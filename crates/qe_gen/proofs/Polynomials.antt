-- Generated polynomials: their coefficients fit, and their terms stand in order.
use Rattle.std.proofs.Common.{ℕ, ◌+◌, ◌*◌, ◌≡◌, ◌<◌, ◌≤◌, refl, sym, ap, subst, ◌∙◌, true, false, cond, ℤ, pos, [], ◌∷◌, ◌++◌, append_assoc, arith}
use Rattle.std.proofs.Math.Nat.{mul-le-mul}
use Rattle.std.proofs.Math.IntN.{+ℤ_idr}
use Rattle.std.specs.Ordering.{int_eq}
use Rattle.qe_poly.specs.Monomial.{Monomial, power}
use Rattle.qe_poly.specs.Polynomial.{Polynomial, IsPolynomial, collected, term_unless_zero}
use Rattle.qe_poly.proofs.Canonical.{IsPolynomial-collected}
use Rattle.qe_gen.specs.Generated.{a, x1, x2, x3, coefficient_at, terms, polynomial}

-- the product that a coefficient starts from is far below 2^32
pub product_fits : (number i j : ℕ) → number ≤ 999999 → i < 16 → j ≤ 5
    → ((i + 1) * (j + 2) ≤ 112) × ((i + 1) * (j + 2) * (number + 3) ≤ 112000224) × (i * i ≤ 225)
product_fits number i j n h k =
    let left : (i + 1) * (j + 2) ≤ 16 * 7 = mul-le-mul {n₂ = 16} {m₂ = 7} (omega arith) (omega arith) in
    let all : (i + 1) * (j + 2) * (number + 3) ≤ 112 * 1000002 = mul-le-mul {n₂ = 112} {m₂ = 1000002} left (omega arith) in
    let square : i * i ≤ 15 * 15 = mul-le-mul {n₂ = 15} {m₂ = 15} (omega arith) (omega arith) in
    (left, all, square)

-- a term appended, and what follows it: that term before what follows
term_before : (m : Monomial) (c : ℤ) (p : Polynomial) → term_unless_zero m c [] ++ p ≡ term_unless_zero m c p
term_before m c p = elim (int_eq c (pos 0)) as (λ b. cond b [] ((m, c) ∷ []) ++ p ≡ cond b p ((m, c) ∷ p)) [ true ↦ refl | false ↦ refl ]

-- the same behind other terms
before_rest : (p q r : Polynomial) (m : Monomial) (c : ℤ) → q ≡ p ++ term_unless_zero m c [] → q ++ r ≡ p ++ term_unless_zero m c r
before_rest p q r m c e = ap (λ s. s ++ r) e ∙ append_assoc p (term_unless_zero m c []) r ∙ ap (λ s. p ++ s) (term_before m c r)

-- equal parts
unless_zero : (m : Monomial) (c d : ℤ) (p q : Polynomial) → c ≡ d → p ≡ q → term_unless_zero m c p ≡ term_unless_zero m d q
unless_zero m c d p q e f = ap (λ x. term_unless_zero m x p) e ∙ ap (λ r. term_unless_zero m d r) f

-- what terms in the order of the places add up to has them from the greatest monomial to the least
in_order : (c1 c2 c3 c4 c5 : ℤ) → collected ((power x1 1, c1) ∷ (power x2 1, c2) ∷ (power x3 1, c3) ∷ (power a 1, c4) ∷ ([], c5) ∷ [])
    ≡ term_unless_zero (power a 1) c4 (term_unless_zero (power x1 1) c1 (term_unless_zero (power x2 1) c2 (term_unless_zero (power x3 1) c3 (term_unless_zero [] c5 []))))
in_order c1 c2 c3 c4 c5 =
    unless_zero _ _ _ _ _ (+ℤ_idr c4) (unless_zero _ _ _ _ _ (+ℤ_idr c1) (unless_zero _ _ _ _ _ (+ℤ_idr c2) (unless_zero _ _ _ _ _ (+ℤ_idr c3) (unless_zero _ _ _ _ _ (+ℤ_idr c5) refl))))

-- five terms, appended one by one
five_terms : (m0 m1 m2 m3 m4 : Monomial) (c0 c1 c2 c3 c4 : ℤ) (p0 p1 p2 p3 p4 : Polynomial)
    → p0 ≡ term_unless_zero m0 c0 [] → p1 ≡ p0 ++ term_unless_zero m1 c1 [] → p2 ≡ p1 ++ term_unless_zero m2 c2 []
    → p3 ≡ p2 ++ term_unless_zero m3 c3 [] → p4 ≡ p3 ++ term_unless_zero m4 c4 []
    → p4 ≡ term_unless_zero m0 c0 (term_unless_zero m1 c1 (term_unless_zero m2 c2 (term_unless_zero m3 c3 (term_unless_zero m4 c4 []))))
five_terms m0 m1 m2 m3 m4 c0 c1 c2 c3 c4 p0 p1 p2 p3 p4 e0 e1 e2 e3 e4 =
    let r4 : Polynomial = term_unless_zero m4 c4 [] in
    let r3 : Polynomial = term_unless_zero m3 c3 r4 in
    let r2 : Polynomial = term_unless_zero m2 c2 r3 in
    let r1 : Polynomial = term_unless_zero m1 c1 r2 in
    e4 ∙ before_rest p2 p3 r4 m3 c3 e3 ∙ before_rest p1 p2 r3 m2 c2 e2 ∙ before_rest p0 p1 r2 m1 c1 e1
    ∙ ap (λ p. p ++ r1) e0 ∙ term_before m0 c0 r1

-- from the greatest monomial to the least they are the polynomial
pub terms_in_turn : (number i : ℕ) (p0 p1 p2 p3 p4 : Polynomial)
    → p0 ≡ term_unless_zero (power a 1) (coefficient_at number i 4) []
    → p1 ≡ p0 ++ term_unless_zero (power x1 1) (coefficient_at number i 1) []
    → p2 ≡ p1 ++ term_unless_zero (power x2 1) (coefficient_at number i 2) []
    → p3 ≡ p2 ++ term_unless_zero (power x3 1) (coefficient_at number i 3) []
    → p4 ≡ p3 ++ term_unless_zero [] (coefficient_at number i 5) [] → p4 ≡ polynomial number i
unfolding polynomial
terms_in_turn number i p0 p1 p2 p3 p4 e0 e1 e2 e3 e4 =
    let c : ℕ → ℤ = coefficient_at number i in
    five_terms (power a 1) (power x1 1) (power x2 1) (power x3 1) [] (c 4) (c 1) (c 2) (c 3) (c 5) p0 p1 p2 p3 p4 e0 e1 e2 e3 e4
    ∙ sym (in_order (c 1) (c 2) (c 3) (c 4) (c 5))

-- the polynomial is canonical
pub is_polynomial : (number i : ℕ) (p : Polynomial) → p ≡ polynomial number i → IsPolynomial p
unfolding polynomial
is_polynomial number i p e =
    let one : 0 < 1 = omega arith in
    subst IsPolynomial (sym e) (IsPolynomial-collected (terms number i) ((one, tt, tt), ((one, tt, tt), ((one, tt, tt), ((one, tt, tt), (tt, tt))))))
