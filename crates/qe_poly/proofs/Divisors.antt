-- Divisors of coefficients: the greatest one, and quotients by it.
use Rattle.std.proofs.Common.{◌≡◌, ◌≢◌, refl, sym, ap, subst, ◌∙◌, ℕ, zero, suc, ◌*◌, ◌<◌, ◌≤◌, ◌%◌, eqb, ◌≤ℤ◌, ℤ, pos, negsuc, neg_ℤ, ◌+ℤ◌, ◌-ℤ◌, ◌*ℤ◌, unsigned_abs, Bool, true, false, cond, ◌&&◌, [], ◌∷◌, ◌↔◌, arith}
use Rattle.std.proofs.Math.IntN.{+ℤ_idl, +ℤ_idr, *ℤ_comm, zero-*ℤ, -ℤ-+ℤ_cancel}
use Rattle.std.proofs.lemmas.Int.{ints, quot-rem, unsigned_abs-mul}
use Rattle.std.proofs.lemmas.Nat.Gcd.{dvd-zero, dvd_refl, dvd_trans, dvd_antisymm, le_of_dvd, dvd_of_mod-eq-zero, mod-eq-zero_of_dvd}
use Rattle.std.proofs.lemmas.Bool.{eqb-true}
use Rattle.std.proofs.Common.{eq-eqb}
use Rattle.std.proofs.lemmas.Bool.Decides.{nat_tests, Decides-int_eq}
use Rattle.std.specs.Ordering.{int_eq}
use Rattle.std.specs.Int.{◌∣◌, IsGcd}
use Rattle.std.specs.Int.RustNames.{int_div, int_rem}
use Rattle.qe_ring.proofs.Bools.{no_way, both_hold}
use Rattle.qe_coef.proofs.Quotient.{abs_positive}
use Rattle.qe_ring.proofs.Ints.{int_ring}
use Rattle.qe_coef.specs.Range.{Divides}
use Rattle.qe_poly.specs.Monomial.{Monomial}
use Rattle.qe_poly.specs.Polynomial.{Term, Polynomial, IsBelow, IsPolynomial}
use Rattle.qe_poly.specs.Value.{scaled}
use Rattle.qe_poly.specs.Primitive.{divides_each, greatest_divisor, content, leads_negative, negated_if, divided, primitive, IsMultiple, DividesEach, IsContent, IsOwnPrimitive}

-- ---- quotients

abs_zero : (d : ℤ) → unsigned_abs d ≡ 0 → d ≡ pos 0
abs_zero (pos zero) none = refl
abs_zero (pos (suc n)) none = absurd (omega arith)
abs_zero (negsuc n) none = absurd (omega arith)

no_rest : (c d : ℤ) → unsigned_abs c % unsigned_abs d ≡ 0 → int_rem c d ≡ pos 0
no_rest (pos c) d none = ap pos none
no_rest (negsuc c) d none = ap (λ n. neg_ℤ (pos n)) none

quotient : (c d : ℤ) → unsigned_abs d ∣ unsigned_abs c → c ≡ int_div c d *ℤ d
quotient c d divides =
    sym (quot-rem c d) ∙ (ap (λ r. int_div c d *ℤ d +ℤ r) (no_rest c d (mod-eq-zero_of_dvd (unsigned_abs d) divides)) ∙ +ℤ_idr (int_div c d *ℤ d))

pub Divides-from_abs : (c d : ℤ) → unsigned_abs d ∣ unsigned_abs c → Divides d c
Divides-from_abs c d divides = (int_div c d, quotient c d divides)

product_zero : (m n : ℕ) → m * n ≡ 0 → 0 < n → m ≡ 0
product_zero zero n none positive = refl
product_zero (suc m) n none positive = absurd (omega arith)

absorbed : (x y : ℤ) → x +ℤ y ≡ y → x ≡ pos 0
absorbed x y same = omega (arith, ints)

cancel : (q k d : ℤ) → d ≢ pos 0 → q *ℤ d ≡ k *ℤ d → q ≡ k
cancel q k d other same =
    let z = q -ℤ k in
    let both : d *ℤ z +ℤ d *ℤ k ≡ d *ℤ k = sym (int_ring.mul-add d z k) ∙ (ap (λ x. d *ℤ x) (-ℤ-+ℤ_cancel q k) ∙ (*ℤ_comm d q ∙ (same ∙ *ℤ_comm k d))) in
    let none : unsigned_abs z * unsigned_abs d ≡ 0 = sym (unsigned_abs-mul z d) ∙ ap unsigned_abs (*ℤ_comm z d ∙ absorbed (d *ℤ z) (d *ℤ k) both) in
    let zero_difference : q -ℤ k ≡ pos 0 = abs_zero z (product_zero (unsigned_abs z) (unsigned_abs d) none (abs_positive d other)) in
    sym (-ℤ-+ℤ_cancel q k) ∙ (ap (λ x. x +ℤ k) zero_difference ∙ +ℤ_idl k)

-- the quotient that multiplies back
pub quotient_is : (c d q : ℤ) → d ≢ pos 0 → unsigned_abs d ∣ unsigned_abs c → c ≡ q *ℤ d → q ≡ int_div c d
quotient_is c d q other divides same = cancel q (int_div c d) d other (sym same ∙ quotient c d divides)

-- ---- one more coefficient

pub one_more : (d g h : ℕ) (t : Term) (ts : Polynomial) (A : Type 0) → IsGcd g (unsigned_abs t.1) h → ((d ∣ g) × DividesEach d (t ∷ ts)) ↔ A → ((d ∣ h) × DividesEach d ts) ↔ A
one_more d g h t ts A gcd before =
    (λ w. before.0 (dvd_trans d w.0 gcd.0, (dvd_trans d w.0 gcd.1, w.1)), λ a. let w = before.1 a in (gcd.2 d w.0 w.1.0, w.1.1))

-- ---- tests of divisors

divides_to : (d : ℕ) (p : Polynomial) → divides_each d p ≡ true → DividesEach d p
divides_to d [] test = tt
divides_to d (t ∷ ts) test =
    let parts = both_hold (eqb (unsigned_abs t.1 % d) 0) (divides_each d ts) test in (dvd_of_mod-eq-zero d (eqb-true (unsigned_abs t.1 % d) 0 parts.0), divides_to d ts parts.1)

divides_from : (d : ℕ) (p : Polynomial) → DividesEach d p → divides_each d p ≡ true
divides_from d [] each = refl
divides_from d (t ∷ ts) each = λ i. eq-eqb (unsigned_abs t.1 % d) 0 (mod-eq-zero_of_dvd d each.0) i && divides_from d ts each.1 i

-- the greatest of the divisors is that of which all are divisors
greatest_is : (n g : ℕ) (p : Polynomial) → IsContent g p → 0 < g → g ≤ n → greatest_divisor n p ≡ g
greatest_is zero g p divisors positive most = absurd (omega arith)
greatest_is (suc n) g p divisors positive most =
    elim (divides_each (suc n) p) as (λ b. divides_each (suc n) p ≡ b → cond b (suc n) (greatest_divisor n p) ≡ g) [
      | true ↦ λ test. let less : suc n ≤ g = le_of_dvd positive ((divisors (suc n)).1 (divides_to (suc n) p test)) in omega arith
      | false ↦ λ test. greatest_is n g p divisors positive (less test)
    ] refl
  where
    less : divides_each (suc n) p ≡ false → g ≤ n
    less test = by_cases (λ same. no_way (sym test ∙ divides_from (suc n) p (subst (λ k. DividesEach k p) same ((divisors g).0 (dvd_refl g)))))
      where
        by_cases : (g ≡ suc n → g ≤ n) → g ≤ n
        by_cases last = grind (arith, nat_tests)

-- ---- the content

module _ (t : Term) (ts : Polynomial) (other : t.1 ≢ pos 0) where
  pub content_positive : (g : ℕ) → IsContent g (t ∷ ts) → 0 < g
  content_positive zero divisors =
      let zero_divides : 0 ∣ unsigned_abs t.1 = ((divisors 0).0 (dvd_refl 0)).0 in
      let positive : 0 < unsigned_abs t.1 = abs_positive t.1 other in
      let none : unsigned_abs t.1 ≡ 0 = only_zero (unsigned_abs t.1) zero_divides in absurd (omega arith)
    where
      only_zero : (n : ℕ) → 0 ∣ n → n ≡ 0
      only_zero n divides = dvd_antisymm (dvd-zero n) divides
  content_positive (suc g) divisors = omega arith

  pub content_is : (g : ℕ) → IsContent g (t ∷ ts) → content (t ∷ ts) ≡ g
  content_is g divisors =
      greatest_is (unsigned_abs t.1) g (t ∷ ts) divisors (content_positive g divisors) (le_of_dvd (abs_positive t.1 other) ((divisors g).0 (dvd_refl g)).0)

-- ---- terms divided by a number that divides them all

IsBelow-divided : (d : ℤ) (m : Monomial) (p : Polynomial) → IsBelow m p → IsBelow m (divided d p)
IsBelow-divided d m [] below = tt
IsBelow-divided d m (t ∷ ts) below = below

pub IsPolynomial-divided : (d : ℤ) (p : Polynomial) → IsPolynomial p → DividesEach (unsigned_abs d) p → IsPolynomial (divided d p)
IsPolynomial-divided d [] poly each = tt
IsPolynomial-divided d (t ∷ ts) poly each = (
  λ zero. poly.0 (quotient t.1 d each.0 ∙ (ap (λ q. q *ℤ d) zero ∙ zero-*ℤ d)),
  poly.1,
  IsBelow-divided d t.0 ts poly.2,
  IsPolynomial-divided d ts poly.3 each.1,
)

-- they multiply back
pub scaled_back : (d : ℤ) (p : Polynomial) → IsPolynomial p → DividesEach (unsigned_abs d) p → p ≡ scaled d (divided d p)
scaled_back d [] poly each = refl
scaled_back d (t ∷ ts) poly each =
    (λ i. (t.0, quotient t.1 d each.0 i) ∷ scaled_back d ts poly.3 each.1 i)
    ∙ ap (λ b. cond b (scaled d (divided d ts)) ((t.0, int_div t.1 d *ℤ d) ∷ scaled d (divided d ts))) (sym (not_tested (int_div t.1 d *ℤ d) (λ zero. poly.0 (quotient t.1 d each.0 ∙ zero))))
  where
    not_tested : (c : ℤ) → c ≢ pos 0 → int_eq c (pos 0) ≡ false
    not_tested c other = by_test (int_eq c (pos 0)) refl
      where
        by_test : (b : Bool) → int_eq c (pos 0) ≡ b → int_eq c (pos 0) ≡ false
        by_test true test = absurd (other ((Decides-int_eq c (pos 0)).0 test))
        by_test false test = test

-- ---- the primitive polynomial

-- what is known of the quotients by d
pub record Divided (p : Polynomial) (d : ℤ) : Type 0 where
  pub nonzero : d ≢ pos 0
  pub divides : DividesEach (unsigned_abs d) p
  pub is_polynomial : IsPolynomial (divided d p)
  pub is_primitive : divided d p ≡ primitive p
  pub is_multiple : IsMultiple p (divided d p) (leads_negative p)

abs_negated : (b : Bool) (g : ℕ) → unsigned_abs (negated_if b g) ≡ g
abs_negated true zero = refl
abs_negated true (suc g) = refl
abs_negated false g = refl

pub as_negated : (b : Bool) (z : ℤ) → pos 0 ≤ℤ z → cond b (neg_ℤ z) z ≡ negated_if b (unsigned_abs z)
as_negated true (pos n) least = refl
as_negated false (pos n) least = refl
as_negated b (negsuc n) least = absurd (omega (arith, ints))

pub divided_by_content : (p : Polynomial) → IsPolynomial p → p ≢ [] → (d : ℤ) (g : ℕ) → IsContent g p → d ≡ negated_if (leads_negative p) g → Divided p d
divided_by_content [] poly other d g divisors is = absurd (other refl)
divided_by_content (t ∷ ts) poly other d g divisors is =
    let positive = content_positive t ts poly.0 g divisors in
    let magnitude : unsigned_abs d ≡ g = ap unsigned_abs is ∙ abs_negated (leads_negative (t ∷ ts)) g in
    let each = subst (λ k. DividesEach k (t ∷ ts)) (sym magnitude) ((divisors g).0 (dvd_refl g)) in
    let back = scaled_back d (t ∷ ts) poly each in
    record {
      nonzero = λ zero. (let none : g ≡ 0 = sym magnitude ∙ ap unsigned_abs zero in omega arith);
      divides = each;
      is_polynomial = IsPolynomial-divided d (t ∷ ts) poly each;
      is_primitive = ap (λ e. divided e (t ∷ ts)) (is ∙ ap (negated_if (leads_negative (t ∷ ts))) (sym (content_is t ts poly.0 g divisors)));
      is_multiple = (g, positive, back ∙ ap (λ e. scaled e (divided d (t ∷ ts))) is);
    }

-- equals in the place of equals
pub multiple_moved : (p p' q q' : Polynomial) (b b' : Bool) → p ≡ p' → q ≡ q' → b ≡ b' → IsMultiple p q b → IsMultiple p' q' b'
multiple_moved p p' q q' b b' same same_too alike multiple = (multiple.0, multiple.1, sym same ∙ (multiple.2 ∙ λ i. scaled (negated_if (alike i) multiple.0) (same_too i)))

-- divided by one it stays as it is
divided_by_one : (p : Polynomial) → IsPolynomial p → DividesEach 1 p → divided (pos 1) p ≡ p
divided_by_one [] poly each = refl
divided_by_one (t ∷ ts) poly each = λ i. (t.0, sym (quotient t.1 (pos 1) each.0 ∙ int_ring.mul-one (int_div t.1 (pos 1))) i) ∷ divided_by_one ts poly.3 each.1 i

-- what a test tells that finds no negative leading coefficient and the content one
pub primitive_itself : (p : Polynomial) → IsPolynomial p → (g : ℤ) → IsContent (unsigned_abs g) p → leads_negative p ≡ false → int_eq g (pos 1) ≡ true → IsOwnPrimitive p
primitive_itself [] poly g divisors leads one = (refl, refl, (1, omega arith, refl))
primitive_itself (t ∷ ts) poly g divisors leads one =
    let content_one = subst (λ n. IsContent n (t ∷ ts)) (ap unsigned_abs ((Decides-int_eq g (pos 1)).0 one)) divisors in
    let all = divided_by_content (t ∷ ts) poly (λ none. not_nil none) (pos 1) 1 content_one (sym (ap (λ b. negated_if b 1) leads)) in
    let same = divided_by_one (t ∷ ts) poly all.divides in
    (sym all.is_primitive ∙ same, leads, subst (λ b. IsMultiple (t ∷ ts) (t ∷ ts) b) leads (subst (λ q. IsMultiple (t ∷ ts) q (leads_negative (t ∷ ts))) same all.is_multiple))
  where
    not_nil : t ∷ ts ≡ [] → ⊥
    not_nil none = absurd (cc)
