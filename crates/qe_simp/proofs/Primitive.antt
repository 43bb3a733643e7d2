-- The primitive polynomial of a canonical polynomial that is no number is canonical, no number, and its own primitive polynomial.
use Rattle.std.proofs.Common.{◌≡◌, ◌≢◌, ◌∙◌, sym, ap, refl, subst, ℕ, zero, suc, ◌*◌, ◌%◌, ◌<◌, ◌≤◌, Bool, true, false, cond, ℤ, pos, negsuc, ◌*ℤ◌, unsigned_abs, [], ◌∷◌, arith}
use Rattle.std.proofs.Math.Nat.{one-dvd, eq-one_of_dvd-one, mul-dvd-mul_right, dvd_of_mul-dvd-mul_right, mod-lt}
use Rattle.std.proofs.lemmas.Int.{ints, unsigned_abs-mul}
use Rattle.std.proofs.lemmas.Nat.Gcd.{dvd-zero, dvd_trans, IsGcd-from_mod, IsGcd-from_zero}
use Rattle.std.proofs.lemmas.Bool.Decides.{nat_tests}
use Rattle.std.specs.Ordering.{int_eq}
use Rattle.std.specs.Int.{◌∣◌, IsGcd}
use Rattle.std.specs.Int.RustNames.{int_div, int_lt}
use Rattle.qe_ring.proofs.Bools.{no_way}
use Rattle.qe_ring.specs.Sign.{Minus, Plus, int_sign, ◌·◌}
use Rattle.qe_ring.proofs.Ints.{int_ordered}
use Rattle.qe_poly.specs.Polynomial.{Term, Polynomial, IsPolynomial, constant}
use Rattle.qe_poly.specs.Value.{scaled}
use Rattle.qe_poly.specs.Primitive.{leads_negative, negated_if, divided, primitive, IsMultiple, DividesEach, IsContent}
use Rattle.qe_poly.proofs.Divisors.{Divided, divided_by_content, quotient_is, content_positive, Divides-from_abs}
use Rattle.qe_simp.specs.Shape.{IsPrimitive}

-- ---- there is a greatest common divisor

gcd : (n a b : ℕ) → b ≤ n → (g : ℕ) × IsGcd a b g
gcd n a zero small = (a, IsGcd-from_zero a zero refl)
gcd zero a (suc b) small = absurd (omega arith)
gcd (suc n) a (suc b) small =
    let less : a % suc b < suc b = mod-lt a (omega arith) in
    let rest = gcd n (suc b) (a % suc b) (omega arith) in (rest.0, IsGcd-from_mod a (suc b) rest.0 rest.1)

pub content_of : (p : Polynomial) → (g : ℕ) × IsContent g p
content_of [] = (0, λ d. ((λ h. tt), (λ h. dvd-zero d)))
content_of (t ∷ ts) =
    let rest = content_of ts in
    let both = gcd rest.0 (unsigned_abs t.1) rest.0 (omega arith) in (
      both.0,
      λ d. (
        (λ h. (dvd_trans d h both.1.0, (rest.1 d).0 (dvd_trans d h both.1.1))),
        (λ h. both.1.2 d h.0 ((rest.1 d).1 h.1)),
      ),
    )

-- ---- a divisor of the quotients times the divisor divides

divides_quotients : (e : ℕ) (d : ℤ) (p : Polynomial) → d ≢ pos 0 → DividesEach (unsigned_abs d) p → DividesEach e (divided d p) → DividesEach (e * unsigned_abs d) p
divides_quotients e d [] other each quotients = tt
divides_quotients e d (t ∷ ts) other each quotients =
    let whole = Divides-from_abs t.1 d each.0 in
    let quotient : int_div t.1 d ≡ whole.0 = sym (quotient_is t.1 d whole.0 other each.0 whole.1) in
    let divides : e ∣ unsigned_abs whole.0 = subst (λ z. e ∣ unsigned_abs z) quotient quotients.0 in (
      subst (λ n. e * unsigned_abs d ∣ n) (sym (ap unsigned_abs whole.1 ∙ unsigned_abs-mul whole.0 d)) (mul-dvd-mul_right e divides (unsigned_abs d)),
      divides_quotients e d ts other each.1 quotients.1,
    )

one_divides : (p : Polynomial) → DividesEach 1 p
one_divides [] = tt
one_divides (t ∷ ts) = (one-dvd (unsigned_abs t.1), one_divides ts)

times_one : (c : ℤ) → c ≡ c *ℤ pos 1
times_one c = omega (arith, ints)

divided_one : (p : Polynomial) → divided (pos 1) p ≡ p
divided_one [] = refl
divided_one (t ∷ ts) = λ i. (t.0, sym (quotient_is t.1 (pos 1) t.1 (λ same. absurd (cc)) (one-dvd (unsigned_abs t.1)) (times_one t.1)) i) ∷ divided_one ts i

-- ---- the sign of the leading quotient

not_less : (n : ℕ) → int_lt (pos n) (pos 0) ≡ false
not_less n = grind (arith, nat_tests)

minus_is : (c : ℤ) → int_lt c (pos 0) ≡ true → int_sign c ≡ Minus
minus_is (pos n) test = no_way (sym (not_less n) ∙ test)
minus_is (negsuc n) test = refl

not_minus : (c : ℤ) → int_lt c (pos 0) ≡ false → int_sign c ≡ Minus → ⊥
not_minus (pos zero) test sign = absurd (cc)
not_minus (pos (suc n)) test sign = absurd (cc)
not_minus (negsuc n) test sign = absurd (cc)

-- a number that times d is c, where d has the sign of c, is not negative
quotient_positive : (c d x : ℤ) (b : Bool) (g : ℕ) → c ≡ x *ℤ d → d ≡ negated_if b (suc g) → int_lt c (pos 0) ≡ b → int_lt x (pos 0) ≡ false
quotient_positive c d (pos n) b g whole by sign = not_less n
quotient_positive c d (negsuc n) true g whole by sign =
    let plus : int_sign c ≡ Plus = ap int_sign whole ∙ (int_ordered.sign-mul (negsuc n) d ∙ ap (λ z. Minus · int_sign z) by) in
    absurd (plus_minus (sym plus ∙ minus_is c sign))
  where
    plus_minus : Plus ≡ Minus → ⊥
    plus_minus same = absurd (cc)
quotient_positive c d (negsuc n) false g whole by sign =
    let minus : int_sign c ≡ Minus = ap int_sign whole ∙ (int_ordered.sign-mul (negsuc n) d ∙ ap (λ z. Minus · int_sign z) by) in absurd (not_minus c sign minus)

-- ---- the primitive polynomial

number_scaled : (c k : ℤ) → (e : ℤ) × (scaled k (constant c) ≡ constant e)
number_scaled c k = elim (int_eq c (pos 0)) as (λ b. (e : ℤ) × (scaled k (cond b [] (([], c) ∷ [])) ≡ constant e)) [ true ↦ (pos 0, refl) | false ↦ (c *ℤ k, refl) ]

module _ (t : Term) (ts : Polynomial) (poly : IsPolynomial (t ∷ ts)) (none : (c : ℤ) → t ∷ ts ≢ constant c) (g : ℕ) (content : IsContent (suc g) (t ∷ ts)) (d : ℤ) (by : d ≡ negated_if (leads_negative (t ∷ ts)) (suc g))
    (known : Divided (t ∷ ts) d) where
  magnitude : unsigned_abs d ≡ suc g
  magnitude = ap unsigned_abs by ∙ abs_negated (leads_negative (t ∷ ts))
    where
      abs_negated : (b : Bool) → unsigned_abs (negated_if b (suc g)) ≡ suc g
      abs_negated true = refl
      abs_negated false = refl

  leading : leads_negative (divided d (t ∷ ts)) ≡ false
  leading =
      let whole = Divides-from_abs t.1 d known.divides.0 in
      let quotient : int_div t.1 d ≡ whole.0 = sym (quotient_is t.1 d whole.0 known.nonzero known.divides.0 whole.1) in
      ap (λ z. int_lt z (pos 0)) quotient ∙ quotient_positive t.1 d whole.0 (leads_negative (t ∷ ts)) g whole.1 by refl

  content_one : IsContent 1 (divided d (t ∷ ts))
  content_one e = (
    λ h. subst (λ n. DividesEach n (divided d (t ∷ ts))) (sym (eq-one_of_dvd-one h)) (one_divides (divided d (t ∷ ts))),
    λ h. (
        let each : DividesEach (e * suc g) (t ∷ ts) = subst (λ n. DividesEach (e * n) (t ∷ ts)) magnitude (divides_quotients e d (t ∷ ts) known.nonzero known.divides h) in
        let times : e * suc g ∣ 1 * suc g = subst (λ n. e * suc g ∣ n) (omega arith) ((content (e * suc g)).1 each) in
        dvd_of_mul-dvd-mul_right e (omega arith) times),
  )

  quotients_primitive : IsPrimitive (divided d (t ∷ ts))
  quotients_primitive = record {
    canonical = known.is_polynomial;
    no_number = λ c same. (
        let multiple = known.is_multiple in
        let number = number_scaled c (negated_if (leads_negative (t ∷ ts)) multiple.0) in
        none number.0 (multiple.2 ∙ (ap (scaled (negated_if (leads_negative (t ∷ ts)) multiple.0)) same ∙ number.1)));
    itself = sym (divided_by_content (divided d (t ∷ ts)) known.is_polynomial (λ same. absurd (cc)) (pos 1) 1 content_one (sym (ap (λ b. negated_if b 1) leading))).is_primitive ∙ divided_one (divided d (t ∷ ts));
    positive = leading;
  }

nonempty : (t : Term) (ts : Polynomial) → t ∷ ts ≢ []
nonempty t ts same = absurd (cc)

known_of : (t : Term) (ts : Polynomial) → IsPolynomial (t ∷ ts) → (g : ℕ) × IsContent (suc g) (t ∷ ts) × Divided (t ∷ ts) (negated_if (leads_negative (t ∷ ts)) (suc g))
known_of t ts poly = let found = content_of (t ∷ ts) in by_content found.0 found.1 (content_positive t ts poly.0 found.0 found.1)
  where
    by_content : (g : ℕ) → IsContent g (t ∷ ts) → 0 < g → (g : ℕ) × IsContent (suc g) (t ∷ ts) × Divided (t ∷ ts) (negated_if (leads_negative (t ∷ ts)) (suc g))
    by_content zero content positive = absurd (omega arith)
    by_content (suc g) content positive = (g, content, divided_by_content (t ∷ ts) poly (nonempty t ts) (negated_if (leads_negative (t ∷ ts)) (suc g)) (suc g) content refl)

pub primitive_of : (p : Polynomial) → IsPolynomial p → ((c : ℤ) → p ≢ constant c) → IsPrimitive (primitive p)
primitive_of [] poly none = absurd (none (pos 0) refl)
primitive_of (t ∷ ts) poly none =
    let known = known_of t ts poly in
    subst IsPrimitive known.2.is_primitive (quotients_primitive t ts poly none known.0 known.1 (negated_if (leads_negative (t ∷ ts)) (suc known.0)) refl known.2)

pub multiple_of_primitive : (p : Polynomial) → IsPolynomial p → ((c : ℤ) → p ≢ constant c) → IsMultiple p (primitive p) (leads_negative p)
multiple_of_primitive [] poly none = absurd (none (pos 0) refl)
multiple_of_primitive (t ∷ ts) poly none =
    let known = known_of t ts poly in subst (λ q. IsMultiple (t ∷ ts) q (leads_negative (t ∷ ts))) known.2.is_primitive known.2.is_multiple
