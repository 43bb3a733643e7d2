-- Constants: their differences and limits.
use Rattle.std.proofs.Common.{◌≡◌, refl, sym, ap, subst, ◌∙◌, Bool, true, false, cond, [], ◌∷◌, ◌≤◌, ◌^◌, ◌-◌, Option, Some, None, Result, Ok, Err, ℤ, pos, unsigned_abs, arith, MatchResult}
use Rattle.std.specs.Prelude.{◌-ℤ◌, ◌≤ℤ◌}
use Rattle.std.proofs.Math.IntN.{+ℤ_idr}
use Rattle.std.proofs.lemmas.Int.{ints}
use Rattle.std.proofs.lemmas.Bool.{le-ltb}
use Rattle.std.proofs.lemmas.Bool.Decides.{Decides-int_eq}
use Rattle.std.specs.Ordering.{eq_by_cmp, int_eq}
use Rattle.qe_coef.specs.declared.Op.{Op}
use Rattle.qe_coef.specs.declared.Op.TheVariants.{Add, Sub, Mul}
use Rattle.qe_coef.specs.Exact.{exact}
use Rattle.qe_coef.specs.Range.{IsInRange}
use Rattle.qe_poly.specs.declared.limit.PolyLimit.{PolyLimit}
use Rattle.qe_poly.specs.declared.limit.PolyLimit.TheVariants.{Coefficient}
use Rattle.qe_halt.specs.declared.halt.Halt.{Halt}
use Rattle.qe_halt.specs.declared.halt.Halt.TheVariants.{Limit, OutOfMemory}
use Rattle.qe_poly.specs.Monomial.{Monomial, in_turn}
use Rattle.qe_poly.specs.Polynomial.{Polynomial, IsPolynomial, coefficient, constant, difference}
use Rattle.qe_poly.specs.Limits.{wide, limit_if, sum_limit}
use Rattle.qe_halt.specs.Outcome.{or_else, IsAnswer}
use Rattle.qe_poly.proofs.Canonical.{not_zero, same_polynomial}
use Rattle.qe_poly.proofs.MergedSums.{IsPolynomial-difference, coefficient-difference}

pub IsPolynomial-constant : (c : ℤ) → IsPolynomial (constant c)
IsPolynomial-constant c = elim (int_eq c (pos 0)) as (λ b. int_eq c (pos 0) ≡ b → IsPolynomial (cond b [] (([], c) ∷ []))) [
  | true ↦ λ test. tt
  | false ↦ λ test. (not_zero c test, tt, tt, tt)
] refl

pub coefficient-constant : (c : ℤ) (m : Monomial) → coefficient (constant c) m ≡ cond (eq_by_cmp in_turn m []) c (pos 0)
coefficient-constant c m = elim (int_eq c (pos 0)) as (λ b. int_eq c (pos 0) ≡ b → coefficient (cond b [] (([], c) ∷ [])) m ≡ cond (eq_by_cmp in_turn m []) c (pos 0)) [
  | true ↦ λ test. zero_either (eq_by_cmp in_turn m []) ((Decides-int_eq c (pos 0)).0 test)
  | false ↦ λ test. ap (λ d. cond (eq_by_cmp in_turn m []) d (pos 0)) (+ℤ_idr c)
] refl
  where
    zero_either : (b : Bool) → c ≡ pos 0 → pos 0 ≡ cond b c (pos 0)
    zero_either true zero = sym zero
    zero_either false zero = refl

-- constants that are equal polynomials are equal numbers
pub constant-injective : (a b : ℤ) → constant a ≡ constant b → a ≡ b
constant-injective a b same = sym (coefficient-constant a []) ∙ (ap (λ p. coefficient p []) same ∙ coefficient-constant b [])

-- ---- the difference

pub difference-constants : (a b : ℤ) → difference (constant a) (constant b) ≡ constant (a -ℤ b)
difference-constants a b = same_polynomial (difference (constant a) (constant b)) (constant (a -ℤ b))
    (IsPolynomial-difference (constant a) (constant b) (IsPolynomial-constant a) (IsPolynomial-constant b)) (IsPolynomial-constant (a -ℤ b))
    (λ m. coefficient-difference (constant a) (constant b) m
    ∙ ((λ i. coefficient-constant a m i -ℤ coefficient-constant b m i) ∙ (either (eq_by_cmp in_turn m []) ∙ sym (coefficient-constant (a -ℤ b) m))))
  where
    either : (c : Bool) → cond c a (pos 0) -ℤ cond c b (pos 0) ≡ cond c (a -ℤ b) (pos 0)
    either true = refl
    either false = refl

-- ---- the limits

no_more : (limit : Option PolyLimit) → or_else limit None ≡ limit
no_more None = refl
no_more (Some met) = refl

zero_in_range : (op : Op) → None ≡ wide op (pos 0) (pos 0)
zero_in_range Add = refl
zero_in_range Sub = refl
zero_in_range Mul = refl

-- the one limit of two constants is that of their numbers
pub sum_limit-constants : (op : Op) (a b : ℤ) → sum_limit op (constant a) (constant b) ≡ wide op a b
sum_limit-constants op a b =
    cases (int_eq a (pos 0)) (int_eq b (pos 0)) (λ i. wide op (coefficient-constant a [] i) (coefficient-constant b [] i))
  where
    term_of : Bool → ℤ → Polynomial
    term_of zero c = cond zero [] (([], c) ∷ [])

    cases : (c d : Bool) → wide op (coefficient (term_of c a) []) (coefficient (term_of d b) []) ≡ wide op a b → sum_limit op (term_of c a) (term_of d b) ≡ wide op a b
    cases true true same = zero_in_range op ∙ same
    cases true false same = no_more (wide op (pos 0) (coefficient (term_of false b) [])) ∙ same
    cases false true same = no_more (wide op (coefficient (term_of false a) []) (pos 0)) ∙ same
    cases false false same = no_more (wide op (coefficient (term_of false a) []) (coefficient (term_of false b) [])) ∙ same

pub wide-in_range : (op : Op) (a b : ℤ) → IsInRange (exact op a b) → wide op a b ≡ None
wide-in_range op a b in_range =
    let most : unsigned_abs (exact op a b) ≤ 2 ^ 127 - 1 = omega arith in
    ap (λ test. limit_if test (Coefficient (record { op = op; left = a; right = b })) None) (le-ltb (2 ^ 127 - 1) (unsigned_abs (exact op a b)) most)

-- the difference of two numbers that are not negative is in range
pub IsInRange-difference : (a b : ℤ) → pos 0 ≤ℤ a → pos 0 ≤ℤ b → IsInRange a → IsInRange b → IsInRange (a -ℤ b)
IsInRange-difference a b a_sign b_sign a_range b_range = omega (arith, ints)

met_none : (a b : ℤ) (result : Result Polynomial (Halt PolyLimit)) → IsInRange (a -ℤ b)
    → IsAnswer (sum_limit Sub (constant a) (constant b)) (difference (constant a) (constant b)) result → MatchResult result (λ p. p ≡ constant (a -ℤ b)) (λ stop. stop ≡ OutOfMemory)
met_none a b (Ok p) in_range answer = answer.1 ∙ difference-constants a b
met_none a b (Err OutOfMemory) in_range answer = refl
met_none a b (Err (Limit met)) in_range answer =
    absurd (let none : sum_limit Sub (constant a) (constant b) ≡ None = sum_limit-constants Sub a b ∙ wide-in_range Sub a b in_range in cc)

-- Taking one constant from another meets no limit, where neither is negative.
pub constants_subtracted : (a b : ℤ) (p q : Polynomial) (result : Result Polynomial (Halt PolyLimit)) → pos 0 ≤ℤ a → pos 0 ≤ℤ b → IsInRange a → IsInRange b → p ≡ constant a → q ≡ constant b
    → IsAnswer (sum_limit Sub p q) (difference p q) result → MatchResult result (λ r. r ≡ constant (a -ℤ b)) (λ stop. stop ≡ OutOfMemory)
constants_subtracted a b p q result a_sign b_sign a_range b_range left right answer =
    met_none a b result (IsInRange-difference a b a_sign b_sign a_range b_range) (subst (λ f. f) (λ i. IsAnswer (sum_limit Sub (left i) (right i)) (difference (left i) (right i)) result) answer)
