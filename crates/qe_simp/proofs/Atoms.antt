-- An atom and its simplified form are true at the same points.
use Rattle.std.proofs.Common.{◌≡◌, ◌∙◌, sym, ap, refl, subst, ℕ, zero, suc, ◌<◌, eqb, Bool, true, false, cond, ◌↔◌, ℤ, pos, neg_ℤ, Option, Some, None, [], ◌∷◌, arith}
use Rattle.std.proofs.Math.IntN.{+ℤ_idr}
use Rattle.std.proofs.lemmas.Bool.Decides.{Decides-int_eq, nat_tests}
use Rattle.std.specs.Ordering.{int_eq}
use Rattle.qe_ring.specs.Sign.{Sign, Minus, Zero, Plus, int_sign, opposite, ◌·◌}
use Rattle.qe_tower.specs.Number.{sign_of, whole_number, ValidNumber}
use Rattle.qe_tower.specs.Point.{Point, IsPoint}
use Rattle.qe_tower.proofs.ValidNumbers.{valid_operations, valid_ordered}
use Rattle.qe_poly.specs.Polynomial.{Polynomial, constant, coefficient}
use Rattle.qe_poly.specs.Primitive.{primitive, leads_negative, negated_if, IsMultiple}
use Rattle.qe_poly.specs.Equal.{poly_eq, poly_eq_equiv, poly_tells}
use Rattle.qe_poly.specs.Value.{scaled}
use Rattle.qe_form.specs.declared.signs.Signs.{Signs}
use Rattle.qe_form.specs.declared.form.Atom as atom
use Rattle.qe_form.specs.Signs.{bits, mirror}
use Rattle.qe_form.specs.Formula.{Formula, True, False, Atom}
use Rattle.qe_form.specs.Value.{value}
use Rattle.qe_form.specs.Truth.{has_sign, Is}
use Rattle.qe_form.proofs.Values.{value_of_multiple, value_valid}
use Rattle.qe_form.specs.Making.{constant as truth}
use Rattle.qe_simp.specs.Simplified.{as_number, on_number, simplified_atom}
use Rattle.qe_simp.specs.Meaning.{AgreesEverywhere}
use Rattle.qe_simp.specs.Shape.{IsCanonicalAtom}
use Rattle.qe_simp.proofs.Numbers.{sign_of-constant}
use Rattle.qe_simp.proofs.Primitive.{multiple_of_primitive}

-- ---- polynomials that are numbers

constant_term : (c : ℤ) → coefficient (constant c) [] ≡ c
constant_term c = elim (int_eq c (pos 0)) as (λ b. int_eq c (pos 0) ≡ b → coefficient (cond b [] (([], c) ∷ [])) [] ≡ c) [
  | true ↦ λ test. sym ((Decides-int_eq c (pos 0)).0 test)
  | false ↦ λ test. +ℤ_idr c
] refl

number_of_constant : (c : ℤ) → as_number (constant c) ≡ Some c
number_of_constant c =
    (λ i. cond (poly_eq (constant c) (constant (constant_term c i))) (Some (constant_term c i)) None) ∙ ap (λ b. cond b (Some c) None) (poly_eq_equiv.refl (constant c))

pub number_from : (p : Polynomial) (c : ℤ) → p ≡ constant c → as_number p ≡ Some c
number_from p c same = ap as_number same ∙ number_of_constant c

pub no_number : (p : Polynomial) → ((c : ℤ) → p ≡ constant c → ⊥) → as_number p ≡ None
no_number p none = by_test (poly_eq p (constant (coefficient p []))) refl
  where
    by_test : (b : Bool) → poly_eq p (constant (coefficient p [])) ≡ b → cond b (Some (coefficient p [])) None ≡ None
    by_test true test = absurd (none (coefficient p []) (poly_tells p (constant (coefficient p [])) test))
    by_test false test = refl

-- ---- atoms that are decided

truth_is : (v b : Bool) (p : Point) → (v ≡ b) ↔ Is (truth v) b p
truth_is true b p = ((λ e. sym e), (λ e. sym e))
truth_is false b p = ((λ e. sym e), (λ e. sym e))

-- an atom that is v at every point
always : (a : atom.Atom) (v : Bool) → ((p : Point) → has_sign a.signs (sign_of (value a.poly p)) ≡ v) → AgreesEverywhere (Atom a) (truth v)
always a v is p valid b = (λ e. (truth_is v b p).0 (sym (is p) ∙ e), λ t. is p ∙ (truth_is v b p).1 t)

no_sign : (plus zero minus : Bool) (t : Sign) → eqb (bits (record { plus = plus; zero = zero; minus = minus })) 0 ≡ true → has_sign (record { plus = plus; zero = zero; minus = minus }) t ≡ false
no_sign false false false Minus test = refl
no_sign false false false Zero test = refl
no_sign false false false Plus test = refl
no_sign false false true t test = absurd (cc)
no_sign false true false t test = absurd (cc)
no_sign false true true t test = absurd (cc)
no_sign true false false t test = absurd (cc)
no_sign true false true t test = absurd (cc)
no_sign true true false t test = absurd (cc)
no_sign true true true t test = absurd (cc)

all_signs : (plus zero minus : Bool) (t : Sign) → eqb (bits (record { plus = plus; zero = zero; minus = minus })) 7 ≡ true → has_sign (record { plus = plus; zero = zero; minus = minus }) t ≡ true
all_signs true true true Minus test = refl
all_signs true true true Zero test = refl
all_signs true true true Plus test = refl
all_signs false false false t test = absurd (cc)
all_signs false false true t test = absurd (cc)
all_signs false true false t test = absurd (cc)
all_signs false true true t test = absurd (cc)
all_signs true false false t test = absurd (cc)
all_signs true false true t test = absurd (cc)
all_signs true true false t test = absurd (cc)

pub never_has : (s : Signs) (t : Sign) → eqb (bits s) 0 ≡ true → has_sign s t ≡ false
never_has s = no_sign s.plus s.zero s.minus

pub always_has : (s : Signs) (t : Sign) → eqb (bits s) 7 ≡ true → has_sign s t ≡ true
always_has s = all_signs s.plus s.zero s.minus

-- ---- atoms on multiples

mirrored : (s : Signs) (t : Sign) → has_sign s (opposite t) ≡ has_sign (mirror s) t
mirrored s Minus = refl
mirrored s Zero = refl
mirrored s Plus = refl

sign_of-multiple : (c : ℤ) (q : Polynomial) (p : Point) → IsPoint p → sign_of (value (scaled c q) p) ≡ int_sign c · sign_of (value q p)
sign_of-multiple c q p valid =
    let whole : ValidNumber = (whole_number c, tt) in
    let of_q : ValidNumber = (value q p, value_valid p valid q) in
    let of_multiple : ValidNumber = (value (scaled c q) p, value_valid p valid (scaled c q)) in
    valid_ordered.sign-same of_multiple (valid_operations.mul whole of_q) (value_of_multiple c q p valid) ∙ valid_ordered.sign-mul whole of_q

plus_times : (k : ℕ) (t : Sign) → 0 < k → int_sign (pos k) · t ≡ t
plus_times zero t positive = absurd (omega arith)
plus_times (suc k) t positive = refl

minus_times : (k : ℕ) (t : Sign) → 0 < k → int_sign (neg_ℤ (pos k)) · t ≡ opposite t
minus_times zero t positive = absurd (omega arith)
minus_times (suc k) t positive = refl

-- the signs of a polynomial's values in terms of those of the polynomial of which it is a multiple
multiple_has : (s : Signs) (q r : Polynomial) (negated : Bool) → IsMultiple q r negated → (p : Point) → IsPoint p → has_sign s (sign_of (value q p)) ≡ has_sign (cond negated (mirror s) s) (sign_of (value r p))
multiple_has s q r true multiple p valid =
    ap (λ z. has_sign s (sign_of (value z p))) multiple.2 ∙ (ap (has_sign s) (sign_of-multiple (negated_if true multiple.0) r p valid ∙ minus_times multiple.0 (sign_of (value r p)) multiple.1) ∙ mirrored s (sign_of (value r p)))
multiple_has s q r false multiple p valid =
    ap (λ z. has_sign s (sign_of (value z p))) multiple.2 ∙ ap (has_sign s) (sign_of-multiple (negated_if false multiple.0) r p valid ∙ plus_times multiple.0 (sign_of (value r p)) multiple.1)

-- ---- the simplified atom

-- the tests of the signs before the number
by_signs : (a : atom.Atom) (f : Formula) → AgreesEverywhere (Atom a) f → AgreesEverywhere (Atom a) (cond (eqb (bits a.signs) 0) False (cond (eqb (bits a.signs) 7) True f))
by_signs a f agree = by_tests (eqb (bits a.signs) 0) (eqb (bits a.signs) 7) refl refl
  where
    by_tests : (s t : Bool) → eqb (bits a.signs) 0 ≡ s → eqb (bits a.signs) 7 ≡ t → AgreesEverywhere (Atom a) (cond s False (cond t True f))
    by_tests true t none all = always a false (λ p. never_has a.signs (sign_of (value a.poly p)) none)
    by_tests false true none all = always a true (λ p. always_has a.signs (sign_of (value a.poly p)) all)
    by_tests false false none all = agree

decided_agrees : (a : atom.Atom) (c : ℤ) → a.poly ≡ constant c → AgreesEverywhere (Atom a) (simplified_atom a)
decided_agrees a c same =
    by_signs a (on_number a (as_number a.poly)) (subst (λ o. AgreesEverywhere (Atom a) (on_number a o)) (sym (number_from a.poly c same))
    (always a (has_sign a.signs (int_sign c)) (λ p. ap (λ q. has_sign a.signs (sign_of (value q p))) same ∙ ap (has_sign a.signs) (sign_of-constant c p))))

primitive_agrees : (a : atom.Atom) → ((c : ℤ) → a.poly ≡ constant c → ⊥) → IsMultiple a.poly (primitive a.poly) (leads_negative a.poly) → AgreesEverywhere (Atom a) (simplified_atom a)
primitive_agrees a none multiple =
    by_signs a (on_number a (as_number a.poly)) (subst (λ o. AgreesEverywhere (Atom a) (on_number a o)) (sym (no_number a.poly none))
    (λ p valid b. let same = multiple_has a.signs a.poly (primitive a.poly) (leads_negative a.poly) multiple p valid in ((λ e. sym same ∙ e), (λ e. same ∙ e))))

pub not_constant : (p : Polynomial) → as_number p ≡ None → (c : ℤ) → p ≡ constant c → ⊥
not_constant p none c same = absurd (no_some (sym (number_from p c same) ∙ none))
  where
    no_some : Some c ≡ None → ⊥
    no_some is = absurd (cc)

is_constant : (p : Polynomial) (c : ℤ) → as_number p ≡ Some c → p ≡ constant c
is_constant p c = by_test (poly_eq p (constant (coefficient p []))) refl
  where
    by_test : (b : Bool) → poly_eq p (constant (coefficient p [])) ≡ b → cond b (Some (coefficient p [])) None ≡ Some c → p ≡ constant c
    by_test true test is = let same : coefficient p [] ≡ c = cc in poly_tells p (constant (coefficient p [])) test ∙ ap constant same
    by_test false test is = absurd (cc)

pub canonical_agrees : (a : atom.Atom) → IsCanonicalAtom a → AgreesEverywhere (Atom a) (simplified_atom a)
canonical_agrees a canonical = by_number (as_number a.poly) refl
  where
    by_number : (o : Option ℤ) → as_number a.poly ≡ o → AgreesEverywhere (Atom a) (simplified_atom a)
    by_number None is = primitive_agrees a (not_constant a.poly is) (multiple_of_primitive a.poly canonical (not_constant a.poly is))
    by_number (Some c) is = decided_agrees a c (is_constant a.poly c is)

-- ---- the simplified atom as the code makes it

untrue : (n k : ℕ) → (n ≡ k → ⊥) → eqb n k ≡ false
untrue n k apart = grind (arith, nat_tests)

pub primitive_is : (a : atom.Atom) (q : Polynomial) (s : Signs) (m n : ℕ) → m ≡ bits a.signs → (m ≡ 0 → ⊥) → n ≡ bits a.signs → (n ≡ 7 → ⊥) → ((c : ℤ) → a.poly ≡ constant c → ⊥)
    → q ≡ primitive a.poly → s ≡ cond (leads_negative a.poly) (mirror a.signs) a.signs → Atom (record { poly = q; signs = s }) ≡ simplified_atom a
primitive_is a q s m n first some second not_all none poly signs =
    (λ i. Atom (record { poly = poly i; signs = signs i }))
    ∙ sym ((λ i. cond (untrue (bits a.signs) 0 (λ e. some (first ∙ e)) i) False (cond (untrue (bits a.signs) 7 (λ e. not_all (second ∙ e)) i) True (on_number a (as_number a.poly))))
    ∙ ap (on_number a) (no_number a.poly none))

-- an atom on a number
pub constant_is : (a : atom.Atom) (c : ℤ) → a.poly ≡ constant c → truth (has_sign a.signs (int_sign c)) ≡ simplified_atom a
constant_is a c same = by_tests (eqb (bits a.signs) 0) (eqb (bits a.signs) 7) refl refl
  where
    by_tests : (s t : Bool) → eqb (bits a.signs) 0 ≡ s → eqb (bits a.signs) 7 ≡ t
        → truth (has_sign a.signs (int_sign c)) ≡ cond s False (cond t True (on_number a (as_number a.poly)))
    by_tests true t none all = ap truth (never_has a.signs (int_sign c) none)
    by_tests false true none all = ap truth (always_has a.signs (int_sign c) all)
    by_tests false false none all = sym (ap (on_number a) (number_from a.poly c same))
