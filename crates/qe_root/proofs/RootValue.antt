-- At a root s^2 times a polynomial of degree two at most is A + B*w.
use Rattle.std.proofs.Common.{◌≡◌, ◌≤◌, ℕ, pos, [], ◌∷◌, sym, subst}
use Rattle.qe_ring.specs.Ring.{Operations, IsRing}
use Rattle.qe_ring.specs.Sign.{Sign}
use Rattle.qe_ring.specs.Ordered.{EqualBySign}
use Rattle.qe_line.specs.Field.{IsEuclideanField}
use Rattle.qe_ring.specs.Expression.{var, of_int, ◌⊕◌, ◌⊗◌}
use Rattle.qe_tower.specs.Number.{whole_number, ValidNumber}
use Rattle.qe_tower.specs.Point.{Point, IsPoint}
use Rattle.qe_tower.proofs.ValidNumbers.{valid_operations, valid_sign, ValidEqual, valid_ordered}
use Rattle.qe_line.specs.Quadratic.{IsRootValue, quadratic}
use Rattle.qe_line.specs.Quadratic as line
use Rattle.qe_line.specs.Numbers.{numbers}
use Rattle.qe_line.proofs.Meaning.{means}
use Rattle.qe_line.proofs.AtRoot.{value_at_root}
use Rattle.qe_poly.specs.Polynomial.{Polynomial, IsPolynomial}
use Rattle.qe_poly.specs.Coefficients.{degree_in, coefficient_in}
use Rattle.qe_poly.specs.Value.{scaled}
use Rattle.qe_form.proofs.Values.{value_of_sum, value_of_multiple, value_of_quadratic}
use Rattle.qe_root.specs.declared.point.RootPoint.{RootPoint}
use Rattle.qe_root.specs.Value.{triple, plain_part, root_part, plain_part_of, root_part_of, IsValue, AreParts}
use Rattle.qe_root.proofs.Values.{polynomial_operations, valid_value, value_means, two_is}

abbrev R : IsRing valid_operations ValidEqual
R = valid_ordered.ring

module _ (at : Point) (valid : IsPoint at) where
  open valid_operations use {add, mul}

  abbrev val : Polynomial → ValidNumber
  val f = valid_value at valid f

  -- A of the values is the value of A
  plain_value : (alpha beta gamma : Polynomial) (k : RootPoint)
      → ValidEqual (val (plain_part alpha beta gamma k)) (line.plain_part valid_operations (val alpha) (val beta) (val gamma) (val k.p) (val k.q) (val k.r) (val k.s))
  plain_value alpha beta gamma k =
      means polynomial_operations valid_operations ValidEqual val (value_means at valid) R (alpha ∷ beta ∷ gamma ∷ k.p ∷ k.q ∷ k.r ∷ k.s ∷ [])
      (var 0 ⊗ (var 3 ⊗ var 3 ⊕ var 4 ⊗ var 4 ⊗ var 5) ⊕ var 1 ⊗ var 3 ⊗ var 6 ⊕ var 2 ⊗ (var 6 ⊗ var 6))

  triple_value : (a b c : Polynomial) → ValidEqual (val (triple a b c)) (mul (mul (val a) (val b)) (val c))
  triple_value a b c = means polynomial_operations valid_operations ValidEqual val (value_means at valid) R (a ∷ b ∷ c ∷ []) (var 0 ⊗ var 1 ⊗ var 2)

  double_value : (f : Polynomial) (v : ValidNumber) → ValidEqual (val f) v → ValidEqual (val (scaled (pos 2) f)) (mul (of_int valid_operations (pos 2)) v)
  double_value f v equal = R.then (val (scaled (pos 2) f)) (mul (whole_number (pos 2), tt) (val f)) (mul (of_int valid_operations (pos 2)) v)
      (value_of_multiple (pos 2) f at valid) (R.mul-same (whole_number (pos 2), tt) (of_int valid_operations (pos 2)) (val f) v two_is equal)

  -- and B of the values is the value of B
  root_value : (alpha beta : Polynomial) (gamma : ValidNumber) (k : RootPoint)
      → ValidEqual (val (root_part alpha beta k)) (line.root_part valid_operations (val alpha) (val beta) gamma (val k.p) (val k.q) (val k.r) (val k.s))
  root_value alpha beta gamma k =
      R.then (val (root_part alpha beta k)) (add (val double) (val linear))
      (add (mul (of_int valid_operations (pos 2)) (mul (mul (val alpha) (val k.p)) (val k.q))) (mul (mul (val beta) (val k.q)) (val k.s)))
      (value_of_sum double linear at valid)
      (R.add-same (val double) (mul (of_int valid_operations (pos 2)) (mul (mul (val alpha) (val k.p)) (val k.q))) (val linear) (mul (mul (val beta) (val k.q)) (val k.s))
      (double_value (triple alpha k.p k.q) (mul (mul (val alpha) (val k.p)) (val k.q)) (triple_value alpha k.p k.q)) (triple_value beta k.q k.s))
    where
      double : Polynomial
      double = scaled (pos 2) (triple alpha k.p k.q)

      linear : Polynomial
      linear = triple beta k.q k.s

  -- v is a value of the root, as numbers with their proofs
  abbrev pub IsValidRoot : RootPoint → ValidNumber → Type 0
  IsValidRoot k v = IsRootValue valid_operations valid_sign (val k.p) (val k.q) (val k.r) (val k.s) v

  pub to_value : (k : RootPoint) (v : ValidNumber) → IsValidRoot k v → IsValue k at v.0
  to_value k v h = record {
    number = v.1;
    root = record { divisor = h.divisor; radicand = h.radicand; root = h.root.0; not-minus = h.not-minus; square = h.square; value = h.value };
    root-number = h.root.1;
  }

  abbrev pub of_value : (k : RootPoint) (v : ValidNumber) → IsValue k at v.0 → IsValidRoot k v
  of_value k v h = record {
    divisor = h.root.divisor;
    radicand = h.root.radicand;
    root = (h.root.root, h.root-number);
    not-minus = h.root.not-minus;
    square = h.root.square;
    value = h.root.value;
  }

-- with equal values for A, B and the polynomial
module _ {C : Type 0} {o : Operations C} {s : C → Sign} (F : IsEuclideanField o s) where
  open o use {add, mul}
  open F.ordered.ring use {same, back, then, add-same, mul-same}

  value_by_parts : (a b c p q r d v plain root fv : C) (h : IsRootValue o s p q r d v) → EqualBySign o s fv (quadratic o a b c v)
      → EqualBySign o s plain (line.plain_part o a b c p q r d) → EqualBySign o s root (line.root_part o a b c p q r d)
      → EqualBySign o s (mul (mul d d) fv) (add plain (mul root h.root))
  value_by_parts a b c p q r d v plain root fv h value_is plain_is root_is =
      then (mul (mul d d) fv) (mul (mul d d) f) (add plain (mul root w)) (mul-same (mul d d) (mul d d) fv f (same (mul d d)) value_is)
      (then (mul (mul d d) f) (add A (mul B w)) (add plain (mul root w)) (value_at_root F a b c p q r d v h)
      (add-same A plain (mul B w) (mul root w) (back plain A plain_is) (mul-same B root w w (back root B root_is) (same w))))
    where
      f : C
      f = quadratic o a b c v

      w : C
      w = h.root

      A : C
      A = line.plain_part o a b c p q r d

      B : C
      B = line.root_part o a b c p q r d

are_parts : (f : Polynomial) (x : ℕ) (k : RootPoint) → IsPolynomial f → degree_in x f ≤ 2 → AreParts f x k (plain_part_of f x k) (root_part_of f x k)
are_parts f x k canonical low at valid v h =
    value_by_parts numbers (val (coefficient_in x 2 f)) (val (coefficient_in x 1 f)) (val (coefficient_in x 0 f)) (val k.p) (val k.q) (val k.r) (val k.s) (v, h.number)
    (val (plain_part_of f x k)) (val (root_part_of f x k)) (valid_value ((x, v) ∷ at) (h.number, valid) f) (of_value at valid k (v, h.number) h)
    (value_of_quadratic at valid x v h.number f canonical low)
    (plain_value at valid (coefficient_in x 2 f) (coefficient_in x 1 f) (coefficient_in x 0 f) k)
    (root_value at valid (coefficient_in x 2 f) (coefficient_in x 1 f) (val (coefficient_in x 0 f)) k)
  where
    val : Polynomial → ValidNumber
    val g = valid_value at valid g

-- the same of polynomials that are equal to A and B
pub parts_are : (f : Polynomial) (x : ℕ) (k : RootPoint) (a b : Polynomial) → IsPolynomial f → degree_in x f ≤ 2 → a ≡ plain_part_of f x k → b ≡ root_part_of f x k
    → AreParts f x k a b
parts_are f x k a b canonical low plain root = subst (λ z. AreParts f x k z b) (sym plain) (subst (λ z. AreParts f x k (plain_part_of f x k) z) (sym root) (are_parts f x k canonical low))
