-- Whole numbers among the fractions and the numbers: sums, products and negatives are those of the whole numbers.
use Rattle.std.proofs.Common.{◌≡◌, ℕ, zero, suc, ℤ, pos, negsuc, ◌+ℤ◌, ◌*ℤ◌, neg_ℤ, List, [], ◌∷◌, refl, ap, subst, add-one}
use Rattle.qe_ring.specs.Ring.{IsRing}
use Rattle.qe_ring.specs.Sign.{Zero, int_sign}
use Rattle.qe_ring.specs.Ordered.{int_operations}
use Rattle.qe_ring.specs.Expression.{Expression, var, nought, unit, ◌⊕◌, ◌⊝◌, ⊖◌, ◌⊗◌, of_nat, of_int, normal}
use Rattle.qe_ring.proofs.Signs.{signs, same_sign}
use Rattle.qe_ring.proofs.Ints.{int_ordered}
use Rattle.qe_tower.specs.Fraction.{whole, fraction_operations, fraction_sign}
use Rattle.qe_tower.specs.Number.{add, mul, neg, whole_number, Equal, ValidNumber}
use Rattle.qe_tower.specs.Map.{Keeps}
use Rattle.qe_tower.proofs.ValidNumbers.{valid_operations, ValidEqual, valid_ordered}

zeros : (point : List ℤ) (e : Expression) → normal (e ⊝ nought) ≡ [] → signs int_operations int_sign point e ≡ Zero
zeros point e h = same_sign int_operations int_sign (λ a b. a ≡ b) int_ordered point e nought h

-- the whole numbers among the fractions
pub whole_map : Keeps int_operations int_sign fraction_operations fraction_sign whole
whole_map = record {
  sign = λ a. refl;
  one = zeros [] (unit ⊗ unit ⊕ ⊖ unit ⊗ unit) refl;
  add = λ a b. zeros (a ∷ b ∷ []) ((var 0 ⊕ var 1) ⊗ unit ⊕ ⊖ (var 0 ⊗ unit ⊕ var 1 ⊗ unit) ⊗ unit) refl;
  neg = λ a. zeros (a ∷ []) (⊖ var 0 ⊗ unit ⊕ ⊖ ⊖ var 0 ⊗ unit) refl;
  mul = λ a b. zeros (a ∷ b ∷ []) (var 0 ⊗ var 1 ⊗ unit ⊕ ⊖ (var 0 ⊗ var 1) ⊗ unit) refl;
}

-- whole numbers have their sums, products and negatives as numbers
pub whole_sum : (a b : ℤ) → Equal (whole_number (a +ℤ b)) (add (whole_number a) (whole_number b))
whole_sum a b = whole_map.add a b

pub whole_product : (a b : ℤ) → Equal (whole_number (a *ℤ b)) (mul (whole_number a) (whole_number b))
whole_product a b = whole_map.mul a b

pub whole_negative : (a : ℤ) → Equal (whole_number (neg_ℤ a)) (neg (whole_number a))
whole_negative a = whole_map.neg a

abbrev whole_valid : ℤ → ValidNumber
whole_valid z = (whole_number z, tt)

R : IsRing valid_operations ValidEqual
R = valid_ordered.ring

natural_is_constant : (n : ℕ) → ValidEqual (whole_valid (pos n)) (of_nat valid_operations n)
natural_is_constant zero = refl
natural_is_constant (suc n) = R.then (whole_valid (pos (suc n))) (valid_operations.add (whole_valid (pos n)) valid_operations.one)
    (of_nat valid_operations (suc n))
    (subst (λ z. Equal (whole_number z) (add (whole_number (pos n)) (whole_number (pos 1)))) (ap pos (add-one n)) (whole_sum (pos n) (pos 1)))
    (R.add-same (whole_valid (pos n)) (of_nat valid_operations n) valid_operations.one valid_operations.one (natural_is_constant n)
    (R.same valid_operations.one))

-- a whole number is what the solver's constants stand for among the numbers
pub whole_is_constant : (z : ℤ) → ValidEqual (whole_valid z) (of_int valid_operations z)
whole_is_constant (pos n) = natural_is_constant n
whole_is_constant (negsuc n) = R.then (whole_valid (negsuc n)) (valid_operations.neg (whole_valid (pos (suc n)))) (of_int valid_operations (negsuc n))
    (whole_negative (pos (suc n)))
    (R.neg-same (whole_valid (pos (suc n))) (of_nat valid_operations (suc n)) (natural_is_constant (suc n)))
