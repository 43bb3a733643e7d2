-- Fractions of whole numbers, with a positive denominator.
use Rattle.std.specs.Prelude.{ℕ, ◌*◌, ◌<◌, ℤ, pos, ◌+ℤ◌, ◌*ℤ◌, neg_ℤ}
use native.Mathlib.Nat.{mul-pos}
use Rattle.qe_ring.specs.Ring.{Operations}
use Rattle.qe_ring.specs.Sign.{Sign, int_sign}

pub record Fraction : Type 0 where
  pub numerator : ℤ
  pub denominator : ℕ
  pub positive : 0 < denominator

-- a whole number z as z/1
abbrev pub whole : ℤ → Fraction
whole z = record { numerator = z; denominator = 1; positive = Prim.Native.Nat.suc-le-suc Prim.Native.Nat.zero-le }

-- a/b + c/d = (a*d + c*b)/(b*d), -(a/b) = (-a)/b, a/b * c/d = (a*c)/(b*d)
abbrev pub fraction_operations : Operations Fraction
fraction_operations = record {
  zero = whole (pos 0);
  one = whole (pos 1);
  add = λ x y. record {
    numerator = x.numerator *ℤ pos y.denominator +ℤ y.numerator *ℤ pos x.denominator;
    denominator = x.denominator * y.denominator;
    positive = mul-pos x.positive y.positive;
  };
  neg = λ x. record { numerator = neg_ℤ x.numerator; denominator = x.denominator; positive = x.positive };
  mul = λ x y. record {
    numerator = x.numerator *ℤ y.numerator;
    denominator = x.denominator * y.denominator;
    positive = mul-pos x.positive y.positive;
  };
}

-- the sign of a fraction is that of its numerator
abbrev pub fraction_sign : Fraction → Sign
fraction_sign x = int_sign x.numerator
