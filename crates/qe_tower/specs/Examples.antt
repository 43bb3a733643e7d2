-- Numbers for the worked examples.
use Rattle.std.specs.Prelude.{ℕ, pos}
use Rattle.qe_tower.specs.Fraction.{Fraction, whole}
use Rattle.qe_tower.specs.Element.{bare, over}
use Rattle.qe_tower.specs.Number.{Number}

-- the square root of a whole number: 0 + 1*sqrt(n) over the tower with the one radicand n
abbrev pub root_of : ℕ → Number
root_of n = record { height = 1; tower = over bare (whole (pos n)); element = (whole (pos 0), whole (pos 1)) }

abbrev pub half : Fraction
half = record { numerator = pos 1; denominator = 2; positive = Prim.Native.Nat.suc-le-suc Prim.Native.Nat.zero-le }

-- (1 + sqrt(5))/2
abbrev pub golden_ratio : Number
golden_ratio = record { height = 1; tower = over bare (whole (pos 5)); element = (half, half) }

-- sqrt(5 + 2*sqrt(6)), over the tower with the radicands 6 and 5 + 2*sqrt(6)
abbrev pub nested_root : Number
nested_root = record {
  height = 2;
  tower = over (over bare (whole (pos 6))) (whole (pos 5), whole (pos 2));
  element = ((whole (pos 0), whole (pos 0)), (whole (pos 1), whole (pos 0)));
}
