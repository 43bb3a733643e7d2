-- Elements over a tower of radicands, and their arithmetic.
use Rattle.std.specs.Prelude.{ℕ, zero, suc}
use Rattle.qe_ring.specs.Ring.{Operations}
use Rattle.qe_tower.specs.Fraction.{Fraction, fraction_operations}

-- an element of height 0 is a fraction; one of height n+1 is a pair of elements of height n
abbrev pub Element : ℕ → Type 0
Element zero = Fraction
Element (suc n) = Element n × Element n

-- A tower of height n has n radicands, the topmost last: each is an element of the height below it.
-- Over it a pair (a, b) stands for a + b*sqrt(r), where r is the topmost radicand.
pub data Tower : ℕ → Type 0 where
  bare : Tower zero
  over : {n : ℕ} → Tower n → Element n → Tower (suc n)

-- the arithmetic of a + b*sqrt(r): sum and negative go by parts, (a, b)*(c, d) = (a*c + b*d*r, a*d + b*c)
abbrev pub pair_operations : {C : Type 0} → Operations C → C → Operations (C × C)
pair_operations o r = record {
  zero = (o.zero, o.zero);
  one = (o.one, o.zero);
  add = λ x y. (o.add x.0 y.0, o.add x.1 y.1);
  neg = λ x. (o.neg x.0, o.neg x.1);
  mul = λ x y. (o.add (o.mul x.0 y.0) (o.mul (o.mul x.1 y.1) r), o.add (o.mul x.0 y.1) (o.mul x.1 y.0));
}

-- the arithmetic of the elements over a tower
abbrev pub operations : {n : ℕ} → Tower n → Operations (Element n)
operations bare = fraction_operations
operations (over t r) = pair_operations (operations t) r
