-- Numbers: an element with its tower. Two numbers meet over the joined tower.
use Rattle.std.specs.Prelude.{◌≡◌, ℕ, zero, suc, ℤ, pos}
use Rattle.qe_ring.specs.Ring.{Operations, difference}
use Rattle.qe_ring.specs.Sign.{Sign, Zero, Plus}
use Rattle.qe_tower.specs.Fraction.{Fraction, whole}
use Rattle.qe_tower.specs.Element.{Element, Tower, bare, over, operations}
use Rattle.qe_tower.specs.Sign.{sign, IsTower}

-- n and m more, by recursion on m, so that a height computes
abbrev pub more : ℕ → ℕ → ℕ
more n zero = n
more n (suc m) = suc (more n m)

-- a fraction lifted to a height: an element a is lifted by one to (a, 0)
abbrev pub at_height : (n : ℕ) → Fraction → Element n
at_height zero x = x
at_height (suc n) x = (at_height n x, at_height n (whole (pos 0)))

-- an element of height n lifted m times
abbrev pub lift : (n m : ℕ) → Element n → Element (more n m)
lift n zero x = x
lift n (suc m) x = (lift n m x, at_height (more n m) (whole (pos 0)))

-- an element of height m carried over a tower of height n: a fraction is lifted n times, a pair is carried part by part
abbrev pub carry : (n m : ℕ) → Element m → Element (more n m)
carry n zero x = at_height n x
carry n (suc m) x = (carry n m x.0, carry n m x.1)

-- the radicands of t, and then those of u carried over t
abbrev pub join : {n m : ℕ} → Tower n → Tower m → Tower (more n m)
join t bare = t
join {n} t (over {n = m} u r) = over (join t u) (carry n m r)

-- a tower with an element of its height
pub record Number : Type 0 where
  pub height : ℕ
  pub tower : Tower height
  pub element : Element height

-- a number whose radicands are not negative: these are the constructible numbers
abbrev pub IsNumber : Number → Type 0
IsNumber x = IsTower x.tower

-- a number with the proof that it is one
abbrev pub ValidNumber : Type 0
ValidNumber = (x : Number) × IsNumber x

-- the sum, over the joined tower: the first element is lifted, the second is carried
abbrev pub add : Number → Number → Number
add x y = record {
  height = more x.height y.height;
  tower = join x.tower y.tower;
  element = (operations (join x.tower y.tower)).add (lift x.height y.height x.element) (carry x.height y.height y.element);
}

-- the product, likewise
abbrev pub mul : Number → Number → Number
mul x y = record {
  height = more x.height y.height;
  tower = join x.tower y.tower;
  element = (operations (join x.tower y.tower)).mul (lift x.height y.height x.element) (carry x.height y.height y.element);
}

abbrev pub neg : Number → Number
neg x = record { height = x.height; tower = x.tower; element = (operations x.tower).neg x.element }

abbrev pub sign_of : Number → Sign
sign_of x = sign x.tower x.element

-- a whole number, over the tower without radicands
abbrev pub whole_number : ℤ → Number
whole_number z = record { height = 0; tower = bare; element = whole z }

abbrev pub number_operations : Operations Number
number_operations = record { zero = whole_number (pos 0); one = whole_number (pos 1); add = add; neg = neg; mul = mul }

-- two numbers are equal where their difference has the sign zero
abbrev pub Equal : Number → Number → Type 0
Equal x y = sign_of (difference number_operations x y) ≡ Zero

-- the order is that of the sign of the difference
abbrev pub Less : Number → Number → Type 0
Less x y = sign_of (difference number_operations y x) ≡ Plus
