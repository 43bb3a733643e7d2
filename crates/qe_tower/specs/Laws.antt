-- What the laws say of the elements over one tower, and of numbers.
use Rattle.std.specs.Prelude.{◌≡◌, ◌⊎◌, ℕ, suc, pos}
use Rattle.qe_ring.specs.Ring.{IsRing, IsRingOn, difference}
use Rattle.qe_ring.specs.Sign.{Plus, IsNotMinus, IsNotZero, opposite, IsSignOfSum, ◌·◌}
use Rattle.qe_tower.specs.Element.{Element, Tower, over, operations}
use Rattle.qe_tower.specs.Sign.{sign, IsTower, EqualOver, LessOver}
use Rattle.qe_tower.specs.Number.{lift, carry, join, Number, IsNumber, add, mul, neg, sign_of, whole_number, number_operations, Equal, Less}
use Rattle.qe_tower.specs.Map.{IsMap}

-- the elements over one tower are a commutative ring, and so are the numbers
pub record RingLaws : Type 0 where
  pub over-tower : (n : ℕ) (t : Tower n) → IsTower t → IsRing (operations t) (EqualOver t)
  pub of-numbers : IsRingOn IsNumber number_operations Equal

-- x is at most y: the sign of y - x is not minus
abbrev pub AtMostOver : {n : ℕ} → Tower n → Element n → Element n → Type 0
AtMostOver t x y = IsNotMinus (sign t (difference (operations t) y x))

abbrev pub AtMost : Number → Number → Type 0
AtMost x y = IsNotMinus (sign_of (difference number_operations y x))

-- the order of the elements over one tower; at most is less or equal
pub record IsOrderOver {n : ℕ} (t : Tower n) : Type 0 where
  pub at-most : (x y : Element n) → AtMostOver t x y → LessOver t x y ⊎ EqualOver t x y
  pub less : (x y : Element n) → LessOver t x y → AtMostOver t x y
  pub equal : (x y : Element n) → EqualOver t x y → AtMostOver t x y
  pub transitive : (x y z : Element n) → AtMostOver t x y → AtMostOver t y z → AtMostOver t x z
  pub total : (x y : Element n) → AtMostOver t x y ⊎ AtMostOver t y x
  pub antisymmetric : (x y : Element n) → AtMostOver t x y → AtMostOver t y x → EqualOver t x y
  pub kept-by-sum : (x y z : Element n) → AtMostOver t x y → AtMostOver t ((operations t).add x z) ((operations t).add y z)
  pub kept-by-product : (x y z : Element n) → IsNotMinus (sign t z) → AtMostOver t x y → AtMostOver t ((operations t).mul x z) ((operations t).mul y z)

-- the order of the numbers; at most is less or equal
pub record IsOrderOfNumbers : Type 0 where
  pub at-most : (x y : Number) → IsNumber x → IsNumber y → AtMost x y → Less x y ⊎ Equal x y
  pub less : (x y : Number) → IsNumber x → IsNumber y → Less x y → AtMost x y
  pub equal : (x y : Number) → IsNumber x → IsNumber y → Equal x y → AtMost x y
  pub transitive : (x y z : Number) → IsNumber x → IsNumber y → IsNumber z → AtMost x y → AtMost y z → AtMost x z
  pub total : (x y : Number) → IsNumber x → IsNumber y → AtMost x y ⊎ AtMost y x
  pub antisymmetric : (x y : Number) → IsNumber x → IsNumber y → AtMost x y → AtMost y x → Equal x y
  pub kept-by-sum : (x y z : Number) → IsNumber x → IsNumber y → IsNumber z → AtMost x y → AtMost (add x z) (add y z)
  pub kept-by-product : (x y z : Number) → IsNumber x → IsNumber y → IsNumber z
      → IsNotMinus (sign_of z) → AtMost x y → AtMost (mul x z) (mul y z)

pub record OrderLaws : Type 0 where
  pub over-tower : (n : ℕ) (t : Tower n) → IsTower t → IsOrderOver t
  pub of-numbers : IsOrderOfNumbers

-- the sign of a sum comes from those of its parts
pub record SumLaws : Type 0 where
  pub over-tower : (n : ℕ) (t : Tower n) → IsTower t → (x y : Element n) → IsSignOfSum (sign t x) (sign t y) (sign t ((operations t).add x y))
  pub of-numbers : (x y : Number) → IsNumber x → IsNumber y → IsSignOfSum (sign_of x) (sign_of y) (sign_of (add x y))

-- the sign of a product is the product of the signs, that of one is plus, and that of a negative is the opposite
pub record ProductLaws : Type 0 where
  pub over-tower : (n : ℕ) (t : Tower n) → IsTower t → (x y : Element n) → sign t ((operations t).mul x y) ≡ sign t x · sign t y
  pub of-numbers : (x y : Number) → IsNumber x → IsNumber y → sign_of (mul x y) ≡ sign_of x · sign_of y
  pub one-over-tower : (n : ℕ) (t : Tower n) → IsTower t → sign t (operations t).one ≡ Plus
  pub one-of-numbers : sign_of (whole_number (pos 1)) ≡ Plus
  pub negative-over-tower : (n : ℕ) (t : Tower n) → IsTower t → (x : Element n) → sign t ((operations t).neg x) ≡ opposite (sign t x)
  pub negative-of-numbers : (x : Number) → IsNumber x → sign_of (neg x) ≡ opposite (sign_of x)

-- an element over a tower, as a number
abbrev pub number : {n : ℕ} → Tower n → Element n → Number
number {n} t x = record { height = n; tower = t; element = x }

-- lifting and carrying keep operations and signs, and it is all one by which way an element comes into a tower
pub record CarryLaws : Type 0 where
  pub joined : (n m : ℕ) (t : Tower n) (u : Tower m) → IsTower t → IsTower u → IsTower (join t u)
  pub lifted : (n m : ℕ) (t : Tower n) (u : Tower m) → IsTower t → IsTower u → IsMap t (join t u) (lift n m)
  pub carried : (n m : ℕ) (t : Tower n) (u : Tower m) → IsTower t → IsTower u → IsMap u (join t u) (carry n m)
  pub one-way : (n m : ℕ) (t : Tower n) (u : Tower m) → IsTower t → IsTower u
      → (f g : Element n → Element m) → IsMap t u f → IsMap t u g → (x : Element n) → EqualOver u (f x) (g x)
  pub equal-sums : (x y z w : Number) → IsNumber x → IsNumber y → IsNumber z → IsNumber w → Equal x y → Equal z w → Equal (add x z) (add y w)
  pub equal-products : (x y z w : Number) → IsNumber x → IsNumber y → IsNumber z → IsNumber w → Equal x y → Equal z w → Equal (mul x z) (mul y w)
  pub equal-negatives : (x y : Number) → IsNumber x → IsNumber y → Equal x y → Equal (neg x) (neg y)
  pub equal-signs : (x y : Number) → IsNumber x → IsNumber y → Equal x y → sign_of x ≡ sign_of y
  pub equal-over-tower : (n : ℕ) (t : Tower n) → IsTower t → (x y : Element n) → EqualOver t x y → Equal (number t x) (number t y)
  pub sum-over-tower : (n : ℕ) (t : Tower n) → IsTower t → (x y : Element n) → Equal (add (number t x) (number t y)) (number t ((operations t).add x y))
  pub product-over-tower : (n : ℕ) (t : Tower n) → IsTower t → (x y : Element n)
      → Equal (mul (number t x) (number t y)) (number t ((operations t).mul x y))

-- a number over the tower of x that gives 1 with it
pub record InverseOf (x : Number) : Type 0 where
  pub inverse : Element x.height
  pub product : Equal (mul x (number x.tower inverse)) (whole_number (pos 1))

-- each number that is not zero has an inverse over its tower
abbrev pub InverseLaw : Type 0
InverseLaw = (x : Number) → IsNumber x → IsNotZero (sign_of x) → InverseOf x

-- a number over the tower of x with x as one radicand more, whose square is x, and which is not negative
pub record RootOf (x : Number) : Type 0 where
  pub root : Element (suc x.height)
  pub is-number : IsNumber (number (over x.tower x.element) root)
  pub not-minus : IsNotMinus (sign_of (number (over x.tower x.element) root))
  pub square : Equal (mul (number (over x.tower x.element) root) (number (over x.tower x.element) root)) x

-- each number that is not negative has a square root
abbrev pub RootLaw : Type 0
RootLaw = (x : Number) → IsNumber x → IsNotMinus (sign_of x) → RootOf x
