-- The sign of an element over a tower, and what it decides: valid towers, equality and order.
use Rattle.std.specs.Prelude.{◌≡◌, ℕ}
use Rattle.qe_ring.specs.Ring.{Operations, difference}
use Rattle.qe_ring.specs.Sign.{Sign, Minus, Zero, Plus, IsNotMinus}
use Rattle.qe_tower.specs.Fraction.{fraction_sign}
use Rattle.qe_tower.specs.Element.{Element, Tower, bare, over, operations}

-- the sign of a + b*sqrt(r), from those of a, b, r, a*a - b*b*r and b*b*r - a*a; the first row that fits decides
abbrev pub sign_of_root_sum : Sign → Sign → Sign → Sign → Sign → Sign
sign_of_root_sum a Zero r less more = a
sign_of_root_sum a b Zero less more = a
sign_of_root_sum Zero b r less more = b
sign_of_root_sum Minus Minus r less more = Minus
sign_of_root_sum Plus Plus r less more = Plus
sign_of_root_sum Plus Minus r less more = less
sign_of_root_sum Minus Plus r less more = more

-- the sign of a pair over the radicand r
abbrev pub pair_sign : {C : Type 0} → Operations C → (C → Sign) → C → C × C → Sign
pair_sign o s r x =
    let square = o.mul x.0 x.0 in
    let root_square = o.mul (o.mul x.1 x.1) r in
    sign_of_root_sum (s x.0) (s x.1) (s r) (s (difference o square root_square)) (s (difference o root_square square))

abbrev pub sign : {n : ℕ} → Tower n → Element n → Sign
sign bare = fraction_sign
sign (over t r) = pair_sign (operations t) (sign t) r

-- no radicand is negative over those before it
abbrev pub IsTower : {n : ℕ} → Tower n → Type 0
IsTower bare = Unit {0}
IsTower (over t r) = IsTower t × IsNotMinus (sign t r)

-- two elements over one tower are equal where their difference has the sign zero
abbrev pub EqualOver : {n : ℕ} → Tower n → Element n → Element n → Type 0
EqualOver t x y = sign t (difference (operations t) x y) ≡ Zero

-- the order is that of the sign of the difference
abbrev pub LessOver : {n : ℕ} → Tower n → Element n → Element n → Type 0
LessOver t x y = sign t (difference (operations t) y x) ≡ Plus
