-- The laws in the form in which the contracts state them.
use Rattle.std.proofs.Common.{ℕ, refl}
use Rattle.qe_ring.specs.Ring.{IsRing}
use Rattle.qe_ring.specs.Ordered.{IsOrderedOn}
use Rattle.qe_ring.proofs.Equal.{equal_ring}
use Rattle.qe_ring.proofs.Order.{sum_in_words, transitive, total, antisymmetric, kept_by_sum, kept_by_product, less_or_equal, less_at_most, equal_at_most}
use Rattle.qe_tower.specs.Element.{Element, Tower, operations}
use Rattle.qe_tower.specs.Sign.{sign, IsTower, EqualOver}
use Rattle.qe_tower.specs.Number.{IsNumber, add, mul, sign_of, number_operations, Equal}
use Rattle.qe_tower.specs.Laws.{number, IsOrderOver, IsOrderOfNumbers, RingLaws, OrderLaws, SumLaws, ProductLaws, CarryLaws}
use Rattle.qe_tower.proofs.Towers.{Alike, ordered}
use Rattle.qe_tower.proofs.Joined.{ring_of, one_map, joined, lift_map}
use Rattle.qe_tower.proofs.Readings.{Reads, reads-add, reads-mul, reads-equal, reads-self}
use Rattle.qe_tower.proofs.ValidNumbers.{valid_operations, valid_sign, ValidEqual, valid_ordered}

-- elements and numbers are commutative rings
pub ring_laws : RingLaws
ring_laws = record {
  over-tower = λ n t h. equal_ring (operations t) (sign t) (Alike n) (ordered t h);
  of-numbers = record {
    zero-in = tt;
    one-in = tt;
    add-in = λ a b p q. (valid_operations.add (a, p) (b, q)).1;
    neg-in = λ a p. p;
    mul-in = λ a b p q. (valid_operations.mul (a, p) (b, q)).1;
    same = λ a p. R.same (a, p);
    back = λ a b p q. R.back (a, p) (b, q);
    then = λ a b c p q k. R.then (a, p) (b, q) (c, k);
    add-same = λ a b c d p q k l. R.add-same (a, p) (b, q) (c, k) (d, l);
    neg-same = λ a b p q. R.neg-same (a, p) (b, q);
    mul-same = λ a b c d p q k l. R.mul-same (a, p) (b, q) (c, k) (d, l);
    add-assoc = λ a b c p q k. R.add-assoc (a, p) (b, q) (c, k);
    add-comm = λ a b p q. R.add-comm (a, p) (b, q);
    add-zero = λ a p. R.add-zero (a, p);
    add-neg = λ a p. R.add-neg (a, p);
    mul-assoc = λ a b c p q k. R.mul-assoc (a, p) (b, q) (c, k);
    mul-comm = λ a b p q. R.mul-comm (a, p) (b, q);
    mul-one = λ a p. R.mul-one (a, p);
    mul-add = λ a b c p q k. R.mul-add (a, p) (b, q) (c, k);
  };
}
  where
    R : IsRing valid_operations ValidEqual
    R = valid_ordered.ring

-- the numbers are an ordered ring, with the premises written out
pub numbers_ordered : IsOrderedOn IsNumber number_operations sign_of Equal
numbers_ordered = record {
  ring = ring_laws.of-numbers;
  sign-same = λ a b p q. valid_ordered.sign-same (a, p) (b, q);
  sign-one = refl;
  sign-neg = λ a p. valid_ordered.sign-neg (a, p);
  sign-mul = λ a b p q. valid_ordered.sign-mul (a, p) (b, q);
  sign-add = λ a b p q. valid_ordered.sign-add (a, p) (b, q);
}

order_over : {n : ℕ} (t : Tower n) → IsTower t → IsOrderOver t
order_over {n} t h = record {
  at-most = less_or_equal (operations t) (sign t) (Alike n) (ordered t h);
  less = less_at_most (operations t) (sign t) (Alike n) (ordered t h);
  equal = equal_at_most (operations t) (sign t) (Alike n) (ordered t h);
  transitive = transitive (operations t) (sign t) (Alike n) (ordered t h);
  total = total (operations t) (sign t) (Alike n) (ordered t h);
  antisymmetric = antisymmetric (operations t) (sign t) (Alike n) (ordered t h);
  kept-by-sum = kept_by_sum (operations t) (sign t) (Alike n) (ordered t h);
  kept-by-product = kept_by_product (operations t) (sign t) (Alike n) (ordered t h);
}

order_of_numbers : IsOrderOfNumbers
order_of_numbers = record {
  at-most = λ x y p q. less_or_equal valid_operations valid_sign ValidEqual valid_ordered (x, p) (y, q);
  less = λ x y p q. less_at_most valid_operations valid_sign ValidEqual valid_ordered (x, p) (y, q);
  equal = λ x y p q. equal_at_most valid_operations valid_sign ValidEqual valid_ordered (x, p) (y, q);
  transitive = λ x y z p q k. transitive valid_operations valid_sign ValidEqual valid_ordered (x, p) (y, q) (z, k);
  total = λ x y p q. total valid_operations valid_sign ValidEqual valid_ordered (x, p) (y, q);
  antisymmetric = λ x y p q. antisymmetric valid_operations valid_sign ValidEqual valid_ordered (x, p) (y, q);
  kept-by-sum = λ x y z p q k. kept_by_sum valid_operations valid_sign ValidEqual valid_ordered (x, p) (y, q) (z, k);
  kept-by-product = λ x y z p q k. kept_by_product valid_operations valid_sign ValidEqual valid_ordered (x, p) (y, q) (z, k);
}

-- the order of elements and of numbers
pub order_laws : OrderLaws
order_laws = record { over-tower = λ n t h. order_over t h; of-numbers = order_of_numbers }

-- the signs of sums
pub sum_laws : SumLaws
sum_laws = record {
  over-tower = λ n t h x y. sum_in_words (sign t x) (sign t y) (sign t ((operations t).add x y)) ((ordered t h).sign-add x y);
  of-numbers = λ x y p q. sum_in_words (sign_of x) (sign_of y) (sign_of (add x y)) (valid_ordered.sign-add (x, p) (y, q));
}

-- the signs of products
pub product_laws : ProductLaws
product_laws = record {
  over-tower = λ n t h x y. (ordered t h).sign-mul x y;
  of-numbers = λ x y p q. valid_ordered.sign-mul (x, p) (y, q);
  one-over-tower = λ n t h. (ordered t h).sign-one;
  one-of-numbers = refl;
  negative-over-tower = λ n t h x. (ordered t h).sign-neg x;
  negative-of-numbers = λ x p. valid_ordered.sign-neg (x, p);
}

-- numbers over one tower read there as their elements
module _ {n : ℕ} (t : Tower n) (h : IsTower t) (x y : Element n) where
  at_x : Reads t (number t x) x
  at_x = reads-self (number t x) h

  at_y : Reads t (number t y) y
  at_y = reads-self (number t y) h

  equal_over : EqualOver t x y → Equal (number t x) (number t y)
  equal_over e = reads-equal t h (number t x) (number t y) x y h h at_x at_y e

  sum_over : Equal (add (number t x) (number t y)) (number t ((operations t).add x y))
  sum_over = reads-equal t h (add (number t x) (number t y)) (number t sum) sum sum (joined t h t h).0 h
      (reads-add t h (number t x) (number t y) x y h h at_x at_y) (reads-self (number t sum) h) ((ring_of t h).same sum)
    where
      sum : Element n
      sum = (operations t).add x y

  product_over : Equal (mul (number t x) (number t y)) (number t ((operations t).mul x y))
  product_over = reads-equal t h (mul (number t x) (number t y)) (number t product) product product (joined t h t h).0 h
      (reads-mul t h (number t x) (number t y) x y h h at_x at_y) (reads-self (number t product) h) ((ring_of t h).same product)
    where
      product : Element n
      product = (operations t).mul x y

-- maps between towers, and equal numbers
pub carry_laws : CarryLaws
carry_laws = record {
  joined = λ n m t u p q. (joined t p u q).0;
  lifted = λ n m t u p q. lift_map t p u q;
  carried = λ n m t u p q. (joined t p u q).1;
  one-way = λ n m t u p q f g F G x. one_map t p u q f g F G x;
  equal-sums = ring_laws.of-numbers.add-same;
  equal-products = ring_laws.of-numbers.mul-same;
  equal-negatives = ring_laws.of-numbers.neg-same;
  equal-signs = numbers_ordered.sign-same;
  equal-over-tower = λ n t h x y. equal_over t h x y;
  sum-over-tower = λ n t h x y. sum_over t h x y;
  product-over-tower = λ n t h x y. product_over t h x y;
}
