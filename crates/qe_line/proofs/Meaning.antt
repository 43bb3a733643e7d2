-- A map that keeps the operations, such as the value of polynomials at a point, keeps expressions, and so the signs at roots.
use Rattle.std.proofs.Common.{◌≡◌, ℕ, zero, suc, ℤ, pos, negsuc, List, [], ◌∷◌, map}
use Rattle.qe_ring.specs.Ring.{Operations, IsRing}
use Rattle.qe_ring.specs.Expression.{Expression, var, nought, unit, constant, of_nat, of_int, ◌⊕◌, ⊖◌, ◌⊗◌, entry, value}
use Rattle.qe_ring.specs.Sign.{Sign}
use Rattle.qe_ring.specs.Ordered.{EqualBySign}
use Rattle.qe_line.specs.Field.{IsEuclideanField}
use Rattle.qe_line.specs.Quadratic.{quadratic, plain_part}

-- the map keeps the operations, up to an equality
pub record Means {Q C : Type 0} (k : Operations Q) (o : Operations C) (E : C → C → Type 0) (f : Q → C) : Type 0 where
  pub zero : E (f k.zero) o.zero
  pub one : E (f k.one) o.one
  pub add : (a b : Q) → E (f (k.add a b)) (o.add (f a) (f b))
  pub neg : (a : Q) → E (f (k.neg a)) (o.neg (f a))
  pub mul : (a b : Q) → E (f (k.mul a b)) (o.mul (f a) (f b))

module _ {Q C : Type 0} (k : Operations Q) (o : Operations C) (E : C → C → Type 0) (f : Q → C) (M : Means k o E f) (R : IsRing o E) where
  entry_means : (xs : List Q) (n : ℕ) → E (f (entry k.zero xs n)) (entry o.zero (map f xs) n)
  entry_means [] n = M.zero
  entry_means (x ∷ xs) zero = R.same (f x)
  entry_means (x ∷ xs) (suc n) = entry_means xs n

  nat_means : (n : ℕ) → E (f (of_nat k n)) (of_nat o n)
  nat_means zero = M.zero
  nat_means (suc n) = R.then (f (k.add (of_nat k n) k.one)) (o.add (f (of_nat k n)) (f k.one)) (o.add (of_nat o n) o.one)
      (M.add (of_nat k n) k.one) (R.add-same (f (of_nat k n)) (of_nat o n) (f k.one) o.one (nat_means n) M.one)

  int_means : (z : ℤ) → E (f (of_int k z)) (of_int o z)
  int_means (pos n) = nat_means n
  int_means (negsuc n) = R.then (f (k.neg (of_nat k (suc n)))) (o.neg (f (of_nat k (suc n)))) (o.neg (of_nat o (suc n)))
      (M.neg (of_nat k (suc n))) (R.neg-same (f (of_nat k (suc n))) (of_nat o (suc n)) (nat_means (suc n)))

  -- the image of an expression's value is the value at the images
  pub means : (xs : List Q) (e : Expression) → E (f (value k xs e)) (value o (map f xs) e)
  means xs (var n) = entry_means xs n
  means xs nought = M.zero
  means xs unit = M.one
  means xs (constant z) = int_means z
  means xs (a ⊕ b) = R.then (f (k.add (value k xs a) (value k xs b))) (o.add (f (value k xs a)) (f (value k xs b)))
      (o.add (value o (map f xs) a) (value o (map f xs) b)) (M.add (value k xs a) (value k xs b))
      (R.add-same (f (value k xs a)) (value o (map f xs) a) (f (value k xs b)) (value o (map f xs) b) (means xs a) (means xs b))
  means xs (⊖ a) = R.then (f (k.neg (value k xs a))) (o.neg (f (value k xs a))) (o.neg (value o (map f xs) a))
      (M.neg (value k xs a)) (R.neg-same (f (value k xs a)) (value o (map f xs) a) (means xs a))
  means xs (a ⊗ b) = R.then (f (k.mul (value k xs a) (value k xs b))) (o.mul (f (value k xs a)) (f (value k xs b)))
      (o.mul (value o (map f xs) a) (value o (map f xs) b)) (M.mul (value k xs a) (value k xs b))
      (R.mul-same (f (value k xs a)) (value o (map f xs) a) (f (value k xs b)) (value o (map f xs) b) (means xs a) (means xs b))

module _ {Q C : Type 0} (k : Operations Q) {o : Operations C} {s : C → Sign} (F : IsEuclideanField o s) (f : Q → C) (M : Means k o (EqualBySign o s) f) where
  open F use {ordered}

  -- A, made by the operations of the one and by those of the other, has one sign
  pub plain_part_means : (a b c p q r d : Q) → s (f (plain_part k a b c p q r d)) ≡ s (plain_part o (f a) (f b) (f c) (f p) (f q) (f r) (f d))
  plain_part_means a b c p q r d = ordered.sign-same (f (plain_part k a b c p q r d)) (plain_part o (f a) (f b) (f c) (f p) (f q) (f r) (f d))
      (means k o (EqualBySign o s) f M ordered.ring (a ∷ b ∷ c ∷ p ∷ q ∷ r ∷ d ∷ [])
      (var 0 ⊗ (var 3 ⊗ var 3 ⊕ var 4 ⊗ var 4 ⊗ var 5) ⊕ var 1 ⊗ var 3 ⊗ var 6 ⊕ var 2 ⊗ (var 6 ⊗ var 6)))

  -- and so the polynomial
  pub quadratic_means : (a b c x : Q) → s (f (quadratic k a b c x)) ≡ s (quadratic o (f a) (f b) (f c) (f x))
  quadratic_means a b c x = ordered.sign-same (f (quadratic k a b c x)) (quadratic o (f a) (f b) (f c) (f x))
      (means k o (EqualBySign o s) f M ordered.ring (a ∷ b ∷ c ∷ x ∷ []) (var 0 ⊗ (var 3 ⊗ var 3) ⊕ var 1 ⊗ var 3 ⊕ var 2))
