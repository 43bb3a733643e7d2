-- Expressions over a ring, what they stand for, and their normal form.
use Rattle.std.specs.Prelude.{ℕ, zero, suc, Bool, true, false, cond, ◌&&◌, leb, ltb, eqb, List, [], ◌∷◌, ℤ, pos, negsuc, ◌+ℤ◌, ◌*ℤ◌, neg_ℤ}
use Rattle.qe_ring.specs.Ring.{Operations}

infixl 6 ◌⊕◌
infixl 6 ◌⊝◌
infixl 7 ◌⊗◌
infixl 9 ⊖◌
-- variables by their number, the ring's zero and one, whole numbers, sums, negatives and products
pub data Expression : Type 0 where
  var : ℕ → Expression
  nought : Expression
  unit : Expression
  constant : ℤ → Expression
  ◌⊕◌ : Expression → Expression → Expression
  ⊖◌ : Expression → Expression
  ◌⊗◌ : Expression → Expression → Expression

abbrev pub ◌⊝◌ : Expression → Expression → Expression
a ⊝ b = a ⊕ ⊖ b

-- a whole number in a ring: so many ones, or the negative of that
abbrev pub of_nat : {C : Type 0} → Operations C → ℕ → C
of_nat o zero = o.zero
of_nat o (suc n) = o.add (of_nat o n) o.one

abbrev pub of_int : {C : Type 0} → Operations C → ℤ → C
of_int o (pos n) = of_nat o n
of_int o (negsuc n) = o.neg (of_nat o (suc n))

-- the entry at an index of a list, and a default past its end
abbrev pub entry : {C : Type 0} → C → List C → ℕ → C
entry default [] n = default
entry default (x ∷ xs) zero = x
entry default (x ∷ xs) (suc n) = entry default xs n

-- what an expression stands for, where the variables have the values of a list
abbrev pub value : {C : Type 0} → Operations C → List C → Expression → C
value o point (var x) = entry o.zero point x
value o point nought = o.zero
value o point unit = o.one
value o point (constant z) = of_int o z
value o point (a ⊕ b) = o.add (value o point a) (value o point b)
value o point (⊖ a) = o.neg (value o point a)
value o point (a ⊗ b) = o.mul (value o point a) (value o point b)

-- A normal form is a sorted list of terms, each a coefficient that is not zero and a sorted list of variables.
-- Expressions with one normal form have one value in every ring.
pub data Term : Type 0 where
  term : ℤ → List ℕ → Term

abbrev pub same_list : List ℕ → List ℕ → Bool
same_list [] [] = true
same_list [] (y ∷ ys) = false
same_list (x ∷ xs) [] = false
same_list (x ∷ xs) (y ∷ ys) = eqb x y && same_list xs ys

abbrev pub less_list : List ℕ → List ℕ → Bool
less_list [] ys = true
less_list (x ∷ xs) [] = false
less_list (x ∷ xs) (y ∷ ys) = cond (eqb x y) (less_list xs ys) (ltb x y)

abbrev pub is_zero : ℤ → Bool
is_zero (pos zero) = true
is_zero (pos (suc n)) = false
is_zero (negsuc n) = false

-- the product of a variable and a monomial
abbrev pub put_var : ℕ → List ℕ → List ℕ
put_var x [] = x ∷ []
put_var x (y ∷ ys) = cond (leb x y) (x ∷ y ∷ ys) (y ∷ put_var x ys)

-- the product of two monomials
abbrev pub times_list : List ℕ → List ℕ → List ℕ
times_list [] ys = ys
times_list (x ∷ xs) ys = put_var x (times_list xs ys)

-- a term before the others, unless its coefficient is zero
abbrev pub kept : ℤ → List ℕ → List Term → List Term
kept c m ts = cond (is_zero c) ts (term c m ∷ ts)

-- the sum of a term and others
abbrev pub put : ℤ → List ℕ → List Term → List Term
put c m [] = kept c m []
put c m (term d n ∷ ts) =
    cond (same_list m n) (kept (c +ℤ d) n ts)
    (cond (less_list m n) (kept c m (term d n ∷ ts)) (term d n ∷ put c m ts))

abbrev pub plus : List Term → List Term → List Term
plus [] ts = ts
plus (term c m ∷ ss) ts = put c m (plus ss ts)

abbrev pub minus : List Term → List Term
minus [] = []
minus (term c m ∷ ts) = term (neg_ℤ c) m ∷ minus ts

-- the product of a term and others
abbrev pub scale : ℤ → List ℕ → List Term → List Term
scale c m [] = []
scale c m (term d n ∷ ts) = put (c *ℤ d) (times_list m n) (scale c m ts)

abbrev pub times : List Term → List Term → List Term
times [] ts = []
times (term c m ∷ ss) ts = plus (scale c m ts) (times ss ts)

abbrev pub normal : Expression → List Term
normal (var x) = term (pos 1) (x ∷ []) ∷ []
normal nought = []
normal unit = term (pos 1) [] ∷ []
normal (constant z) = kept z [] []
normal (a ⊕ b) = plus (normal a) (normal b)
normal (⊖ a) = minus (normal a)
normal (a ⊗ b) = times (normal a) (normal b)
