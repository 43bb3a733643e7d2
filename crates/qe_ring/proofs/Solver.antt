-- Equal normal forms have equal values, in every ring: identities of rings by computing.
use Rattle.std.proofs.Common.{◌≡◌, ℕ, zero, suc, ◌+◌, ◌*◌, Bool, true, false, cond, T, leb, eqb, eqb→eq, List, [], ◌∷◌, refl, sym, ap, ap₂, subst, ℤ, pos, negsuc, ◌+ℤ◌, ◌*ℤ◌, neg_ℤ, arith, zero-add, suc-add, zero-mul, suc-mul}
use borrow.Author.Differences.{up, down, sum_is_lem, product_is, neg_is}
use Rattle.qe_ring.proofs.Bools.{and_left, and_right}
use Rattle.qe_ring.specs.Ring.{Operations, IsRing}
use Rattle.qe_ring.specs.Expression.{Expression, var, nought, unit, constant, ◌⊕◌, ◌⊝◌, ⊖◌, ◌⊗◌, of_nat, of_int, entry, value, Term, term, same_list, less_list, is_zero, put_var, times_list, kept, put, plus, minus, scale, times, normal}

same_list-eq : (xs ys : List ℕ) → T (same_list xs ys) → xs ≡ ys
same_list-eq [] [] h = refl
same_list-eq [] (y ∷ ys) h = absurd h
same_list-eq (x ∷ xs) [] h = absurd h
same_list-eq (x ∷ xs) (y ∷ ys) h = ap₂ ◌∷◌ (eqb→eq x y (and_left (eqb x y) (same_list xs ys) h))
    (same_list-eq xs ys (and_right (eqb x y) (same_list xs ys) h))

cases : {A : Type 0} (P : A → Type 0) (b : Bool) (x y : A) → (T b → P x) → P y → P (cond b x y)
cases P true x y p q = p tt
cases P false x y p q = q

is_zero-eq : (z : ℤ) → T (is_zero z) → z ≡ pos 0
is_zero-eq (pos zero) h = refl
is_zero-eq (pos (suc n)) h = absurd h
is_zero-eq (negsuc n) h = absurd h

module _ {C : Type 0} (o : Operations C) (E : C → C → Type 0) (R : IsRing o E) where
  open o use {one, add, neg, mul}

  -- the ring's zero, beside that of ℕ
  abbrev nil : C
  nil = o.zero

  open R use {same, back, add-same, neg-same, mul-same, add-assoc, add-comm, add-zero, add-neg, mul-assoc, mul-comm, mul-one, mul-add}

  infixr 5 ◌▸◌
  ◌▸◌ : {a b c : C} → E a b → E b c → E a c
  ◌▸◌ {a} {b} {c} p q = R.then a b c p q

  rev : {a b : C} → E a b → E b a
  rev {a} {b} p = back a b p

  add₂ : {a b c d : C} → E a b → E c d → E (add a c) (add b d)
  add₂ {a} {b} {c} {d} p q = add-same a b c d p q

  mul₂ : {a b c d : C} → E a b → E c d → E (mul a c) (mul b d)
  mul₂ {a} {b} {c} {d} p q = mul-same a b c d p q

  neg₁ : {a b : C} → E a b → E (neg a) (neg b)
  neg₁ {a} {b} p = neg-same a b p

  nil-add : (a : C) → E (add nil a) a
  nil-add a = add-comm nil a ▸ add-zero a

  one-mul : (a : C) → E (mul one a) a
  one-mul a = mul-comm one a ▸ mul-one a

  -- x + a = y + a gives x = y
  add_cancel : (x y a : C) → E (add x a) (add y a) → E x y
  add_cancel x y a h = rev (undo x) ▸ add₂ h (same (neg a)) ▸ undo y
    where
      undo : (z : C) → E (add (add z a) (neg a)) z
      undo z = add-assoc z a (neg a) ▸ add₂ (same z) (add-neg a) ▸ add-zero z

  add-mul : (a b c : C) → E (mul (add a b) c) (add (mul a c) (mul b c))
  add-mul a b c = mul-comm (add a b) c ▸ mul-add c a b ▸ add₂ (mul-comm c a) (mul-comm c b)

  mul-nil : (a : C) → E (mul a nil) nil
  mul-nil a = add_cancel (mul a nil) nil (mul a nil) (rev (mul-add a nil nil) ▸ mul₂ (same a) (add-zero nil) ▸ rev (nil-add (mul a nil)))

  nil-mul : (a : C) → E (mul nil a) nil
  nil-mul a = mul-comm nil a ▸ mul-nil a

  neg-add_self : (a : C) → E (add (neg a) a) nil
  neg-add_self a = add-comm (neg a) a ▸ add-neg a

  neg_unique : (a b : C) → E (add a b) nil → E (neg b) a
  neg_unique a b h = add_cancel (neg b) a b (neg-add_self b ▸ rev h)

  neg-neg : (a : C) → E (neg (neg a)) a
  neg-neg a = neg_unique a (neg a) (add-neg a)

  neg-nil : E (neg nil) nil
  neg-nil = neg_unique nil nil (add-zero nil)

  mul-neg : (a b : C) → E (mul a (neg b)) (neg (mul a b))
  mul-neg a b = rev (neg_unique (mul a (neg b)) (mul a b) (rev (mul-add a (neg b) b) ▸ mul₂ (same a) (neg-add_self b) ▸ mul-nil a))

  neg-mul : (a b : C) → E (mul (neg a) b) (neg (mul a b))
  neg-mul a b = mul-comm (neg a) b ▸ mul-neg b a ▸ neg₁ (mul-comm b a)

  swap_middle : (a b c d : C) → E (add (add a b) (add c d)) (add (add a c) (add b d))
  swap_middle a b c d = add-assoc a b (add c d) ▸ add₂ (same a) (rev (add-assoc b c d) ▸ add₂ (add-comm b c) (same d) ▸ add-assoc c b d)
      ▸ rev (add-assoc a c (add b d))

  neg-add : (a b : C) → E (neg (add a b)) (add (neg a) (neg b))
  neg-add a b = neg_unique (add (neg a) (neg b)) (add a b) (swap_middle (neg a) (neg b) a b ▸ add₂ (neg-add_self a) (neg-add_self b) ▸ add-zero nil)

  -- a + (b + c) = b + (a + c)
  past : (a b c : C) → E (add a (add b c)) (add b (add a c))
  past a b c = rev (add-assoc a b c) ▸ add₂ (add-comm a b) (same c) ▸ add-assoc b a c

  past_mul : (a b c : C) → E (mul a (mul b c)) (mul b (mul a c))
  past_mul a b c = rev (mul-assoc a b c) ▸ mul₂ (mul-comm a b) (same c) ▸ mul-assoc b a c

  same_of_eq : {x y : C} → x ≡ y → E x y
  same_of_eq {x} {y} p = subst (λ z. E x z) p (same x)

  -- a + d = c + b gives a - b = c - d
  cross : (a b c d : C) → E (add a d) (add c b) → E (add a (neg b)) (add c (neg d))
  cross a b c d h = add_cancel (add a (neg b)) (add c (neg d)) (add b d) (undo a b d ▸ h ▸ rev (add₂ (same (add c (neg d))) (add-comm b d) ▸ undo c d b))
    where
      -- (a - b) + (b + d) = a + d
      undo : (a b d : C) → E (add (add a (neg b)) (add b d)) (add a d)
      undo a b d = add-assoc a (neg b) (add b d) ▸ add₂ (same a) (rev (add-assoc (neg b) b d) ▸ add₂ (neg-add_self b) (same d) ▸ nil-add d)

  -- the whole numbers
  pub of_nat-add : (m n : ℕ) → E (of_nat o (m + n)) (add (of_nat o m) (of_nat o n))
  of_nat-add zero n = same_of_eq (ap (of_nat o) (zero-add n)) ▸ rev (nil-add (of_nat o n))
  of_nat-add (suc m) n = same_of_eq (ap (of_nat o) (suc-add m n)) ▸ add₂ (of_nat-add m n) (same one)
      ▸ add-assoc (of_nat o m) (of_nat o n) one ▸ add₂ (same (of_nat o m)) (add-comm (of_nat o n) one) ▸ rev (add-assoc (of_nat o m) one (of_nat o n))

  pub of_nat-mul : (m n : ℕ) → E (of_nat o (m * n)) (mul (of_nat o m) (of_nat o n))
  of_nat-mul zero n = same_of_eq (ap (of_nat o) (zero-mul n)) ▸ rev (nil-mul (of_nat o n))
  of_nat-mul (suc m) n = same_of_eq (ap (of_nat o) (suc-mul m n)) ▸ of_nat-add (m * n) n ▸ add₂ (of_nat-mul m n) (rev (one-mul (of_nat o n)))
      ▸ rev (add-mul (of_nat o m) one (of_nat o n))

  -- an integer is a difference of two naturals
  of_int-parts : (z : ℤ) → E (of_int o z) (add (of_nat o (up z)) (neg (of_nat o (down z))))
  of_int-parts (pos n) = rev (add₂ (same (of_nat o n)) neg-nil ▸ add-zero (of_nat o n))
  of_int-parts (negsuc n) = rev (nil-add (neg (of_nat o (suc n))))

  of_int-by : (z : ℤ) (m n : ℕ) → up z + n ≡ m + down z → E (of_int o z) (add (of_nat o m) (neg (of_nat o n)))
  of_int-by z m n h = of_int-parts z ▸ cross (of_nat o (up z)) (of_nat o (down z)) (of_nat o m) (of_nat o n) (rev (of_nat-add (up z) n)
      ▸ same_of_eq (ap (of_nat o) h) ▸ of_nat-add m (down z))

  -- they keep sums, products and negatives
  pub of_int-add : (a b : ℤ) → E (of_int o (a +ℤ b)) (add (of_int o a) (of_int o b))
  of_int-add a b = of_int-by (a +ℤ b) (up a + up b) (down a + down b) (omega (arith, sum_is_lem a b))
      ▸ add₂ (of_nat-add (up a) (up b)) (neg₁ (of_nat-add (down a) (down b)) ▸ neg-add (of_nat o (down a)) (of_nat o (down b)))
      ▸ swap_middle (of_nat o (up a)) (of_nat o (up b)) (neg (of_nat o (down a))) (neg (of_nat o (down b)))
      ▸ rev (add₂ (of_int-parts a) (of_int-parts b))

  -- (x - y) * (u - v) = (x*u + y*v) - (x*v + y*u)
  product_of_differences : (x y u v : C) → E (mul (add x (neg y)) (add u (neg v))) (add (add (mul x u) (mul y v)) (neg (add (mul x v) (mul y u))))
  product_of_differences x y u v =
      add-mul x (neg y) (add u (neg v))
      ▸ add₂ (mul-add x u (neg v) ▸ add₂ (same (mul x u)) (mul-neg x v))
      (neg-mul y (add u (neg v)) ▸ neg₁ (mul-add y u (neg v) ▸ add₂ (same (mul y u)) (mul-neg y v)) ▸ neg-add (mul y u) (neg (mul y v))
      ▸ add₂ (same (neg (mul y u))) (neg-neg (mul y v)) ▸ add-comm (neg (mul y u)) (mul y v))
      ▸ swap_middle (mul x u) (neg (mul x v)) (mul y v) (neg (mul y u))
      ▸ add₂ (same (add (mul x u) (mul y v))) (rev (neg-add (mul x v) (mul y u)))

  pub of_int-mul : (a b : ℤ) → E (of_int o (a *ℤ b)) (mul (of_int o a) (of_int o b))
  of_int-mul a b = of_int-by (a *ℤ b) (up a * up b + down a * down b) (up a * down b + down a * up b) (ap₂ ◌+◌ (product_is a b).0 (sym (product_is a b).1))
      ▸ add₂ (of_nat-add (up a * up b) (down a * down b) ▸ add₂ (of_nat-mul (up a) (up b)) (of_nat-mul (down a) (down b)))
      (neg₁ (of_nat-add (up a * down b) (down a * up b) ▸ add₂ (of_nat-mul (up a) (down b)) (of_nat-mul (down a) (up b))))
      ▸ rev (product_of_differences (of_nat o (up a)) (of_nat o (down a)) (of_nat o (up b)) (of_nat o (down b)))
      ▸ rev (mul₂ (of_int-parts a) (of_int-parts b))

  pub of_int-neg : (a : ℤ) → E (of_int o (neg_ℤ a)) (neg (of_int o a))
  of_int-neg a = of_int-by (neg_ℤ a) (down a) (up a) (ap₂ ◌+◌ (neg_is a).0 (sym (neg_is a).1))
      ▸ rev (neg₁ (of_int-parts a) ▸ neg-add (of_nat o (up a)) (neg (of_nat o (down a)))
      ▸ add₂ (same (neg (of_nat o (up a)))) (neg-neg (of_nat o (down a))) ▸ add-comm (neg (of_nat o (up a))) (of_nat o (down a)))

  -- the values of normal forms
  prod : List C → List ℕ → C
  prod point [] = one
  prod point (x ∷ xs) = mul (entry nil point x) (prod point xs)

  total : List C → List Term → C
  total point [] = nil
  total point (term c m ∷ ts) = add (mul (of_int o c) (prod point m)) (total point ts)

  put_var-is : (point : List C) (x : ℕ) (m : List ℕ) → E (prod point (put_var x m)) (mul (entry nil point x) (prod point m))
  unfolding prod
  put_var-is point x [] = same (mul (entry nil point x) one)
  put_var-is point x (y ∷ ys) = cases (λ m. E (prod point m) (mul (entry nil point x) (prod point (y ∷ ys)))) (leb x y) (x ∷ y ∷ ys) (y ∷ put_var x ys)
      (λ h. same (mul (entry nil point x) (mul (entry nil point y) (prod point ys))))
      (mul₂ (same (entry nil point y)) (put_var-is point x ys) ▸ past_mul (entry nil point y) (entry nil point x) (prod point ys))

  times_list-is : (point : List C) (m n : List ℕ) → E (prod point (times_list m n)) (mul (prod point m) (prod point n))
  unfolding prod
  times_list-is point [] n = rev (one-mul (prod point n))
  times_list-is point (x ∷ xs) n = put_var-is point x (times_list xs n) ▸ mul₂ (same (entry nil point x)) (times_list-is point xs n)
      ▸ rev (mul-assoc (entry nil point x) (prod point xs) (prod point n))

  kept-is : (point : List C) (c : ℤ) (m : List ℕ) (ts : List Term) → E (total point (kept c m ts)) (add (mul (of_int o c) (prod point m)) (total point ts))
  unfolding total
  kept-is point c m ts = cases (λ us. E (total point us) (add (mul (of_int o c) (prod point m)) (total point ts))) (is_zero c) ts (term c m ∷ ts)
      (λ h. rev (add₂ (mul₂ (same_of_eq (ap (of_int o) (is_zero-eq c h))) (same (prod point m)) ▸ nil-mul (prod point m)) (same (total point ts))
      ▸ nil-add (total point ts)))
      (same (add (mul (of_int o c) (prod point m)) (total point ts)))

  put-is : (point : List C) (c : ℤ) (m : List ℕ) (ts : List Term) → E (total point (put c m ts)) (add (mul (of_int o c) (prod point m)) (total point ts))
  unfolding total
  put-is point c m [] = kept-is point c m []
  put-is point c m (term d n ∷ ts) = cases (λ us. E (total point us) goal) (same_list m n) (kept (c +ℤ d) n ts)
      (cond (less_list m n) (kept c m (term d n ∷ ts)) (term d n ∷ put c m ts))
      (λ h. kept-is point (c +ℤ d) n ts ▸ add₂ (mul₂ (of_int-add c d) (same (prod point n)) ▸ add-mul (of_int o c) (of_int o d) (prod point n))
      (same (total point ts))
      ▸ add-assoc (mul (of_int o c) (prod point n)) (mul (of_int o d) (prod point n)) (total point ts)
      ▸ add₂ (mul₂ (same (of_int o c)) (same_of_eq (ap (prod point) (sym (same_list-eq m n h)))))
      (same (add (mul (of_int o d) (prod point n)) (total point ts))))
      (cases (λ us. E (total point us) goal) (less_list m n) (kept c m (term d n ∷ ts)) (term d n ∷ put c m ts)
      (λ h. kept-is point c m (term d n ∷ ts))
      (add₂ (same (mul (of_int o d) (prod point n))) (put-is point c m ts)
      ▸ past (mul (of_int o d) (prod point n)) (mul (of_int o c) (prod point m)) (total point ts)))
    where
      goal : C
      goal = add (mul (of_int o c) (prod point m)) (add (mul (of_int o d) (prod point n)) (total point ts))

  plus-is : (point : List C) (ss ts : List Term) → E (total point (plus ss ts)) (add (total point ss) (total point ts))
  unfolding total
  plus-is point [] ts = rev (nil-add (total point ts))
  plus-is point (term c m ∷ ss) ts = put-is point c m (plus ss ts) ▸ add₂ (same (mul (of_int o c) (prod point m))) (plus-is point ss ts)
      ▸ rev (add-assoc (mul (of_int o c) (prod point m)) (total point ss) (total point ts))

  minus-is : (point : List C) (ts : List Term) → E (total point (minus ts)) (neg (total point ts))
  unfolding total
  minus-is point [] = rev neg-nil
  minus-is point (term c m ∷ ts) = add₂ (mul₂ (of_int-neg c) (same (prod point m)) ▸ neg-mul (of_int o c) (prod point m)) (minus-is point ts)
      ▸ rev (neg-add (mul (of_int o c) (prod point m)) (total point ts))

  scale-is : (point : List C) (c : ℤ) (m : List ℕ) (ts : List Term) → E (total point (scale c m ts)) (mul (mul (of_int o c) (prod point m)) (total point ts))
  unfolding total
  scale-is point c m [] = rev (mul-nil (mul (of_int o c) (prod point m)))
  scale-is point c m (term d n ∷ ts) =
      put-is point (c *ℤ d) (times_list m n) (scale c m ts)
      ▸ add₂ (mul₂ (of_int-mul c d) (times_list-is point m n) ▸ four (of_int o c) (of_int o d) (prod point m) (prod point n)) (scale-is point c m ts)
      ▸ rev (mul-add (mul (of_int o c) (prod point m)) (mul (of_int o d) (prod point n)) (total point ts))
    where
      four : (a b x y : C) → E (mul (mul a b) (mul x y)) (mul (mul a x) (mul b y))
      four a b x y = mul-assoc a b (mul x y) ▸ mul₂ (same a) (past_mul b x y) ▸ rev (mul-assoc a x (mul b y))

  times-is : (point : List C) (ss ts : List Term) → E (total point (times ss ts)) (mul (total point ss) (total point ts))
  unfolding total
  times-is point [] ts = rev (nil-mul (total point ts))
  times-is point (term c m ∷ ss) ts = plus-is point (scale c m ts) (times ss ts) ▸ add₂ (scale-is point c m ts) (times-is point ss ts)
      ▸ rev (add-mul (mul (of_int o c) (prod point m)) (total point ss) (total point ts))

  one-times : (x : C) → E (mul (add nil one) x) x
  one-times x = mul₂ (nil-add one) (same x) ▸ one-mul x

  normal-is : (point : List C) (e : Expression) → E (total point (normal e)) (value o point e)
  unfolding total prod
  normal-is point (var x) = add-zero (mul (add nil one) (mul (entry nil point x) one)) ▸ one-times (mul (entry nil point x) one) ▸ mul-one (entry nil point x)
  normal-is point nought = same nil
  normal-is point unit = add-zero (mul (add nil one) one) ▸ one-times one
  normal-is point (constant z) = kept-is point z [] [] ▸ add-zero (mul (of_int o z) one) ▸ mul-one (of_int o z)
  normal-is point (a ⊕ b) = plus-is point (normal a) (normal b) ▸ add₂ (normal-is point a) (normal-is point b)
  normal-is point (⊖ a) = minus-is point (normal a) ▸ neg₁ (normal-is point a)
  normal-is point (a ⊗ b) = times-is point (normal a) (normal b) ▸ mul₂ (normal-is point a) (normal-is point b)

  -- what is nil by computation is nil
  vanishes : (point : List C) (e : Expression) → normal e ≡ [] → E (value o point e) nil
  unfolding total
  vanishes point e h = rev (normal-is point e) ▸ same_of_eq (ap (total point) h)

  -- an identity of rings: where the difference has the empty normal form, by `refl`, the two sides have one value
  pub solve : (point : List C) (a b : Expression) → normal (a ⊝ b) ≡ [] → E (value o point a) (value o point b)
  solve point a b h = add_cancel (value o point a) (value o point b) (neg (value o point b)) (vanishes point (a ⊝ b) h ▸ rev (add-neg (value o point b)))
