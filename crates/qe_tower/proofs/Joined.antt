-- Maps between towers: there is one at most; lifting and carrying are such maps, and two of them come together over the joined tower.
use Rattle.std.proofs.Common.{◌≡◌, ℕ, zero, suc, ℤ, pos, negsuc, List, [], ◌∷◌, refl, sym, ap, subst, ◌∙◌, add-one}
use Rattle.qe_ring.specs.Ring.{IsRing}
use Rattle.qe_ring.specs.Sign.{IsNotMinus, int_sign}
use Rattle.qe_ring.specs.Ordered.{EqualBySign, int_operations}
use Rattle.qe_ring.specs.Expression.{Expression, var, nought, unit, ◌⊕◌, ◌⊝◌, ⊖◌, ◌⊗◌, value, normal}
use Rattle.qe_ring.proofs.Hypotheses.{Given, fact, pull, All_given, solve_by}
use Rattle.qe_ring.proofs.Signs.{same_sign, sign-zero}
use Rattle.qe_ring.proofs.Ints.{int_ordered, plus_of_positive}
use Rattle.qe_ring.proofs.Equal.{by_ring, equal_ring, equal_sign}
use Rattle.qe_ring.proofs.Roots.{one_root, cancel}
use Rattle.qe_tower.specs.Fraction.{Fraction, whole, fraction_operations, fraction_sign}
use Rattle.qe_tower.specs.Element.{Element, Tower, bare, over, operations}
use Rattle.qe_tower.specs.Sign.{sign, IsTower, EqualOver}
use Rattle.qe_tower.specs.Number.{more, at_height, lift, carry, join}
use Rattle.qe_tower.specs.Map.{IsMap}
use Rattle.qe_tower.proofs.Towers.{Alike, ordered}
use Rattle.qe_tower.proofs.Field.{parts_equal, root_squared, root_sign}
use Rattle.qe_tower.proofs.Keeping.{keeps-same, composed, lifts, onto_keeps}

-- the ring over a tower, up to the sign of the difference
pub ring_of : {n : ℕ} (t : Tower n) → IsTower t → IsRing (operations t) (EqualOver t)
ring_of {n} t h = equal_ring (operations t) (sign t) (Alike n) (ordered t h)

-- the solver with hypotheses over a tower
pub solve_over : {n : ℕ} (t : Tower n) (h : IsTower t) (point : List (Element n)) (gs : List Given) (a b : Expression)
    → All_given (operations t) (EqualOver t) (ring_of t h) point gs → normal (a ⊝ (b ⊕ pull gs)) ≡ []
    → EqualOver t (value (operations t) point a) (value (operations t) point b)
solve_over t h point gs a b k e = solve_by (operations t) (EqualOver t) (ring_of t h) point gs a b k e

-- a map keeps equality
pub keeps_equal : {n m : ℕ} (t : Tower n) (u : Tower m) (hu : IsTower u) (f : Element n → Element m) → IsMap t u f → (a b : Element n) → EqualOver t a b
    → EqualOver u (f a) (f b)
keeps_equal {n} {m} t u hu f K a b e = keeps-same (operations t) (sign t) (operations u) (sign u) (Alike m) (ordered u hu) f K a b e

-- equal elements have one sign
pub equal_signs_over : {n : ℕ} (t : Tower n) (h : IsTower t) (a b : Element n) → EqualOver t a b → sign t a ≡ sign t b
equal_signs_over {n} t h a b e = equal_sign (operations t) (sign t) (Alike n) (ordered t h) a b e

-- maps compose
pub composed_map : {k n m : ℕ} (s : Tower k) (t : Tower n) (u : Tower m) (hu : IsTower u) (g : Element k → Element n) (f : Element n → Element m)
    → IsMap s t g → IsMap t u f → IsMap s u (λ x. f (g x))
composed_map {k} {n} {m} s t u hu g f G K = composed (operations s) (sign s) (operations t) (sign t) (operations u) (sign u) (Alike m) (ordered u hu) g f G K

-- zero at a height
zero_is : {n : ℕ} (t : Tower n) → (operations t).zero ≡ at_height n (whole (pos 0))
zero_is bare = refl
zero_is (over t r) = λ i. (zero_is t i, zero_is t i)

lift_one : {n : ℕ} (t : Tower n) (h : IsTower t) (r : Element n) (k : IsNotMinus (sign t r)) → IsMap t (over t r) (λ a. (a, at_height n (whole (pos 0))))
lift_one {n} t h r k = subst (λ z. IsMap t (over t r) (λ a. (a, z))) (zero_is t) (lifts (operations t) (sign t) (Alike n) (ordered t h) r k)

-- a map that is equal to one everywhere
keeps_like : {n m : ℕ} (t : Tower n) (u : Tower m) (hu : IsTower u) (f g : Element n → Element m) → IsMap t u f
    → ((x : Element n) → EqualOver u (g x) (f x)) → IsMap t u g
keeps_like t u hu f g K e = record {
  sign = λ a. equal_signs_over u hu (g a) (f a) (e a) ∙ K.sign a;
  one = solve_over u hu (g (operations t).one ∷ f (operations t).one ∷ []) (fact unit (var 0) (var 1) ∷ fact unit (var 1) unit ∷ []) (var 0) unit
      (e (operations t).one, (K.one, tt)) refl;
  add = λ a b. solve_over u hu (g ((operations t).add a b) ∷ f ((operations t).add a b) ∷ f a ∷ f b ∷ g a ∷ g b ∷ [])
      (fact unit (var 0) (var 1) ∷ fact unit (var 1) (var 2 ⊕ var 3) ∷ fact (⊖ unit) (var 4) (var 2) ∷ fact (⊖ unit) (var 5) (var 3) ∷ [])
      (var 0) (var 4 ⊕ var 5) (e ((operations t).add a b), (K.add a b, (e a, (e b, tt)))) refl;
  neg = λ a. solve_over u hu (g ((operations t).neg a) ∷ f ((operations t).neg a) ∷ f a ∷ g a ∷ [])
      (fact unit (var 0) (var 1) ∷ fact unit (var 1) (⊖ var 2) ∷ fact unit (var 3) (var 2) ∷ []) (var 0) (⊖ var 3)
      (e ((operations t).neg a), (K.neg a, (e a, tt))) refl;
  mul = λ a b. solve_over u hu (g ((operations t).mul a b) ∷ f ((operations t).mul a b) ∷ f a ∷ f b ∷ g a ∷ g b ∷ [])
      (fact unit (var 0) (var 1) ∷ fact unit (var 1) (var 2 ⊗ var 3) ∷ fact (⊖ var 3) (var 4) (var 2) ∷ fact (⊖ var 4) (var 5) (var 3) ∷ [])
      (var 0) (var 4 ⊗ var 5) (e ((operations t).mul a b), (K.mul a b, (e a, (e b, tt)))) refl;
}

-- what the fractions are made of: one more, and a fraction times its denominator
whole_suc : (n : ℕ) → EqualBySign fraction_operations fraction_sign (whole (pos (suc n))) (fraction_operations.add (whole (pos n)) fraction_operations.one)
whole_suc n = subst (λ z. EqualBySign fraction_operations fraction_sign (whole z) (fraction_operations.add (whole (pos n)) fraction_operations.one))
    (ap pos (add-one n))
    (same_sign int_operations int_sign (λ a b. a ≡ b) int_ordered (pos n ∷ []) ((var 0 ⊕ unit) ⊗ unit ⊕ ⊖ (var 0 ⊗ unit ⊕ unit ⊗ unit) ⊗ unit) nought refl)

times_den : (x : Fraction) → EqualBySign fraction_operations fraction_sign (fraction_operations.mul x (whole (pos x.denominator))) (whole x.numerator)
times_den x = same_sign int_operations int_sign (λ a b. a ≡ b) int_ordered (x.numerator ∷ pos x.denominator ∷ [])
    ((var 0 ⊗ var 1) ⊗ unit ⊕ ⊖ var 0 ⊗ (var 1 ⊗ unit)) nought refl

module _ {m : ℕ} (u : Tower m) (hu : IsTower u) where
  -- two maps of the fractions agree on whole numbers, and then everywhere
  whole_nat : (f g : Fraction → Element m) → IsMap bare u f → IsMap bare u g → (n : ℕ) → EqualOver u (f (whole (pos n))) (g (whole (pos n)))
  whole_nat f g F G zero = solve_over u hu (f (whole (pos 0)) ∷ g (whole (pos 0)) ∷ []) (fact unit (var 0) nought ∷ fact (⊖ unit) (var 1) nought ∷ [])
      (var 0) (var 1) (to_zero f F, (to_zero g G, tt)) refl
    where
      to_zero : (h : Fraction → Element m) → IsMap bare u h → EqualOver u (h (whole (pos 0))) (operations u).zero
      to_zero h H = same_sign (operations u) (sign u) (Alike m) (ordered u hu) (h (whole (pos 0)) ∷ []) (var 0 ⊝ nought) (var 0) refl ∙ H.sign (whole (pos 0))
  whole_nat f g F G (suc n) = solve_over u hu
      (f (whole (pos (suc n))) ∷ g (whole (pos (suc n))) ∷ f (fraction_operations.add (whole (pos n)) fraction_operations.one)
      ∷ g (fraction_operations.add (whole (pos n)) fraction_operations.one) ∷ f (whole (pos n)) ∷ g (whole (pos n)) ∷ f fraction_operations.one
      ∷ g fraction_operations.one ∷ [])
      (fact unit (var 0) (var 2) ∷ fact (⊖ unit) (var 1) (var 3) ∷ fact unit (var 2) (var 4 ⊕ var 6) ∷ fact (⊖ unit) (var 3) (var 5 ⊕ var 7)
      ∷ fact unit (var 4) (var 5) ∷ fact unit (var 6) unit ∷ fact (⊖ unit) (var 7) unit ∷ [])
      (var 0) (var 1) (
        keeps_equal bare u hu f F (whole (pos (suc n))) (fraction_operations.add (whole (pos n)) fraction_operations.one) (whole_suc n),
        (
          keeps_equal bare u hu g G (whole (pos (suc n))) (fraction_operations.add (whole (pos n)) fraction_operations.one) (whole_suc n),
          (F.add (whole (pos n)) fraction_operations.one, (G.add (whole (pos n)) fraction_operations.one, (whole_nat f g F G n, (F.one, (G.one, tt))))),
        ),
      ) refl

  whole_int : (f g : Fraction → Element m) → IsMap bare u f → IsMap bare u g → (z : ℤ) → EqualOver u (f (whole z)) (g (whole z))
  whole_int f g F G (pos n) = whole_nat f g F G n
  whole_int f g F G (negsuc n) = solve_over u hu (f (whole (negsuc n)) ∷ g (whole (negsuc n)) ∷ f (whole (pos (suc n))) ∷ g (whole (pos (suc n))) ∷ [])
      (fact unit (var 0) (⊖ var 2) ∷ fact (⊖ unit) (var 1) (⊖ var 3) ∷ fact (⊖ unit) (var 2) (var 3) ∷ []) (var 0) (var 1)
      (F.neg (whole (pos (suc n))), (G.neg (whole (pos (suc n))), (whole_nat f g F G (suc n), tt))) refl

  one_frac : (f g : Fraction → Element m) → IsMap bare u f → IsMap bare u g → (x : Fraction) → EqualOver u (f x) (g x)
  one_frac f g F G x = cancel (operations u) (sign u) (Alike m) (ordered u hu) (f x) (g x) (f q) (F.sign q ∙ plus_of_positive x.denominator x.positive)
      (solve_over u hu (f x ∷ g x ∷ f q ∷ g q ∷ f (fraction_operations.mul x q) ∷ g (fraction_operations.mul x q) ∷ f p ∷ g p ∷ [])
      (fact (⊖ unit) (var 4) (var 0 ⊗ var 2) ∷ fact unit (var 4) (var 6) ∷ fact unit (var 6) (var 7) ∷ fact (⊖ unit) (var 5) (var 7)
      ∷ fact unit (var 5) (var 1 ⊗ var 3) ∷ fact (⊖ var 1) (var 2) (var 3) ∷ [])
      (var 0 ⊗ var 2) (var 1 ⊗ var 2) (
        F.mul x q,
        (
          keeps_equal bare u hu f F (fraction_operations.mul x q) p (times_den x),
          (
            whole_int f g F G x.numerator,
            (
              keeps_equal bare u hu g G (fraction_operations.mul x q) p (times_den x),
              (G.mul x q, (whole_int f g F G (pos x.denominator), tt)),
            ),
          ),
        ),
      ) refl)
    where
      p : Fraction
      p = whole x.numerator

      q : Fraction
      q = whole (pos x.denominator)

-- raising by one radicand, and the root of the topmost radicand
abbrev pub raised : {n : ℕ} (t : Tower n) → Element n → Element (suc n)
raised t a = (a, (operations t).zero)

abbrev pub top_root : {n : ℕ} (t : Tower n) → Element (suc n)
top_root t = ((operations t).zero, (operations t).one)

-- raising by one radicand is a map
pub raised_map : {n : ℕ} (t : Tower n) (r : Element n) → IsTower (over t r) → IsMap t (over t r) (raised t)
raised_map {n} t r h = lifts (operations t) (sign t) (Alike n) (ordered t h.0) r h.1

-- a pair (a, b) is a + b*root, with a and b raised
split : {n : ℕ} (t : Tower n) (r : Element n) (h : IsTower (over t r)) (x : Element (suc n))
    → EqualOver (over t r) x ((operations (over t r)).add (raised t x.0) ((operations (over t r)).mul (raised t x.1) (top_root t)))
split {n} t r h x = parts_equal (operations t) (sign t) (Alike n) (ordered t h.0) r h.1 x
    ((operations (over t r)).add (raised t x.0) ((operations (over t r)).mul (raised t x.1) (top_root t)))
    (by_ring (operations t) (sign t) (Alike n) (ordered t h.0) (x.0 ∷ x.1 ∷ r ∷ []) (var 0) (var 0 ⊕ (var 1 ⊗ nought ⊕ nought ⊗ unit ⊗ var 2)) refl)
    (by_ring (operations t) (sign t) (Alike n) (ordered t h.0) (x.0 ∷ x.1 ∷ r ∷ []) (var 1) (nought ⊕ (var 1 ⊗ unit ⊕ nought ⊗ nought)) refl)

-- so a map is known from what it does to the parts and to the root
by_parts : {n m : ℕ} (t : Tower n) (r : Element n) (h : IsTower (over t r)) (u : Tower m) (hu : IsTower u) (f : Element (suc n) → Element m)
    → IsMap (over t r) u f
    → (x : Element (suc n)) → EqualOver u (f x) ((operations u).add (f (raised t x.0)) ((operations u).mul (f (raised t x.1)) (f (top_root t))))
by_parts t r h u hu f F x = solve_over u hu
    (f x ∷ f ((operations (over t r)).add (raised t x.0) ((operations (over t r)).mul (raised t x.1) (top_root t))) ∷ f (raised t x.0)
    ∷ f ((operations (over t r)).mul (raised t x.1) (top_root t)) ∷ f (raised t x.1) ∷ f (top_root t) ∷ [])
    (fact unit (var 0) (var 1) ∷ fact unit (var 1) (var 2 ⊕ var 3) ∷ fact unit (var 3) (var 4 ⊗ var 5) ∷ []) (var 0) (var 2 ⊕ var 4 ⊗ var 5) (
      keeps_equal (over t r) u hu f F x ((operations (over t r)).add (raised t x.0) ((operations (over t r)).mul (raised t x.1) (top_root t))) (split t r h x),
      (F.add (raised t x.0) ((operations (over t r)).mul (raised t x.1) (top_root t)), (F.mul (raised t x.1) (top_root t), tt)),
    ) refl

-- the image of the root: not negative, and its square is the radicand's image
top_root_sign : {n m : ℕ} (t : Tower n) (r : Element n) (h : IsTower (over t r)) (u : Tower m) (f : Element (suc n) → Element m)
    → IsMap (over t r) u f → IsNotMinus (sign u (f (top_root t)))
top_root_sign {n} t r h u f F = subst (λ z. IsNotMinus z) (sym (F.sign (top_root t))) (root_sign (operations t) (sign t) (Alike n) (ordered t h.0) r h.1)

top_root_square : {n m : ℕ} (t : Tower n) (r : Element n) (h : IsTower (over t r)) (u : Tower m) (hu : IsTower u) (f : Element (suc n) → Element m)
    → IsMap (over t r) u f
    → EqualOver u ((operations u).mul (f (top_root t)) (f (top_root t))) (f (raised t r))
top_root_square {n} t r h u hu f F = solve_over u hu (f (top_root t) ∷ f ((operations (over t r)).mul (top_root t) (top_root t)) ∷ f (raised t r) ∷ [])
    (fact (⊖ unit) (var 1) (var 0 ⊗ var 0) ∷ fact unit (var 1) (var 2) ∷ []) (var 0 ⊗ var 0) (var 2) (
      F.mul (top_root t) (top_root t),
      (
        keeps_equal (over t r) u hu f F ((operations (over t r)).mul (top_root t) (top_root t)) (raised t r)
            (root_squared (operations t) (sign t) (Alike n) (ordered t h.0) r h.1),
        tt,
      ),
    ) refl

-- the step of the induction: two maps that agree below a radicand agree above it
one_step : {n m : ℕ} (t : Tower n) (r : Element n) (h : IsTower (over t r)) (u : Tower m) (hu : IsTower u) (f g : Element (suc n) → Element m)
    → IsMap (over t r) u f → IsMap (over t r) u g
    → ((a : Element n) → EqualOver u (f (raised t a)) (g (raised t a))) → (x : Element (suc n)) → EqualOver u (f x) (g x)
one_step {n} {m} t r h u hu f g F G below x = solve_over u hu (f x ∷ g x ∷ f (raised t x.0) ∷ g (raised t x.0) ∷ f (raised t x.1) ∷ g (raised t x.1)
    ∷ f (top_root t) ∷ g (top_root t) ∷ [])
    (fact unit (var 0) (var 2 ⊕ var 4 ⊗ var 6) ∷ fact (⊖ unit) (var 1) (var 3 ⊕ var 5 ⊗ var 7) ∷ fact unit (var 2) (var 3)
    ∷ fact (var 6) (var 4) (var 5) ∷ fact (var 5) (var 6) (var 7) ∷ [])
    (var 0) (var 1)
    (by_parts t r h u hu f F x, (by_parts t r h u hu g G x, (below x.0, (below x.1, (roots, tt))))) refl
  where
    roots : EqualOver u (f (top_root t)) (g (top_root t))
    roots = one_root (operations u) (sign u) (Alike m) (ordered u hu) (f (top_root t)) (g (top_root t)) (top_root_sign t r h u f F)
        (top_root_sign t r h u g G)
        (solve_over u hu (f (top_root t) ∷ g (top_root t) ∷ f (raised t r) ∷ g (raised t r) ∷ [])
        (fact unit (var 0 ⊗ var 0) (var 2) ∷ fact (⊖ unit) (var 1 ⊗ var 1) (var 3) ∷ fact unit (var 2) (var 3) ∷ []) (var 0 ⊗ var 0) (var 1 ⊗ var 1)
        (top_root_square t r h u hu f F, (top_root_square t r h u hu g G, (below r, tt))) refl)

-- an element that is brought into one tower by two maps gives equal elements
pub one_map : {n m : ℕ} (t : Tower n) (ht : IsTower t) (u : Tower m) (hu : IsTower u) (f g : Element n → Element m) → IsMap t u f → IsMap t u g
    → (x : Element n) → EqualOver u (f x) (g x)
one_map bare ht u hu f g F G x = one_frac u hu f g F G x
one_map (over t r) h u hu f g F G x = one_step t r h u hu f g F G
    (λ a. one_map t h.0 u hu (λ b. f (raised t b)) (λ b. g (raised t b)) (composed_map t (over t r) u hu (raised t) f (raised_map t r h) F)
    (composed_map t (over t r) u hu (raised t) g (raised_map t r h) G) a) x

-- liftings and carryings are maps
pub identity : {n : ℕ} (t : Tower n) (h : IsTower t) → IsMap t t (λ x. x)
identity t h = record {
  sign = λ a. refl;
  one = R.same (operations t).one;
  add = λ a b. R.same ((operations t).add a b);
  neg = λ a. R.same ((operations t).neg a);
  mul = λ a b. R.same ((operations t).mul a b);
}
  where
    R : IsRing (operations t) (EqualOver t)
    R = ring_of t h

-- so is lifting a fraction
pub at_height_map : {n : ℕ} (t : Tower n) (h : IsTower t) → IsMap bare t (at_height n)
at_height_map bare h = identity bare h
at_height_map (over {n = n} t r) h = composed_map bare t (over t r) h (at_height n) (λ a. (a, at_height n (whole (pos 0)))) (at_height_map t h.0)
    (lift_one t h.0 r h.1)

-- a map from the pairs over r, by a map from below and a root w of the image of r
pub onto_map : {n m : ℕ} (t : Tower n) (r : Element n) (h : IsTower (over t r)) (u : Tower m) (hu : IsTower u) (f : Element n → Element m)
    → IsMap t u f → (w : Element m) → IsNotMinus (sign u w) → EqualOver u ((operations u).mul w w) (f r)
    → IsMap (over t r) u (λ x. (operations u).add (f x.0) ((operations u).mul (f x.1) w))
onto_map {n} {m} t r h u hu f F w hw e = onto_keeps (operations t) (sign t) (Alike n) (ordered t h.0) r h.1 (operations u) (sign u) (Alike m)
    (ordered u hu) f F w hw e

-- a map makes a map of the pairs, part by part
parts_map : {n m : ℕ} (t : Tower n) (r : Element n) (h : IsTower (over t r)) (u : Tower m) (f : Element n → Element m) → IsMap t u f
    → IsTower (over u (f r)) → IsMap (over t r) (over u (f r)) (λ x. (f x.0, f x.1))
parts_map {n} {m} t r h u f F k = keeps_like (over t r) (over u (f r)) k
    (λ x. (operations (over u (f r))).add (raised u (f x.0)) ((operations (over u (f r))).mul (raised u (f x.1)) (top_root u))) (λ x. (f x.0, f x.1))
    (onto_map t r h (over u (f r)) k (λ x. raised u (f x)) (composed_map t u (over u (f r)) k f (raised u) F (raised_map u (f r) k)) (top_root u)
    (root_sign (operations u) (sign u) (Alike m) (ordered u k.0) (f r) k.1) (root_squared (operations u) (sign u) (Alike m) (ordered u k.0) (f r)
    k.1))
    (λ x. split u (f r) k (f x.0, f x.1))

-- the joined tower is a tower, and carrying into it is a map
pub joined : {n m : ℕ} (t : Tower n) (ht : IsTower t) (u : Tower m) (hu : IsTower u) → IsTower (join t u) × IsMap u (join t u) (carry n m)
joined t ht bare hu = (ht, at_height_map t ht)
joined {n} t ht (over {n = m} u r) hu = step (joined t ht u hu.0)
  where
    step : IsTower (join t u) × IsMap u (join t u) (carry n m) → IsTower (join t (over u r)) × IsMap (over u r) (join t (over u r)) (carry n (suc m))
    step p = (
      (p.0, subst (λ z. IsNotMinus z) (sym (p.1.sign r)) hu.1),
      parts_map u r hu (join t u) (carry n m) p.1
          (p.0, subst (λ z. IsNotMinus z) (sym (p.1.sign r)) hu.1),
    )

-- lifting into it is a map
pub lift_map : {n m : ℕ} (t : Tower n) (ht : IsTower t) (u : Tower m) (hu : IsTower u) → IsMap t (join t u) (lift n m)
lift_map t ht bare hu = identity t ht
lift_map {n} t ht (over {n = m} u r) hu = composed_map t (join t u) (join t (over u r)) (joined t ht (over u r) hu).0 (lift n m)
    (λ a. (a, at_height (more n m) (whole (pos 0)))) (lift_map t ht u hu.0)
    (lift_one (join t u) (joined t ht u hu.0).0 (carry n m r) (joined t ht (over u r) hu).0.1)

-- two maps into one tower come together over the joined tower
pub record Meeting {n m k : ℕ} (t : Tower n) (u : Tower m) (w : Tower k) (f : Element n → Element k) (g : Element m → Element k) : Type 0 where
  pub both : Element (more n m) → Element k
  pub map : IsMap (join t u) w both
  pub left : (x : Element n) → EqualOver w (both (lift n m x)) (f x)
  pub right : (y : Element m) → EqualOver w (both (carry n m y)) (g y)

-- the step of the induction: one radicand more on the second tower
meet_step : {n m k : ℕ} (t : Tower n) (ht : IsTower t) (u : Tower m) (r : Element m) (hu : IsTower (over u r)) (w : Tower k) (hw : IsTower w)
    (f : Element n → Element k) (g : Element (suc m) → Element k)
    → IsMap t w f → IsMap (over u r) w g → Meeting t u w f (λ a. g (raised u a)) → Meeting t (over u r) w f g
meet_step {n} {m} {k} t ht u r hu w hw f g F G M = record {
  both = λ x. (operations w).add (M.both x.0) ((operations w).mul (M.both x.1) (g (top_root u)));
  map = onto_map (join t u) (carry n m r) (joined t ht (over u r) hu).0 w hw M.both M.map (g (top_root u)) (top_root_sign u r hu w g G)
      (solve_over w hw (g (top_root u) ∷ g (raised u r) ∷ M.both (carry n m r) ∷ []) (fact unit (var 0 ⊗ var 0) (var 1) ∷ fact (⊖ unit) (var 2) (var 1)
      ∷ []) (var 0 ⊗ var 0) (var 2) (top_root_square u r hu w hw g G, (M.right r, tt)) refl);
  left = λ x. solve_over w hw (M.both (lift n m x) ∷ M.both zero₀ ∷ g (top_root u) ∷ f x ∷ [])
      (fact unit (var 0) (var 3) ∷ fact (var 2) (var 1) nought ∷ []) (var 0 ⊕ var 1 ⊗ var 2) (var 3) (M.left x, (zero_both, tt)) refl;
  right = λ y. solve_over w hw (M.both (carry n m y.0) ∷ M.both (carry n m y.1) ∷ g (top_root u) ∷ g (raised u y.0) ∷ g (raised u y.1) ∷ g y ∷ [])
      (fact unit (var 0) (var 3) ∷ fact (var 2) (var 1) (var 4) ∷ fact (⊖ unit) (var 5) (var 3 ⊕ var 4 ⊗ var 2) ∷ []) (var 0 ⊕ var 1 ⊗ var 2) (var 5)
      (M.right y.0, (M.right y.1, (by_parts u r hu w hw g G y, tt))) refl;
}
  where
    zero₀ : Element (more n m)
    zero₀ = at_height (more n m) (whole (pos 0))

    zero_both : EqualOver w (M.both zero₀) (operations w).zero
    zero_both = subst (λ z. EqualOver w (M.both z) (operations w).zero) (zero_is (join t u))
        (same_sign (operations w) (sign w) (Alike k) (ordered w hw) (M.both (operations (join t u)).zero ∷ []) (var 0 ⊝ nought) (var 0) refl
        ∙ M.map.sign (operations (join t u)).zero ∙ sign-zero (operations (join t u)) (sign (join t u)) (Alike (more n m)) (ordered (join t u)
        (joined t ht u hu.0).0))

-- any two maps into one tower meet
pub meeting : {n m k : ℕ} (t : Tower n) (ht : IsTower t) (u : Tower m) (hu : IsTower u) (w : Tower k) (hw : IsTower w) (f : Element n → Element k)
    (g : Element m → Element k) → IsMap t w f → IsMap u w g → Meeting t u w f g
meeting {n} t ht bare hu w hw f g F G = record {
  both = f;
  map = F;
  left = λ x. (ring_of w hw).same (f x);
  right = λ y. one_map bare tt w hw (λ z. f (at_height n z)) g (composed_map bare t w hw (at_height n) f (at_height_map t ht) F) G y;
}
meeting t ht (over u r) hu w hw f g F G = meet_step t ht u r hu w hw f g F G
    (meeting t ht u hu.0 w hw f (λ a. g (raised u a)) F (composed_map u (over u r) w hw (raised u) g (raised_map u r hu) G))
