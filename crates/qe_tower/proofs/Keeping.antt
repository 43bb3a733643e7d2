-- Maps between ordered rings that keep operations and signs.
use Rattle.std.proofs.Common.{◌≡◌, List, [], ◌∷◌, refl, sym, ap, ap₂, ◌∙◌}
use Rattle.qe_ring.specs.Ring.{Operations, difference, IsRing}
use Rattle.qe_ring.specs.Sign.{Sign, IsNotMinus, ◌·◌, pick}
use Rattle.qe_ring.specs.Ordered.{IsOrdered, EqualBySign}
use Rattle.qe_ring.specs.Expression.{Expression, var, nought, unit, ◌⊕◌, ◌⊝◌, ⊖◌, ◌⊗◌, value, normal}
use Rattle.qe_ring.proofs.Hypotheses.{fact, solve_by}
use Rattle.qe_ring.proofs.Signs.{same_sign, pick_at, sign-zero}
use Rattle.qe_ring.proofs.Equal.{by_ring, equal_ring, equal_sign}
use Rattle.qe_ring.proofs.Roots.{root_has_sign}
use Rattle.qe_tower.specs.Element.{pair_operations}
use Rattle.qe_tower.specs.Sign.{pair_sign}
use Rattle.qe_tower.specs.Map.{Keeps}
use Rattle.qe_tower.proofs.Adjoin.{norm, is_pick, of_base}
use Rattle.qe_tower.proofs.Field.{parts_equal}

module _ {C D : Type 0} (o : Operations C) (s : C → Sign) (o' : Operations D) (s' : D → Sign) (E' : D → D → Type 0) (L' : IsOrdered o' s' E')
    (f : C → D) (K : Keeps o s o' s' f) where
  abbrev R' : IsRing o' (EqualBySign o' s')
  R' = equal_ring o' s' E' L'

  -- such a map keeps differences and equality
  pub keeps-difference : (a b : C) → EqualBySign o' s' (f (difference o a b)) (difference o' (f a) (f b))
  keeps-difference a b = R'.then (f (difference o a b)) (o'.add (f a) (f (o.neg b))) (difference o' (f a) (f b)) (K.add a (o.neg b))
      (R'.add-same (f a) (f a) (f (o.neg b)) (o'.neg (f b)) (R'.same (f a)) (K.neg b))

  pub keeps-same : (a b : C) → EqualBySign o s a b → EqualBySign o' s' (f a) (f b)
  keeps-same a b h = sym (equal_sign o' s' E' L' (f (difference o a b)) (difference o' (f a) (f b)) (keeps-difference a b)) ∙ K.sign (difference o a b) ∙ h

-- composition
pub composed : {A C D : Type 0} (p : Operations A) (q : A → Sign) (o : Operations C) (s : C → Sign) (o' : Operations D) (s' : D → Sign)
    (E' : D → D → Type 0) (L' : IsOrdered o' s' E')
    (g : A → C) (f : C → D) → Keeps p q o s g → Keeps o s o' s' f → Keeps p q o' s' (λ x. f (g x))
composed p q o s o' s' E' L' g f G K = record {
  sign = λ a. K.sign (g a) ∙ G.sign a;
  one = R.then (f (g p.one)) (f o.one) o'.one (same (g p.one) o.one G.one) K.one;
  add = λ a b. R.then (f (g (p.add a b))) (f (o.add (g a) (g b))) (o'.add (f (g a)) (f (g b))) (same (g (p.add a b)) (o.add (g a) (g b)) (G.add a b))
      (K.add (g a) (g b));
  neg = λ a. R.then (f (g (p.neg a))) (f (o.neg (g a))) (o'.neg (f (g a))) (same (g (p.neg a)) (o.neg (g a)) (G.neg a)) (K.neg (g a));
  mul = λ a b. R.then (f (g (p.mul a b))) (f (o.mul (g a) (g b))) (o'.mul (f (g a)) (f (g b))) (same (g (p.mul a b)) (o.mul (g a) (g b)) (G.mul a b))
      (K.mul (g a) (g b));
}
  where
    R : IsRing o' (EqualBySign o' s')
    R = equal_ring o' s' E' L'

    same : (a b : _) → EqualBySign o s a b → EqualBySign o' s' (f a) (f b)
    same = keeps-same o s o' s' E' L' f K

-- lifting
module _ {C : Type 0} (o : Operations C) (s : C → Sign) (E : C → C → Type 0) (L : IsOrdered o s E) (r : C) (h : IsNotMinus (s r)) where
  open o use {zero, one, add, neg, mul}

  -- raising a value a to the pair (a, 0) is such a map
  pub lifts : Keeps o s (pair_operations o r) (pair_sign o s r) (λ a. (a, zero))
  lifts = record {
    sign = of_base o s E L r h;
    one = by [] unit nought unit nought refl refl;
    add = λ a b. by (a ∷ b ∷ []) (var 1 ⊕ var 2) nought (var 1 ⊕ var 2) (nought ⊕ nought) refl refl;
    neg = λ a. by (a ∷ []) (⊖ var 1) nought (⊖ var 1) (⊖ nought) refl refl;
    mul = λ a b. by (a ∷ b ∷ []) (var 1 ⊗ var 2) nought (var 1 ⊗ var 2 ⊕ nought ⊗ nought ⊗ var 0) (var 1 ⊗ nought ⊕ nought ⊗ var 2) refl refl;
  }
    where
      by : (point : List C) (a b c d : Expression) → normal (a ⊝ c) ≡ [] → normal (b ⊝ d) ≡ []
          → EqualBySign (pair_operations o r) (pair_sign o s r) (value o (r ∷ point) a, value o (r ∷ point) b)
          (value o (r ∷ point) c, value o (r ∷ point) d)
      by point a b c d p q = parts_equal o s E L r h (value o (r ∷ point) a, value o (r ∷ point) b) (value o (r ∷ point) c, value o (r ∷ point) d)
          (by_ring o s E L (r ∷ point) a c p) (by_ring o s E L (r ∷ point) b d q)

-- from pairs over r: a map from the base and a root w of the radicand's image
module _ {C D : Type 0} (o : Operations C) (s : C → Sign) (E : C → C → Type 0) (L : IsOrdered o s E) (r : C) (h : IsNotMinus (s r))
    (o' : Operations D) (s' : D → Sign) (E' : D → D → Type 0) (L' : IsOrdered o' s' E') (f : C → D) (K : Keeps o s o' s' f) (w : D)
    (hw : IsNotMinus (s' w)) (e : EqualBySign o' s' (o'.mul w w) (f r)) where
  -- (a, b) goes to f a + f b * w
  abbrev pub onto : C × C → D
  onto x = o'.add (f x.0) (o'.mul (f x.1) w)

  abbrev R : IsRing o' (EqualBySign o' s')
  R = equal_ring o' s' E' L'

  f-zero : EqualBySign o' s' (f o.zero) o'.zero
  f-zero = same_sign o' s' E' L' (f o.zero ∷ []) (var 0 ⊝ nought) (var 0) refl ∙ K.sign o.zero ∙ sign-zero o s E L

  -- f (a*c + b*d*r) = f a * f c + f b * f d * f r
  f-first : (a b c d : C) → EqualBySign o' s' (f (o.add (o.mul a c) (o.mul (o.mul b d) r))) (o'.add (o'.mul (f a) (f c)) (o'.mul (o'.mul (f b) (f d)) (f r)))
  f-first a b c d = solve_by o' (EqualBySign o' s') R
      (f (o.add (o.mul a c) (o.mul (o.mul b d) r)) ∷ f (o.mul a c) ∷ f (o.mul (o.mul b d) r) ∷ f (o.mul b d) ∷ f a ∷ f b ∷ f c ∷ f d ∷ f r ∷ [])
      (fact unit (var 0) (var 1 ⊕ var 2) ∷ fact unit (var 1) (var 4 ⊗ var 6) ∷ fact unit (var 2) (var 3 ⊗ var 8) ∷ fact (var 8) (var 3) (var 5 ⊗ var 7) ∷ [])
      (var 0) (var 4 ⊗ var 6 ⊕ var 5 ⊗ var 7 ⊗ var 8)
      (K.add (o.mul a c) (o.mul (o.mul b d) r), (K.mul a c, (K.mul (o.mul b d) r, (K.mul b d, tt)))) refl

  f-second : (a b c d : C) → EqualBySign o' s' (f (o.add (o.mul a d) (o.mul b c))) (o'.add (o'.mul (f a) (f d)) (o'.mul (f b) (f c)))
  f-second a b c d = solve_by o' (EqualBySign o' s') R
      (f (o.add (o.mul a d) (o.mul b c)) ∷ f (o.mul a d) ∷ f (o.mul b c) ∷ f a ∷ f b ∷ f c ∷ f d ∷ [])
      (fact unit (var 0) (var 1 ⊕ var 2) ∷ fact unit (var 1) (var 3 ⊗ var 6) ∷ fact unit (var 2) (var 4 ⊗ var 5) ∷ [])
      (var 0) (var 3 ⊗ var 6 ⊕ var 4 ⊗ var 5)
      (K.add (o.mul a d) (o.mul b c), (K.mul a d, (K.mul b c, tt))) refl

  f-norm : (a b : C) → EqualBySign o' s' (f (norm o r a b)) (difference o' (o'.mul (f a) (f a)) (o'.mul (o'.mul (f b) w) (o'.mul (f b) w)))
  f-norm a b = solve_by o' (EqualBySign o' s') R
      (f (norm o r a b) ∷ f (o.mul a a) ∷ f (o.mul (o.mul b b) r) ∷ f (o.mul b b) ∷ f a ∷ f b ∷ f r ∷ w ∷ [])
      (fact unit (var 0) (var 1 ⊝ var 2) ∷ fact unit (var 1) (var 4 ⊗ var 4) ∷ fact (⊖ unit) (var 2) (var 3 ⊗ var 6)
      ∷ fact (⊖ var 6) (var 3) (var 5 ⊗ var 5) ∷ fact (var 5 ⊗ var 5) (var 7 ⊗ var 7) (var 6) ∷ [])
      (var 0) (var 4 ⊗ var 4 ⊝ var 5 ⊗ var 7 ⊗ (var 5 ⊗ var 7))
      (keeps-difference o s o' s' E' L' f K (o.mul a a) (o.mul (o.mul b b) r), (K.mul a a, (K.mul (o.mul b b) r, (K.mul b b, (e, tt))))) refl

  root-sign : s' w ≡ s r
  root-sign = root_has_sign o' s' E' L' w (f r) hw (equal_sign o' s' E' L' (o'.mul w w) (f r) e) ∙ K.sign r

  -- this is such a map
  pub onto_keeps : Keeps (pair_operations o r) (pair_sign o s r) o' s' onto
  onto_keeps = record {
    sign = λ x. pick_at o' s' E' L' (f x.0 ∷ f x.1 ∷ w ∷ []) (var 0) (var 1 ⊗ var 2)
        ∙ ap (λ t. pick t (s' (f x.0)) (s' (f x.1) · s' w))
        (sym (equal_sign o' s' E' L' (f (norm o r x.0 x.1)) (difference o' (o'.mul (f x.0) (f x.0)) (o'.mul (o'.mul (f x.1) w) (o'.mul (f x.1) w)))
        (f-norm x.0 x.1)) ∙ K.sign (norm o r x.0 x.1))
        ∙ ap₂ (pick (s (norm o r x.0 x.1))) (K.sign x.0) (ap₂ ◌·◌ (K.sign x.1) root-sign)
        ∙ sym (is_pick o s E L r h x);
    one = solve_by o' (EqualBySign o' s') R (f o.one ∷ f o.zero ∷ w ∷ []) (fact unit (var 0) unit ∷ fact (var 2) (var 1) nought ∷ [])
        (var 0 ⊕ var 1 ⊗ var 2) unit (K.one, (f-zero, tt)) refl;
    add = λ x y. solve_by o' (EqualBySign o' s') R (f (o.add x.0 y.0) ∷ f (o.add x.1 y.1) ∷ f x.0 ∷ f x.1 ∷ f y.0 ∷ f y.1 ∷ w ∷ [])
        (fact unit (var 0) (var 2 ⊕ var 4) ∷ fact (var 6) (var 1) (var 3 ⊕ var 5) ∷ [])
        (var 0 ⊕ var 1 ⊗ var 6) (var 2 ⊕ var 3 ⊗ var 6 ⊕ (var 4 ⊕ var 5 ⊗ var 6)) (K.add x.0 y.0, (K.add x.1 y.1, tt)) refl;
    neg = λ x. solve_by o' (EqualBySign o' s') R (f (o.neg x.0) ∷ f (o.neg x.1) ∷ f x.0 ∷ f x.1 ∷ w ∷ [])
        (fact unit (var 0) (⊖ var 2) ∷ fact (var 4) (var 1) (⊖ var 3) ∷ [])
        (var 0 ⊕ var 1 ⊗ var 4) (⊖ (var 2 ⊕ var 3 ⊗ var 4)) (K.neg x.0, (K.neg x.1, tt)) refl;
    mul = λ x y. solve_by o' (EqualBySign o' s') R (f ((pair_operations o r).mul x y).0 ∷ f ((pair_operations o r).mul x y).1 ∷ f x.0 ∷ f x.1 ∷ f y.0
        ∷ f y.1 ∷ f r ∷ w ∷ [])
        (fact unit (var 0) (var 2 ⊗ var 4 ⊕ var 3 ⊗ var 5 ⊗ var 6) ∷ fact (var 7) (var 1) (var 2 ⊗ var 5 ⊕ var 3 ⊗ var 4)
        ∷ fact (⊖ (var 3 ⊗ var 5)) (var 7 ⊗ var 7) (var 6) ∷ [])
        (var 0 ⊕ var 1 ⊗ var 7) ((var 2 ⊕ var 3 ⊗ var 7) ⊗ (var 4 ⊕ var 5 ⊗ var 7)) (f-first x.0 x.1 y.0 y.1, (f-second x.0 x.1 y.0 y.1, (e, tt))) refl;
  }
