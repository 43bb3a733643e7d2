-- What numbers are over a common tower: sums, products and negatives are those of the elements there.
use Rattle.std.proofs.Common.{pos, ◌≡◌, ℕ, pos, [], ◌∷◌, refl, sym, ◌∙◌}
use Rattle.qe_ring.specs.Expression.{var, nought, unit, ◌⊕◌, ◌⊝◌, ⊖◌, ◌⊗◌}
use Rattle.qe_ring.proofs.Hypotheses.{fact}
use Rattle.qe_ring.proofs.Signs.{same_sign}
use Rattle.qe_tower.specs.Fraction.{whole}
use Rattle.qe_tower.specs.Element.{Element, Tower, operations}
use Rattle.qe_tower.specs.Sign.{sign, IsTower, EqualOver}
use Rattle.qe_tower.specs.Number.{more, at_height, lift, carry, join, Number, IsNumber, add, mul, neg, sign_of, whole_number, Equal}
use Rattle.qe_tower.specs.Map.{IsMap}
use Rattle.qe_tower.proofs.Towers.{Alike, ordered}
use Rattle.qe_tower.proofs.Joined.{ring_of, solve_over, keeps_equal, equal_signs_over, composed_map, identity, at_height_map, joined, lift_map, Meeting, meeting}

-- what a number is over a tower that its own is mapped into
pub record Reads {k : ℕ} (w : Tower k) (x : Number) (u : Element k) : Type 0 where
  pub by : Element x.height → Element k
  pub map : IsMap x.tower w by
  pub at : EqualOver w (by x.element) u

module _ {k : ℕ} (w : Tower k) (hw : IsTower w) where
  -- signs, sums, products, negatives, zero and one are read as those of the elements
  pub reads-sign : (x : Number) (u : Element k) → Reads w x u → sign w u ≡ sign_of x
  reads-sign x u r = sym (equal_signs_over w hw (r.by x.element) u r.at) ∙ r.map.sign x.element

  pub reads-add : (x y : Number) (u v : Element k) → IsNumber x → IsNumber y → Reads w x u → Reads w y v → Reads w (add x y) ((operations w).add u v)
  reads-add x y u v hx hy r q = record {
    by = M.both;
    map = M.map;
    at = solve_over w hw (M.both ((operations j).add a b) ∷ M.both a ∷ M.both b ∷ r.by x.element ∷ q.by y.element ∷ u ∷ v ∷ [])
        (fact unit (var 0) (var 1 ⊕ var 2) ∷ fact unit (var 1) (var 3) ∷ fact unit (var 2) (var 4) ∷ fact unit (var 3) (var 5)
        ∷ fact unit (var 4) (var 6) ∷ []) (var 0) (var 5 ⊕ var 6)
        (M.map.add a b, (M.left x.element, (M.right y.element, (r.at, (q.at, tt))))) refl;
  }
    where
      j : Tower (more x.height y.height)
      j = join x.tower y.tower

      a : Element (more x.height y.height)
      a = lift x.height y.height x.element

      b : Element (more x.height y.height)
      b = carry x.height y.height y.element

      M : Meeting x.tower y.tower w r.by q.by
      M = meeting x.tower hx y.tower hy w hw r.by q.by r.map q.map

  pub reads-mul : (x y : Number) (u v : Element k) → IsNumber x → IsNumber y → Reads w x u → Reads w y v → Reads w (mul x y) ((operations w).mul u v)
  reads-mul x y u v hx hy r q = record {
    by = M.both;
    map = M.map;
    at = solve_over w hw (M.both ((operations j).mul a b) ∷ M.both a ∷ M.both b ∷ r.by x.element ∷ q.by y.element ∷ u ∷ v ∷ [])
        (fact unit (var 0) (var 1 ⊗ var 2) ∷ fact (var 2) (var 1) (var 3) ∷ fact (var 3) (var 2) (var 4) ∷ fact (var 4) (var 3) (var 5)
        ∷ fact (var 5) (var 4) (var 6) ∷ []) (var 0) (var 5 ⊗ var 6)
        (M.map.mul a b, (M.left x.element, (M.right y.element, (r.at, (q.at, tt))))) refl;
  }
    where
      j : Tower (more x.height y.height)
      j = join x.tower y.tower

      a : Element (more x.height y.height)
      a = lift x.height y.height x.element

      b : Element (more x.height y.height)
      b = carry x.height y.height y.element

      M : Meeting x.tower y.tower w r.by q.by
      M = meeting x.tower hx y.tower hy w hw r.by q.by r.map q.map

  pub reads-neg : (x : Number) (u : Element k) → Reads w x u → Reads w (neg x) ((operations w).neg u)
  reads-neg x u r = record {
    by = r.by;
    map = r.map;
    at = solve_over w hw (r.by ((operations x.tower).neg x.element) ∷ r.by x.element ∷ u ∷ [])
        (fact unit (var 0) (⊖ var 1) ∷ fact (⊖ unit) (var 1) (var 2) ∷ []) (var 0) (⊖ var 2) (r.map.neg x.element, (r.at, tt)) refl;
  }

  pub reads-zero : Reads w (whole_number (pos 0)) (operations w).zero
  reads-zero = record {
    by = at_height k;
    map = at_height_map w hw;
    at = same_sign (operations w) (sign w) (Alike k) (ordered w hw) (at_height k (whole (pos 0)) ∷ []) (var 0 ⊝ nought) (var 0) refl
        ∙ (at_height_map w hw).sign (whole (pos 0));
  }

  pub reads-one : Reads w (whole_number (pos 1)) (operations w).one
  reads-one = record { by = at_height k; map = at_height_map w hw; at = (at_height_map w hw).one }

  -- two numbers are equal exactly where what they are over a common tower is
  pub reads-equal : (x y : Number) (u v : Element k) → IsNumber x → IsNumber y → Reads w x u → Reads w y v → EqualOver w u v → Equal x y
  reads-equal x y u v hx hy r q e = sym (reads-sign (add x (neg y)) ((operations w).add u ((operations w).neg v))
      (reads-add x (neg y) u ((operations w).neg v) hx hy r (reads-neg y v q))) ∙ e

  pub equal-reads : (x y : Number) (u v : Element k) → IsNumber x → IsNumber y → Reads w x u → Reads w y v → Equal x y → EqualOver w u v
  equal-reads x y u v hx hy r q e = reads-sign (add x (neg y)) ((operations w).add u ((operations w).neg v))
      (reads-add x (neg y) u ((operations w).neg v) hx hy r (reads-neg y v q)) ∙ e

-- a number is read over its own tower as its element
pub reads-self : (x : Number) → IsNumber x → Reads x.tower x x.element
reads-self x h = record { by = λ y. y; map = identity x.tower h; at = (ring_of x.tower h).same x.element }

-- a reading over one tower is one over a joined tower
pub reads-left : {k m : ℕ} (w : Tower k) (hw : IsTower w) (v : Tower m) (hv : IsTower v) (x : Number) (u : Element k) → Reads w x u
    → Reads (join w v) x (lift k m u)
reads-left {k} {m} w hw v hv x u r = record {
  by = λ y. lift k m (r.by y);
  map = composed_map x.tower w (join w v) (joined w hw v hv).0 r.by (lift k m) r.map (lift_map w hw v hv);
  at = keeps_equal w (join w v) (joined w hw v hv).0 (lift k m) (lift_map w hw v hv) (r.by x.element) u r.at;
}

pub reads-right : {k m : ℕ} (w : Tower k) (hw : IsTower w) (v : Tower m) (hv : IsTower v) (x : Number) (u : Element m) → Reads v x u
    → Reads (join w v) x (carry k m u)
reads-right {k} {m} w hw v hv x u r = record {
  by = λ y. carry k m (r.by y);
  map = composed_map x.tower v (join w v) (joined w hw v hv).0 r.by (carry k m) r.map (joined w hw v hv).1;
  at = keeps_equal v (join w v) (joined w hw v hv).0 (carry k m) (joined w hw v hv).1 (r.by x.element) u r.at;
}

-- numbers over one tower
pub record Common (x y z t : Number) : Type 0 where
  pub height : ℕ
  pub tower : Tower height
  pub is-tower : IsTower tower
  pub a : Element height
  pub b : Element height
  pub c : Element height
  pub d : Element height
  pub x_is : Reads tower x a
  pub y_is : Reads tower y b
  pub z_is : Reads tower z c
  pub t_is : Reads tower t d

-- four numbers have a common tower
pub common : (x y z t : Number) → IsNumber x → IsNumber y → IsNumber z → IsNumber t → Common x y z t
common x y z t hx hy hz ht = record {
  height = more n₃ t.height;
  tower = join t₃ t.tower;
  is-tower = (joined t₃ h₃ t.tower ht).0;
  a = lift n₃ t.height (lift n₂ z.height (lift x.height y.height x.element));
  b = lift n₃ t.height (lift n₂ z.height (carry x.height y.height y.element));
  c = lift n₃ t.height (carry n₂ z.height z.element);
  d = carry n₃ t.height t.element;
  x_is = reads-left t₃ h₃ t.tower ht x (lift n₂ z.height (lift x.height y.height x.element))
      (reads-left t₂ h₂ z.tower hz x (lift x.height y.height x.element) (reads-left x.tower hx y.tower hy x x.element (reads-self x hx)));
  y_is = reads-left t₃ h₃ t.tower ht y (lift n₂ z.height (carry x.height y.height y.element))
      (reads-left t₂ h₂ z.tower hz y (carry x.height y.height y.element) (reads-right x.tower hx y.tower hy y y.element (reads-self y hy)));
  z_is = reads-left t₃ h₃ t.tower ht z (carry n₂ z.height z.element) (reads-right t₂ h₂ z.tower hz z z.element (reads-self z hz));
  t_is = reads-right t₃ h₃ t.tower ht t t.element (reads-self t ht);
}
  where
    n₂ : ℕ
    n₂ = more x.height y.height

    t₂ : Tower n₂
    t₂ = join x.tower y.tower

    h₂ : IsTower t₂
    h₂ = (joined x.tower hx y.tower hy).0

    n₃ : ℕ
    n₃ = more n₂ z.height

    t₃ : Tower n₃
    t₃ = join t₂ z.tower

    h₃ : IsTower t₃
    h₃ = (joined t₂ h₂ z.tower hz).0
