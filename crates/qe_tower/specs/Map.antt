-- Maps that keep operations and signs.
use Rattle.std.specs.Prelude.{◌≡◌, ℕ}
use Rattle.qe_ring.specs.Ring.{Operations}
use Rattle.qe_ring.specs.Sign.{Sign}
use Rattle.qe_ring.specs.Ordered.{EqualBySign}
use Rattle.qe_tower.specs.Element.{Element, Tower, operations}
use Rattle.qe_tower.specs.Sign.{sign}

-- f keeps signs, and up to equality by the sign of the difference it keeps operations
pub record Keeps {C D : Type 0} (o : Operations C) (s : C → Sign) (o' : Operations D) (s' : D → Sign) (f : C → D) : Type 0 where
  pub sign : (a : C) → s' (f a) ≡ s a
  pub one : EqualBySign o' s' (f o.one) o'.one
  pub add : (a b : C) → EqualBySign o' s' (f (o.add a b)) (o'.add (f a) (f b))
  pub neg : (a : C) → EqualBySign o' s' (f (o.neg a)) (o'.neg (f a))
  pub mul : (a b : C) → EqualBySign o' s' (f (o.mul a b)) (o'.mul (f a) (f b))

-- f is such a map from the elements over t to those over u
abbrev pub IsMap : {n m : ℕ} (t : Tower n) (u : Tower m) → (Element n → Element m) → Type 0
IsMap t u f = Keeps (operations t) (sign t) (operations u) (sign u) f
