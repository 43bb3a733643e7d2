-- Polynomials with the signs that are allowed: where one is allowed at x, how far down it is, and at which place.
use Rattle.std.proofs.Common.{Bool, ◌&&◌, true, false, T, sym, subst}
use Rattle.qe_ring.specs.Ring.{Operations}
use Rattle.qe_ring.specs.Sign.{Sign, Minus, Zero, Plus}
use Rattle.qe_line.specs.Field.{IsEuclideanField}
use Rattle.qe_line.specs.Place.{Place, below}
use Rattle.qe_line.specs.Quadratic.{quadratic, IsRoot}
use Rattle.qe_line.proofs.Products.{each_then, product}
use Rattle.qe_line.proofs.Reach.{root_place, agrees, fits, or_left, or_right, Reach, reach_then, reach_product}
use Rattle.qe_line.proofs.Factored.{Factored, factored}

-- an allowed sign is not zero, or zero is allowed
fitting : (f : Sign → Bool) (x : Sign) → T (f x) → T (fits (f Zero) x)
fitting f Minus h = or_right (f Zero) true tt
fitting f Zero h = or_left (f Zero) false h
fitting f Plus h = or_right (f Zero) true tt

no_zero : (b : Bool) → T (b && false) → ⊥
no_zero true h = h
no_zero false h = h

zero_allowed : (b : Bool) → T (b && true) → T b
zero_allowed true h = tt
zero_allowed false h = h

-- a sign that agrees with one that is allowed is allowed
agreeing : (f : Sign → Bool) (x y : Sign) → T (agrees (f Zero) x y) → T (f y) → T (f x)
agreeing f Minus Minus h k = k
agreeing f Minus Zero h k = absurd (no_zero (f Zero) h)
agreeing f Minus Plus h k = absurd (no_zero (f Zero) h)
agreeing f Zero Minus h k = zero_allowed (f Zero) h
agreeing f Zero Zero h k = k
agreeing f Zero Plus h k = zero_allowed (f Zero) h
agreeing f Plus Minus h k = absurd (no_zero (f Zero) h)
agreeing f Plus Zero h k = absurd (no_zero (f Zero) h)
agreeing f Plus Plus h k = k

module _ {C : Type 0} {o : Operations C} {s : C → Sign} (F : IsEuclideanField o s) where
  -- what is allowed at v is so down to a candidate: below a bound, or one at a root if zero is allowed, and else just above a root
  pub reach_atom : {K : Place C → Type 0} → K below → (a b c : C) (f : Sign → Bool) → ((v : C) → IsRoot o s a b c v → K (root_place (f Zero) v))
      → (v : C) → T (f (s (quadratic o a b c v))) → Reach o s K v (λ u. T (f (s (quadratic o a b c u))))
  reach_atom {K} low a b c f h v k = reach_then F
      (reach_product F K (f Zero) v g.0 g.1.0 (fitting f (product F g.0 g.1.0 v) true_product) low
      (each_then (IsRoot o s a b c) (λ r. K (root_place (f Zero) r)) h g.1.0 g.1.1.real))
      (λ u e. subst (λ z. T (f z)) (sym (g.1.1.factors u)) (agreeing f (product F g.0 g.1.0 u) (product F g.0 g.1.0 v) e true_product))
    where
      g : Factored F a b c
      g = factored F a b c

      true_product : T (f (product F g.0 g.1.0 v))
      true_product = subst (λ z. T (f z)) (g.1.1.factors v) k
