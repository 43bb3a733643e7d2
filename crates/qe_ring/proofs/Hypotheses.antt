-- The solver with hypotheses: a = b follows where a is b and a sum of multiples of equations that hold.
use Rattle.std.proofs.Common.{◌≡◌, List, [], ◌∷◌, refl}
use Rattle.qe_ring.specs.Ring.{Operations, difference, IsRing}
use Rattle.qe_ring.specs.Expression.{Expression, var, nought, ◌⊕◌, ◌⊝◌, ◌⊗◌, value, normal}
use Rattle.qe_ring.proofs.Solver.{solve}

abbrev x₀ : Expression
x₀ = var 0

abbrev x₁ : Expression
x₁ = var 1

-- an equation, as `fact c l r`: l and r have one value, and c is what their difference is multiplied by
pub data Given : Type 0 where
  fact : Expression → Expression → Expression → Given

-- the sum of the multiples
abbrev pub pull : List Given → Expression
pull [] = nought
pull (fact c l r ∷ gs) = c ⊗ (l ⊝ r) ⊕ pull gs

module _ {C : Type 0} (o : Operations C) (E : C → C → Type 0) (R : IsRing o E) where
  -- each equation holds
  abbrev pub All_given : List C → List Given → Type 0
  All_given point [] = Unit {0}
  All_given point (fact c l r ∷ gs) = E (value o point l) (value o point r) × All_given point gs

  pulled : (point : List C) (gs : List Given) → All_given point gs → E (value o point (pull gs)) o.zero
  pulled point [] h = R.same o.zero
  pulled point (fact c l r ∷ gs) h =
      R.then (value o point (c ⊗ (l ⊝ r) ⊕ pull gs)) (o.add (o.mul (value o point c) (difference o (value o point r) (value o point r))) o.zero) o.zero
      (R.add-same (value o point (c ⊗ (l ⊝ r))) (o.mul (value o point c) (difference o (value o point r) (value o point r))) (value o point (pull gs)) o.zero
      (R.mul-same (value o point c) (value o point c) (value o point (l ⊝ r)) (difference o (value o point r) (value o point r)) (R.same (value o point c))
      (R.add-same (value o point l) (value o point r) (o.neg (value o point r)) (o.neg (value o point r)) h.0 (R.same (o.neg (value o point r)))))
      (pulled point gs h.1))
      (solve o E R (value o point c ∷ value o point r ∷ []) (x₀ ⊗ (x₁ ⊝ x₁) ⊕ nought) nought refl)

  -- the solver with hypotheses: where a is b and the multiples by computing, and each equation holds, a and b have one value
  pub solve_by : (point : List C) (gs : List Given) (a b : Expression) → All_given point gs → normal (a ⊝ (b ⊕ pull gs)) ≡ []
      → E (value o point a) (value o point b)
  solve_by point gs a b h e =
      R.then (value o point a) (value o point (b ⊕ pull gs)) (value o point b) (solve o E R point a (b ⊕ pull gs) e)
      (R.then (value o point (b ⊕ pull gs)) (o.add (value o point b) o.zero) (value o point b)
      (R.add-same (value o point b) (value o point b) (value o point (pull gs)) o.zero (R.same (value o point b)) (pulled point gs h))
      (R.add-zero (value o point b)))
