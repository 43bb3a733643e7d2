-- An ordered field with square roots.
use Rattle.qe_ring.specs.Ring.{Operations}
use Rattle.qe_ring.specs.Sign.{Sign}
use Rattle.qe_ring.specs.Ordered.{IsOrdered, EqualBySign, Inverts, HasRoots}

-- an ordered field, up to the sign of the difference, in which what is not minus has a square root that is not minus
pub record IsEuclideanField {C : Type 0} (o : Operations C) (s : C → Sign) : Type 0 where
  pub ordered : IsOrdered o s (EqualBySign o s)
  pub inverts : Inverts o s
  pub roots : HasRoots o s
