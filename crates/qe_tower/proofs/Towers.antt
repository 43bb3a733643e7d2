-- The elements over a tower are an ordered ring.
use Rattle.std.proofs.Common.{ℕ, zero, suc}
use Rattle.qe_ring.specs.Ordered.{IsOrdered, EqualBySign}
use Rattle.qe_tower.specs.Fraction.{fraction_operations, fraction_sign}
use Rattle.qe_tower.specs.Element.{Element, Tower, bare, over, operations}
use Rattle.qe_tower.specs.Sign.{sign, IsTower}
use Rattle.qe_tower.proofs.Adjoin.{EqualParts, adjoined}
use Rattle.qe_tower.proofs.Fractions.{fraction_ordered}

-- equal fractions part by part: the equality by which the induction on the tower goes
abbrev pub Alike : (n : ℕ) → Element n → Element n → Type 0
Alike zero = EqualBySign fraction_operations fraction_sign
Alike (suc n) = EqualParts (Alike n)

-- the elements over a tower are an ordered ring, by induction on its height
pub ordered : {n : ℕ} (t : Tower n) → IsTower t → IsOrdered (operations t) (sign t) (Alike n)
ordered bare h = fraction_ordered
ordered (over {n = n} t r) h = adjoined (operations t) (sign t) (Alike n) (ordered t h.0) r h.1
