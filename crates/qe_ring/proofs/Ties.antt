-- Ties of an order.
use Rattle.std.proofs.Common.{◌≡◌, refl, true}
use Rattle.std.specs.declared.cmp.Ordering.{Ordering}
use Rattle.std.specs.declared.cmp.Ordering.TheVariants.{Less, Equal, Greater}
use Rattle.std.specs.Ordering.{is_eq, ordering_then}

-- what tests as a tie is one
pub equal_tie : (r : Ordering) → is_eq r ≡ true → r ≡ Equal
equal_tie Less tied = absurd (cc)
equal_tie Equal tied = refl
equal_tie Greater tied = absurd (cc)

pub then_Equal : (r : Ordering) → ordering_then r Equal ≡ r
then_Equal Less = refl
then_Equal Equal = refl
then_Equal Greater = refl

-- one order after another ties where both do
pub both_tie : (r s : Ordering) → ordering_then r s ≡ Equal → (r ≡ Equal) × (s ≡ Equal)
both_tie Less s tie = (tie, absurd (cc))
both_tie Equal s tie = (refl, tie)
both_tie Greater s tie = (tie, absurd (cc))
