use Rattle.qe_halt.proofs.Handed.{handed_on}
use Rattle.qe_halt.proofs.laws.handed_on.Goals as goal

pub returns : goal.returns
returns c _ = handed_on
