use Rattle.qe_form.proofs.Renamed.{value_of_renamed}
use Rattle.qe_form.proofs.laws.value_of_renamed.Goals as goal

pub returns : goal.returns
returns c x y q p valid none = value_of_renamed x y q p valid none
