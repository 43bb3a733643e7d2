use Rattle.qe_form.proofs.Values.{value_of_multiple}
use Rattle.qe_form.proofs.laws.value_of_multiple.Goals as goal

pub returns : goal.returns
returns c z q p valid = value_of_multiple z q p valid
