use Rattle.qe_form.proofs.Values.{value_of_negative}
use Rattle.qe_form.proofs.laws.value_of_negative.Goals as goal

pub returns : goal.returns
returns c q p valid = value_of_negative q p valid
