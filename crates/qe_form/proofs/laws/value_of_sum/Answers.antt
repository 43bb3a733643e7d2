use Rattle.qe_form.proofs.Values.{value_of_sum}
use Rattle.qe_form.proofs.laws.value_of_sum.Goals as goal

pub returns : goal.returns
returns c q r p valid = value_of_sum q r p valid
