use Rattle.qe_form.proofs.Values.{value_of_product}
use Rattle.qe_form.proofs.laws.value_of_product.Goals as goal

pub returns : goal.returns
returns c q r p valid = value_of_product q r p valid
