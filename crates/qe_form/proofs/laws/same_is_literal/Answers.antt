use Rattle.qe_form.proofs.Sameness.{same_is_literal}
use Rattle.qe_form.proofs.laws.same_is_literal.Goals as goal

pub returns : goal.returns
returns c f g h s p valid k = same_is_literal f g h s p valid k
