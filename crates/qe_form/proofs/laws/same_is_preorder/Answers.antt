use Rattle.qe_form.proofs.Sameness.{same_is_preorder}
use Rattle.qe_form.proofs.laws.same_is_preorder.Goals as goal

pub returns : goal.returns
returns c = same_is_preorder
