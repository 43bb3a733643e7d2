use Rattle.qe_form.proofs.Preservation.{preserves_is_preorder}
use Rattle.qe_form.proofs.laws.preserves_is_preorder.Goals as goal

pub returns : goal.returns
returns c = preserves_is_preorder
