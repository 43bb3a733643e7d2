use Rattle.qe_form.proofs.Preservation.{preserves_is_same}
use Rattle.qe_form.proofs.laws.preserves_is_same.Goals as goal

pub returns : goal.returns
returns c f g settled s = preserves_is_same f g settled s
