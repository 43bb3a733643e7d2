use Rattle.qe_form.proofs.Preservation.{preserves_is_kept}
use Rattle.qe_form.proofs.laws.preserves_is_kept.Goals as goal

pub returns : goal.returns
returns c = preserves_is_kept
