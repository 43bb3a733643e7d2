use Rattle.qe_form.proofs.Sameness.{same_is_kept}
use Rattle.qe_form.proofs.laws.same_is_kept.Goals as goal

pub returns : goal.returns
returns c = same_is_kept
