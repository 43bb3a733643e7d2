use Rattle.qe_form.proofs.Preservation.{cores_are_decided}
use Rattle.qe_form.proofs.laws.cores_are_decided.Goals as goal

pub returns : goal.returns
returns c = cores_are_decided
