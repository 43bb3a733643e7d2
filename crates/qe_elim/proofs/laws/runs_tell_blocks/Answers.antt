use Rattle.qe_elim.proofs.Telling.{runs_tell}
use Rattle.qe_elim.proofs.laws.runs_tell_blocks.Goals as goal

pub returns : goal.returns
returns c = runs_tell
