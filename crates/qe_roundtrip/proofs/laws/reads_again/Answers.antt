use Rattle.qe_roundtrip.proofs.Again.{reads_again}
use Rattle.qe_roundtrip.proofs.laws.reads_again.Goals as goal

pub returns : goal.returns
returns c = reads_again
