use Rattle.qe_tower.proofs.ValidNumbers.{inverse_of}
use Rattle.qe_tower.proofs.laws.inverse.Goals as goal

pub returns : goal.returns
returns c = inverse_of
