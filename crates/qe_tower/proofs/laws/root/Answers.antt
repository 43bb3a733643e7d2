use Rattle.qe_tower.proofs.ValidNumbers.{root_of_number}
use Rattle.qe_tower.proofs.laws.root.Goals as goal

pub returns : goal.returns
returns c = root_of_number
