use Rattle.qe_tower.proofs.Stated.{sum_laws}
use Rattle.qe_tower.proofs.laws.sign_of_sum.Goals as goal

pub returns : goal.returns
returns c = sum_laws
