use Rattle.qe_tower.proofs.Stated.{carry_laws}
use Rattle.qe_tower.proofs.laws.carry.Goals as goal

pub returns : goal.returns
returns c = carry_laws
