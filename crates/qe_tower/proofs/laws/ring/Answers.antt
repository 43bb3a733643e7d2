use Rattle.qe_tower.proofs.Stated.{ring_laws}
use Rattle.qe_tower.proofs.laws.ring.Goals as goal

pub returns : goal.returns
returns c = ring_laws
