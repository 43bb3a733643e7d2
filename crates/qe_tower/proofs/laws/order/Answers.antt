use Rattle.qe_tower.proofs.Stated.{order_laws}
use Rattle.qe_tower.proofs.laws.order.Goals as goal

pub returns : goal.returns
returns c = order_laws
