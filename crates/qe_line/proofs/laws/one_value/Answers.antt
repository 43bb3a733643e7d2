use Rattle.qe_line.proofs.Stated.{one_value}
use Rattle.qe_line.proofs.laws.one_value.Goals as goal

pub returns : goal.returns
returns g c = one_value g.L.Line.field
