use Rattle.qe_line.proofs.Stated.{respects_equality}
use Rattle.qe_line.proofs.laws.respects_equality.Goals as goal

pub returns : goal.returns
returns g c = respects_equality g.L.Line.field
