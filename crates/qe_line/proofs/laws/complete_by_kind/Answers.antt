use Rattle.qe_line.proofs.Stated.{complete_by_kind}
use Rattle.qe_line.proofs.laws.complete_by_kind.Goals as goal

pub returns : goal.returns
returns g c ks = complete_by_kind g.L.Line.field ks
