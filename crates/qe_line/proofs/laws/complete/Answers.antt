use Rattle.qe_line.proofs.Stated.{complete}
use Rattle.qe_line.proofs.laws.complete.Goals as goal

pub returns : goal.returns
returns g c fs test = complete g.L.Line.field fs test
