use Rattle.qe_line.proofs.Stated.{sign_at_quotient}
use Rattle.qe_line.proofs.laws.sign_at_quotient.Goals as goal

pub returns : goal.returns
returns g c = sign_at_quotient g.L.Line.field
