use Rattle.qe_line.proofs.Stated.{sign_just_above}
use Rattle.qe_line.proofs.laws.sign_just_above.Goals as goal

pub returns : goal.returns
returns g c = sign_just_above g.L.Line.field
