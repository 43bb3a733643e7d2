use Rattle.qe_line.proofs.Stated.{sign_at_root}
use Rattle.qe_line.proofs.laws.sign_at_root.Goals as goal

pub returns : goal.returns
returns g c = sign_at_root g.L.Line.field
