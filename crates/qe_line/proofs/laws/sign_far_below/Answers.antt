use Rattle.qe_line.proofs.Stated.{sign_far_below}
use Rattle.qe_line.proofs.laws.sign_far_below.Goals as goal

pub returns : goal.returns
returns g c a b d = sign_far_below g.L.Line.field a b d
