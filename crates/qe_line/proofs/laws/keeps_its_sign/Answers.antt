use Rattle.qe_line.proofs.Stated.{keeps_its_sign}
use Rattle.qe_line.proofs.laws.keeps_its_sign.Goals as goal

pub returns : goal.returns
returns g c a b d x y h = keeps_its_sign g.L.Line.field a b d x y h
