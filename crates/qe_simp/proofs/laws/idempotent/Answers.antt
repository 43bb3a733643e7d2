use Rattle.qe_simp.proofs.Shapes.{simplified_twice}
use Rattle.qe_simp.proofs.laws.idempotent.Goals as goal

pub returns : goal.returns
returns c = simplified_twice
