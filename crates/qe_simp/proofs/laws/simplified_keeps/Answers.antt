use Rattle.qe_simp.proofs.Kept.{simplified_keeps}
use Rattle.qe_simp.proofs.laws.simplified_keeps.Goals as goal

pub returns : goal.returns
returns c = simplified_keeps
