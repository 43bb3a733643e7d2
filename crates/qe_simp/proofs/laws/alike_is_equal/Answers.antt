use Rattle.qe_simp.proofs.Alikes.{alike_equal}
use Rattle.qe_simp.proofs.laws.alike_is_equal.Goals as goal

pub returns : goal.returns
returns c = λ f g h. alike_equal h
