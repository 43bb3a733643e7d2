use Rattle.qe_read.proofs.value.multiply.Goals as goal

pub returns : goal.returns
returns c = c.placed.ensures _ _ c.mul.ensures
