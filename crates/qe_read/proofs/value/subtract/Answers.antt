use Rattle.qe_read.proofs.value.subtract.Goals as goal

pub returns : goal.returns
returns c = c.placed.ensures _ _ c.sub.ensures
