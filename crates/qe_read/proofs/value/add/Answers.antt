use Rattle.qe_read.proofs.value.add.Goals as goal

pub returns : goal.returns
returns c = c.placed.ensures _ _ c.add.ensures
