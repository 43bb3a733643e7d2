use Rattle.qe_form.proofs.TwoSides.{decided}
use Rattle.qe_form.proofs.laws.decided.Goals as goal

pub returns : goal.returns
returns c f h p = decided f h p
