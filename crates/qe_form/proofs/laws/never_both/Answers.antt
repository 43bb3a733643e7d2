use Rattle.qe_form.proofs.TwoSides.{never_both}
use Rattle.qe_form.proofs.laws.never_both.Goals as goal

pub returns : goal.returns
returns c f p t e = never_both f p t e
