use Rattle.qe_form.proofs.TwoSides.{classical}
use Rattle.qe_form.proofs.laws.classical.Goals as goal

pub returns : goal.returns
returns c settled f p = classical settled f p
