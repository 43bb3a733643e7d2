use Rattle.qe_form.proofs.SamePoints.{equal_points}
use Rattle.qe_form.proofs.laws.equal_points.Goals as goal

pub returns : goal.returns
returns c f p q valid_p valid_q same b = equal_points f p q valid_p valid_q same b
