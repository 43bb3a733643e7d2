use Rattle.qe_form.proofs.Occurring.{occurring_is_free}
use Rattle.qe_form.proofs.laws.occurring_is_free.Goals as goal

pub returns : goal.returns
returns c x f none = occurring_is_free x f none
