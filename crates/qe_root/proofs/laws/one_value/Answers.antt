use Rattle.qe_root.proofs.RootLaws.{one_value_is}
use Rattle.qe_root.proofs.laws.one_value.Goals as goal

pub returns : goal.returns
returns c = one_value_is
