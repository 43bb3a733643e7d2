use Rattle.qe_syntax.proofs.OneFault.{one_fault}
use Rattle.qe_syntax.proofs.laws.one_fault.Goals as goal

pub returns : goal.returns
returns c = one_fault
