use Rattle.qe_syntax.proofs.First.{text_or_fault}
use Rattle.qe_syntax.proofs.laws.text_has_no_fault.Goals as goal

pub returns : goal.returns
returns c = text_or_fault
