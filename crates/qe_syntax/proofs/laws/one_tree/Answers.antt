use Rattle.qe_syntax.proofs.First.{one_tree}
use Rattle.qe_syntax.proofs.laws.one_tree.Goals as goal

pub returns : goal.returns
returns c = one_tree
