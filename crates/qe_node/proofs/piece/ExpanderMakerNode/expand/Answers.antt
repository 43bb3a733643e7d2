use Rattle.qe_node.proofs.Pieces.{by_key}
use Rattle.qe_node.proofs.piece.ExpanderMakerNode.expand.Goals as goal

pub returns-clause-answer : goal.returns-clause-answer
returns-clause-answer g c = by_key c.args.piece.now (g.T.Stop.told c.expand.new.stop) c.expand.result c.expand.ensures.answer
