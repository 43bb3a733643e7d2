use Rattle.qe_form.specs.Tree.{tree}
use Rattle.qe_node.proofs.Pieces.{rank_is}
use Rattle.qe_node.proofs.piece.NodePiece.rank.Goals as goal

pub returns : goal.returns
returns c = rank_is c.args.self.now c.self.inside.vars c.items.result.now (tree c.self.inside.form) c.self.view_is c.items.ensures
