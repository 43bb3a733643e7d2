use Rattle.qe_form.specs.Tree.{tree}
use Rattle.qe_node.proofs.Pieces.{leaf_is}
use Rattle.qe_node.proofs.piece.NodePiece.is_leaf.Goals as goal

pub returns : goal.returns
returns c = leaf_is c.args.self.now c.self.inside.vars c.items.result.now (tree c.self.inside.form) c.self.view_is c.items.ensures c.is_empty.result c.is_empty.ensures
