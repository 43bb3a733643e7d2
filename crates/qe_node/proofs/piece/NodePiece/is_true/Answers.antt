use Rattle.qe_form.specs.Tree.{tree}
use Rattle.qe_node.proofs.Pieces.{true_is, other_is}
use Rattle.qe_node.proofs.piece.NodePiece.is_true.Goals as goal

pub returns-then-is_empty : goal.returns-then-is_empty
returns-then-is_empty c =
    true_is c.args.self.now c.self.inside.vars c.items.result.now (tree c.self.inside.form) c.self.view_is c.items.ensures c.is_empty.result c.is_true.result c.is_empty.ensures c.if-is_empty.true c.is_true.ensures

pub returns-else-is_empty : goal.returns-else-is_empty
returns-else-is_empty c =
    other_is c.args.self.now c.self.inside.vars c.items.result.now (tree c.self.inside.form) c.self.view_is c.items.ensures c.is_empty.result c.is_empty.ensures c.if-is_empty.false
