use Rattle.std.proofs.lemmas.Result.{IfOk-weaker}
use Rattle.qe_form.specs.Tree.{tree}
use Rattle.qe_simp.proofs.Shapes.{plain_no_quantifier}
use Rattle.qe_elim.proofs.Alone.{complete}
use Rattle.qe_elim.proofs.eliminate.eliminate_alone.Goals as goal

pub returns-clause-complete : goal.returns-clause-complete
returns-clause-complete c = complete c.args.limit c.args.prenex.now.blocks.items (tree c.args.prenex.now.matrix) c.eliminate_blocks.result c.eliminate_blocks.ensures.answer

pub returns-clause-no_quantifier : goal.returns-clause-no_quantifier
returns-clause-no_quantifier c = IfOk-weaker c.eliminate_blocks.result _ _ (λ o plain. plain_no_quantifier (tree o.form) plain) c.eliminate_blocks.ensures.plain
