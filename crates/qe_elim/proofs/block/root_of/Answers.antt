use Rattle.std.proofs.Common.{◌≡◌, sym, subst, IfOk}
use Rattle.qe_form.specs.Tree.{tree}
use Rattle.qe_form.specs.Plain.{IsPlain}
use Rattle.qe_form.specs.Negation.{negated}
use Rattle.qe_simp.specs.Simplified.{simplified}
use Rattle.qe_simp.specs.Shape.{IsSimplified}
use Rattle.qe_norm.specs.declared.blocks.Kind.TheVariants as kind
use Rattle.qe_form.specs.Blocks.{for_all}
use Rattle.qe_norm.specs.Blocks.{kind_of}
use Rattle.qe_tree.specs.Block.{matrix_for}
use Rattle.qe_tree.specs.Sound.{IsReady}
use Rattle.qe_elim.proofs.Roots.{simple, ready, small, negation_plain}
use Rattle.qe_elim.proofs.block.root_of.Goals as goal

pub returns-in_ok-negated-in-All-clause-simplified : goal.returns-in_ok-negated-in-All-clause-simplified
returns-in_ok-negated-in-All-clause-simplified c =
    simple _ (subst IsPlain (sym c.in_ok-negated-in-All.ensures.exact) (negation_plain (tree c.args.matrix) c.requires.plain)) c.simplify-in-All.result c.simplify-in-All.ensures.plain

pub returns-in_ok-negated-in-All-clause-ready : goal.returns-in_ok-negated-in-All-clause-ready
returns-in_ok-negated-in-All-clause-ready c =
    let is : c.args.kind ≡ kind.All = cc in
    subst (λ k. IfOk c.simplify-in-All.result (λ x. IsReady IsSimplified (matrix_for (kind_of k) (tree c.args.matrix)))) (sym is)
    (ready (negated (tree c.args.matrix)) _ c.in_ok-negated-in-All.ensures.exact (negation_plain (tree c.args.matrix) c.requires.plain) c.simplify-in-All.result
    c.simplify-in-All.ensures.exact c.simplify-in-All.ensures.kept c.simplify-in-All.ensures.plain)

pub returns-in_ok-negated-in-All-clause-small : goal.returns-in_ok-negated-in-All-clause-small
returns-in_ok-negated-in-All-clause-small c =
    small for_all (tree c.args.matrix) c.requires.small c.simplify-in-All.result
    (subst (λ g. IfOk c.simplify-in-All.result (λ h. tree h ≡ simplified g)) c.in_ok-negated-in-All.ensures.exact c.simplify-in-All.ensures.exact)
    (ready (negated (tree c.args.matrix)) _ c.in_ok-negated-in-All.ensures.exact (negation_plain (tree c.args.matrix) c.requires.plain) c.simplify-in-All.result
    c.simplify-in-All.ensures.exact c.simplify-in-All.ensures.kept c.simplify-in-All.ensures.plain)
