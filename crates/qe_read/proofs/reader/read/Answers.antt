use Rattle.std.proofs.Common.{arith, subst}
use Rattle.std.proofs.lemmas.Result.{IfOk-weaker}
use Rattle.qe_syntax.specs.Code.{tree_of}
use Rattle.qe_syntax.specs.Faults.{IsText}
use Rattle.qe_read.proofs.Numbers.{answers_well}
use Rattle.qe_read.proofs.Texts.{free_are_text, bound_are_text, names_are_few, read_only, answered}
use Rattle.qe_read.proofs.reader.read.Goals as goal

pub read_tree-requires-clause-few : goal.read_tree-requires-clause-few
read_tree-requires-clause-few c =
    let few = names_are_few c.args.bytes.now c.in_ok-tokens.tokens.items (tree_of c.in_ok-formula.formula) c.in_ok-tokens.ensures.are
    (subst (λ ts. IsText ts (tree_of c.in_ok-formula.formula)) c.deref.ensures.value c.in_ok-formula.ensures.answers) c.requires in
    omega (arith, few)

pub read_tree-requires-clause-free : goal.read_tree-requires-clause-free
read_tree-requires-clause-free c =
    free_are_text c.args.bytes.now c.in_ok-tokens.tokens.items (tree_of c.in_ok-formula.formula) c.in_ok-tokens.ensures.are
    (subst (λ ts. IsText ts (tree_of c.in_ok-formula.formula)) c.deref.ensures.value c.in_ok-formula.ensures.answers)

pub read_tree-requires-clause-bound : goal.read_tree-requires-clause-bound
read_tree-requires-clause-bound c =
    bound_are_text c.args.bytes.now c.in_ok-tokens.tokens.items (tree_of c.in_ok-formula.formula) c.in_ok-tokens.ensures.are
    (subst (λ ts. IsText ts (tree_of c.in_ok-formula.formula)) c.deref.ensures.value c.in_ok-formula.ensures.answers)

pub returns-clause-only : goal.returns-clause-only
returns-clause-only c =
    read_only c.args.bytes.now c.in_ok-tokens.tokens.items c.deref.result.now (tree_of c.in_ok-formula.formula) c.read_tree.result c.in_ok-tokens.ensures.only
    c.deref.ensures.value c.in_ok-formula.ensures.only c.read_tree.ensures.answers

pub returns-clause-well_numbered : goal.returns-clause-well_numbered
returns-clause-well_numbered c = answers_well c.args.bytes.now (tree_of c.in_ok-formula.formula) c.read_tree.result c.read_tree.ensures.answers

pub returns-clause-few : goal.returns-clause-few
returns-clause-few c =
    let few = names_are_few c.args.bytes.now c.in_ok-tokens.tokens.items (tree_of c.in_ok-formula.formula) c.in_ok-tokens.ensures.are
    (subst (λ ts. IsText ts (tree_of c.in_ok-formula.formula)) c.deref.ensures.value c.in_ok-formula.ensures.answers) c.requires in
    IfOk-weaker c.read_tree.result _ _ (λ input h. omega (arith, h, few)) c.read_tree.ensures.few

pub returns-clause-answers : goal.returns-clause-answers
returns-clause-answers c =
    answered c.args.bytes.now c.in_ok-tokens.tokens.items c.deref.result.now (tree_of c.in_ok-formula.formula) c.in_ok-tokens.ensures.are
    c.deref.ensures.value c.in_ok-formula.ensures.answers c.read_tree.result c.read_tree.ensures.answers
