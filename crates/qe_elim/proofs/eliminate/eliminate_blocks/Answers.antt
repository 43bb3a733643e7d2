use Rattle.std.proofs.Common.{suc, ◌≡◌, ◌∙◌, sym, ap, subst, ◌<◌, ◌+◌, ◌-◌, ◌^◌, drop, Err, arith}
use Rattle.std.proofs.lemmas.Result.{err_from_is_err_and}
use Rattle.qe_form.specs.Tree.{tree}
use Rattle.qe_form.specs.Plain.{IsPlain}
use Rattle.qe_simp.proofs.Shapes.{simplified_is_plain}
use Rattle.qe_form.specs.Blocks.{under_blocks}
use Rattle.qe_tree.proofs.Stands.{Stands, stands_same}
use Rattle.qe_elim.specs.Answer.{IsElimination}
use Rattle.qe_elim.proofs.Alone.{IsEliminated, block_distinct, block_more, more_small, block_stops, block_at}
use Rattle.qe_elim.proofs.eliminate.eliminate_blocks.Goals as goal

pub eliminate_block-requires-clause-distinct : goal.eliminate_block-requires-clause-distinct
eliminate_block-requires-clause-distinct c =
    let within = c.loop-left.invariant.within in
    let some = c.loop-left-test.true in
    block_distinct c.args.prenex.now.blocks.items (c.loop-left.left - 1) c.index.result.now _
    (block_at c.args.prenex.now.blocks.items (c.loop-left.left - 1) c.index.result.now (omega arith) c.index.ensures) c.requires.distinct

pub returns-in_err-form-2-clause-answer : goal.returns-in_err-form-2-clause-answer
returns-in_err-form-2-clause-answer c =
    let within = c.loop-left.invariant.within in
    let some = c.loop-left-test.true in
    let fits = c.ranges.limit in
    let exit = err_from_is_err_and c.from_residual-in_err-form-2.result c.from_residual-in_err-form-2.ensures.1 in
    let bs = c.args.prenex.now.blocks.items in
    let m = tree c.args.prenex.now.matrix in
    let k = c.loop-left.left - 1 in
    let last : suc k ≡ c.loop-left.left = omega arith in
    let number : k + 1 ≡ suc k = omega arith in
    let few : c.args.limit < 2 ^ 32 = omega arith in
    subst (λ r. IsElimination c.args.limit bs m r) (sym (exit.1 ∙ ap Err exit.2))
    (block_stops m c.args.limit few bs k c.index.result.now _
    (block_at c.args.prenex.now.blocks.items k c.index.result.now (omega arith) c.index.ensures) (tree c.loop-left.form)
    (subst (λ n. IsEliminated m c.args.limit bs n (tree c.loop-left.form)) (sym last) c.loop-left.invariant.done)
    (k + 1) number c.in_err-form-2.field-0.0 c.in_err-form-2.ensures.answer)

pub loop-left-preserved : goal.loop-left-preserved
loop-left-preserved c =
    let within = c.loop-left.invariant.within in
    let some = c.loop-left-test.true in
    let fits = c.ranges.limit in
    let bs = c.args.prenex.now.blocks.items in
    let m = tree c.args.prenex.now.matrix in
    let k = c.loop-left.left - 1 in
    let last : suc k ≡ c.loop-left.left = omega arith in
    let number : k + 1 ≡ suc k = omega arith in
    let few : c.args.limit < 2 ^ 32 = omega arith in
    let at = block_at c.args.prenex.now.blocks.items k c.index.result.now (omega arith) c.index.ensures in
    let before = subst (λ n. IsEliminated m c.args.limit bs n (tree c.loop-left.form)) (sym last) c.loop-left.invariant.done in
    record {
      done = block_more m c.args.limit few bs k c.index.result.now _ at (tree c.loop-left.form) before (k + 1) number c.in_ok-form-2.form c.in_ok-form-2.ensures.answer c.in_ok-form-2.ensures.ready;
      small = more_small m c.args.limit few bs k c.index.result.now _ at (tree c.loop-left.form) before (k + 1) c.in_ok-form-2.form c.in_ok-form-2.ensures.answer c.in_ok-form-2.ensures.ready c.loop-left.invariant.small;
      within = omega arith;
    }

pub returns-then-left-eq0-clause-plain : goal.returns-then-left-eq0-clause-plain
returns-then-left-eq0-clause-plain c = simplified_is_plain _ (c.in_ok-simplify.ensures.plain (subst IsPlain (sym c.in_ok-form.ensures) c.requires.plain))

pub returns-clause-same : goal.returns-clause-same
returns-clause-same c =
    let stops = c.loop-left-test.false in
    let all : c.loop-left.left ≡ 0 = omega arith in
    let items = c.args.prenex.now.blocks.items in
    let m = tree c.args.prenex.now.matrix in
    stands_same (under_blocks items m) (tree c.loop-left.form) (subst (λ n. Stands (under_blocks (drop n items) m) (tree c.loop-left.form)) all c.loop-left.invariant.done.stands)
