use Rattle.std.proofs.Common.{◌≡◌, arith}
use Rattle.qe_gen.proofs.Forms.{clause_more, clause_all}
use Rattle.qe_gen.proofs.generator.matrix.Goals as goal

pub loop-index-preserved : goal.loop-index-preserved
loop-index-preserved c =
    clause_more c.args.number c.loop-index.index c.loop-index.clauses _ _ c.in_ok-push.ensures.ok c.in_ok-clause.ensures c.loop-index.invariant

pub returns : goal.returns
returns c =
    let all : c.loop-index.index ≡ 8 = omega arith in
    clause_all c.args.number c.loop-index.index c.loop-index.clauses all c.loop-index.invariant
