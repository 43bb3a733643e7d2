use Rattle.std.proofs.lemmas.Result.{IfOk-weaker}
use Rattle.qe_gen.proofs.Forms.{either_of}
use Rattle.qe_gen.proofs.generator.clause.Goals as goal

pub returns : goal.returns
returns c =
    IfOk-weaker c.either.result _ _ (λ f e. either_of _ _ _ _ _ e c.in_ok-left.ensures c.in_ok-right.ensures) c.either.ensures
