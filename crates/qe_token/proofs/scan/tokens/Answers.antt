use Rattle.std.proofs.lemmas.Result.{IfOk-weaker}
use Rattle.qe_token.proofs.Tokenized.{no_others}
use Rattle.qe_token.proofs.scan.tokens.Goals as goal

pub returns-clause-only : goal.returns-clause-only
returns-clause-only c = IfOk-weaker c.split.result _ _ (λ ts e. no_others c.args.bytes.now ts.items e) c.split.ensures
