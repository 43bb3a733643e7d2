use Rattle.std.proofs.Common.{rules, ◌<◌, length, arith}
use Rattle.std.proofs.lemmas.Grind.{common_steps}
use Rattle.qe_syntax.proofs.Made.{made_sum}
use Rattle.qe_syntax.proofs.term.sum.Goals as goal

pub returns : goal.returns
returns c = let h : 0 < length c.args.addends = grind (arith, common_steps) in search (rules, made_sum)
