use Rattle.std.proofs.Common.{rules, ◌<◌, length, arith}
use Rattle.std.proofs.lemmas.Grind.{common_steps}
use Rattle.qe_syntax.proofs.Made.{made_product}
use Rattle.qe_syntax.proofs.term.product.Goals as goal

pub returns : goal.returns
returns c = let h : 0 < length c.args.factors = grind (arith, common_steps) in search (rules, made_product)
