use Rattle.std.proofs.lemmas.Grind.{common_steps}
use Rattle.std.proofs.Common.{◌≡◌, ◌∙◌, sym, ap, drop, [], arith}
use Rattle.std.proofs.lemmas.List.{drop_all}
use Rattle.qe_poly.specs.Monomial.{times, is_high}
use Rattle.qe_poly.proofs.Products.{times_nil}
use Rattle.qe_poly.proofs.monomial.has_high_product.Goals as goal

pub returns-else-j-right : goal.returns-else-j-right
returns-else-j-right c =
    let rest = drop c.loop-i.i c.args.left.now in
    let none : drop c.loop-i.j c.args.right.now ≡ [] = drop_all c.loop-i.j c.args.right.now c.if-j-right.false in
    sym (sym c.loop-i.invariant.rest ∙ (ap (λ n. is_high (times rest n)) none ∙ (ap is_high (times_nil rest) ∙ c.loop-i.invariant.left_low)))

pub loop-i-preserved-in-Less : goal.loop-i-preserved-in-Less
loop-i-preserved-in-Less c = grind (arith, common_steps)

pub loop-i-preserved-in-Equal : goal.loop-i-preserved-in-Equal
loop-i-preserved-in-Equal c = grind (arith, common_steps)

pub loop-i-preserved : goal.loop-i-preserved
loop-i-preserved c = grind (arith, common_steps)
