use Rattle.std.proofs.Common.{◌≡◌, ◌∙◌, ap, arith, ◌++◌, ◌⊎◌, inl, inr, drop, []}
use Rattle.std.proofs.lemmas.Grind.{common_steps}
use Rattle.std.proofs.lemmas.List.{drop_all}
use Rattle.qe_poly.proofs.Products.{powers_end, rest_taken}
use Rattle.qe_poly.proofs.monomial.powers_product.Goals as goal
use Rattle.qe_poly.proofs.monomial.powers_product.Goals.{then-loop-i-test+else-j-right, else-loop-i-test}

pub returns : goal.returns
returns c =
    let left = drop c.loop-i.i c.args.left.now in
    let right = drop c.loop-i.j c.args.right.now in
    let ended : (left ≡ []) ⊎ (right ≡ []) = elim c.loop-i-test.branch [
      | then-loop-i-test+else-j-right w ↦ inr (drop_all c.loop-i.j c.args.right.now w.if-j-right.false)
      | else-loop-i-test w ↦ inl (drop_all c.loop-i.i c.args.left.now w.loop-i-test.false)
    ] in
    powers_end c.loop-i.powers.items left right c.args.left.now c.args.right.now c.extend_from_slice.new.self.items c.extend_from_slice-2.new.self.items ended
    c.loop-i.invariant.left_low c.loop-i.invariant.right_low c.loop-i.invariant.low c.loop-i.invariant.rest
    (c.in_ok-extend_from_slice.ensures.items ∙ ap (λ m. c.loop-i.powers.items ++ m) (rest_taken c.loop-i.i c.args.left.now))
    (c.in_ok-extend_from_slice-2.ensures.items ∙ ap (λ m. c.extend_from_slice.new.self.items ++ m) (rest_taken c.loop-i.j c.args.right.now))

pub loop-i-preserved-in-Less : goal.loop-i-preserved-in-Less
loop-i-preserved-in-Less c = grind (arith, common_steps)

pub loop-i-preserved-in-Equal : goal.loop-i-preserved-in-Equal
loop-i-preserved-in-Equal c = grind (arith, common_steps)

pub loop-i-preserved : goal.loop-i-preserved
loop-i-preserved c = grind (arith, common_steps)
