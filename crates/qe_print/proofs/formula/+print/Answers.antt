use Rattle.std.proofs.Common.{◌∙◌, sym}
use Rattle.qe_print.proofs.Listed.{all_listed}
use Rattle.qe_print.proofs.formula.+print.Goals as goal

pub push_parts-returns : goal.push_parts-returns
push_parts-returns t c =
    all_listed _ _ _ _ _ c.items-items.result.now _ c.loop-i.i c.items-items.ensures (sym c.is_empty.ensures ∙ c.if-is_empty.false) c.loop-i-test.false c.loop-i.invariant
