use Rattle.qe_poly.proofs.KeptTerms.{negated_all}
use Rattle.qe_poly.proofs.poly.Poly.neg.Goals as goal

pub invariant_of-result : goal.invariant_of-result
invariant_of-result c =
    negated_all c.loop-term.terms.items c.deref-term-items.result.now c.self.inside.terms.items c.loop-term.term-index
    c.deref-term-items.ensures.value c.loop-term-test.false c.loop-term.invariant c.self.invariant
