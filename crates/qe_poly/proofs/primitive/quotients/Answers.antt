use Rattle.std.proofs.Common.{◌++◌, ◌∷◌, ◌∙◌, sym, ap, subst, unsigned_abs, map, drop, ◌+◌}
use Rattle.qe_poly.specs.Primitive.{divided, DividesEach}
use Rattle.qe_poly.specs.Rows.{shown}
use Rattle.qe_poly.proofs.Divisors.{Divides-from_abs, quotient_is}
use Rattle.qe_poly.proofs.KeptTerms.{first_left, pushed}
use Rattle.qe_poly.proofs.primitive.quotients.Goals as goal
use Rattle.qe_poly.proofs.primitive.quotients.Goals.{After-term-item}

each : (c : After-term-item) → DividesEach (unsigned_abs c.args.by) (map shown (c.term-item.result ∷ drop (c.loop-term.term-index + 1) c.args.terms.now))
each c =
    subst (λ ts. DividesEach (unsigned_abs c.args.by) (map shown ts))
    (first_left c.args.terms.now c.loop-term.term-index c.term-item.result c.loop-term-test.true c.term-item.is) c.loop-term.invariant.divides

pub exact_div-requires-clause-divides : goal.exact_div-requires-clause-divides
exact_div-requires-clause-divides c = Divides-from_abs c.term-item.result.coef c.args.by (each (goal.at.exact_div-requires-clause-divides c).After-term-item).0

pub loop-term-preserved : goal.loop-term-preserved
loop-term-preserved c =
    let left = first_left c.args.terms.now c.loop-term.term-index c.term-item.result c.loop-term-test.true c.term-item.is in
    let divides = each (goal.at.loop-term-preserved c).After-term-item in
    let rest = divided c.args.by (map shown (drop (c.loop-term.term-index + 1) c.args.terms.now)) in
    record {
      divides = divides.1;
      quotients = pushed c.loop-term.kept.items c.push.new.self.items (record { monomial = c.in_ok-copy.field-0; coef = c.exact_div.result }) rest c.in_ok-push.ensures.items
          ∙ ((λ i. map shown c.loop-term.kept.items ++ (c.in_ok-copy.ensures i, quotient_is c.term-item.result.coef c.args.by c.exact_div.result c.requires.nonzero divides.0 c.exact_div.ensures i) ∷ rest)
          ∙ (ap (λ ts. map shown c.loop-term.kept.items ++ divided c.args.by (map shown ts)) (sym left) ∙ c.loop-term.invariant.quotients));
    }
