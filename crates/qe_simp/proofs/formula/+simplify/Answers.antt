use Rattle.qe_simp.proofs.Gathered.{gathered_more, canonical_more}
use Rattle.qe_simp.proofs.formula.+simplify.Goals as goal

pub gather-loop-form-preserved : goal.gather-loop-form-preserved
gather-loop-form-preserved t c = record {
  exact = gathered_more c.args.connective c.loop-form.parts.items c.add_to.new.parts.items c.loop-form.yielded c.in-Some.form c.in_ok-simple.simple c.loop-form.invariant.exact c.in_ok-simple.ensures.exact c.in_ok-add_to.ensures;
  canonical = canonical_more c.loop-form.yielded c.in-Some.form c.loop-form.invariant.canonical c.in_ok-simple.ensures.canonical;
}
