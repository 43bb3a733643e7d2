use Rattle.std.proofs.Common.{ap, option_copied, arith}
use Rattle.std.proofs.lemmas.Result.{err_from_is_err_and}
use Rattle.qe_poly.specs.Polynomial.{IsPolynomial}
use Rattle.qe_form.specs.Signs.{IsProper}
use Rattle.qe_form.specs.Tree.{tree}
use Rattle.qe_form.proofs.Trees.{left_at, left_none, made_more, made_all}
use Rattle.qe_subst.specs.Substituted.{substituted, substituted_each}
use Rattle.qe_subst.proofs.Sizes.{part_size}
use Rattle.qe_subst.proofs.Turns.{turn_stops, turn_passes, loop_passes, turn_counts, loop_counts, turn_degree, rest_degree, turn_plain, rest_plain, whole_plain, none_plain}
use Rattle.qe_subst.proofs.formula.TestPoint.+substituted.Goals as goal

pub each_substituted-substituted-requires : goal.each_substituted-substituted-requires
each_substituted-substituted-requires t c =
    let one = left_at c.items-form-items.result.now c.loop-form.form-index c.form-item.result c.loop-form-test.true c.form-item.is in
    (omega (arith, part_size c.items-form-items.result.now c.args.forms.now c.loop-form.form-index c.form-item.result c.items-form-items.ensures c.loop-form-test.true c.form-item.is), (turn_degree c.args.self.now.x.0 _ _ _ one c.loop-form.invariant.degree, turn_plain (λ a. IsProper a.signs) _ _ _ one c.loop-form.invariant.plain))

pub each_substituted-returns-in_err-substituted-clause-made : goal.each_substituted-returns-in_err-substituted-clause-made
each_substituted-returns-in_err-substituted-clause-made t c =
    let p = err_from_is_err_and c.from_residual.result c.from_residual.ensures.1 in
    rw (p.1, p.2) (turn_stops c.args.self.now.x.0 c.args.self.now.point.now (option_copied c.args.self.now.own) c.loop-form.number (tree c.form-item.result) _ _ _ c.in_err-substituted.field-0.0
    (left_at c.items-form-items.result.now c.loop-form.form-index c.form-item.result c.loop-form-test.true c.form-item.is) c.loop-form.invariant.limit c.in_err-substituted.ensures.made)

pub each_substituted-loop-form-preserved : goal.each_substituted-loop-form-preserved
each_substituted-loop-form-preserved t c =
    let one = left_at c.items-form-items.result.now c.loop-form.form-index c.form-item.result c.loop-form-test.true c.form-item.is in record {
      degree = rest_degree c.args.self.now.x.0 _ _ _ one c.loop-form.invariant.degree;
      plain = rest_plain (λ a. IsProper a.signs) _ _ _ one c.loop-form.invariant.plain;
      limit = turn_passes c.args.self.now.x.0 c.args.self.now.point.now (option_copied c.args.self.now.own) c.loop-form.number _ (tree c.form-item.result) _ _ _ one
          c.in_ok-substituted.ensures.number c.in_ok-substituted.ensures.made.0 c.loop-form.invariant.limit;
      number = turn_counts c.loop-form.number _ _ (tree c.form-item.result) _ _ one c.in_ok-substituted.ensures.number c.loop-form.invariant.number;
      made = made_more c.loop-form.made _ _ (substituted c.args.self.now.x.0 c.args.self.now.point.now (option_copied c.args.self.now.own) (tree c.form-item.result)) _ _ _
          c.in_ok-push.ensures.ok c.in_ok-substituted.ensures.made.1 (ap (substituted_each c.args.self.now.x.0 c.args.self.now.point.now (option_copied c.args.self.now.own)) one) c.loop-form.invariant.made;
      canonical = λ rest. c.loop-form.invariant.canonical (whole_plain (λ a. IsPolynomial a.poly) (tree c.form-item.result) _ _ one c.in_ok-substituted.ensures.canonical rest);
    }

pub each_substituted-returns : goal.each_substituted-returns
each_substituted-returns t c =
    let none = left_none c.items-form-items.result.now c.loop-form.form-index c.loop-form-test.false in record {
      made = (
        loop_passes c.args.self.now.x.0 c.args.self.now.point.now (option_copied c.args.self.now.own) c.loop-form.number _ _ none c.loop-form.invariant.limit,
        made_all c.loop-form.made _ _ (ap (substituted_each c.args.self.now.x.0 c.args.self.now.point.now (option_copied c.args.self.now.own)) none) c.loop-form.invariant.made,
      );
      number = loop_counts c.loop-form.number _ _ none c.loop-form.invariant.number;
      canonical = c.loop-form.invariant.canonical (none_plain (λ a. IsPolynomial a.poly) _ none);
    }
