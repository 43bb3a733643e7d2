use Rattle.std.proofs.Common.{refl}
use Rattle.qe_form.specs.Tree.{tree}
use Rattle.qe_norm.proofs.Assembled.{too_large, small_enough}
use Rattle.qe_norm.proofs.Wholes.{keeps, same, holds, well_numbered, plain, small}
use Rattle.qe_norm.proofs.normal_form.normal.Goals as goal

pub returns-then-size-eq-MOST_COUNTED-clause-exact : goal.returns-then-size-eq-MOST_COUNTED-clause-exact
returns-then-size-eq-MOST_COUNTED-clause-exact c = (too_large (tree c.args.input.form) c.size.result c.size.ensures c.if-size-eq-MOST_COUNTED.true, refl)

pub returns-clause-exact : goal.returns-clause-exact
returns-clause-exact c = (small_enough (tree c.args.input.form) c.size.result c.size.ensures c.if-size-eq-MOST_COUNTED.false, c.in_ok-prenex.ensures)

pub returns-clause-keeps : goal.returns-clause-keeps
returns-clause-keeps c =
    keeps (tree c.args.input.form) c.args.input.names c.requires.numbered c.requires.few
    (small_enough (tree c.args.input.form) c.size.result c.size.ensures c.if-size-eq-MOST_COUNTED.false) c.in_ok-prenex.field-0 c.in_ok-prenex.ensures

pub returns-clause-same : goal.returns-clause-same
returns-clause-same c =
    same (tree c.args.input.form) c.args.input.names c.requires.numbered c.requires.few
    (small_enough (tree c.args.input.form) c.size.result c.size.ensures c.if-size-eq-MOST_COUNTED.false) c.in_ok-prenex.field-0 c.in_ok-prenex.ensures

pub returns-clause-holds : goal.returns-clause-holds
returns-clause-holds c =
    holds (tree c.args.input.form) c.args.input.names c.requires.numbered c.requires.few
    (small_enough (tree c.args.input.form) c.size.result c.size.ensures c.if-size-eq-MOST_COUNTED.false) c.in_ok-prenex.field-0 c.in_ok-prenex.ensures

pub returns-clause-well_numbered : goal.returns-clause-well_numbered
returns-clause-well_numbered c =
    well_numbered (tree c.args.input.form) c.args.input.names c.requires.numbered c.requires.few
    (small_enough (tree c.args.input.form) c.size.result c.size.ensures c.if-size-eq-MOST_COUNTED.false) c.in_ok-prenex.field-0 c.in_ok-prenex.ensures

pub returns-clause-plain : goal.returns-clause-plain
returns-clause-plain c =
    plain (tree c.args.input.form) c.args.input.names c.requires.numbered c.requires.few
    (small_enough (tree c.args.input.form) c.size.result c.size.ensures c.if-size-eq-MOST_COUNTED.false) c.in_ok-prenex.field-0 c.in_ok-prenex.ensures

pub returns-clause-small : goal.returns-clause-small
returns-clause-small c =
    small (tree c.args.input.form) c.args.input.names c.requires.numbered c.requires.few
    (small_enough (tree c.args.input.form) c.size.result c.size.ensures c.if-size-eq-MOST_COUNTED.false) c.in_ok-prenex.field-0 c.in_ok-prenex.ensures
