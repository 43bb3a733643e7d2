use Rattle.std.proofs.Common.{◌≡◌, rules}
use Rattle.qe_form.specs.Tree.{tree}
use Rattle.qe_halt.specs.Outcome.{IsOutcome}
use Rattle.qe_root.specs.SignForm.{sign_limit, sign_formula}
use Rattle.qe_root.proofs.SignTruth.{form_is, answer_is}
use Rattle.qe_root.proofs.form.sign_form.Goals as goal

pub returns-in_ok-copy-clause-truth : goal.returns-in_ok-copy-clause-truth
returns-in_ok-copy-clause-truth c =
    let same : tree c.atom.result ≡ sign_formula c.args.a.now c.args.b.now c.args.r.now c.args.signs = search rules in
    form_is c.args.a.now c.args.b.now c.args.r.now c.args.signs (tree c.atom.result) c.requires same

pub returns-then-is_even-clause-truth : goal.returns-then-is_even-clause-truth
returns-then-is_even-clause-truth c =
    let exact : IsOutcome (sign_limit c.args.a.now c.args.b.now c.args.r.now c.args.signs) (λ f. tree f ≡ sign_formula c.args.a.now c.args.b.now c.args.r.now c.args.signs) c.two_sided_form.result = search rules in
    answer_is c.args.a.now c.args.b.now c.args.r.now c.args.signs _ c.two_sided_form.result c.requires exact

pub returns-else-is_even-clause-truth : goal.returns-else-is_even-clause-truth
returns-else-is_even-clause-truth c =
    let exact : IsOutcome (sign_limit c.args.a.now c.args.b.now c.args.r.now c.args.signs) (λ f. tree f ≡ sign_formula c.args.a.now c.args.b.now c.args.r.now c.args.signs) c.one_sided_form.result = search rules in
    answer_is c.args.a.now c.args.b.now c.args.r.now c.args.signs _ c.one_sided_form.result c.requires exact
