use Rattle.std.proofs.Common.{◌≡◌, drop}
use Rattle.qe_form.specs.Tree.{trees, followed}
use Rattle.qe_norm.specs.Walk.{opened_each}
use Rattle.qe_norm.proofs.walk.+open.Given as goal

abbrev pub invariant-open_all-loop-form : goal.invariant-open_all-loop-form
invariant-open_all-loop-form l = record {
  state : (opened_each l.polarity (trees (drop l.form-index l.form-items)) l.walk).1 ≡ (opened_each l.polarity (trees l.forms) l.initial.walk).1;
  matrix : followed l.matrices (opened_each l.polarity (trees (drop l.form-index l.form-items)) l.walk).0
      ≡ (opened_each l.polarity (trees l.forms) l.initial.walk).0;
}
