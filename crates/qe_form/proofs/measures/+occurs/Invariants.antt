use Rattle.std.proofs.Common.{◌≡◌, drop}
use Rattle.qe_form.specs.Measures.{occurs_in_one}
use Rattle.qe_form.specs.Tree.{trees}
use Rattle.qe_form.proofs.measures.+occurs.Given as goal

abbrev pub invariant-occurs_in_one-loop-form : goal.invariant-occurs_in_one-loop-form
invariant-occurs_in_one-loop-form l = occurs_in_one l.var.0 (trees (drop l.form-index l.form-items)) ≡ occurs_in_one l.var.0 (trees l.forms)
