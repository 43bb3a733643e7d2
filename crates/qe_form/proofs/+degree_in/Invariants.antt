use Rattle.std.proofs.Common.{◌≡◌, max, drop}
use Rattle.qe_form.specs.Measures.{degree_of_some}
use Rattle.qe_form.specs.Tree.{trees}
use Rattle.qe_form.proofs.+degree_in.Given as goal

abbrev pub invariant-measures::degree_of_all-loop-form : goal.invariant-measures::degree_of_all-loop-form
invariant-measures::degree_of_all-loop-form l = max l.degree (degree_of_some l.var.0 (trees (drop l.form-index l.form-items))) ≡ degree_of_some l.var.0 (trees l.forms)
