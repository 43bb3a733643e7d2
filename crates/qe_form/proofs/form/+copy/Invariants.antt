use Rattle.std.proofs.Common.{◌≡◌, drop}
use Rattle.qe_form.specs.Tree.{trees, followed}
use Rattle.qe_form.proofs.form.+copy.Given as goal

abbrev pub invariant-copy_all-loop-form : goal.invariant-copy_all-loop-form
invariant-copy_all-loop-form l = followed l.copies (trees (drop l.form-index l.form-items)) ≡ trees l.forms
