use Rattle.std.proofs.Common.{◌≡◌, ◌≤◌, ◌+◌, min, drop}
use Rattle.qe_form.specs.Tree.{trees}
use Rattle.qe_norm.specs.Walk.{size_of_each}
use Rattle.qe_norm.proofs.size.+size.Given as goal

abbrev pub invariant-size_all-loop-form : goal.invariant-size_all-loop-form
invariant-size_all-loop-form l = record {
  stops : l.count ≤ 65537;
  counted : min 65537 (l.count + size_of_each (trees (drop l.form-index l.form-items))) ≡ min 65537 (size_of_each (trees l.forms));
}
