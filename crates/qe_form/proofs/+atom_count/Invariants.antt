use Rattle.std.proofs.Common.{◌≡◌, ◌≤◌, ◌+◌, min, drop}
use Rattle.qe_form.specs.Measures.{count_each}
use Rattle.qe_form.specs.Tree.{trees}
use Rattle.qe_form.proofs.+atom_count.Given as goal

abbrev pub invariant-measures::count_all-loop-form : goal.invariant-measures::count_all-loop-form
invariant-measures::count_all-loop-form l = record {
  stops : l.count ≤ 65537;
  counted : min 65537 (l.count + count_each (trees (drop l.form-index l.form-items))) ≡ min 65537 (count_each (trees l.forms));
}
