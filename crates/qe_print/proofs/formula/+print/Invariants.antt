use Rattle.std.proofs.Common.{◌≡◌, ◌++◌, drop, true}
use Rattle.std.specs.Prelude.{◌==◌}
use Rattle.std.specs.String.{string_bytes}
use Rattle.qe_form.specs.Tree.{trees}
use Rattle.qe_print.specs.Formula.{parts_text}
use Rattle.qe_print.proofs.formula.+print.Given as goal

abbrev pub invariant-push_parts-loop-i : goal.invariant-push_parts-loop-i
invariant-push_parts-loop-i l =
    string_bytes l.out ++ parts_text l.names l.joint (l.i == 0) l.alone (trees (drop l.i l.items)) ≡ string_bytes l.initial.out ++ parts_text l.names l.joint true l.alone (trees l.items)
