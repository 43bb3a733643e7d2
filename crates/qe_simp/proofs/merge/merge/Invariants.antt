use Rattle.std.proofs.Common.{◌≡◌, map}
use Rattle.qe_form.specs.Tree.{tree}
use Rattle.qe_simp.specs.Simplified.{merged_parts}
use Rattle.qe_simp.proofs.merge.merge.Given as goal

abbrev pub invariant-loop-part : goal.invariant-loop-part
invariant-loop-part l = map tree l.merged.items ≡ merged_parts l.connective (map tree l.yielded)
