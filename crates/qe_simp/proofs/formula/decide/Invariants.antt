use Rattle.std.proofs.Common.{◌≡◌, map, drop}
use Rattle.std.specs.List.{list_any}
use Rattle.qe_form.specs.Tree.{tree}
use Rattle.qe_simp.specs.Simplified.{decides}
use Rattle.qe_simp.proofs.formula.decide.Given as goal

abbrev pub invariant-loop-part : goal.invariant-loop-part
invariant-loop-part l = list_any (decides l.connective) (map tree (drop l.part-index l.part-items)) ≡ list_any (decides l.connective) (map tree l.fn.parts.items)
