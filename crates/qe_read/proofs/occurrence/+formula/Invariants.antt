use Rattle.std.proofs.Common.{◌≡◌, ◌++◌, drop, map}
use Rattle.qe_syntax.specs.Code.{tree_of, as_parts}
use Rattle.qe_read.specs.FreeNames.{free_names_each}
use Rattle.qe_read.proofs.occurrence.+formula.Given as goal

abbrev pub invariant-push_free_each-loop-formula : goal.invariant-push_free_each-loop-formula
invariant-push_free_each-loop-formula l = record {
  around : l.around.items ≡ l.fn.around.items;
  names : l.names.items ++ free_names_each l.text l.fn.around.items (as_parts (map tree_of (drop l.formula-index l.formulas)))
      ≡ l.fn.names.items ++ free_names_each l.text l.fn.around.items (as_parts (map tree_of l.formulas));
}
