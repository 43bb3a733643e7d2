use Rattle.std.proofs.Common.{◌≡◌, ◌++◌, drop, map, Ok}
use Rattle.qe_form.specs.Tree.{followed}
use Rattle.qe_syntax.specs.Code.{tree_of, as_parts}
use Rattle.qe_read.specs.Value.{proceed}
use Rattle.qe_read.specs.Formula.{names_bound_in, formulas}
use Rattle.qe_read.proofs.scope.Context.+formula.Given as goal

abbrev pub invariant-formulas-loop-formula : goal.invariant-formulas-loop-formula
invariant-formulas-loop-formula l = record {
  enclosing : l.scope.enclosing.items ≡ l.fn.scope.enclosing.items;
  bound : l.scope.bound.items ++ names_bound_in (as_parts (map tree_of (drop l.formula-index l.formulas))) ≡ l.fn.scope.bound.items ++ names_bound_in (as_parts (map tree_of l.formulas));
  forms : proceed (formulas l.self.text.now l.self.free.now l.fn.scope.enclosing.items l.scope.bound.items (as_parts (map tree_of (drop l.formula-index l.formulas)))) (λ gs. Ok (followed l.forms gs))
      ≡ formulas l.self.text.now l.self.free.now l.fn.scope.enclosing.items l.fn.scope.bound.items (as_parts (map tree_of l.formulas));
}
