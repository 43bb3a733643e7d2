use Rattle.std.proofs.Common.{◌≡◌, ◌++◌, map, drop, length}
use Rattle.qe_form.specs.Tree.{tree}
use Rattle.qe_elim.specs.Found.{entries_of, AreThere, form_at}
use Rattle.qe_elim.proofs.search.forms_at.Given as goal

abbrev pub invariant-loop-place : goal.invariant-loop-place
invariant-loop-place l = record {
  forms : map tree l.forms.items ++ map (λ p. form_at p.entry (entries_of l.board)) (drop l.place-index l.leaves) ≡ map (λ p. form_at p.entry (entries_of l.board)) l.leaves;
  there : AreThere (length (entries_of l.board)) (drop l.place-index l.leaves);
}
