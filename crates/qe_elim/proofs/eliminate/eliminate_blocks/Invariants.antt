use Rattle.std.proofs.Common.{◌<◌, ◌≤◌, ◌^◌, length}
use Rattle.qe_form.specs.Tree.{tree}
use Rattle.qe_form.specs.Measures.{count}
use Rattle.qe_elim.proofs.Alone.{IsEliminated}
use Rattle.qe_elim.proofs.eliminate.eliminate_blocks.Given as goal

abbrev pub invariant-loop-left : goal.invariant-loop-left
invariant-loop-left l = record {
  done : IsEliminated (tree l.prenex.matrix) l.limit l.prenex.blocks.items l.left (tree l.form);
  small : count (tree l.form) < 2 ^ 50;
  within : l.left ≤ length l.prenex.blocks.items;
}

abbrev pub decreases-loop-left : goal.decreases-loop-left
decreases-loop-left l = l.left
