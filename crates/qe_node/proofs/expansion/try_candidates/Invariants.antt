use Rattle.std.proofs.Common.{◌≡◌, drop, true}
use Rattle.qe_form.specs.Tree.{tree}
use Rattle.qe_node.specs.Successors.{given_by}
use Rattle.qe_node.specs.Answer.{numbered_nodes}
use Rattle.qe_node.specs.Growth.{nodes_below}
use Rattle.qe_node.proofs.Remaining.{numbers}
use Rattle.qe_node.proofs.Growing.{after_all}
use Rattle.qe_node.proofs.expansion.try_candidates.Given as goal

abbrev pub invariant-loop-number : goal.invariant-loop-number
invariant-loop-number g l = record {
  grown : after_all (numbered_nodes l.grown.items) (nodes_below (numbers l.vars) (given_by l.x.0 (tree l.form) l.number (drop l.number l.candidates)))
      ≡ nodes_below (numbers l.vars) (given_by l.x.0 (tree l.form) 0 l.candidates);
  stays : g.T.Stop.told l.initial.stop ≡ true → g.T.Stop.told l.stop ≡ true;
  basis : g.T.Stop.basis l.stop ≡ g.T.Stop.basis l.initial.stop;
}
