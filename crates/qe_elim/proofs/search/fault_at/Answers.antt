use Rattle.std.proofs.Common.{◌≡◌, ◌∙◌, ap, sym}
use Rattle.qe_node.specs.key.Code.{sight_key, sight_of}
use Rattle.qe_node.specs.lemmas.Code.{sight-back}
use Rattle.qe_elim.specs.Found.{entries_of}
use Rattle.qe_elim.specs.Steps.{steps_along}
use Rattle.qe_elim.proofs.Found.{some_out, fault_same, fault_there}
use Rattle.qe_elim.proofs.search.fault_at.Goals as goal

pub unreachable-requires-in_default-fault : goal.unreachable-requires-in_default-fault
unreachable-requires-in_default-fault c = fault_there c.args.place.now.entry (entries_of c.args.board.now) c.requires.failed (sym (fault_same c.args.place.now.entry (entries_of c.args.board.now)) ∙ sym c.in_default-fault.ensures)

pub returns : goal.returns
returns c = (
  sym (fault_same c.args.place.now.entry (entries_of c.args.board.now)) ∙ sym c.in-Some-fault.ensures,
  c.in_ok-steps.ensures ∙ (λ i. steps_along (c.points.ensures i) (root_is i)),
)
  where
    root_is : c.in-Some.root.now ≡ sight_of c.args.board.now.root
    root_is = sym (sight-back c.in-Some.root.now) ∙ ap sight_of (some_out (sight_key c.in-Some.root.now) c.args.board.now.root (c.in-Some.ensures ∙ c.requires.root))
