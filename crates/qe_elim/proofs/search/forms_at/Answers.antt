use Rattle.std.proofs.Common.{◌∙◌, ◌+◌, ap, sym, arith}
use Rattle.qe_elim.specs.Found.{entries_of}
use Rattle.qe_elim.proofs.Found.{there_next, forms_next, none_beyond, node_form}
use Rattle.qe_elim.proofs.search.forms_at.Goals as goal

pub unreachable-requires : goal.unreachable-requires
unreachable-requires c =
    none_beyond c.place-item.result.entry (entries_of c.args.board.now) (there_next _ c.args.leaves.now c.loop-place.place-index (c.loop-place.place-index + 1) c.place-item.result (omega arith) c.loop-place-test.true c.place-item.is c.loop-place.invariant.there).0 c.in_default.ensures

pub loop-place-preserved : goal.loop-place-preserved
loop-place-preserved c = record {
  forms = forms_next (entries_of c.args.board.now) c.args.leaves.now c.loop-place.place-index (c.loop-place.place-index + 1) c.place-item.result c.loop-place.forms.items c.push.new.self.items c.in_ok-copy.field-0 (omega arith) c.loop-place-test.true c.place-item.is
      c.in_ok-push.ensures.items (c.in_ok-copy.ensures ∙ (ap (λ n. n.form) c.node.view_is ∙ sym (node_form c.place-item.result.entry (entries_of c.args.board.now) c.in-Some.node.now c.in-Some.ensures))) ∙ c.loop-place.invariant.forms;
  there = (there_next _ c.args.leaves.now c.loop-place.place-index (c.loop-place.place-index + 1) c.place-item.result (omega arith) c.loop-place-test.true c.place-item.is c.loop-place.invariant.there).1;
}
