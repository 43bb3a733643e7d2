use Rattle.std.proofs.Common.{◌∙◌, ap, sym, map, slice_get}
use Rattle.qe_board.specs.Shown.{condition, conditions}
use Rattle.qe_board.specs.Verdict.{fault_in}
use Rattle.qe_board.proofs.Listed.{conditions_are, got_one, got_none}
use Rattle.qe_board.proofs.entries.Entries.fault.Goals as goal

pub returns-in-Some : goal.returns-in-Some
returns-in-Some g c =
    c.fault.ensures ∙ ap fault_in (sym (got_one condition c.deref.result.now c.args.entry c.in-Some.progress.now c.in-Some.ensures.lookup.3.0 c.in-Some.ensures.lookup.1)
    ∙ ap (λ cs. slice_get cs c.args.entry) (ap (map condition) c.deref.ensures.value ∙ (sym (conditions_are g.N.Piece.key c.self.inside.pieces.keys c.self.inside.progress.items c.self.invariant.1) ∙ ap conditions c.self.view_is)))

pub returns-in-None : goal.returns-in-None
returns-in-None g c =
    ap fault_in (sym (got_none condition c.deref.result.now c.args.entry c.in-None.ensures.lookup.3)
    ∙ ap (λ cs. slice_get cs c.args.entry) (ap (map condition) c.deref.ensures.value ∙ (sym (conditions_are g.N.Piece.key c.self.inside.pieces.keys c.self.inside.progress.items c.self.invariant.1) ∙ ap conditions c.self.view_is)))
