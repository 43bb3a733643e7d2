use Rattle.std.proofs.Common.{◌<◌, ◌∙◌, ap, sym, subst, length, Some, slice_get}
use Rattle.qe_board.specs.Shown.{condition, conditions}
use Rattle.qe_board.proofs.Listed.{length_entries, own_condition}
use Rattle.qe_board.proofs.entries.Entries.progress_of.Goals as goal

pub index-requires : goal.index-requires
index-requires g c =
    subst (λ n. c.args.entry < n) (sym (c.self.inside.progress.ok.0 ∙ (sym (length_entries g.N.Piece.key c.self.inside.pieces.keys c.self.inside.progress.items c.self.invariant.1) ∙ ap length c.self.view_is))) c.requires

pub returns : goal.returns
returns g c =
    ap (λ es. slice_get (conditions es) c.args.entry) (sym c.self.view_is)
    ∙ (own_condition g.N.Piece.key c.self.inside.pieces.keys c.self.inside.progress.items c.args.entry c.index.result.now c.self.invariant.1
    (subst (λ n. c.args.entry < n) (sym (sym (length_entries g.N.Piece.key c.self.inside.pieces.keys c.self.inside.progress.items c.self.invariant.1) ∙ ap length c.self.view_is)) c.requires)
    ∙ ap (λ p. Some (condition p)) (sym c.index.ensures))
