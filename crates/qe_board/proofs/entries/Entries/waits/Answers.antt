use Rattle.std.proofs.Common.{◌<◌, ◌∙◌, ap, sym, subst, length}
use Rattle.qe_board.specs.State.{is_waiting, at}
use Rattle.qe_board.specs.Shown.{condition}
use Rattle.qe_board.proofs.Listed.{length_entries, own_test}
use Rattle.qe_board.proofs.entries.Entries.waits.Goals as goal

pub index-requires : goal.index-requires
index-requires g c =
    subst (λ n. c.args.entry < n) (sym (c.self.inside.progress.ok.0 ∙ (sym (length_entries g.N.Piece.key c.self.inside.pieces.keys c.self.inside.progress.items c.self.invariant.1) ∙ ap length c.self.view_is))) c.requires

pub returns : goal.returns
returns g c =
    c.waits.ensures ∙ (ap (λ p. is_waiting (condition p)) c.index.ensures
    ∙ (own_test g.N.Piece.key is_waiting c.self.inside.pieces.keys c.self.inside.progress.items c.args.entry c.index.result.now c.self.invariant.1
    (subst (λ n. c.args.entry < n) (sym (sym (length_entries g.N.Piece.key c.self.inside.pieces.keys c.self.inside.progress.items c.self.invariant.1) ∙ ap length c.self.view_is)) c.requires)
    ∙ ap (at is_waiting c.args.entry) c.self.view_is))
