use Rattle.std.proofs.Common.{◌∙◌, ap, sym, map, slice_get}
use Rattle.std.specs.Option.{option_map}
use Rattle.qe_board.proofs.Listed.{entry_keys, mapped_get}
use Rattle.qe_board.proofs.entries.Entries.piece.Goals as goal

pub returns : goal.returns
returns g c =
    ap (option_map g.N.Piece.key) c.get_index.ensures.key ∙ (mapped_get g.N.Piece.key c.self.inside.pieces.keys c.args.entry
    ∙ ap (λ ks. slice_get ks c.args.entry) (sym (entry_keys g.N.Piece.key c.self.inside.pieces.keys c.self.inside.progress.items c.self.invariant.1) ∙ ap (map (λ e. e.key)) c.self.view_is))
