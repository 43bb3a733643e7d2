use Rattle.std.proofs.Common.{◌∙◌, ap, sym, subst, map}
use Rattle.std.specs.Prelude.{position}
use Rattle.qe_board.specs.Shown.{IsFound}
use Rattle.qe_board.proofs.Listed.{entry_keys, found}
use Rattle.qe_board.proofs.entries.Entries.find.Goals as goal

pub returns : goal.returns
returns g c =
    let ns = c.self.inside.pieces.keys in
    let keys = sym (entry_keys g.N.Piece.key ns c.self.inside.progress.items c.self.invariant.1) ∙ ap (map (λ e. e.key)) c.self.view_is in
    subst (λ o. IsFound (map (λ e. e.key) c.args.self.now) (g.N.Piece.key c.args.piece.now) o) (sym c.get_index_of.ensures.index)
    (subst (λ ks. IsFound ks (g.N.Piece.key c.args.piece.now) (position (g.N.PartialEq.eq c.args.piece.now) ns)) keys (found g.N.Piece.key g.N.PartialEq.eq g.met.N.Piece.eq_is_key c.args.piece.now ns))
