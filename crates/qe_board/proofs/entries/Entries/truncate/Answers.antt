use Rattle.std.proofs.Common.{◌∙◌, ap, sym, subst, take}
use Rattle.qe_board.specs.Shown.{entries_of, AreCopies}
use Rattle.qe_board.proofs.Listed.{first_entries, first_copies}
use Rattle.qe_board.proofs.entries.Entries.truncate.Goals as goal

pub invariant_of-self : goal.invariant_of-self
invariant_of-self g c = (
  c.truncate.ensures.unique,
  subst (λ ns. AreCopies g.N.Piece.key ns c.truncate-2.new.self.items) (sym c.truncate.ensures.keys)
      (subst (λ ps. AreCopies g.N.Piece.key (take c.args.len c.self.inside.pieces.keys) ps) (sym c.truncate-2.ensures.items)
      (first_copies g.N.Piece.key c.self.inside.pieces.keys c.self.inside.progress.items c.args.len c.self.invariant.1)),
)

pub returns : goal.returns
returns g c =
    ap (λ ns. entries_of g.N.Piece.key ns c.truncate-2.new.self.items) c.truncate.ensures.keys
    ∙ (ap (entries_of g.N.Piece.key (take c.args.len c.self.inside.pieces.keys)) c.truncate-2.ensures.items
    ∙ (first_entries g.N.Piece.key c.self.inside.pieces.keys c.self.inside.progress.items c.args.len c.self.invariant.1
    ∙ ap (take c.args.len) c.self.view_is))
