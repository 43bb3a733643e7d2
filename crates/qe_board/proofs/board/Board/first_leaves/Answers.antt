use Rattle.std.proofs.Common.{◌<◌, sym, subst, length}
use Rattle.qe_board.specs.Recorded.{LinksFall}
use Rattle.qe_board.proofs.Pathed.{kept_falls, kept_some}
use Rattle.qe_board.proofs.board.Board.first_leaves.Goals as goal

pub find-requires-clause-some : goal.find-requires-clause-some
find-requires-clause-some g c = subst (λ es. 0 < length es) (sym c.entries.ensures) (kept_some g.N.Piece.meaning g.N.Piece.leaf g.N.Piece.truth g.N.Piece.height g.met.N.Piece.descends _ c.self.inside.roll _ c.self.invariant)

pub find-requires-clause-links : goal.find-requires-clause-links
find-requires-clause-links g c = subst (LinksFall g.N.Piece.height) (sym c.entries.ensures) (kept_falls g.N.Piece.meaning g.N.Piece.leaf g.N.Piece.truth g.N.Piece.height g.met.N.Piece.descends _ c.self.inside.roll _ c.self.invariant)
