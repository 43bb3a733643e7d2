use Rattle.std.proofs.Common.{◌≤◌, subst, arith}
use Rattle.qe_board.specs.State.{is_waiting, is_held}
use Rattle.qe_board.proofs.Conditions.{count_few}
use Rattle.qe_board.proofs.Histories.{few_kept, count_fits}
use Rattle.qe_board.proofs.board.Board.counts.Goals as goal

pub overflow_cast-result : goal.overflow_cast-result
overflow_cast-result g c = let is = c.len.ensures.len in count_fits g.N.Piece.meaning g.N.Piece.leaf g.N.Piece.truth _ c.self.inside.roll _ c.self.invariant c.len.result (omega (arith, is))

pub overflow_cast-result-2 : goal.overflow_cast-result-2
overflow_cast-result-2 g c =
    let is = c.waiting.ensures in let few = count_few is_waiting c.self.inside.roll.entries in count_fits g.N.Piece.meaning g.N.Piece.leaf g.N.Piece.truth _ c.self.inside.roll _ c.self.invariant c.waiting.result (omega (arith, is, few))

pub overflow_cast-result-3 : goal.overflow_cast-result-3
overflow_cast-result-3 g c =
    let is = c.held.ensures in let few = count_few is_held c.self.inside.roll.entries in count_fits g.N.Piece.meaning g.N.Piece.leaf g.N.Piece.truth _ c.self.inside.roll _ c.self.invariant c.held.result (omega (arith, is, few))

pub returns-clause-limit : goal.returns-clause-limit
returns-clause-limit g c =
    let is = c.len.ensures.len in let few = few_kept g.N.Piece.meaning g.N.Piece.leaf g.N.Piece.truth _ c.self.inside.roll _ c.self.invariant in
    subst (λ h. c.len.result ≤ h.limit) c.self.view_is (omega (arith, is, few))
