use Rattle.std.proofs.Common.{◌∙◌, sym, ap, subst}
use Rattle.std.specs.Result.{OnOk}
use Rattle.qe_board.specs.Plain.{IsExpanded}
use Rattle.qe_board.proofs.PlainFilling.{gave_expanded, failed_expanded}
use Rattle.qe_board.proofs.board.Board.expand_alone.Goals as goal
use Rattle.qe_board.proofs.board.Board.expand_alone.Goals.{in-OutOfMemory, in_default}

pub expand-requires : goal.expand-requires
expand-requires g c = ap g.N.Piece.leaf c.piece.ensures ∙ c.requires.inner

pub returns-after-give : goal.returns-after-give
returns-after-give g c = elim c.match-give.branch [
  | in-OutOfMemory w ↦ subst (λ r. OnOk r (IsExpanded g.N.Piece.meaning g.N.Piece.leaf g.N.Piece.truth c.args.self.now c.args.held c.give.new.self)) (sym w.result-is) tt
  | in_default w ↦ subst (λ r. OnOk r (IsExpanded g.N.Piece.meaning g.N.Piece.leaf g.N.Piece.truth c.args.self.now c.args.held c.give.new.self)) (sym w.result-is)
      (gave_expanded g.N.Piece.meaning g.N.Piece.leaf g.N.Piece.truth c.args.self.now c.give.new.self c.args.held c.requires.held c.requires.goes_on g.N.Piece.key c.in-Successors.successors.items c.give.result w.in_default.not-OutOfMemory
      (ap g.N.Piece.meaning (sym c.piece.ensures) ∙ c.in-Successors.ensures.answer) c.give.ensures)
]

pub returns-in-Failed : goal.returns-in-Failed
returns-in-Failed g c = failed_expanded g.N.Piece.meaning g.N.Piece.leaf g.N.Piece.truth c.args.self.now c.fail.new.self c.args.held c.requires.held c.requires.goes_on c.in-Failed.fault (ap g.N.Piece.meaning (sym c.piece.ensures) ∙ c.in-Failed.ensures.answer) c.fail.ensures
