use Rattle.std.proofs.Common.{◌∙◌, sym}
use Rattle.qe_board.proofs.PlainFilling.{taken_goes_on, plainly_opened, plainly_expanded, longer_expanded, plainly_over, longer_over, less_to_do, plainly_ends}
use Rattle.qe_board.proofs.board.Board.fill_alone.Goals as goal

pub expand_alone-requires-clause-goes_on : goal.expand_alone-requires-clause-goes_on
expand_alone-requires-clause-goes_on g c = taken_goes_on g.N.Piece.meaning g.N.Piece.leaf g.N.Piece.truth c.loop-alloc.self c.take.new.self 0 c.in-Piece.held c.in-Piece.ensures

pub loop-alloc-init : goal.loop-alloc-init
loop-alloc-init g c = plainly_opened g.N.Piece.meaning g.N.Piece.leaf g.N.Piece.truth c.args.self.now c.requires

pub loop-alloc-smaller-in-Continue-1 : goal.loop-alloc-smaller-in-Continue-1
loop-alloc-smaller-in-Continue-1 g c =
    less_to_do g.N.Piece.meaning g.N.Piece.leaf g.N.Piece.truth c.args.self.now c.loop-alloc.self c.expand_alone.new.self c.is_done.ensures.lawful.some c.loop-alloc.invariant
    (plainly_expanded g.N.Piece.meaning g.N.Piece.leaf g.N.Piece.truth c.args.self.now c.loop-alloc.self c.take.new.self c.expand_alone.new.self c.in-Piece.held c.loop-alloc.invariant c.in-Piece.ensures c.in_ok-expand_alone-in-Piece.ensures)
    (longer_expanded g.N.Piece.meaning g.N.Piece.leaf g.N.Piece.truth c.args.self.now c.loop-alloc.self c.take.new.self c.expand_alone.new.self c.in-Piece.held c.loop-alloc.invariant c.in-Piece.ensures c.in_ok-expand_alone-in-Piece.ensures)

pub loop-alloc-preserved-in-Continue-1 : goal.loop-alloc-preserved-in-Continue-1
loop-alloc-preserved-in-Continue-1 g c = plainly_expanded g.N.Piece.meaning g.N.Piece.leaf g.N.Piece.truth c.args.self.now c.loop-alloc.self c.take.new.self c.expand_alone.new.self c.in-Piece.held c.loop-alloc.invariant c.in-Piece.ensures c.in_ok-expand_alone-in-Piece.ensures

pub loop-alloc-smaller : goal.loop-alloc-smaller
loop-alloc-smaller g c =
    less_to_do g.N.Piece.meaning g.N.Piece.leaf g.N.Piece.truth c.args.self.now c.loop-alloc.self c.cancel.new.self c.is_done.ensures.lawful.some c.loop-alloc.invariant
    (plainly_over g.N.Piece.meaning g.N.Piece.leaf g.N.Piece.truth c.args.self.now c.loop-alloc.self c.take.new.self c.cancel.new.self c.take.result c.in_default.not-Piece c.take.ensures c.loop-alloc.invariant (sym c.is_done.ensures.done ∙ c.loop-alloc-test.true) c.cancel.result c.cancel.ensures.cancels c.cancel.ensures.event)
    (longer_over g.N.Piece.meaning g.N.Piece.leaf g.N.Piece.truth c.args.self.now c.loop-alloc.self c.take.new.self c.cancel.new.self c.take.result c.in_default.not-Piece c.take.ensures c.loop-alloc.invariant (sym c.is_done.ensures.done ∙ c.loop-alloc-test.true) c.cancel.result c.cancel.ensures.cancels c.cancel.ensures.event)

pub loop-alloc-preserved : goal.loop-alloc-preserved
loop-alloc-preserved g c = plainly_over g.N.Piece.meaning g.N.Piece.leaf g.N.Piece.truth c.args.self.now c.loop-alloc.self c.take.new.self c.cancel.new.self c.take.result c.in_default.not-Piece c.take.ensures c.loop-alloc.invariant (sym c.is_done.ensures.done ∙ c.loop-alloc-test.true) c.cancel.result c.cancel.ensures.cancels c.cancel.ensures.event

pub returns-clause-plain : goal.returns-clause-plain
returns-clause-plain g c = plainly_ends g.N.Piece.meaning g.N.Piece.leaf g.N.Piece.truth c.args.self.now c.loop-alloc.self c.loop-alloc.invariant (sym c.is_done.ensures.done ∙ c.loop-alloc-test.false)
