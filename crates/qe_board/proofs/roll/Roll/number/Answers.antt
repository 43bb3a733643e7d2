use Rattle.qe_board.proofs.Admitting.{number_fits, numbered_next}
use Rattle.qe_board.proofs.roll.Roll.number.Goals as goal

pub overflow_cast-result : goal.overflow_cast-result
overflow_cast-result g c = number_fits c.args.self.now (g.N.Piece.key c.args.piece.now) c.in-Some.entry c.args.limit c.in-Some.ensures c.requires.few c.ranges.limit.fits

pub returns : goal.returns
returns g c =
    numbered_next c.args.self.now c.append.new.self (g.N.Piece.key c.in_ok-copy.field-0) (g.N.Piece.key c.args.piece.now) c.len-entry.result c.args.limit c.in_ok-copy.ensures c.in_default.ensures c.len-entry.ensures.len c.requires.few c.if-entry-limit.false c.in_ok-append.ensures.ok
