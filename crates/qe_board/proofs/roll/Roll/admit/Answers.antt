use Rattle.std.proofs.Common.{refl, ap, map}
use Rattle.qe_board.specs.State.{is_waiting, is_held}
use Rattle.qe_piece.specs.Meaning.{child_of}
use Rattle.qe_board.specs.Admission.{links_of}
use Rattle.qe_board.proofs.Opening.{admitted}
use Rattle.qe_board.proofs.Admitting.{counted_first}
use Rattle.qe_board.proofs.roll.Roll.admit.Goals as goal

pub truncate-requires-clause-waiting : goal.truncate-requires-clause-waiting
truncate-requires-clause-waiting g c = let h = rw c.in-Ok-None.field-0-is at c.in-Ok-None.ensures in counted_first is_waiting refl c.args.self.now c.enter.new.self c.len-len.result h.1 c.len-len.ensures.len

pub truncate-requires-clause-held : goal.truncate-requires-clause-held
truncate-requires-clause-held g c = let h = rw c.in-Ok-None.field-0-is at c.in-Ok-None.ensures in counted_first is_held refl c.args.self.now c.enter.new.self c.len-len.result h.1 c.len-len.ensures.len

pub truncate-requires-in-Err-clause-waiting : goal.truncate-requires-in-Err-clause-waiting
truncate-requires-in-Err-clause-waiting g c = counted_first is_waiting refl c.args.self.now c.enter.new.self c.len-len.result c.in-Err.ensures c.len-len.ensures.len

pub truncate-requires-in-Err-clause-held : goal.truncate-requires-in-Err-clause-held
truncate-requires-in-Err-clause-held g c = counted_first is_held refl c.args.self.now c.enter.new.self c.len-len.result c.in-Err.ensures c.len-len.ensures.len

pub returns-in-Ok-Some : goal.returns-in-Ok-Some
returns-in-Ok-Some g c =
    admitted g.N.Piece.meaning g.N.Piece.leaf g.N.Piece.truth c.args.limit c.args.self.now (map (child_of g.N.Piece.key) c.args.successors.items) _ (ap (map (child_of g.N.Piece.key)) c.deref.ensures.value) c.args.entry c.len-len.result c.requires.within c.len-len.ensures.len
    c.enter.new.self (links_of c.in-Ok-Some.links.items) (rw c.in-Ok-Some.field-0-is at c.in-Ok-Some.ensures) c.settle.new.self c.settle.ensures c.set.new.self c.set.ensures.changed
