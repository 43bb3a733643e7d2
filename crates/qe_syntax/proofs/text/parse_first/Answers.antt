use Rattle.std.proofs.Common.{◌≡◌, ap, length, [], arith}
use Rattle.qe_syntax.specs.Code.{tree_of}
use Rattle.qe_syntax.proofs.First.{stopped, goes_further, read_all, none_left, no_longer_read, no_longer_stopped}
use Rattle.qe_syntax.proofs.text.parse_first.Goals as goal

pub place_of-requires : goal.place_of-requires
place_of-requires c = rw c.len-left.ensures (no_longer_read (tree_of c.in-Ok.formula) c.args.tokens.now c.formula.new.self.cursor c.formula.new.self.begun (rw c.new.ensures at c.in-Ok.ensures))

pub place_of-requires-in-Err-Limit : goal.place_of-requires-in-Err-Limit
place_of-requires-in-Err-Limit c = rw c.len.ensures (no_longer_stopped c.in-Err-Limit.fault c.args.tokens.now c.formula.new.self.cursor (rw (c.in-Err-Limit.field-0-is, c.new.ensures) at c.in-Err-Limit.ensures))

pub returns-then-left-eq0 : goal.returns-then-left-eq0
returns-then-left-eq0 c =
    let h : length c.formula.new.self.cursor ≡ 0 = omega (arith, c.len-left.ensures) in
    read_all c.in-Ok.formula c.args.tokens.now c.formula.new.self.cursor c.args.end c.formula.new.self.begun (none_left c.formula.new.self.cursor h) (rw c.new.ensures at c.in-Ok.ensures)

pub returns-else-left-eq0 : goal.returns-else-left-eq0
returns-else-left-eq0 c =
    let h : c.formula.new.self.cursor ≡ [] → ⊥ = λ e. let g = ap length e in absurd (omega arith) in
    goes_further (tree_of c.in-Ok.formula) c.args.tokens.now c.formula.new.self.cursor c.args.end c.formula.new.self.begun c.place_of.result (rw c.len-left.ensures at c.place_of.ensures) h (rw c.new.ensures at c.in-Ok.ensures)

pub returns-in-Err-Limit : goal.returns-in-Err-Limit
returns-in-Err-Limit c = stopped c.in-Err-Limit.fault c.args.tokens.now c.formula.new.self.cursor c.args.end c.place_of-in-Err-Limit.result (rw c.len.ensures at c.place_of-in-Err-Limit.ensures) (rw (c.in-Err-Limit.field-0-is, c.new.ensures) at c.in-Err-Limit.ensures)
