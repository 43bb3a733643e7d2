use Rattle.std.proofs.Common.{◌≡◌, ◌++◌, take, map}
use Rattle.qe_read.specs.Names.{letters}
use Rattle.qe_read.proofs.reader.names_of.Given as goal

abbrev pub invariant-loop-free : goal.invariant-loop-free
invariant-loop-free l = l.names ≡ map (λ w. w.now) (take l.free-index l.free-items)

abbrev pub invariant-loop-name : goal.invariant-loop-name
invariant-loop-name l = l.names ≡ l.context.free.now ++ map (letters l.context.text.now) (take l.name-index l.bound)
