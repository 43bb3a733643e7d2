use Rattle.std.proofs.Common.{◌≡◌, take, map}
use Rattle.qe_read.specs.Names.{letters}
use Rattle.qe_read.proofs.free_names.FreeNames.new.Given as goal

abbrev pub invariant-loop-name : goal.invariant-loop-name
invariant-loop-name l = map (λ w. w.now) l.spelled.items ≡ map (letters l.text) (take l.name-index l.names)
