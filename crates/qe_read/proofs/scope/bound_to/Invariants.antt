use Rattle.std.proofs.Common.{◌≡◌, drop}
use Rattle.std.specs.Option.{option_or}
use Rattle.qe_read.specs.Names.{bound_to}
use Rattle.qe_read.proofs.scope.bound_to.Given as goal

abbrev pub invariant-loop-binder : goal.invariant-loop-binder
invariant-loop-binder l = option_or (bound_to l.text (drop l.binder-index l.enclosing) l.spelled) l.found ≡ bound_to l.text l.enclosing l.spelled
