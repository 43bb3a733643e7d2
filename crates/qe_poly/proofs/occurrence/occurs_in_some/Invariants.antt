use Rattle.std.proofs.Common.{◌≡◌, drop, map}
use Rattle.qe_poly.specs.Rows.{shown}
use Rattle.qe_poly.specs.Occurs.{occurs_in_some}
use Rattle.qe_poly.proofs.occurrence.occurs_in_some.Given as goal

abbrev pub invariant-loop-term : goal.invariant-loop-term
invariant-loop-term l = occurs_in_some l.var.0 (map shown (drop l.term-index l.terms)) ≡ occurs_in_some l.var.0 (map shown l.terms)
