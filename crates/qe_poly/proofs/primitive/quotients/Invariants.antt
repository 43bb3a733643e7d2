use Rattle.std.proofs.Common.{◌≡◌, ◌++◌, unsigned_abs, map, drop}
use Rattle.qe_poly.specs.Primitive.{divided, DividesEach}
use Rattle.qe_poly.specs.Rows.{shown}
use Rattle.qe_poly.proofs.primitive.quotients.Given as goal

abbrev pub invariant-loop-term : goal.invariant-loop-term
invariant-loop-term l = record {
  divides : DividesEach (unsigned_abs l.by) (map shown (drop l.term-index l.terms));
  quotients : map shown l.kept.items ++ divided l.by (map shown (drop l.term-index l.terms)) ≡ divided l.by (map shown l.terms);
}
