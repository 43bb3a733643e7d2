use Rattle.std.proofs.Common.{◌≡◌, ◌++◌, false, drop, map}
use Rattle.qe_poly.specs.Rows.{shown}
use Rattle.qe_poly.specs.Renamed.{renamed_monomial}
use Rattle.qe_poly.specs.Occurs.{occurs_in_some}
use Rattle.qe_poly.proofs.rename.renamed_terms.Given as goal

abbrev pub invariant-loop-term : goal.invariant-loop-term
invariant-loop-term l = record {
  made : map shown l.made.items ++ map (λ t. (renamed_monomial l.from l.to t.0, t.1)) (map shown (drop l.term-index l.terms)) ≡ map (λ t. (renamed_monomial l.from l.to t.0, t.1)) (map shown l.terms);
  none : occurs_in_some l.to.0 (map shown (drop l.term-index l.terms)) ≡ false;
}
