use Rattle.std.proofs.Common.{ℕ, ◌<◌, true, false, map, slice_index_or, Bor}
use Rattle.qe_form.specs.declared.form.Atom as atom
use Rattle.qe_poly.specs.Polynomial.{IsPolynomial}
use Rattle.qe_points.specs.Candidates.{numbered, distinct}
use Rattle.qe_points.proofs.Gathering.{IsLeft}
use Rattle.qe_points.proofs.candidate_list.grouped.Given as goal

abbrev pub invariant-loop-number : goal.invariant-loop-number
invariant-loop-number l = record {
  zero : IsLeft (λ a. a.now) l.x.0 true (distinct (numbered l.x.0 true 0 (map (λ a. a.now) l.atoms))) l.atoms l.number l.zero.entries;
  other : IsLeft (λ a. a.now) l.x.0 false (distinct (numbered l.x.0 false 0 (map (λ a. a.now) l.atoms))) l.atoms l.number l.other.entries;
  canonical : (k : ℕ) (d : Bor atom.Atom) → k < l.number → IsPolynomial (slice_index_or l.atoms k d).now.poly;
}
