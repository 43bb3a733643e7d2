use Rattle.std.proofs.Common.{◌≡◌, ◌++◌, map, drop}
use Rattle.std.specs.String.{string_bytes}
use Rattle.qe_poly.specs.Rows.{shown}
use Rattle.qe_print.specs.Polynomial.{terms_text}
use Rattle.qe_print.proofs.polynomial.push_terms.Given as goal

abbrev pub invariant-loop-term : goal.invariant-loop-term
invariant-loop-term l = string_bytes l.out ++ terms_text l.names (map shown (drop l.term-index l.terms)) ≡ string_bytes l.initial.out ++ terms_text l.names (map shown l.terms)
