-- What the loop that merges two polynomials keeps.
use Rattle.std.proofs.Common.{ℕ, List, ◌++◌, map, drop}
use Rattle.qe_poly.specs.Polynomial.{Polynomial}
use Rattle.qe_poly.specs.Rows.{Row, shown, shown_row, merged}
use Rattle.qe_poly.specs.declared.term.Term as kept
use Rattle.qe_poly.specs.declared.sum.Row as kept_row

-- the terms from a place on
abbrev pub from : List kept.Term → ℕ → Polynomial
from ts i = map shown (drop i ts)

-- the rows so far, and those of what is left
abbrev pub so_far : List kept_row.Row → Polynomial → Polynomial → List Row
so_far rows p q = map shown_row rows ++ merged p q
