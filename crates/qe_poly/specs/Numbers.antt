-- Polynomials that are numbers.
use Rattle.std.specs.Prelude.{pos, Bool, true, false, [], ◌∷◌}
use Rattle.std.specs.Int.RustNames.{int_lt}
use Rattle.qe_poly.specs.Polynomial.{Polynomial}

-- it is 0
abbrev pub is_zero : Polynomial → Bool
is_zero [] = true
is_zero (t ∷ ts) = false

-- it is a negative number
abbrev pub is_negative : Polynomial → Bool
is_negative (([], c) ∷ []) = int_lt c (pos 0)
is_negative p = false
