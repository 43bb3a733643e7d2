-- Small formulas, made of others.
use Rattle.std.specs.Prelude.{Bool, true, false}
use Rattle.qe_poly.specs.Polynomial.{Polynomial}
use Rattle.qe_form.specs.declared.signs.Signs.{Signs}
use Rattle.qe_form.specs.Formula.{Formula, True, False, Atom, And, Or, no_more, more}

-- the formula stating that the polynomial's sign is in the set
abbrev pub atomic : Polynomial → Signs → Formula
atomic p signs = Atom (record { poly = p; signs = signs })

-- both of two, and one of two
abbrev pub both : Formula → Formula → Formula
both f g = And (more f (more g no_more))

abbrev pub either : Formula → Formula → Formula
either f g = Or (more f (more g no_more))

-- the constant that is true, or false
abbrev pub constant : Bool → Formula
constant true = True
constant false = False

-- whether a formula is that constant
abbrev pub is_true : Formula → Bool
is_true True = true
is_true f = false

abbrev pub is_false : Formula → Bool
is_false False = true
is_false f = false
