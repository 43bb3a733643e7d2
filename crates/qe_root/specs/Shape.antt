-- Formulas of atoms, `and` and `or` of two, over whatever stands at the atoms.
use Rattle.std.specs.Prelude.{Bool, ◌&&◌, ◌||◌}
use Rattle.qe_ring.specs.Sign.{Sign}
use Rattle.qe_poly.specs.Polynomial.{Polynomial}
use Rattle.qe_form.specs.declared.signs.Signs.{Signs}
use Rattle.qe_form.specs.Formula.{Formula}
use Rattle.qe_form.specs.Making.{atomic, both, either}
use Rattle.qe_form.specs.Truth.{has_sign}

-- an atom has an X and the signs that it may have
pub data Shape (X : Type 0) : Type 0 where
  atom : X → Signs → Shape X
  conjunction : Shape X → Shape X → Shape X
  disjunction : Shape X → Shape X → Shape X

-- over polynomials it is a formula
abbrev pub formula : Shape Polynomial → Formula
formula (atom p signs) = atomic p signs
formula (conjunction f g) = both (formula f) (formula g)
formula (disjunction f g) = either (formula f) (formula g)

-- over signs it is met or not
abbrev pub is_met : Shape Sign → Bool
is_met (atom s signs) = has_sign signs s
is_met (conjunction f g) = is_met f && is_met g
is_met (disjunction f g) = is_met f || is_met g
