-- The polynomial a*x^2 + b*x + c, its derivative and its discriminant as expressions in the first four entries of a list: a, b, c and x.
use Rattle.std.proofs.Common.{pos}
use Rattle.qe_ring.specs.Expression.{Expression, var, constant, ◌⊕◌, ◌⊗◌, ◌⊝◌}

abbrev pub A : Expression
A = var 0

abbrev pub B : Expression
B = var 1

abbrev pub C₀ : Expression
C₀ = var 2

abbrev pub X : Expression
X = var 3

abbrev pub Polynomial : Expression
Polynomial = A ⊗ (X ⊗ X) ⊕ B ⊗ X ⊕ C₀

abbrev pub twice_A : Expression
twice_A = constant (pos 2) ⊗ A

abbrev pub Slope : Expression
Slope = twice_A ⊗ X ⊕ B

abbrev pub Discriminant : Expression
Discriminant = B ⊗ B ⊝ constant (pos 4) ⊗ (A ⊗ C₀)
