-- What an operation on two coefficients answers.
use Rattle.std.specs.Prelude.{ℤ, ◌≡◌, ◌+ℤ◌, ◌-ℤ◌, ◌*ℤ◌, Result, Ok, Err}
use Rattle.qe_coef.specs.Range.{IsInRange}
use Rattle.qe_coef.specs.declared.Op.{Op}
use Rattle.qe_coef.specs.declared.Op.TheVariants.{Add, Sub, Mul}
use Rattle.qe_coef.specs.declared.Wide.{Wide}

-- the result in whole numbers without bounds
abbrev pub exact : Op → ℤ → ℤ → ℤ
exact Add a b = a +ℤ b
exact Sub a b = a -ℤ b
exact Mul a b = a *ℤ b

-- the exact result where it is in range, and else the operation with its arguments
abbrev pub IsExact : Op → ℤ → ℤ → Result ℤ Wide → Type 0
IsExact op a b (Ok c) = (c ≡ exact op a b) × IsInRange (exact op a b)
IsExact op a b (Err w) = (IsInRange (exact op a b) → ⊥) × (w ≡ record { op = op; left = a; right = b })
