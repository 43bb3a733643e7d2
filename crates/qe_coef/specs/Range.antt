-- The range of a coefficient.
use Rattle.std.specs.Prelude.{ℤ, ◌≡◌, ◌^◌, ◌<◌, ◌*ℤ◌, unsigned_abs}

-- from -(2^127-1) to 2^127-1
abbrev pub IsInRange : ℤ → Type 0
IsInRange z = unsigned_abs z < 2 ^ 127

-- d times some whole number is z
abbrev pub Divides : ℤ → ℤ → Type 0
Divides d z = (k : ℤ) × (z ≡ k *ℤ d)
