-- Sets of signs, each as a record that says of minus, zero and plus whether it is in the set.
use Rattle.std.specs.Prelude.{ℕ, Bool, true, false, cond, not, ◌&&◌, ◌||◌, ◌+◌, ◌*◌, ◌<◌, if◌then◌else◌}
use Rattle.qe_form.specs.declared.signs.Signs.{Signs}

-- ---- the sets of the relations with zero

abbrev pub less : Signs
less = record { minus = true; zero = false; plus = false }

abbrev pub less_or_equal : Signs
less_or_equal = record { minus = true; zero = true; plus = false }

abbrev pub equal : Signs
equal = record { minus = false; zero = true; plus = false }

abbrev pub not_equal : Signs
not_equal = record { minus = true; zero = false; plus = true }

abbrev pub greater_or_equal : Signs
greater_or_equal = record { minus = false; zero = true; plus = true }

abbrev pub greater : Signs
greater = record { minus = false; zero = false; plus = true }

-- ---- operations

-- 1 for a sign that is in the set, and 0 for one that is not
abbrev pub bit : Bool → ℕ
bit b = if b then 1 else 0

-- the set as a number: 1 for minus, 2 for zero and 4 for plus
abbrev pub bits : Signs → ℕ
bits s = bit s.minus + 2 * bit s.zero + 4 * bit s.plus

-- the signs in either set
abbrev pub union : Signs → Signs → Signs
union s t = record { plus = s.plus || t.plus; zero = s.zero || t.zero; minus = s.minus || t.minus }

-- the signs in both sets
abbrev pub intersection : Signs → Signs → Signs
intersection s t = record { plus = s.plus && t.plus; zero = s.zero && t.zero; minus = s.minus && t.minus }

-- the signs outside the set
abbrev pub complement : Signs → Signs
complement s = record { plus = not s.plus; zero = not s.zero; minus = not s.minus }

-- minus and plus change places, as the signs of the negatives
abbrev pub mirror : Signs → Signs
mirror s = record { plus = s.minus; zero = s.zero; minus = s.plus }

-- the signs without zero
abbrev pub strict : Signs → Signs
strict s = record { minus = s.minus; zero = false; plus = s.plus }

-- Minus and plus are both in the set, or neither is. Of the sets that are neither empty nor full these are `=` and `<>`.
abbrev pub is_even : Signs → Bool
is_even s = cond s.minus s.plus (cond s.plus false true)

-- some sign is in the set, and some is not
abbrev pub IsProper : Signs → Type 0
IsProper signs = (0 < bits signs) × (bits signs < 7)
