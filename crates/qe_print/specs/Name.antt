-- The text of a variable's name, where it is to be told from every other variable.
use Rattle.std.specs.Prelude.{ℕ, List, [], ◌++◌, length, nat_eq, nat_lt, if◌then◌else◌, codes, decimal, count_by}
use Rattle.std.specs.Cmp.Lexicographic.{pointwise}
use Rattle.qe_print.specs.Polynomial.{name_of}

-- how many variables have this name
abbrev pub bearers : List (List ℕ) → List ℕ → ℕ
bearers names name = count_by (λ other. pointwise nat_eq other name) names

-- nothing, or `#` and the number where another variable has the name too
abbrev pub number_text : List (List ℕ) → ℕ → List ℕ
number_text names x = if nat_lt 1 (bearers names (name_of names x)) then codes "#" ++ decimal x else []

-- the name, with the number where another variable has the name too; no text where the variable has no name
abbrev pub name_text : List (List ℕ) → ℕ → List ℕ
name_text names x = if nat_lt x (length names) then name_of names x ++ number_text names x else []
