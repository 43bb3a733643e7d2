-- Names, and the variables that they stand for.
use Rattle.std.specs.Prelude.{ℕ, suc, ◌-◌, Bool, cond, nat_le, nat_eq, ◌&&◌, List, [], ◌∷◌, take, drop, length, Option, Some, None}
use Rattle.std.specs.Cmp.Lexicographic.{slice_cmp, pointwise}
use Rattle.std.specs.Option.{option_or}
use Rattle.std.specs.Ordering.{nat_cmp, is_lt}
use Rattle.std.specs.declared.cmp.Ordering.{Ordering}
use Rattle.qe_poly.specs.declared.monomial.Var.{Var}
use Rattle.qe_token.specs.declared.token.Name.{Name}
use Rattle.qe_read.specs.declared.scope.Binder.{Binder}

-- the bytes of a name
abbrev pub Letters : Type 0
Letters = List ℕ

-- the bytes of the text from `start` up to `end`
abbrev pub letters : List ℕ → Name → Letters
letters text x = cond (nat_le x.start x.end && nat_le x.end (length text)) (take (x.end - x.start) (drop x.start text)) []

-- the order of names by their bytes
abbrev pub letters_cmp : Letters → Letters → Ordering
letters_cmp = slice_cmp nat_cmp

-- how many of the names come before w
abbrev pub names_before : List Letters → Letters → ℕ
names_before [] w = 0
names_before (v ∷ vs) w = cond (is_lt (letters_cmp v w)) (suc (names_before vs w)) (names_before vs w)

-- the same bytes
abbrev pub is_same : Letters → Letters → Bool
is_same = pointwise nat_eq

-- the variable of the last of the binders that has these letters
abbrev pub bound_to : List ℕ → List Binder → Letters → Option Var
bound_to text [] w = None
bound_to text (b ∷ bs) w = option_or (bound_to text bs w) (cond (is_same (letters text b.name) w) (Some b.var) None)

-- what was found, or else the variable of a free name
abbrev pub or_free : List Letters → Letters → Option Var → Var
or_free free w (Some x) = x
or_free free w None = record { 0 = names_before free w }

-- The variable of a name, where these are the binders around it from the outermost to the innermost:
-- that of the innermost binder with its letters, and else the one whose number is how many free names come before it.
abbrev pub variable : List ℕ → List Letters → List Binder → Name → Var
variable text free enclosing x = or_free free (letters text x) (bound_to text enclosing (letters text x))
