-- The walk through a normal form from left to right, a quantifier before its body, in which each
-- quantifier gets a variable of its own: that of the formula where it is first met, and the next
-- number without a name where it is met again, as a copy.
use Rattle.std.specs.Prelude.{ℕ, Bool, true, false, cond, ◌&&◌, nat_lt, List, [], ◌∷◌, ◌++◌, length, replicate, slice_index_or, slice_get, slice_set, unwrap_or}
use Rattle.qe_poly.specs.Polynomial.{Polynomial}
use Rattle.qe_poly.specs.Renamed.{renamed}
use Rattle.qe_form.specs.Formula.{Formula, Formulas, Atom, And, Or, Ex, All, no_more, more}
use Rattle.qe_norm.specs.declared.walk.Renaming.{Renaming}

-- which variables a quantifier was met for, and the names so far
pub record Walked : Type 0 where
  pub met : List Bool
  pub names : List (List ℕ)

-- Whether a quantifier for the variable was met before. Numbers end below 2^32: where there are so
-- many names it counts as not met, and no clause of the prenex form concerns that case.
abbrev pub is_copy : Walked → ℕ → Bool
is_copy w x = slice_index_or w.met x false && nat_lt (length w.names) 4294967295

-- the variable that a quantifier for x gets here
abbrev pub new_variable : Walked → ℕ → ℕ
new_variable w x = cond (is_copy w x) (length w.names) x

-- what is met after a quantifier for x that is a copy: the name of x comes again
abbrev pub named_again : Walked → ℕ → Walked
named_again w x = record { met = w.met; names = w.names ++ unwrap_or (slice_get w.names x) [] ∷ [] }

-- what is met after the first quantifier for x
abbrev pub met_first : Walked → ℕ → Walked
met_first w x = record { met = slice_set w.met x true; names = w.names }

-- what is met after a quantifier for x
abbrev pub met_after : Walked → ℕ → Walked
met_after w x = cond (is_copy w x) (named_again w x) (met_first w x)

-- the renaming of x to a copy
abbrev pub to_copy : Walked → ℕ → Renaming
to_copy w x = record { from = record { 0 = x }; to = record { 0 = length w.names } }

-- the renamings in force in the body of a quantifier for x, in the order in which they came into
-- force
abbrev pub within : Walked → ℕ → List Renaming → List Renaming
within w x rs = cond (is_copy w x) (rs ++ to_copy w x ∷ []) rs

-- the polynomial with each of the renamings
abbrev pub renamed_by : List Renaming → Polynomial → Polynomial
renamed_by [] p = p
renamed_by (r ∷ rs) p = renamed_by rs (renamed r.from r.to p)

-- The formula with the variables of the walk, under these renamings, and what is met after it.
abbrev mutual
  pub numbered : Formula → List Renaming → Walked → Formula × Walked
  numbered (Atom a) rs w = (Atom (record { poly = renamed_by rs a.poly; signs = a.signs }), w)
  numbered (And fs) rs w = (And (numbered_each fs rs w).0, (numbered_each fs rs w).1)
  numbered (Or fs) rs w = (Or (numbered_each fs rs w).0, (numbered_each fs rs w).1)
  numbered (Ex x f) rs w = (Ex (new_variable w x) (numbered f (within w x rs) (met_after w x)).0, (numbered f (within w x rs) (met_after w x)).1)
  numbered (All x f) rs w = (All (new_variable w x) (numbered f (within w x rs) (met_after w x)).0, (numbered f (within w x rs) (met_after w x)).1)
  numbered f rs w = (f, w)

  pub numbered_each : Formulas → List Renaming → Walked → Formulas × Walked
  numbered_each no_more rs w = (no_more, w)
  numbered_each (more f fs) rs w =
      (more (numbered f rs w).0 (numbered_each fs rs (numbered f rs w).1).0, (numbered_each fs rs (numbered f rs w).1).1)

-- the start of a walk: no quantifier was met
abbrev pub start : List (List ℕ) → Walked
start names = record { met = replicate (length names) false; names = names }
