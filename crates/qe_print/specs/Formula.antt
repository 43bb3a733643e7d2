-- The text of a formula.
use Rattle.std.specs.Prelude.{ℕ, List, [], ◌++◌, Bool, true, false, ◌==◌, if◌then◌else◌, codes}
use Rattle.qe_form.specs.declared.form.Atom as atom
use Rattle.qe_form.specs.Signs.{bits}
use Rattle.qe_form.specs.Formula.{Formula, Formulas, True, False, Atom, And, Or, Not, Implies, Iff, Ex, All, no_more, more}
use Rattle.qe_print.specs.Polynomial.{name_of, polynomial_text}

-- the relation that a set of signs stands for, by its bits: 1 for minus, 2 for zero, 4 for plus
abbrev pub relation_to_zero : ℕ → List ℕ
relation_to_zero n =
    if n == 1 then codes " < 0" else
    if n == 2 then codes " = 0" else
    if n == 3 then codes " <= 0" else
    if n == 4 then codes " > 0" else
    if n == 5 then codes " <> 0" else codes " >= 0"

-- the polynomial and its relation to 0; without signs an atom is false, and with all of them true
abbrev pub atom_text : List (List ℕ) → atom.Atom → List ℕ
atom_text names a =
    if bits a.signs == 0 then codes "false" else
    if bits a.signs == 7 then codes "true" else polynomial_text names a.poly ++ relation_to_zero (bits a.signs)

-- a constant or an atom, which stands in no brackets
abbrev pub is_simple : Formula → Bool
is_simple True = true
is_simple False = true
is_simple (Atom a) = true
is_simple f = false

-- the text of a part: in brackets where the part is neither a constant nor an atom
abbrev pub bracketed : Formula → List ℕ → List ℕ
bracketed f text = if is_simple f then text else codes "[" ++ text ++ codes "]"

-- the text of a part that stands alone is without brackets
abbrev pub part : Bool → Formula → List ℕ → List ℕ
part alone f text = if alone then text else bracketed f text

abbrev pub is_single : Formulas → Bool
is_single no_more = false
is_single (more f no_more) = true
is_single (more f (more g fs)) = false

-- the text of a list of parts, from that of its parts where there are some
abbrev pub list_text : List ℕ → Formulas → List ℕ → List ℕ
list_text none no_more text = none
list_text none (more f fs) text = text

-- And and Or join their parts; a list of one is its part, an empty And is true and an empty Or false
abbrev mutual
  pub formula_text : List (List ℕ) → Formula → List ℕ
  formula_text names True = codes "true"
  formula_text names False = codes "false"
  formula_text names (Atom a) = atom_text names a
  formula_text names (And fs) = list_text (codes "true") fs (parts_text names (codes " and ") true (is_single fs) fs)
  formula_text names (Or fs) = list_text (codes "false") fs (parts_text names (codes " or ") true (is_single fs) fs)
  formula_text names (Not f) = codes "not " ++ bracketed f (formula_text names f)
  formula_text names (Implies f g) = bracketed f (formula_text names f) ++ codes " implies " ++ bracketed g (formula_text names g)
  formula_text names (Iff f g) = bracketed f (formula_text names f) ++ codes " iff " ++ bracketed g (formula_text names g)
  formula_text names (Ex x f) = codes "ex " ++ name_of names x ++ codes ". " ++ formula_text names f
  formula_text names (All x f) = codes "all " ++ name_of names x ++ codes ". " ++ formula_text names f

  -- the parts in order, with the joint before each but the first
  pub parts_text : List (List ℕ) → List ℕ → Bool → Bool → Formulas → List ℕ
  parts_text names joint first alone no_more = []
  parts_text names joint first alone (more f fs) = (if first then [] else joint) ++ part alone f (formula_text names f) ++ parts_text names joint false alone fs
