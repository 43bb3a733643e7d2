-- The key of a node: its variables and its formula as one list of numbers, from which both are read
-- back.
use Rattle.std.specs.Prelude.{ℕ, suc, zero, ℤ, pos, negsuc, Bool, true, false, not, eqb, List, [], ◌∷◌, ◌++◌}
use Rattle.qe_poly.specs.declared.monomial.Power.{Power}
use Rattle.qe_poly.specs.Polynomial.{Term}
use Rattle.qe_form.specs.declared.signs.Signs.{Signs}
use Rattle.qe_form.specs.declared.form.Atom as atom
use Rattle.qe_form.specs.Signs.{bit}
use Rattle.qe_form.specs.Formula.{Formula, Formulas, True, False, Atom, And, Or, Not, Implies, Iff, Ex, All, no_more, more}
use Rattle.qe_node.specs.Node.{Sight}

-- ---- numbers nested in pairs

pub data Nest : Type 0 where
  one : ℕ → Nest
  two : Nest → Nest → Nest

-- a nest as a list of numbers: one more than a number, and 0 before the two parts of a pair
abbrev pub flattened : Nest → List ℕ
flattened (one n) = suc n ∷ []
flattened (two s t) = 0 ∷ (flattened s ++ flattened t)

-- the first two of the nests as a pair
abbrev pub paired : List Nest → List Nest
paired [] = []
paired (s ∷ []) = []
paired (s ∷ t ∷ rest) = two s t ∷ rest

-- one more number before the nests that were read: 0 makes a pair of the first two
abbrev pub pushed : ℕ → List Nest → List Nest
pushed zero rest = paired rest
pushed (suc n) rest = one n ∷ rest

-- the nests of a list of numbers, read from its end
abbrev pub nests : List ℕ → List Nest
nests [] = []
nests (n ∷ ns) = pushed n (nests ns)

abbrev pub first_nest : List Nest → Nest
first_nest [] = one 0
first_nest (s ∷ rest) = s

-- ---- numbers, lists and pairs as nests, and back

abbrev pub number_in : Nest → ℕ
number_in (one n) = n
number_in (two s t) = 0

abbrev pub left_in : Nest → Nest
left_in (one n) = one 0
left_in (two s t) = s

abbrev pub right_in : Nest → Nest
right_in (one n) = one 0
right_in (two s t) = t

abbrev pub list_nest : {A : Type 0} → (A → Nest) → List A → Nest
list_nest code [] = one 0
list_nest code (a ∷ items) = two (code a) (list_nest code items)

abbrev pub list_in : {A : Type 0} → (Nest → A) → Nest → List A
list_in back (one n) = []
list_in back (two s t) = back s ∷ list_in back t

abbrev pub bool_nest : Bool → Nest
bool_nest b = one (bit b)

abbrev pub bool_in : Nest → Bool
bool_in s = not (eqb (number_in s) 0)

abbrev pub integer_nest : ℤ → Nest
integer_nest (pos n) = two (one 0) (one n)
integer_nest (negsuc n) = two (one 1) (one n)

abbrev pub signed : Bool → ℕ → ℤ
signed false n = pos n
signed true n = negsuc n

abbrev pub integer_in : Nest → ℤ
integer_in s = signed (bool_in (left_in s)) (number_in (right_in s))

-- ---- polynomials

abbrev pub power_nest : Power → Nest
power_nest a = two (one a.var.0) (one a.exponent)

abbrev pub power_in : Nest → Power
power_in s =
    record { var = record { 0 = number_in (left_in s) }; exponent = number_in (right_in s) }

abbrev pub term_nest : Term → Nest
term_nest t = two (list_nest power_nest t.0) (integer_nest t.1)

abbrev pub term_in : Nest → Term
term_in s = (list_in power_in (left_in s), integer_in (right_in s))

-- ---- atoms

abbrev pub signs_nest : Signs → Nest
signs_nest s = two (bool_nest s.minus) (two (bool_nest s.zero) (bool_nest s.plus))

abbrev pub signs_in : Nest → Signs
signs_in s =
    record {
      plus = bool_in (right_in (right_in s));
      zero = bool_in (left_in (right_in s));
      minus = bool_in (left_in s);
    }

abbrev pub atom_nest : atom.Atom → Nest
atom_nest a = two (list_nest term_nest a.poly) (signs_nest a.signs)

abbrev pub atom_in : Nest → atom.Atom
atom_in s = record { poly = list_in term_in (left_in s); signs = signs_in (right_in s) }

-- ---- formulas: a pair of the kind, with what it holds beside formulas, and the list of its parts

abbrev mutual
  pub formula_nest : Formula → Nest
  formula_nest True = two (one 0) (one 0)
  formula_nest False = two (one 1) (one 0)
  formula_nest (And fs) = two (one 2) (formulas_nest fs)
  formula_nest (Or fs) = two (one 3) (formulas_nest fs)
  formula_nest (Not f) = two (one 4) (two (formula_nest f) (one 0))
  formula_nest (Implies f g) = two (one 5) (two (formula_nest f) (two (formula_nest g) (one 0)))
  formula_nest (Iff f g) = two (one 6) (two (formula_nest f) (two (formula_nest g) (one 0)))
  formula_nest (Atom a) = two (two (one 0) (atom_nest a)) (one 0)
  formula_nest (Ex x f) = two (two (one 1) (one x)) (two (formula_nest f) (one 0))
  formula_nest (All x f) = two (two (one 2) (one x)) (two (formula_nest f) (one 0))

  pub formulas_nest : Formulas → Nest
  formulas_nest no_more = one 0
  formulas_nest (more f fs) = two (formula_nest f) (formulas_nest fs)

abbrev pub first_part : Formulas → Formula
first_part no_more = True
first_part (more f fs) = f

abbrev pub other_parts : Formulas → Formulas
other_parts no_more = no_more
other_parts (more f fs) = fs

-- of a kind that holds formulas alone
abbrev pub of_parts : ℕ → Formulas → Formula
of_parts zero fs = True
of_parts (suc zero) fs = False
of_parts (suc (suc zero)) fs = And fs
of_parts (suc (suc (suc zero))) fs = Or fs
of_parts (suc (suc (suc (suc zero)))) fs = Not (first_part fs)
of_parts (suc (suc (suc (suc (suc zero))))) fs =
    Implies (first_part fs) (first_part (other_parts fs))
of_parts (suc (suc (suc (suc (suc (suc n)))))) fs =
    Iff (first_part fs) (first_part (other_parts fs))

-- of a kind that holds an atom or a variable too
abbrev pub of_more : ℕ → Nest → Formulas → Formula
of_more zero s fs = Atom (atom_in s)
of_more (suc zero) s fs = Ex (number_in s) (first_part fs)
of_more (suc (suc n)) s fs = All (number_in s) (first_part fs)

abbrev pub of_kind : Nest → Formulas → Formula
of_kind (one n) fs = of_parts n fs
of_kind (two s t) fs = of_more (number_in s) t fs

-- a nest read as a formula, and as a list of formulas
abbrev pub either_in : Nest → Formula × Formulas
either_in (one n) = (True, no_more)
either_in (two s t) = (of_kind s (either_in t).1, more (either_in s).0 (either_in t).1)

abbrev pub formula_in : Nest → Formula
formula_in s = (either_in s).0

-- ---- nodes

abbrev pub key : List ℕ → Formula → List ℕ
key variables f = flattened (two (list_nest one variables) (formula_nest f))

abbrev pub variables_of : List ℕ → List ℕ
variables_of ns = list_in number_in (left_in (first_nest (nests ns)))

abbrev pub form_of : List ℕ → Formula
form_of ns = formula_in (right_in (first_nest (nests ns)))

-- the key of a node, and the node that a list of numbers codes
abbrev pub sight_key : Sight → List ℕ
sight_key n = key n.vars n.form

abbrev pub sight_of : List ℕ → Sight
sight_of k = record { vars = variables_of k; form = form_of k }
