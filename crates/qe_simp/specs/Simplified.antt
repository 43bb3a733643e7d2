-- The simplified form of a formula.
use Rattle.std.specs.Prelude.{Bool, true, false, cond, eqb, List, [], ◌∷◌, Option, Some, None, ℤ}
use Rattle.std.specs.List.{flat_map, list_any}
use Rattle.std.specs.Ordering.{is_eq, is_gt}
use Rattle.qe_ring.specs.Sign.{int_sign}
use Rattle.qe_poly.specs.Polynomial.{Polynomial, constant, coefficient}
use Rattle.qe_poly.specs.Primitive.{primitive, leads_negative}
use Rattle.qe_poly.specs.Equal.{poly_eq}
use Rattle.qe_form.specs.declared.signs.Signs.{Signs}
use Rattle.qe_form.specs.declared.form.Atom as atom
use Rattle.qe_form.specs.Signs.{bits, union, intersection, mirror}
use Rattle.qe_form.specs.Formula.{Formula, Formulas, True, False, Atom, And, Or, Not, Implies, Iff, Ex, All, no_more, more}
use Rattle.qe_form.specs.Making.{constant as truth}
use Rattle.qe_form.specs.Tree.{trees_of}
use Rattle.qe_form.specs.Truth.{has_sign}
use Rattle.qe_form.specs.Order.{formula_cmp}
use Rattle.qe_simp.specs.declared.connective.Connective.{Connective}
use Rattle.qe_simp.specs.declared.connective.Connective.TheVariants.{Conjunction, Disjunction}

-- ---- atoms

-- the number that a polynomial is, where it is one: its coefficient at the monomial 1
abbrev pub as_number : Polynomial → Option ℤ
as_number p = cond (poly_eq p (constant (coefficient p []))) (Some (coefficient p [])) None

-- the atom on the primitive polynomial, with the signs of the negatives where the leading
-- coefficient is negative
abbrev pub primitive_atom : atom.Atom → atom.Atom
primitive_atom a =
    record {
      poly = primitive a.poly;
      signs = cond (leads_negative a.poly) (mirror a.signs) a.signs;
    }

-- an atom on a number is true or false by the number's sign
abbrev pub on_number : atom.Atom → Option ℤ → Formula
on_number a None = Atom (primitive_atom a)
on_number a (Some c) = truth (has_sign a.signs (int_sign c))

-- no sign is false, and all signs are true
abbrev pub simplified_atom : atom.Atom → Formula
simplified_atom a =
    cond (eqb (bits a.signs) 0) False
    (cond (eqb (bits a.signs) 7) True (on_number a (as_number a.poly)))

-- ---- the parts of an And, a conjunction, or an Or, a disjunction

-- the constant that changes nothing among the parts
abbrev pub neutral : Connective → Formula
neutral Conjunction = True
neutral Disjunction = False

-- the constant that decides for the whole
abbrev pub deciding : Connective → Formula
deciding Conjunction = False
deciding Disjunction = True

-- formulas under the connective
abbrev pub under : Connective → List Formula → Formula
under Conjunction fs = And (trees_of fs)
under Disjunction fs = Or (trees_of fs)

-- the signs that atoms on one polynomial have together
abbrev pub joined_signs : Connective → Signs → Signs → Signs
joined_signs Conjunction s t = intersection s t
joined_signs Disjunction s t = union s t

-- the parts as a list
abbrev pub listed : Formulas → List Formula
listed no_more = []
listed (more f fs) = f ∷ listed fs

-- a formula among the parts: its own parts where it has the same connective, none where it changes
-- nothing
abbrev pub parts_in : Connective → Formula → List Formula
parts_in Conjunction True = []
parts_in Conjunction (And fs) = listed fs
parts_in Disjunction False = []
parts_in Disjunction (Or fs) = listed fs
parts_in k f = f ∷ []

-- the formula before the first that comes after it or ties with it
abbrev pub insert : Formula → List Formula → List Formula
insert f [] = f ∷ []
insert f (g ∷ gs) = cond (is_gt (formula_cmp f g)) (g ∷ insert f gs) (f ∷ g ∷ gs)

-- the formulas in their order
abbrev pub in_order : List Formula → List Formula
in_order [] = []
in_order (f ∷ fs) = insert f (in_order fs)

-- two parts as one: atoms on one polynomial with the signs that they have together, and equal
-- formulas
abbrev pub as_one : Connective → Formula → Formula → Option Formula
as_one k (Atom a) (Atom b) =
    cond (poly_eq a.poly b.poly)
    (Some (Atom (record { poly = a.poly; signs = joined_signs k a.signs b.signs }))) None
as_one k f g = cond (is_eq (formula_cmp f g)) (Some f) None

abbrev pub one_or_two : Option Formula → (Formula → List Formula) → List Formula → List Formula
one_or_two None one two = two
one_or_two (Some f) one two = one f

-- a part and those after it, where neighbours that are one part are made one
abbrev pub merged_from : Connective → Formula → List Formula → List Formula
merged_from k f [] = f ∷ []
merged_from k f (g ∷ gs) =
    one_or_two (as_one k f g) (λ h. merged_from k h gs) (f ∷ merged_from k g gs)

abbrev pub merged_parts : Connective → List Formula → List Formula
merged_parts k [] = []
merged_parts k (f ∷ fs) = merged_from k f fs

-- a part decides for the whole: the deciding constant, or an atom that no sign, or each sign, fits
abbrev pub decides : Connective → Formula → Bool
decides Conjunction False = true
decides Conjunction (Atom a) = eqb (bits a.signs) 0
decides Disjunction True = true
decides Disjunction (Atom a) = eqb (bits a.signs) 7
decides k f = false

-- no part is the neutral constant, and one part is itself
abbrev pub united : Connective → List Formula → Formula
united k [] = neutral k
united k (f ∷ []) = f
united k (f ∷ g ∷ gs) = under k (f ∷ g ∷ gs)

-- the deciding constant where a part decides, and else the parts
abbrev pub decided : Connective → List Formula → Formula
decided k fs = cond (list_any (decides k) fs) (deciding k) (united k fs)

-- formulas joined by a connective
abbrev pub joint : Connective → List Formula → Formula
joint k fs = decided k (merged_parts k (in_order (flat_map (parts_in k) fs)))

-- ---- formulas

-- Constants, atoms, And and Or are simplified from the parts up; any other formula stays as it is.
abbrev mutual
  pub simplified : Formula → Formula
  simplified True = True
  simplified False = False
  simplified (Atom a) = simplified_atom a
  simplified (And fs) = joint Conjunction (simplified_each fs)
  simplified (Or fs) = joint Disjunction (simplified_each fs)
  simplified (Not f) = Not f
  simplified (Implies f g) = Implies f g
  simplified (Iff f g) = Iff f g
  simplified (Ex x f) = Ex x f
  simplified (All x f) = All x f

  pub simplified_each : Formulas → List Formula
  simplified_each no_more = []
  simplified_each (more f fs) = simplified f ∷ simplified_each fs
