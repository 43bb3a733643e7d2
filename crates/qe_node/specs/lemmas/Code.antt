-- What a key codes is read back from it.
use Rattle.std.specs.Prelude.{◌≡◌, refl, ℕ, ℤ, pos, negsuc, Bool, true, false, List, [], ◌∷◌, ◌++◌}
use Rattle.std.proofs.Common.{ap, sym, ◌∙◌, append_assoc, append-nil}
use Rattle.std.specs.Coded.{Coded, code_by, coded_list, coded_ℕ}
use Rattle.qe_poly.specs.declared.monomial.Power.{Power}
use Rattle.qe_poly.specs.Polynomial.{Term}
use Rattle.qe_form.specs.declared.signs.Signs.{Signs}
use Rattle.qe_form.specs.declared.form.Atom as atom
use Rattle.qe_form.specs.Formula.{Formula, Formulas, True, False, Atom, And, Or, Not, Implies, Iff, Ex, All, no_more, more}
use Rattle.qe_node.specs.key.Code.{Nest, one, two, flattened, paired, nests, first_nest, left_in, right_in, number_in, list_nest, list_in, bool_nest, bool_in, integer_nest, integer_in, power_nest, power_in, term_nest, term_in, signs_nest, signs_in, atom_nest, atom_in, formula_nest, formulas_nest, either_in, formula_in, key, variables_of, form_of, sight_key, sight_of}
use Rattle.qe_node.specs.Node.{Sight}

nests-flattened : (s : Nest) (ns : List ℕ) → nests (flattened s ++ ns) ≡ s ∷ nests ns
nests-flattened (one n) ns = refl
nests-flattened (two s t) ns =
    ap (λ ms. paired (nests ms)) (append_assoc (flattened s) (flattened t) ns)
    ∙ ap paired (nests-flattened s (flattened t ++ ns) ∙ ap (λ ms. s ∷ ms) (nests-flattened t ns))

first-flattened : (s : Nest) → first_nest (nests (flattened s)) ≡ s
first-flattened s = ap (λ ns. first_nest (nests ns)) (sym (append-nil (flattened s))) ∙ ap first_nest (nests-flattened s [])

list-back : {A : Type 0} (code : A → Nest) (back : Nest → A) → ((a : A) → back (code a) ≡ a) → (items : List A) → list_in back (list_nest code items) ≡ items
list-back code back same [] = refl
list-back code back same (a ∷ items) = λ i. same a i ∷ list-back code back same items i

bool-back : (b : Bool) → bool_in (bool_nest b) ≡ b
bool-back true = refl
bool-back false = refl

integer-back : (z : ℤ) → integer_in (integer_nest z) ≡ z
integer-back (pos n) = refl
integer-back (negsuc n) = refl

power-back : (a : Power) → power_in (power_nest a) ≡ a
power-back a = refl

term-back : (t : Term) → term_in (term_nest t) ≡ t
term-back t = λ i. (list-back power_nest power_in power-back t.0 i, integer-back t.1 i)

signs-back : (s : Signs) → signs_in (signs_nest s) ≡ s
signs-back s = λ i. record { plus = bool-back s.plus i; zero = bool-back s.zero i; minus = bool-back s.minus i }

atom-back : (a : atom.Atom) → atom_in (atom_nest a) ≡ a
atom-back a = λ i. record { poly = list-back term_nest term_in term-back a.poly i; signs = signs-back a.signs i }

mutual
  formula-back : (f : Formula) → formula_in (formula_nest f) ≡ f
  formula-back True = refl
  formula-back False = refl
  formula-back (And fs) = ap And (formulas-back fs)
  formula-back (Or fs) = ap Or (formulas-back fs)
  formula-back (Not f) = ap Not (formula-back f)
  formula-back (Implies f g) = λ i. Implies (formula-back f i) (formula-back g i)
  formula-back (Iff f g) = λ i. Iff (formula-back f i) (formula-back g i)
  formula-back (Atom a) = ap Atom (atom-back a)
  formula-back (Ex x f) = ap (Ex x) (formula-back f)
  formula-back (All x f) = ap (All x) (formula-back f)

  formulas-back : (fs : Formulas) → (either_in (formulas_nest fs)).1 ≡ fs
  formulas-back no_more = refl
  formulas-back (more f fs) = λ i. more (formula-back f i) (formulas-back fs i)

-- the variables that a key codes
pub variables-key : (variables : List ℕ) (f : Formula) → variables_of (key variables f) ≡ variables
variables-key variables f = ap (λ s. list_in number_in (left_in s)) (first-flattened (two (list_nest one variables) (formula_nest f))) ∙ list-back one number_in (λ n. refl) variables

-- the formula that a key codes
pub formula-key : (variables : List ℕ) (f : Formula) → form_of (key variables f) ≡ f
formula-key variables f = ap (λ s. formula_in (right_in s)) (first-flattened (two (list_nest one variables) (formula_nest f))) ∙ formula-back f

pub sight-back : (n : Sight) → sight_of (sight_key n) ≡ n
sight-back n = λ i. record { vars = variables-key n.vars n.form i; form = formula-key n.vars n.form i }

-- the key as the code of a node's value
abbrev pub sight_code : Coded Sight
sight_code = code_by (List ℕ) (coded_list coded_ℕ) sight_key sight_of sight-back
