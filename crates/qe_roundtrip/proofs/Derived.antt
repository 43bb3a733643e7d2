-- The derivation of a text that is printed, where the text has this place.
use Rattle.std.proofs.Common.{ℕ, ◌+◌, Bool, true, false, List, [], ◌∷◌, ◌++◌, length, pos}
use Rattle.std.specs.Prelude.{◌==◌, if◌then◌else◌, int_lt, unsigned_abs, codes, decimal}
use Rattle.qe_token.specs.declared.token.Name.{Name}
use Rattle.qe_token.specs.declared.token.Relation.{Relation}
use Rattle.qe_token.specs.declared.token.Relation.TheVariants as relation
use Rattle.qe_poly.specs.declared.monomial.Power.{Power}
use Rattle.qe_poly.specs.Monomial.{Monomial}
use Rattle.qe_poly.specs.Polynomial.{Polynomial}
use Rattle.qe_form.specs.declared.form.Atom as atom
use Rattle.qe_form.specs.Signs.{bits}
use Rattle.qe_form.specs.Formula.{Formula, Formulas, True, False, Atom, And, Or, Not, Implies, Iff, Ex, All, no_more, more}
use Rattle.qe_print.specs.Polynomial.{name_of, power_text, term_text, polynomial_text}
use Rattle.qe_print.specs.Formula.{bracketed, formula_text}
use Rattle.qe_syntax.specs.declared.formula.Quantifier.TheVariants as quantifiers
use Rattle.qe_syntax.specs.declared.formula.Arrow.{Arrow}
use Rattle.qe_syntax.specs.declared.formula.Arrow.TheVariants as arrows
use Rattle.qe_syntax.specs.Grammar as grammar

abbrev pub relation_of : ℕ → Relation
relation_of n =
    if n == 1 then relation.Less else
    if n == 2 then relation.Equal else
    if n == 3 then relation.LessOrEqual else
    if n == 4 then relation.Greater else
    if n == 5 then relation.NotEqual else relation.GreaterOrEqual

-- a number that stands alone
abbrev pub number_term : ℕ → grammar.Term
number_term n = grammar.sum (grammar.factors (grammar.positive (grammar.base (grammar.number n))) grammar.no_times) grammar.no_sum

abbrev pub minus_if : Bool → ℕ → grammar.Signed → grammar.Signed
minus_if true place s = grammar.negative place s
minus_if false place s = s

-- what stands before a later term, and before the first
abbrev pub joint : Bool → List ℕ
joint minus = if minus then codes " - " else codes " + "

abbrev pub front : Bool → List ℕ
front minus = if minus then codes "-" else []

-- a part of a formula that stands alone
abbrev pub of_conj : grammar.Conj → grammar.Formula
of_conj c = grammar.open_formula (grammar.alone (grammar.ors c grammar.no_or))

abbrev pub lone : grammar.Unary → grammar.Conj
lone u = grammar.ands u grammar.no_and

abbrev pub of_unary : grammar.Unary → grammar.Formula
of_unary u = of_conj (lone u)

abbrev pub joined_by : Arrow → grammar.Unary → grammar.Unary → grammar.Formula
joined_by arrow u v = grammar.open_formula (grammar.joined arrow (grammar.ors (lone u) grammar.no_or) (grammar.ors (lone v) grammar.no_or))

module _ (names : List (List ℕ)) where
  abbrev pub name_at : ℕ → ℕ → Name
  name_at place x = record { start = place; end = place + length (name_of names x) }

  -- whether the exponent is 1
  abbrev pub power_by : Bool → ℕ → Power → grammar.Power
  power_by true place a = grammar.base (grammar.name (name_at place a.var.0))
  power_by false place a = grammar.raised (grammar.name (name_at place a.var.0)) (place + length (name_of names a.var.0)) a.exponent

  abbrev pub power_at : ℕ → Power → grammar.Power
  power_at place a = power_by (a.exponent == 1) place a

  abbrev pub times_at : ℕ → Monomial → grammar.Times
  times_at place [] = grammar.no_times
  times_at place (a ∷ m) = grammar.times place (grammar.positive (power_at (place + 1) a)) (times_at (place + length (codes "*" ++ power_text names a)) m)

  -- the first factor of a term and the later ones, and whether the magnitude is 1
  abbrev pub lead_by : Bool → ℕ → ℕ → Power → grammar.Signed
  lead_by true place n a = grammar.positive (power_at place a)
  lead_by false place n a = grammar.positive (grammar.base (grammar.number n))

  abbrev pub tail_by : Bool → ℕ → ℕ → Power → Monomial → grammar.Times
  tail_by true place n a m = times_at (place + length (power_text names a)) m
  tail_by false place n a m = times_at (place + length (decimal n)) (a ∷ m)

  abbrev pub lead_at : ℕ → ℕ → Monomial → grammar.Signed
  lead_at place n [] = grammar.positive (grammar.base (grammar.number n))
  lead_at place n (a ∷ m) = lead_by (n == 1) place n a

  abbrev pub tail_at : ℕ → ℕ → Monomial → grammar.Times
  tail_at place n [] = grammar.no_times
  tail_at place n (a ∷ m) = tail_by (n == 1) place n a m

  abbrev pub sums_at : ℕ → Polynomial → grammar.Sums
  sums_at place [] = grammar.no_sum
  sums_at place (t ∷ ts) =
      let minus = int_lt t.1 (pos 0) in
      let n = unsigned_abs t.1 in
      let here = place + length (joint minus) in
      grammar.sign (place + 1) minus (grammar.factors (lead_at here n t.0) (tail_at here n t.0)) (sums_at (place + length (joint minus ++ term_text names n t.0)) ts)

  abbrev pub poly_at : ℕ → Polynomial → grammar.Term
  poly_at place [] = number_term 0
  poly_at place (t ∷ ts) =
      let minus = int_lt t.1 (pos 0) in
      let n = unsigned_abs t.1 in
      let here = place + length (front minus) in
      grammar.sum (grammar.factors (minus_if minus place (lead_at here n t.0)) (tail_at here n t.0)) (sums_at (place + length (front minus ++ term_text names n t.0)) ts)

  abbrev pub atom_at : ℕ → atom.Atom → grammar.Atom
  atom_at place a = grammar.compare (poly_at place a.poly) (place + length (polynomial_text names a.poly) + 1) (relation_of (bits a.signs)) (number_term 0)

  -- a part, whose derivation inside of brackets is given
  abbrev pub part_at : ℕ → Formula → grammar.Formula → grammar.Unary
  part_at place True inner = grammar.constant true
  part_at place False inner = grammar.constant false
  part_at place (Atom a) inner = grammar.atom (atom_at place a)
  part_at place f inner = grammar.bracket inner

  abbrev mutual
    pub formula_at : ℕ → Formula → grammar.Formula
    formula_at place True = of_unary (grammar.constant true)
    formula_at place False = of_unary (grammar.constant false)
    formula_at place (Atom a) = of_unary (grammar.atom (atom_at place a))
    formula_at place (And no_more) = of_unary (grammar.constant true)
    formula_at place (And (more f fs)) = of_conj (grammar.ands (part_at place f (formula_at (place + 1) f)) (ands_at (place + length (bracketed f (formula_text names f))) fs))
    formula_at place (Or no_more) = of_unary (grammar.constant false)
    formula_at place (Or (more f fs)) = grammar.open_formula (grammar.alone (grammar.ors (lone (part_at place f (formula_at (place + 1) f))) (ors_at (place + length (bracketed f (formula_text names f))) fs)))
    formula_at place (Not f) = of_unary (grammar.not (part_at (place + 4) f (formula_at (place + 4 + 1) f)))
    formula_at place (Implies f g) = joined_by arrows.Implies (part_at place f (formula_at (place + 1) f)) (part_at (place + length (bracketed f (formula_text names f) ++ codes " implies ")) g (formula_at (place + length (bracketed f (formula_text names f) ++ codes " implies ") + 1) g))
    formula_at place (Iff f g) = joined_by arrows.Iff (part_at place f (formula_at (place + 1) f)) (part_at (place + length (bracketed f (formula_text names f) ++ codes " iff ")) g (formula_at (place + length (bracketed f (formula_text names f) ++ codes " iff ") + 1) g))
    formula_at place (Ex x f) = grammar.quantified quantifiers.Ex (name_at (place + 3) x) (grammar.body (formula_at (place + length (codes "ex " ++ name_of names x ++ codes ". ")) f))
    formula_at place (All x f) = grammar.quantified quantifiers.All (name_at (place + 4) x) (grammar.body (formula_at (place + length (codes "all " ++ name_of names x ++ codes ". ")) f))

    pub ands_at : ℕ → Formulas → grammar.Ands
    ands_at place no_more = grammar.no_and
    ands_at place (more f fs) = grammar.and (part_at (place + 5) f (formula_at (place + 5 + 1) f)) (ands_at (place + length (codes " and " ++ bracketed f (formula_text names f))) fs)

    pub ors_at : ℕ → Formulas → grammar.Ors
    ors_at place no_more = grammar.no_or
    ors_at place (more f fs) = grammar.or (lone (part_at (place + 4) f (formula_at (place + 4 + 1) f))) (ors_at (place + length (codes " or " ++ bracketed f (formula_text names f))) fs)
