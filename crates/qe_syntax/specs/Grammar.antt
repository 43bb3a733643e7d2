-- The grammar: the derivations of a text, what each spells, and the tree that it stands for.
use Rattle.std.specs.Prelude.{ℕ, ◌+◌, List, [], ◌∷◌, Option, Some, None, Bool, true, false, if◌then◌else◌}
use Rattle.qe_token.specs.declared.token.Token.{Token}
use Rattle.qe_token.specs.declared.token.Token.TheVariants as token
use Rattle.qe_token.specs.declared.token.Located.{Located}
use Rattle.qe_token.specs.declared.token.Name.{Name}
use Rattle.qe_token.specs.declared.token.Relation.{Relation}
use Rattle.qe_syntax.specs.declared.formula.Quantifier.{Quantifier}
use Rattle.qe_syntax.specs.declared.formula.Quantifier.TheVariants.{Ex, All}
use Rattle.qe_syntax.specs.declared.formula.Arrow.{Arrow}
use Rattle.qe_syntax.specs.declared.formula.Arrow.TheVariants.{Implies, Iff}
use Rattle.qe_syntax.specs.Tree as tree
use Rattle.qe_syntax.specs.Tree.{TermTree, Addends, no_addend, addend, Factors, no_factor, factor, FormulaTree, FormulaTrees, no_more, more}

-- term    = product { ("+" | "-") product }
-- product = signed { "*" signed }
-- signed  = "-" signed | power
-- power   = primary [ "^" number ]
-- primary = number | name | "(" term ")"
-- An operator has its place.
mutual
  pub data Term : Type 0 where
    sum : Product → Sums → Term

  pub data Sums : Type 0 where
    no_sum : Sums
    -- whether it is "-"
    sign : ℕ → Bool → Product → Sums → Sums

  pub data Product : Type 0 where
    factors : Signed → Times → Product

  pub data Times : Type 0 where
    no_times : Times
    times : ℕ → Signed → Times → Times

  pub data Signed : Type 0 where
    negative : ℕ → Signed → Signed
    positive : Power → Signed

  pub data Power : Type 0 where
    base : Primary → Power
    raised : Primary → ℕ → ℕ → Power

  pub data Primary : Type 0 where
    number : ℕ → Primary
    name : Name → Primary
    group : Term → Primary

-- atom = term ("=" | "<>" | "<" | "<=" | ">" | ">=") term
pub data Atom : Type 0 where
  compare : Term → ℕ → Relation → Term → Atom

-- formula = quant | simple
-- quant   = ("ex" | "all") name { name } "." formula
-- simple  = disj | disj "implies" disj | disj "iff" disj
-- disj    = conj { "or" conj }
-- conj    = unary { "and" unary }
-- unary   = "not" unary | "true" | "false" | "[" formula "]" | atom
mutual
  pub data Formula : Type 0 where
    quantified : Quantifier → Name → Scope → Formula
    open_formula : Simple → Formula

  -- what follows a bound name
  pub data Scope : Type 0 where
    further : Name → Scope → Scope
    body : Formula → Scope

  pub data Simple : Type 0 where
    alone : Disj → Simple
    joined : Arrow → Disj → Disj → Simple

  pub data Disj : Type 0 where
    ors : Conj → Ors → Disj

  pub data Ors : Type 0 where
    no_or : Ors
    or : Conj → Ors → Ors

  pub data Conj : Type 0 where
    ands : Unary → Ands → Conj

  pub data Ands : Type 0 where
    no_and : Ands
    and : Unary → Ands → Ands

  pub data Unary : Type 0 where
    not : Unary → Unary
    -- whether it is "true"
    constant : Bool → Unary
    bracket : Formula → Unary
    atom : Atom → Unary

-- what a number may be at its place
pub data Role : Type 0 where
  no_number : Role
  literal : Role
  -- of a name, or of another base
  exponent : Bool → Role

-- a token as it stands in a text
pub record Occurrence : Type 0 where
  -- None is the end of the text
  pub token : Option Token
  -- if the token opens a level, how many are open before it
  pub opens : Option ℕ
  pub role : Role
  -- whether an atom, a constant or a bound name begins here
  pub begins : Bool

abbrev pub plain : Token → Occurrence
plain t = record { token = Some t; opens = None; role = no_number; begins = false }

abbrev pub opener : Token → ℕ → Bool → Occurrence
opener t depth begins = record { token = Some t; opens = Some depth; role = no_number; begins = begins }

abbrev pub figure : ℕ → Role → Bool → Occurrence
figure n role begins = record { token = Some (token.Number n); opens = None; role = role; begins = begins }

abbrev pub word : Token → Bool → Occurrence
word t begins = record { token = Some t; opens = None; role = no_number; begins = begins }

abbrev pub the_end : Occurrence
the_end = record { token = None; opens = None; role = no_number; begins = false }

abbrev pub plus_or_minus : ℕ → Bool → Token
plus_or_minus p minus = if minus then token.Minus p else token.Plus p

abbrev pub quantifier_token : Quantifier → Token
quantifier_token Ex = token.Ex
quantifier_token All = token.All

abbrev pub arrow_token : Arrow → Token
arrow_token Implies = token.Implies
arrow_token Iff = token.Iff

abbrev pub constant_token : Bool → Token
constant_token value = if value then token.True else token.False

abbrev pub is_name : Primary → Bool
is_name (number n) = false
is_name (name x) = true
is_name (group t) = false

-- What a derivation of a term spells where some levels are open, before what follows it;
-- and whether an atom begins at its first token.
abbrev mutual
  pub term : ℕ → Bool → Term → List Occurrence → List Occurrence
  term depth begins (sum p ps) rest = product depth begins p (sums depth ps rest)

  pub sums : ℕ → Sums → List Occurrence → List Occurrence
  sums depth no_sum rest = rest
  sums depth (sign at minus p ps) rest = plain (plus_or_minus at minus) ∷ product depth false p (sums depth ps rest)

  pub product : ℕ → Bool → Product → List Occurrence → List Occurrence
  product depth begins (factors s ss) rest = signed depth begins s (timeses depth ss rest)

  pub timeses : ℕ → Times → List Occurrence → List Occurrence
  timeses depth no_times rest = rest
  timeses depth (times at s ss) rest = plain (token.Star at) ∷ signed depth false s (timeses depth ss rest)

  pub signed : ℕ → Bool → Signed → List Occurrence → List Occurrence
  signed depth begins (negative at s) rest = opener (token.Minus at) depth begins ∷ signed (depth + 1) false s rest
  signed depth begins (positive p) rest = power depth begins p rest

  pub power : ℕ → Bool → Power → List Occurrence → List Occurrence
  power depth begins (base b) rest = primary depth begins b rest
  power depth begins (raised b at n) rest = primary depth begins b (plain (token.Caret at) ∷ figure n (exponent (is_name b)) false ∷ rest)

  pub primary : ℕ → Bool → Primary → List Occurrence → List Occurrence
  primary depth begins (number n) rest = figure n literal begins ∷ rest
  primary depth begins (name x) rest = word (token.Name x) begins ∷ rest
  primary depth begins (group t) rest = opener token.OpenParenthesis depth begins ∷ term (depth + 1) false t (plain token.CloseParenthesis ∷ rest)

abbrev pub comparison : ℕ → Atom → List Occurrence → List Occurrence
comparison depth (compare t at r u) rest = term depth true t (plain (token.Relation at r) ∷ term depth false u rest)

-- The same of a formula.
abbrev mutual
  pub formula : ℕ → Formula → List Occurrence → List Occurrence
  formula depth (quantified quantifier x s) rest = plain (quantifier_token quantifier) ∷ opener (token.Name x) depth true ∷ scope (depth + 1) s rest
  formula depth (open_formula s) rest = simple depth s rest

  pub scope : ℕ → Scope → List Occurrence → List Occurrence
  scope depth (further x s) rest = opener (token.Name x) depth true ∷ scope (depth + 1) s rest
  scope depth (body f) rest = plain token.Dot ∷ formula depth f rest

  pub simple : ℕ → Simple → List Occurrence → List Occurrence
  simple depth (alone d) rest = disj depth d rest
  simple depth (joined arrow d e) rest = disj depth d (plain (arrow_token arrow) ∷ disj depth e rest)

  pub disj : ℕ → Disj → List Occurrence → List Occurrence
  disj depth (ors c cs) rest = conj depth c (orses depth cs rest)

  pub orses : ℕ → Ors → List Occurrence → List Occurrence
  orses depth no_or rest = rest
  orses depth (or c cs) rest = plain token.Or ∷ conj depth c (orses depth cs rest)

  pub conj : ℕ → Conj → List Occurrence → List Occurrence
  conj depth (ands u us) rest = unary depth u (andses depth us rest)

  pub andses : ℕ → Ands → List Occurrence → List Occurrence
  andses depth no_and rest = rest
  andses depth (and u us) rest = plain token.And ∷ unary depth u (andses depth us rest)

  pub unary : ℕ → Unary → List Occurrence → List Occurrence
  unary depth (not u) rest = opener token.Not depth false ∷ unary (depth + 1) u rest
  unary depth (constant value) rest = word (constant_token value) true ∷ rest
  unary depth (bracket f) rest = opener token.OpenBracket depth false ∷ formula (depth + 1) f (plain token.CloseBracket ∷ rest)
  unary depth (atom a) rest = comparison depth a rest

-- The input is one formula.
abbrev pub input : Formula → List Occurrence
input f = formula 0 f (the_end ∷ [])

-- A single part stands alone.
abbrev pub sum_of : TermTree → Addends → TermTree
sum_of t no_addend = t
sum_of t (addend at minus u us) = tree.Sum t (addend at minus u us)

abbrev pub product_of : TermTree → Factors → TermTree
product_of t no_factor = t
product_of t (factor at u us) = tree.Product t (factor at u us)

abbrev pub conjoined : FormulaTree → FormulaTrees → FormulaTree
conjoined f no_more = f
conjoined f (more g gs) = tree.And (more f (more g gs))

abbrev pub disjoined : FormulaTree → FormulaTrees → FormulaTree
disjoined f no_more = f
disjoined f (more g gs) = tree.Or (more f (more g gs))

abbrev pub bound : Quantifier → Name → FormulaTree → FormulaTree
bound Ex x f = tree.Ex x f
bound All x f = tree.All x f

abbrev pub linked : Arrow → FormulaTree → FormulaTree → FormulaTree
linked Implies f g = tree.Implies f g
linked Iff f g = tree.Iff f g

abbrev pub constant_tree : Bool → FormulaTree
constant_tree value = if value then tree.True else tree.False

-- What a derivation stands for. Parentheses and brackets make no node.
abbrev mutual
  pub term_tree : Term → TermTree
  term_tree (sum p ps) = sum_of (product_tree p) (sums_tree ps)

  pub sums_tree : Sums → Addends
  sums_tree no_sum = no_addend
  sums_tree (sign at minus p ps) = addend at minus (product_tree p) (sums_tree ps)

  pub product_tree : Product → TermTree
  product_tree (factors s ss) = product_of (signed_tree s) (times_tree ss)

  pub times_tree : Times → Factors
  times_tree no_times = no_factor
  times_tree (times at s ss) = factor at (signed_tree s) (times_tree ss)

  pub signed_tree : Signed → TermTree
  signed_tree (negative at s) = tree.Negative (signed_tree s)
  signed_tree (positive p) = power_tree p

  pub power_tree : Power → TermTree
  power_tree (base b) = primary_tree b
  power_tree (raised b at n) = tree.Power (primary_tree b) at n

  pub primary_tree : Primary → TermTree
  primary_tree (number n) = tree.Number n
  primary_tree (name x) = tree.Variable x
  primary_tree (group t) = term_tree t

abbrev pub atom_tree : Atom → FormulaTree
atom_tree (compare t at r u) = tree.Atom (term_tree t) at r (term_tree u)

abbrev mutual
  pub formula_tree : Formula → FormulaTree
  formula_tree (quantified quantifier x s) = bound quantifier x (scope_tree quantifier s)
  formula_tree (open_formula s) = simple_tree s

  -- where the names are bound by this quantifier
  pub scope_tree : Quantifier → Scope → FormulaTree
  scope_tree quantifier (further x s) = bound quantifier x (scope_tree quantifier s)
  scope_tree quantifier (body f) = formula_tree f

  pub simple_tree : Simple → FormulaTree
  simple_tree (alone d) = disj_tree d
  simple_tree (joined arrow d e) = linked arrow (disj_tree d) (disj_tree e)

  pub disj_tree : Disj → FormulaTree
  disj_tree (ors c cs) = disjoined (conj_tree c) (ors_trees cs)

  pub ors_trees : Ors → FormulaTrees
  ors_trees no_or = no_more
  ors_trees (or c cs) = more (conj_tree c) (ors_trees cs)

  pub conj_tree : Conj → FormulaTree
  conj_tree (ands u us) = conjoined (unary_tree u) (ands_trees us)

  pub ands_trees : Ands → FormulaTrees
  ands_trees no_and = no_more
  ands_trees (and u us) = more (unary_tree u) (ands_trees us)

  pub unary_tree : Unary → FormulaTree
  unary_tree (not u) = tree.Not (unary_tree u)
  unary_tree (constant value) = constant_tree value
  unary_tree (bracket f) = formula_tree f
  unary_tree (atom a) = atom_tree a

-- the tokens alone
abbrev pub tokens_of : List Occurrence → List (Option Token)
tokens_of [] = []
tokens_of (m ∷ ms) = m.token ∷ tokens_of ms

-- tokens, and the end behind them
abbrev pub with_end : List Located → List (Option Token)
with_end [] = None ∷ []
with_end (l ∷ ls) = Some l.token ∷ with_end ls
