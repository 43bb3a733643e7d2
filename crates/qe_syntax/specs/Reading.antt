-- What a method of the parser does, for any part of the grammar.
use Rattle.std.specs.Prelude.{◌≡◌, ℕ, ◌+◌, List, [], ◌∷◌, ◌++◌, Option, Some, None, Bool, true, false, Result, Ok, Err, nat_lt, nat_le, if◌then◌else◌}
use Rattle.qe_token.specs.declared.token.Token.{Token}
use Rattle.qe_token.specs.declared.token.Token.TheVariants as token
use Rattle.qe_token.specs.declared.token.Located.{Located}
use Rattle.qe_token.specs.declared.token.Name.{Name}
use Rattle.qe_token.specs.declared.token.Relation.{Relation}
use Rattle.qe_syntax.specs.declared.fault.TextFault.{TextFault}
use Rattle.qe_syntax.specs.declared.fault.TextFault.TheVariants.{Syntax, Wide, Exponent, TooDeep, TooMany}
use Rattle.qe_halt.specs.declared.halt.Halt.{Halt}
use Rattle.qe_halt.specs.declared.halt.Halt.TheVariants as halt
use Rattle.qe_syntax.specs.declared.formula.Parser.{Parser}
use Rattle.qe_syntax.specs.declared.formula.Quantifier.{Quantifier}
use Rattle.qe_syntax.specs.declared.formula.Quantifier.TheVariants.{Ex, All}
use Rattle.qe_syntax.specs.declared.formula.Arrow.{Arrow}
use Rattle.qe_syntax.specs.declared.formula.Arrow.TheVariants.{Implies, Iff}
use Rattle.qe_syntax.specs.declared.tree.Term.{Term}
use Rattle.qe_syntax.specs.declared.tree.Formula.{Formula}
use Rattle.qe_syntax.specs.Tree.{TermTree, FormulaTree}
use Rattle.qe_syntax.specs.Code.{term_of, tree_of}
use Rattle.qe_syntax.specs.Grammar.{Occurrence, tokens_of, with_end}
use Rattle.qe_syntax.specs.Faults.{Tok, passed_limit, counted}

-- no occurrence has a fault
abbrev pub IsClean : ℕ → List Occurrence → Type 0
IsClean begun [] = Unit {0}
IsClean begun (m ∷ ms) = (passed_limit begun m ≡ None) × IsClean (counted begun (m ∷ [])) ms

-- The tokens do not go on with what was read.
abbrev pub Stops : (Tok → Bool) → List Tok → Type 0
Stops goes_on [] = ⊥
Stops goes_on (t ∷ ts) = goes_on t ≡ false

-- a part of the grammar: what it spells, and which tokens go on with it
module _ {A : Type 0} (spell : A → List Occurrence → List Occurrence) (goes_on : Tok → Bool) where
  -- A derivation with this tree was read, without a fault.
  pub record IsRead {T : Type 0} (of : A → T) (value : T) (old new : List Tok) (begun begun' : ℕ) : Type 0 where
    pub found : A
    pub is : of found ≡ value
    pub spelled : old ≡ tokens_of (spell found []) ++ new
    pub clean : IsClean begun (spell found [])
    pub count : counted begun (spell found []) ≡ begun'
    pub stops : Stops goes_on new

  -- No derivation goes on from these occurrences with the first of these tokens.
  abbrev pub IsRefused : List Occurrence → List Tok → Type 0
  IsRefused before [] = ⊥
  IsRefused before (t ∷ ts) = (a : A) (rest : List Occurrence) (more : List Tok) → Stops goes_on (tokens_of rest) → tokens_of (spell a rest) ≡ tokens_of before ++ t ∷ more → ⊥

  abbrev pub HasFault : TextFault → ℕ → List Occurrence → List Occurrence → List Tok → Type 0
  HasFault Syntax begun before more new = IsRefused before new
  HasFault f begun before [] new = ⊥
  HasFault f begun before (m ∷ more) [] = ⊥
  HasFault f begun before (m ∷ more) (t ∷ ts) = (m.token ≡ t) × (passed_limit begun m ≡ Some f)

  -- A derivation begins with what was read, without a fault; the fault is that of the next token.
  pub record IsStopped (f : TextFault) (old new : List Tok) (begun : ℕ) : Type 0 where
    pub found : A
    pub before : List Occurrence
    pub more : List Occurrence
    pub is : spell found [] ≡ before ++ more
    pub spelled : old ≡ tokens_of before ++ new
    pub clean : IsClean begun before
    pub fault : HasFault f (counted begun before) before more new

  abbrev pub Reads : {F T : Type 0} → (A → T) → (F → T) → Result F (Halt TextFault) → List Tok → List Tok → ℕ → ℕ → Type 0
  Reads of view (Ok f) old new begun begun' = IsRead of (view f) old new begun begun'
  Reads of view (Err halt.OutOfMemory) old new begun begun' = Unit {0}
  Reads of view (Err (halt.Limit f)) old new begun begun' = IsStopped f old new begun

  -- what a method on terms does: in a term nothing begins
  abbrev pub ReadsTerm : (A → TermTree) → Result Term (Halt TextFault) → List Located → List Located → Type 0
  ReadsTerm of result old new = Reads of term_of result (with_end old) (with_end new) 0 0

  -- what a method on formulas does
  abbrev pub ReadsFormula : (A → FormulaTree) → Result Formula (Halt TextFault) → Parser → Parser → Type 0
  ReadsFormula of result old new =
      Reads of tree_of result (with_end old.cursor) (with_end new.cursor) old.begun new.begun

-- which tokens go on with a part
abbrev pub on_primary : Tok → Bool
on_primary t = false

abbrev pub on_power : Tok → Bool
on_power (Some (token.Caret p)) = true
on_power t = false

abbrev pub on_product : Tok → Bool
on_product (Some (token.Star p)) = true
on_product t = on_power t

abbrev pub on_term : Tok → Bool
on_term (Some (token.Plus p)) = true
on_term (Some (token.Minus p)) = true
on_term t = on_product t

abbrev pub on_conj : Tok → Bool
on_conj (Some token.And) = true
on_conj t = on_term t

abbrev pub on_disj : Tok → Bool
on_disj (Some token.Or) = true
on_disj t = on_conj t

abbrev pub on_simple : Tok → Bool
on_simple (Some token.Implies) = true
on_simple (Some token.Iff) = true
on_simple t = on_disj t

-- what the small steps find
abbrev pub is_minus : Tok → Bool
is_minus (Some (token.Minus p)) = true
is_minus t = false

abbrev pub is_not : Tok → Bool
is_not (Some token.Not) = true
is_not t = false

abbrev pub is_and : Tok → Bool
is_and (Some token.And) = true
is_and t = false

abbrev pub is_or : Tok → Bool
is_or (Some token.Or) = true
is_or t = false

abbrev pub is_bracket : Tok → Bool
is_bracket (Some token.OpenBracket) = true
is_bracket t = false

abbrev pub is_parenthesis : Tok → Bool
is_parenthesis (Some token.OpenParenthesis) = true
is_parenthesis t = false

abbrev pub next_number : Tok → Option ℕ
next_number (Some (token.Number n)) = Some n
next_number t = None

abbrev pub next_name : Tok → Option Name
next_name (Some (token.Name x)) = Some x
next_name t = None

abbrev pub next_caret : Tok → Option ℕ
next_caret (Some (token.Caret p)) = Some p
next_caret t = None

abbrev pub next_star : Tok → Option ℕ
next_star (Some (token.Star p)) = Some p
next_star t = None

abbrev pub next_sign : Tok → Option (ℕ × Bool)
next_sign (Some (token.Plus p)) = Some (p, false)
next_sign (Some (token.Minus p)) = Some (p, true)
next_sign t = None

abbrev pub next_quantifier : Tok → Option Quantifier
next_quantifier (Some token.Ex) = Some Ex
next_quantifier (Some token.All) = Some All
next_quantifier t = None

abbrev pub next_arrow : Tok → Option Arrow
next_arrow (Some token.Implies) = Some Implies
next_arrow (Some token.Iff) = Some Iff
next_arrow t = None

abbrev pub next_constant : Tok → Option Bool
next_constant (Some token.False) = Some false
next_constant (Some token.True) = Some true
next_constant t = None

-- what the small steps do
abbrev pub Takes : Token → Result (Unit {0}) (Halt TextFault) → List Tok → List Tok → Type 0
Takes t (Ok u) old new = old ≡ Some t ∷ new
Takes t (Err (halt.Limit Syntax)) old new = (new ≡ old) × ((ts : List Tok) → old ≡ Some t ∷ ts → ⊥)
Takes t (Err e) old new = ⊥

-- an exponent, at most so great
abbrev pub TakesExponent : ℕ → Result ℕ (Halt TextFault) → List Tok → List Tok → Type 0
TakesExponent most (Ok n) old new = (old ≡ Some (token.Number n) ∷ new) × (nat_lt most n ≡ false)
TakesExponent most (Err (halt.Limit Syntax)) old new = (new ≡ old) × ((n : ℕ) (ts : List Tok) → old ≡ Some (token.Number n) ∷ ts → ⊥)
TakesExponent most (Err (halt.Limit Exponent)) old new = (new ≡ old) × (n : ℕ) × (ts : List Tok) × (old ≡ Some (token.Number n) ∷ ts) × (nat_lt most n ≡ true)
TakesExponent most (Err e) old new = ⊥

abbrev pub TakesRelation : Result (ℕ × Relation) (Halt TextFault) → List Tok → List Tok → Type 0
TakesRelation (Ok r) old new = old ≡ Some (token.Relation r.0 r.1) ∷ new
TakesRelation (Err (halt.Limit Syntax)) old new = (new ≡ old) × ((p : ℕ) (r : Relation) (ts : List Tok) → old ≡ Some (token.Relation p r) ∷ ts → ⊥)
TakesRelation (Err e) old new = ⊥

-- A test that gives this fault where it is true.
abbrev pub Tests : Bool → TextFault → Result (Unit {0}) (Halt TextFault) → Type 0
Tests b f (Ok u) = b ≡ false
Tests b f (Err halt.OutOfMemory) = ⊥
Tests b f (Err (halt.Limit g)) = (b ≡ true) × (g ≡ f)

-- the number as an exponent, if it is at most so great
abbrev pub TestsExponent : ℕ → ℕ → Result ℕ (Halt TextFault) → Type 0
TestsExponent most n (Ok k) = (k ≡ n) × (nat_lt most n ≡ false)
TestsExponent most n (Err (halt.Limit Exponent)) = nat_lt most n ≡ true
TestsExponent most n (Err e) = ⊥

-- the fault of a bound name, where so many levels are open and so many began
abbrev pub bound_fault : ℕ → ℕ → Option TextFault
bound_fault depth begun = if nat_le 256 depth then Some TooDeep else if nat_le 65536 begun then Some TooMany else None

-- Takes a bound name.
abbrev pub Binds : ℕ → Result (Unit {0}) (Halt TextFault) → Tok → List Tok → List Tok → ℕ → ℕ → Type 0
Binds depth (Ok u) t old new begun begun' = (old ≡ t ∷ new) × (begun' ≡ begun + 1) × (bound_fault depth begun ≡ None)
Binds depth (Err halt.OutOfMemory) t old new begun begun' = ⊥
Binds depth (Err (halt.Limit f)) t old new begun begun' = (new ≡ old) × (bound_fault depth begun ≡ Some f)

-- the fault of the first token of an atom, where no atom may begin
abbrev pub fault_at_limit : Tok → ℕ → TextFault
fault_at_limit (Some (token.Number n)) depth = if nat_lt 170141183460469231731687303715884105727 n then Wide else TooMany
fault_at_limit (Some (token.Minus p)) depth = if nat_le 256 depth then TooDeep else TooMany
fault_at_limit (Some token.OpenParenthesis) depth = if nat_le 256 depth then TooDeep else TooMany
fault_at_limit (Some (token.Name x)) depth = TooMany
fault_at_limit t depth = Syntax
