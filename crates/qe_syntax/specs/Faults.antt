-- The first fault of a text.
use Rattle.std.specs.Prelude.{◌≡◌, ℕ, ◌+◌, List, [], ◌∷◌, ◌++◌, Option, Some, None, Bool, false, nat_le, nat_lt, if◌then◌else◌, Result, Ok, Err}
use Rattle.qe_token.specs.declared.token.Token.{Token}
use Rattle.qe_token.specs.declared.token.Token.TheVariants as token
use Rattle.qe_token.specs.declared.token.Located.{Located}
use Rattle.qe_syntax.specs.declared.fault.TextFault.{TextFault}
use Rattle.qe_syntax.specs.declared.fault.TextFault.TheVariants.{Syntax, Wide, Exponent, TooDeep, TooMany}
use Rattle.qe_syntax.specs.declared.fault.ParseStop.{ParseStop}
use Rattle.qe_syntax.specs.declared.fault.ParseStop.TheVariants as stops
use Rattle.qe_syntax.specs.declared.tree.Formula as code
use Rattle.qe_syntax.specs.Tree.{FormulaTree}
use Rattle.qe_syntax.specs.Code.{tree_of}
use Rattle.qe_syntax.specs.Grammar.{Role, literal, exponent, Occurrence, Formula, input, tokens_of, with_end, formula_tree}

-- a token, or the end of the text
abbrev pub Tok : Type 0
Tok = Option Token

abbrev pub is_wide : Tok → Role → Bool
is_wide (Some (token.Number n)) literal = nat_lt 170141183460469231731687303715884105727 n
is_wide t r = false

abbrev pub most_exponent : Bool → ℕ
most_exponent named = if named then 65535 else 255

abbrev pub is_high_exponent : Tok → Role → Bool
is_high_exponent (Some (token.Number n)) (exponent named) = nat_lt (most_exponent named) n
is_high_exponent t r = false

abbrev pub is_deep : Option ℕ → Bool
is_deep None = false
is_deep (Some depth) = nat_le 256 depth

-- The fault of a token that is no syntax fault, where some atoms, constants and bound names began before it.
abbrev pub passed_limit : ℕ → Occurrence → Option TextFault
passed_limit begun m =
    if is_wide m.token m.role then Some Wide
    else if is_high_exponent m.token m.role then Some Exponent
    else if is_deep m.opens then Some TooDeep
    else if (if m.begins then nat_le 65536 begun else false) then Some TooMany
    else None

-- how many begin up to here
abbrev pub counted : ℕ → List Occurrence → ℕ
counted begun [] = begun
counted begun (m ∷ ms) = counted (if m.begins then begun + 1 else begun) ms

-- The fault at a token, where these tokens stand before it.
abbrev pub IsFaultAt : List Tok → Tok → TextFault → Type 0
IsFaultAt before t Syntax = (f : Formula) (more : List Tok) → tokens_of (input f) ≡ before ++ t ∷ more → ⊥
IsFaultAt before t fault =
    (f : Formula) × (ms : List Occurrence) × (m : Occurrence) × (more : List Occurrence)
    × (input f ≡ ms ++ m ∷ more) × (tokens_of ms ≡ before) × (m.token ≡ t) × (passed_limit (counted 0 ms) m ≡ Some fault)

-- the tokens without their places
abbrev pub bare_tokens : List Located → List Tok
bare_tokens [] = []
bare_tokens (l ∷ ls) = Some l.token ∷ bare_tokens ls

-- the token that comes next
abbrev pub head : List Located → Tok
head [] = None
head (l ∷ ls) = Some l.token

-- the place of the token that comes next, where the end has this one
abbrev pub next_place : List Located → ℕ → ℕ
next_place [] length = length
next_place (l ∷ ls) length = l.place

-- The first fault of a text: it is at the token after these.
pub record IsFirstFault (tokens before after : List Located) (fault : TextFault) : Type 0 where
  pub stands : tokens ≡ before ++ after
  pub here : IsFaultAt (bare_tokens before) (head after) fault
  pub none_earlier : (b : List Located) (l : Located) (a : List Located) (g : TextFault) → before ≡ b ++ l ∷ a → IsFaultAt (bare_tokens b) (Some l.token) g → ⊥

abbrev pub HasNoFault : List Located → Type 0
HasNoFault tokens = (before after : List Located) (fault : TextFault) → tokens ≡ before ++ after → IsFaultAt (bare_tokens before) (head after) fault → ⊥

-- a text of the grammar within its limits, and the tree that it stands for
pub record IsText (tokens : List Located) (of : FormulaTree) : Type 0 where
  pub derived : Formula
  pub spelled : tokens_of (input derived) ≡ with_end tokens
  pub stands_for : formula_tree derived ≡ of
  pub no_fault : HasNoFault tokens

-- what the parser answers, where the end of the text has this place
abbrev pub Answers : List Located → ℕ → Result code.Formula ParseStop → Type 0
Answers tokens length (Ok f) = IsText tokens (tree_of f)
Answers tokens length (Err stops.OutOfMemory) = Unit {0}
Answers tokens length (Err (stops.Fault fault place)) = (before : List Located) × (after : List Located) × IsFirstFault tokens before after fault × (place ≡ next_place after length)

abbrev pub GivesTree : FormulaTree → Result code.Formula ParseStop → Type 0
GivesTree t (Ok f) = tree_of f ≡ t
GivesTree t (Err stops.OutOfMemory) = Unit {0}
GivesTree t (Err (stops.Fault fault place)) = ⊥
