-- What bytes stand for, and their first fault.
use Rattle.std.specs.Prelude.{ℕ, ◌≡◌, ◌⊎◌, List, [], ◌++◌, length, map, Result, Ok, Err}
use Rattle.qe_token.specs.declared.token.Located.{Located}
use Rattle.qe_token.specs.Tokens.{AreTokens}
use Rattle.qe_poly.specs.declared.limit.PolyLimit.{PolyLimit}
use Rattle.qe_poly.specs.declared.limit.PolyLimit.TheVariants.{Coefficient, Monomials}
use Rattle.qe_poly.specs.declared.limit.PolyLimit.TheVariants as limits
use Rattle.qe_syntax.specs.declared.fault.TextFault.{TextFault}
use Rattle.qe_syntax.specs.declared.fault.TextFault.TheVariants as faults
use Rattle.qe_syntax.specs.Tree.{FormulaTree}
use Rattle.qe_syntax.specs.Faults.{IsText, IsFirstFault, next_place}
use Rattle.qe_form.specs.declared.names.Input.{Input}
use Rattle.qe_form.specs.Formula.{Formula}
use Rattle.qe_form.specs.Tree.{tree}
use Rattle.qe_read.specs.declared.fault.ReadFault.{ReadFault}
use Rattle.qe_read.specs.declared.fault.ReadFault.TheVariants as read
use Rattle.qe_read.specs.Names.{Letters, letters}
use Rattle.qe_read.specs.FreeNames.{AreLettersOf, free_names}
use Rattle.qe_read.specs.Formula.{formula, bound_names}

-- The tokens of the bytes are a text of the grammar within its limits, and `free` are its free names.
pub record IsTextOf (bytes : List ℕ) (of : FormulaTree) (free : List Letters) : Type 0 where
  pub tokens : List Located
  pub are : AreTokens 0 bytes tokens
  pub text : IsText tokens of
  pub names : AreLettersOf bytes (free_names bytes [] of) free

-- The bytes stand for the formula, and these are the names of its variables by their numbers: the free ones, and then those that are bound.
pub record IsInput (bytes : List ℕ) (f : Formula) (names : List Letters) : Type 0 where
  pub of : FormulaTree
  pub free : List Letters
  pub text : IsTextOf bytes of free
  pub is : formula bytes free [] [] of ≡ Ok f
  pub named : names ≡ free ++ map (letters bytes) (bound_names of)

-- the first fault of the text, and the place of its token
pub record IsTextFault (bytes : List ℕ) (fault : TextFault) (place : ℕ) : Type 0 where
  pub tokens : List Located
  pub are : AreTokens 0 bytes tokens
  pub before : List Located
  pub after : List Located
  pub first : IsFirstFault tokens before after fault
  pub is : place ≡ next_place after (length bytes)

-- the text has no fault, and this is the first limit that an operation meets
pub record IsValueFault (bytes : List ℕ) (limit : PolyLimit) (place : ℕ) : Type 0 where
  pub of : FormulaTree
  pub free : List Letters
  pub text : IsTextOf bytes of free
  pub is : formula bytes free [] [] of ≡ Err (record { place = place; limit = limit })

-- The first fault of the bytes. Want of memory may come in its place.
abbrev pub IsFirstFaultOf : List ℕ → ReadFault → Type 0
IsFirstFaultOf bytes (read.Syntax p) = IsTextFault bytes faults.Syntax p
IsFirstFaultOf bytes (read.Wide p) = IsTextFault bytes faults.Wide p
IsFirstFaultOf bytes (read.Exponent p) = IsTextFault bytes faults.Exponent p ⊎ IsValueFault bytes limits.Exponent p
IsFirstFaultOf bytes (read.TooDeep p) = IsTextFault bytes faults.TooDeep p
IsFirstFaultOf bytes (read.TooMany p) = IsTextFault bytes faults.TooMany p
IsFirstFaultOf bytes (read.Overflow p wide) = IsValueFault bytes (Coefficient wide) p
IsFirstFaultOf bytes (read.Polynomial p) = IsValueFault bytes Monomials p
IsFirstFaultOf bytes read.OutOfMemory = Unit {0}

-- what is read from the bytes
abbrev pub Answers : List ℕ → Result Input ReadFault → Type 0
Answers bytes (Ok input) = IsInput bytes (tree input.form) input.names
Answers bytes (Err fault) = IsFirstFaultOf bytes fault

-- the formula and the names are read, unless memory runs out
abbrev pub IsReadAs : Formula → List Letters → Result Input ReadFault → Type 0
IsReadAs f names (Ok input) = (tree input.form ≡ f) × (input.names ≡ names)
IsReadAs f names (Err read.OutOfMemory) = Unit {0}
IsReadAs f names (Err fault) = ⊥

-- What is read from a tree.
pub record IsReadFrom (bytes : List ℕ) (of : FormulaTree) (f : Formula) (names : List Letters) : Type 0 where
  pub free : List Letters
  pub letters_of : AreLettersOf bytes (free_names bytes [] of) free
  pub is : formula bytes free [] [] of ≡ Ok f
  pub named : names ≡ free ++ map (letters bytes) (bound_names of)

-- a limit that the values of the tree meet first
pub record IsMetIn (bytes : List ℕ) (of : FormulaTree) (limit : PolyLimit) (place : ℕ) : Type 0 where
  pub free : List Letters
  pub letters_of : AreLettersOf bytes (free_names bytes [] of) free
  pub is : formula bytes free [] [] of ≡ Err (record { place = place; limit = limit })

-- what is answered for a tree: no fault of the text
abbrev pub AnswersTree : List ℕ → FormulaTree → Result Input ReadFault → Type 0
AnswersTree bytes of (Ok input) = IsReadFrom bytes of (tree input.form) input.names
AnswersTree bytes of (Err (read.Exponent p)) = IsMetIn bytes of limits.Exponent p
AnswersTree bytes of (Err (read.Overflow p wide)) = IsMetIn bytes of (Coefficient wide) p
AnswersTree bytes of (Err (read.Polynomial p)) = IsMetIn bytes of Monomials p
AnswersTree bytes of (Err read.OutOfMemory) = Unit {0}
AnswersTree bytes of (Err fault) = ⊥
