-- What status 0 promises of the bytes that were read and the text that was written.
use Rattle.std.specs.Prelude.{ℕ, ◌≡◌, List, IfSome}
use Rattle.std.specs.declared.option.Option.{Option}
use Rattle.std.specs.Io.KnownBytes.{Appends}
use Rattle.qe_form.specs.Formula.{Formula}
use Rattle.qe_form.specs.Same.{HasNoQuantifier}
use Rattle.qe_form.specs.Holds.{Settles}
use Rattle.qe_read.specs.Names.{Letters}
use Rattle.qe_read.specs.Input.{IsInput}
use Rattle.qe_print.specs.Formula.{formula_text}
use Rattle.qe_program.specs.Output.{line}

-- the bytes stand for a formula with names of which this is so
pub record Stands (bytes : List ℕ) (P : Formula → List Letters → Type 0) : Type 0 where
  pub formula : Formula
  pub names : List Letters
  pub is_input : IsInput bytes formula names
  pub holds : P formula names

-- The text is the line of a formula without quantifiers, written with the names of f. At every point
-- that gives the free variables of f numbers, it is true exactly where f holds, and false exactly where
-- f does not.
pub record IsAnswer (text : List ℕ) (f : Formula) (names : List Letters) : Type 0 where
  pub answer : Formula
  pub written : text ≡ line (formula_text names answer)
  pub no_quantifier : HasNoQuantifier answer
  pub settles : Settles f answer

-- the bytes stand for a formula, and the text answers it
abbrev pub Headline : List ℕ → List ℕ → Type 0
Headline bytes text = Stands bytes (IsAnswer text)

-- where the source told the bytes that it had left, the sink took a text of which this is so
abbrev pub Writes : (left taken taken_after : Option (List ℕ)) → (List ℕ → List ℕ → Type 0) → Type 0
Writes left taken taken_after P =
    IfSome left (λ bytes. (text : List ℕ) × P bytes text × Appends taken taken_after text)
