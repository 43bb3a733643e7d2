-- What status 0 says beyond the headline: which formula is written, and what a proof that is read as a
-- program says of it.
use Rattle.std.specs.Prelude.{ℕ, ◌≡◌, List}
use Rattle.qe_form.specs.Formula.{Formula}
use Rattle.qe_form.specs.Same.{Same}
use Rattle.qe_form.specs.Preserved.{Preserves, HasDecidedCore, HasOuterQuantifiers}
use Rattle.qe_read.specs.Names.{Letters}
use Rattle.qe_print.specs.Formula.{formula_text}
use Rattle.qe_tree.specs.Block.{given}
use Rattle.qe_program.specs.Output.{line}
use Rattle.qe_program.specs.Outcome.{outcome, all_names, EachFits}
use Rattle.qe_program.specs.Headline.{Stands, IsAnswer}
use Rattle.qe_program.specs.Refusal.{IsSmall}

-- The text is the line of the formula that elimination gives, written with the names of the prenex
-- form. The prenex form is small, and no block's plain run ends by the limit.
pub record IsEliminated (limit : ℕ) (text : List ℕ) (f : Formula) (names : List Letters) : Type 0 where
  pub small : IsSmall f
  pub eliminated : Formula
  pub is_given : outcome f names ≡ given eliminated
  pub fits : EachFits limit f names
  pub written : text ≡ line (formula_text (all_names f names) eliminated)

-- the bytes stand for a formula, and the text is the line of what elimination gives for it
abbrev pub Exact : ℕ → List ℕ → List ℕ → Type 0
Exact limit bytes text = Stands bytes (IsEliminated limit text)

-- The answer is what elimination gives, and truth and falsity pass to it from f. The two are the same
-- where what follows the outer quantifiers and negations of f is decided, as it is where all quantifiers
-- stand outside.
pub record IsPreserved (text : List ℕ) (f : Formula) (names : List Letters) : Type 0 where
  pub is_answer : IsAnswer text f names
  pub is_given : outcome f names ≡ given is_answer.answer
  pub keeps : Preserves f is_answer.answer
  pub same_points : HasDecidedCore f → Same f is_answer.answer
  pub same_outer : HasOuterQuantifiers f → Same f is_answer.answer

-- the bytes stand for a formula, and truth and falsity pass from it to the answer
abbrev pub Constructive : List ℕ → List ℕ → Type 0
Constructive bytes text = Stands bytes (IsPreserved text)

-- all that status 0 says of a formula with names
pub record IsFullAnswer (limit : ℕ) (text : List ℕ) (f : Formula) (names : List Letters) : Type 0 where
  pub exact : IsEliminated limit text f names
  pub constructive : IsPreserved text f names

-- all that status 0 says of the bytes
abbrev pub Answers : ℕ → List ℕ → List ℕ → Type 0
Answers limit bytes text = Stands bytes (IsFullAnswer limit text)
