-- What is written where nothing is read.
use Rattle.std.specs.Prelude.{ℕ, ◌≡◌, ◌⊎◌, List, min}
use Rattle.std.specs.declared.option.Option.{Option}
use Rattle.std.specs.Io.KnownBytes.{Appends}
use Rattle.qe_form.specs.Formula.{Formula}
use Rattle.qe_form.specs.Measures.{count}
use Rattle.qe_tree.specs.Block.{given}
use Rattle.qe_gen.specs.Generated.{input_form, input_names}
use Rattle.qe_program.specs.declared.status.Status.{Status}
use Rattle.qe_program.specs.declared.status.Status.TheVariants as status
use Rattle.qe_program.specs.declared.asked.Request.{Request}
use Rattle.qe_program.specs.declared.asked.Request.TheVariants.{Eliminate, Make, Summary, Nothing}
use Rattle.qe_program.specs.Output.{made_line, summary_text, node_limit_line}
use Rattle.qe_program.specs.Outcome.{outcome, EachFits, EachKeepsLimit}
use Rattle.qe_program.specs.Refusal.{HasLargeTree}

-- The text tells how many atoms and constants the formula has that elimination gives for the
-- generated input, where counting stops at 65,537. No block's plain run ends by the limit.
pub record Summarizes (limit number : ℕ) (text : List ℕ) : Type 0 where
  pub result : Formula
  pub is_given : outcome (input_form number) input_names ≡ given result
  pub fits : EachFits limit (input_form number) input_names
  pub written : text ≡ summary_text number (min 65537 (count result))

-- the text is the line of a block of the generated input whose plain run ends by the limit
pub record TellsLimit (limit number : ℕ) (text : List ℕ) : Type 0 where
  pub block : ℕ
  pub large : HasLargeTree limit (input_form number) input_names block limit
  pub not_within : EachKeepsLimit limit (input_form number) input_names → ⊥
  pub written : text ≡ node_limit_line block limit

-- the text that is written, and its status, where nothing is read
abbrev pub IsText : Request → Status → List ℕ → Type 0
IsText (Eliminate limit) answer text = ⊥
IsText (Make number) answer text = (answer ≡ status.Ok) × (text ≡ made_line number)
IsText (Summary limit number) answer text =
    ((answer ≡ status.Ok) × Summarizes limit number text) ⊎ ((answer ≡ status.NodeLimit) × TellsLimit limit number text)
IsText Nothing answer text = ⊥

-- that text was written whole, or could not be, or memory ran out; no other status comes
abbrev pub IsDone : Request → Status → (taken taken_after : Option (List ℕ)) → Type 0
IsDone request answer taken taken_after =
    ((text : List ℕ) × IsText request answer text × Appends taken taken_after text)
    ⊎ (answer ≡ status.WriteFault) ⊎ (answer ≡ status.OutOfMemory)
