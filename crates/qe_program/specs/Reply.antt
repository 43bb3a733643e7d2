-- What is prepared for the bytes of an input, and what came of it.
use Rattle.std.specs.Prelude.{ℕ, ◌≡◌, ◌≢◌, ◌⊎◌, List, Result, Ok, Err}
use Rattle.std.specs.declared.option.Option.{Option}
use Rattle.std.specs.declared.alloc.AllocError.{AllocError}
use Rattle.std.specs.Io.KnownBytes.{Appends}
use Rattle.qe_form.specs.Formula.{Formula}
use Rattle.qe_form.specs.Tree.{tree}
use Rattle.qe_form.specs.Same.{HasNoQuantifier, Same}
use Rattle.qe_read.specs.declared.fault.ReadFault.{ReadFault}
use Rattle.qe_read.specs.declared.fault.ReadFault.TheVariants as read
use Rattle.qe_read.specs.Names.{Letters}
use Rattle.qe_print.specs.Formula.{formula_text}
use Rattle.qe_norm.specs.declared.blocks.Prenex.{Prenex}
use Rattle.qe_norm.specs.Prenex.{stands_for}
use Rattle.qe_tree.specs.Tree.{Step}
use Rattle.qe_form.specs.Blocks.{Block}
use Rattle.qe_elim.specs.Answer.{KeepsLimit, GoesOn, StaysWithin, GoesBeyond}
use Rattle.qe_tree.specs.Block.{given, stopped, eliminated, EachBlock, AtBlock}
use Rattle.qe_node.specs.declared.stop.NodeStop.{NodeStop}
use Rattle.qe_node.specs.Successors.{expansion}
use Rattle.qe_program.specs.declared.reply.Reply.{Reply}
use Rattle.qe_program.specs.declared.status.Status.{Status}
use Rattle.qe_program.specs.declared.status.Status.TheVariants as status
use Rattle.qe_base.specs.Count.{Rose}
use Rattle.qe_base.specs.Sink.{AppendsUpTo}
use Rattle.qe_program.specs.Output.{line, fault_line, node_line, node_limit_line}
use Rattle.qe_program.specs.Exact.{IsFullAnswer, Answers}
use Rattle.qe_program.specs.Refusal.{HasAnswer, IsAnswered, Refusal, IsSoOf, stop_status, status_of, refusal_line, IsRefusal}

-- the reply has this status and this text
abbrev pub Says : Status → List ℕ → Reply → Type 0
Says status text reply = (reply.status ≡ status) × (reply.text.items ≡ text)

-- ---- blocks over a matrix, with the names of their variables, that stand for a formula

-- the reply is the formula that elimination gives
pub record RepliesByFormula (limit : ℕ) (bs : List Block) (m : Formula) (all : List Letters) (whole : Formula) (reply : Reply) : Type 0 where
  pub answer : Formula
  pub is_given : eliminated expansion bs m ≡ given answer
  pub fits : EachBlock expansion (GoesOn limit) 1 bs m
  pub no_quantifier : HasNoQuantifier answer
  pub same : Same whole answer
  pub says : Says status.Ok (line (formula_text all answer)) reply

-- the reply names the first node that fails
pub record RepliesByNode (limit : ℕ) (bs : List Block) (m : Formula) (all : List Letters) (reply : Reply) : Type 0 where
  pub block : ℕ
  pub path : List Step
  pub why : NodeStop
  pub stops : eliminated expansion bs m ≡ stopped block path why
  pub within : AtBlock expansion (StaysWithin limit) (GoesOn limit) block 1 bs m
  pub says : Says (stop_status why) (node_line all block path why) reply

-- the reply names a block whose plain run ends by the limit
pub record RepliesByLimit (limit : ℕ) (bs : List Block) (m : Formula) (reply : Reply) : Type 0 where
  pub block : ℕ
  pub beyond : AtBlock expansion (GoesBeyond limit) (GoesOn limit) block 1 bs m
  pub not_within : EachBlock expansion (KeepsLimit limit) 1 bs m → ⊥
  pub says : Says status.NodeLimit (node_limit_line block limit) reply

abbrev pub RepliesToBlocks : ℕ → List Block → Formula → List Letters → Formula → Reply → Type 0
RepliesToBlocks limit bs m all whole reply = RepliesByFormula limit bs m all whole reply ⊎ RepliesByNode limit bs m all reply ⊎ RepliesByLimit limit bs m reply

abbrev pub RepliesToPrenex : ℕ → Prenex → Reply → Type 0
RepliesToPrenex limit p reply = RepliesToBlocks limit p.blocks.items (tree p.matrix) p.names (stands_for p) reply

-- ---- a formula with names

-- the reply refuses a formula that has no answer, and says why
pub record RefusesFormula (limit : ℕ) (f : Formula) (names : List Letters) (reply : Reply) : Type 0 where
  pub why : Refusal
  pub is_so : IsSoOf limit why f names
  pub says : Says (status_of why) (refusal_line why) reply
  pub unanswered : HasAnswer limit f names → ⊥

-- the reply is the answer to a formula, or refuses it
abbrev pub RepliesToFormula : ℕ → Formula → List Letters → Reply → Type 0
RepliesToFormula limit f names reply =
    ((reply.status ≡ status.Ok) × IsFullAnswer limit reply.text.items f names) ⊎ RefusesFormula limit f names reply

-- the reply refuses an input for its fault
abbrev pub RepliesToFault : ReadFault → Reply → Type 0
RepliesToFault fault reply = (fault ≢ read.OutOfMemory) × Says status.BadInput (fault_line fault) reply

-- the reply is the answer to the bytes, or refuses them where they are not to be answered
abbrev pub Replies : ℕ → List ℕ → Reply → Type 0
Replies limit bytes reply =
    ((reply.status ≡ status.Ok) × Answers limit bytes reply.text.items)
    ⊎ (IsRefusal limit bytes reply.text.items reply.status × (IsAnswered limit bytes → ⊥))

-- What came of a reply that was to be written, or of none: the status, what the sink took, and its faults.
abbrev pub Delivers : Result Reply AllocError → Status → Option (List ℕ) → Option (List ℕ) → ℕ → ℕ → Type 0
Delivers (Err e) answer taken taken_after faults faults_after = answer ≡ status.OutOfMemory
Delivers (Ok reply) answer taken taken_after faults faults_after =
    ((answer ≡ reply.status) × Appends taken taken_after reply.text.items)
    ⊎ ((answer ≡ status.WriteFault) × Rose faults faults_after × ((rest : List ℕ) × AppendsUpTo taken taken_after reply.text.items rest))
