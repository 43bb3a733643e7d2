-- When each status of the top call comes, and what was written then.
use Rattle.std.specs.Prelude.{ℕ, ◌≡◌, ◌<◌, ◌≤◌, ◌⊎◌, List, [], length, Some, IfSome}
use Rattle.std.specs.declared.option.Option.{Option}
use Rattle.std.specs.Io.KnownBytes.{Appends}
use Rattle.qe_program.specs.declared.status.Status.{Status}
use Rattle.qe_program.specs.declared.status.Status.TheVariants as status
use Rattle.qe_base.specs.Count.{Rose}
use Rattle.qe_base.specs.Source.{HasMoreThan}
use Rattle.qe_base.specs.Sink.{AppendsUpTo}
use Rattle.qe_program.specs.Output.{usage_line, too_long_line}
use Rattle.qe_program.specs.Exact.{Answers}
use Rattle.qe_program.specs.declared.asked.Request.{Request}
use Rattle.qe_program.specs.declared.asked.Request.TheVariants.{Eliminate}
use Rattle.qe_program.specs.Made.{IsText}
use Rattle.qe_program.specs.Asked.{Asks, AsksNothing}
use Rattle.qe_program.specs.Refusal.{IsAnswered, Refusal, IsReason, IsSo, status_of, refusal_line, IsRefusal}

-- what is seen of a call: the words, the bytes that the source has left and the sink took, where they tell them, and their counts of faults
pub record Run : Type 0 where
  pub words : List (List ℕ)
  pub left : Option (List ℕ)
  pub left_after : Option (List ℕ)
  pub read_faults : ℕ
  pub read_faults_after : ℕ
  pub taken : Option (List ℕ)
  pub taken_after : Option (List ℕ)
  pub write_faults : ℕ
  pub write_faults_after : ℕ

-- where the sink tells, it took this text
abbrev pub Wrote : Run → List ℕ → Type 0
Wrote run text = Appends run.taken run.taken_after text

-- no more bytes than are read
abbrev pub IsWithin : List ℕ → Type 0
IsWithin bytes = length bytes ≤ 1048576

-- the words ask for elimination with a limit of nodes of which this is so
abbrev pub Asked : Run → (ℕ → Type 0) → Type 0
Asked run P = (limit : ℕ) × Asks run.words (Eliminate limit) × P limit

-- the words ask for something for which nothing is read, and whose text, with this status, is such
abbrev pub AskedAlone : Run → Status → (List ℕ → Type 0) → Type 0
AskedAlone run answer P = (request : Request) × Asks run.words request × ((text : List ℕ) × IsText request answer text × P text)

-- the line of a refusal with this status was written; where the source tells its bytes, the reason holds of them
pub record WroteRefusal (run : Run) (answer : Status) (limit : ℕ) : Type 0 where
  pub why : Refusal
  pub reason : IsReason why
  pub is_so : IfSome run.left (λ bytes. IsWithin bytes × IsSo limit bytes why)
  pub status_is : answer ≡ status_of why
  pub wrote : Wrote run (refusal_line why)

-- the answer to bytes, the line of their refusal, or that they are too many
abbrev pub IsReply : ℕ → List ℕ → List ℕ → Type 0
IsReply limit bytes text =
    (IsWithin bytes × (Answers limit bytes text ⊎ ((answer : Status) × IsRefusal limit bytes text answer)))
    ⊎ ((1048576 < length bytes) × (text ≡ too_long_line))

-- the text of a call in which nothing fails; where the source does not tell its bytes, any
abbrev pub IsOutput : Run → List ℕ → Type 0
IsOutput run text =
    (AsksNothing run.words × (text ≡ usage_line))
    ⊎ Asked run (λ limit. IfSome run.left (λ bytes. IsReply limit bytes text))
    ⊎ ((answer : Status) × AskedAlone run answer (λ alone. text ≡ alone))

-- the sink took the front of a text of the call
pub record WroteFront (run : Run) : Type 0 where
  pub text : List ℕ
  pub is_output : IsOutput run text
  pub rest : List ℕ
  pub wrote : AppendsUpTo run.taken run.taken_after text rest

-- where the words ask for elimination, the bytes told are few enough and stand for a formula that has an answer, and no count of faults rose, the status is Ok, or out of memory
abbrev pub Completes : Run → Status → Type 0
Completes run answer =
    (limit : ℕ) → Asks run.words (Eliminate limit)
    → IfSome run.left (λ bytes. IsWithin bytes → IsAnswered limit bytes
    → (Rose run.read_faults run.read_faults_after → ⊥)
    → (Rose run.write_faults run.write_faults_after → ⊥)
    → (answer ≡ status.Ok) ⊎ (answer ≡ status.OutOfMemory))

-- a refusal with this status
abbrev pub Refused : Run → Status → Type 0
Refused run answer = Asked run (WroteRefusal run answer)

-- Each status comes only for its cause. `OutOfMemory` may come in place of any.
pub record Causes (run : Run) (answer : Status) : Type 0 where
  -- the input was read to its end; or nothing is to be read, and the text is that of status 0
  pub ok : answer ≡ status.Ok → Asked run (λ limit. IfSome run.left (λ bytes. IsWithin bytes × (run.left_after ≡ Some []))) ⊎ AskedAlone run status.Ok (Wrote run)
  -- the words give no job, or one that is not served
  pub usage : answer ≡ status.Usage → AsksNothing run.words × Wrote run usage_line
  -- the source's count of faults rose
  pub read_fault : answer ≡ status.ReadFault → Asked run (λ limit. Rose run.read_faults run.read_faults_after)
  -- more than 1,048,576 bytes were given
  pub input_too_long : answer ≡ status.InputTooLong → Asked run (λ limit. HasMoreThan 1048576 run.left × Wrote run too_long_line)
  -- the bytes have a first fault
  pub bad_input : answer ≡ status.BadInput → Refused run status.BadInput
  -- the prenex form is too large, or a formula at a point
  pub too_large : answer ≡ status.TooLarge → Refused run status.TooLarge
  -- a node of a block has no variable of degree two or less, and is the first that fails
  pub degree_excess : answer ≡ status.DegreeExcess → Refused run status.DegreeExcess
  -- at the first node that fails a coefficient left its range
  pub overflow : answer ≡ status.Overflow → Refused run status.Overflow
  -- at the first node that fails there are too many monomials, or an exponent is too high
  pub term_limit : answer ≡ status.TermLimit → Refused run status.TermLimit
  -- the plain run of a block ends by the limit, so its tree has more nodes: of the formula read, or of a generated input
  pub node_limit : answer ≡ status.NodeLimit → Refused run status.NodeLimit ⊎ AskedAlone run status.NodeLimit (Wrote run)
  -- the sink's count of faults rose
  pub write_fault : answer ≡ status.WriteFault → Rose run.write_faults run.write_faults_after × WroteFront run
  pub complete : Completes run answer
