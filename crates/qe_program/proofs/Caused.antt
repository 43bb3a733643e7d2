-- Each outcome of the top call is caused.
use Rattle.std.proofs.Common.{ℕ, ◌≡◌, ◌⊎◌, ◌∙◌, ap, sym, refl, subst, Bool, true, false, inl, inr, List, [], Option, Some, None, Result, Ok, Err, arith}
use Rattle.std.specs.Prelude.{IfSome, IfOk}
use Rattle.std.specs.declared.alloc.AllocError.{AllocError}
use Rattle.qe_program.specs.declared.reply.Reply.{Reply}
use Rattle.qe_program.specs.declared.status.Status.{Status}
use Rattle.qe_program.specs.declared.status.Status.TheVariants as status
use Rattle.qe_base.specs.Count.{Rose}
use Rattle.qe_base.specs.Source.{LosesAll, HasMoreThan}
use Rattle.qe_base.specs.Sink.{AppendsUpTo}
use Rattle.qe_program.specs.Output.{usage_line, too_long_line}
use Rattle.qe_program.specs.Exact.{Answers}
use Rattle.qe_poly.specs.declared.limit.PolyLimit.TheVariants as limits
use Rattle.qe_node.specs.declared.stop.NodeStop.TheVariants as stop
use Rattle.qe_program.specs.declared.asked.Request.{Request}
use Rattle.qe_program.specs.declared.asked.Request.TheVariants.{Eliminate, Make, Summary, Nothing}
use Rattle.qe_program.specs.Made.{IsText}
use Rattle.qe_program.specs.Asked.{Asks, AsksNothing, AsksOnly, ReadsNothing}
use Rattle.qe_program.specs.Refusal.{IsAnswered, Refusal, fault, prenex_too_large, node, too_many_nodes, IsSo, status_of, IsRefusal}
use Rattle.qe_program.specs.Causes.{Run, Wrote, IsWithin, WroteRefusal, IsReply, IsOutput, WroteFront, Refused, Causes}
use Rattle.qe_program.specs.Reply.{Says, Replies, Delivers}

-- what is said of the bytes that are told
pub where_told : (told : Option (List ℕ)) (P Q : List ℕ → Type 0) → ((bytes : List ℕ) → P bytes → Q bytes) → IfSome told P → IfSome told Q
where_told None P Q f h = tt
where_told (Some bytes) P Q f h = f bytes h

always_told : (told : Option (List ℕ)) (Q : List ℕ → Type 0) → ((bytes : List ℕ) → Q bytes) → IfSome told Q
always_told None Q f = tt
always_told (Some bytes) Q f = f bytes

-- ---- the statuses of refusals

abbrev is_refusal : Status → Bool
is_refusal status.BadInput = true
is_refusal status.TooLarge = true
is_refusal status.DegreeExcess = true
is_refusal status.Overflow = true
is_refusal status.TermLimit = true
is_refusal status.NodeLimit = true
is_refusal _ = false

refusal_status : (why : Refusal) → is_refusal (status_of why) ≡ true
refusal_status (fault found) = refl
refusal_status prenex_too_large = refl
refusal_status (node all block path stop.DegreeExcess) = refl
refusal_status (node all block path (stop.Limit point atom stage (limits.Coefficient wide))) = refl
refusal_status (node all block path (stop.Limit point atom stage limits.Exponent)) = refl
refusal_status (node all block path (stop.Limit point atom stage limits.Monomials)) = refl
refusal_status (node all block path (stop.TooLarge point)) = refl
refusal_status (too_many_nodes block most) = refl

-- a status that is no refusal's
pub no_refusal : (answer other : Status) (why : Refusal) → answer ≡ status_of why → is_refusal other ≡ false → answer ≡ other → ⊥
no_refusal answer other why is not same =
    let yes : is_refusal other ≡ true = ap is_refusal (sym same) ∙ (ap is_refusal is ∙ refusal_status why) in
    let clash : true ≡ false = sym yes ∙ not in
    cc

-- ---- how a call ends

-- what asks for nothing, or for a generated input, does not ask for elimination
pub nothing_read : (words : List (List ℕ)) → AsksNothing words → ReadsNothing words
nothing_read words nothing = λ limit asks. let same : Eliminate limit ≡ Nothing = nothing (Eliminate limit) asks in cc

pub nothing_read_for : (words : List (List ℕ)) (request : Request) → ((limit : ℕ) → Eliminate limit ≡ request → ⊥) → ((other : Request) → Asks words other → other ≡ request) → ReadsNothing words
nothing_read_for words request differs only = λ limit asks. differs limit (only (Eliminate limit) asks)

-- neither of the statuses of a text for which nothing is read
neither : (answer other : Status) → (answer ≡ status.Ok) ⊎ (answer ≡ status.NodeLimit) → answer ≡ other → (status.Ok ≡ other → ⊥) → (status.NodeLimit ≡ other → ⊥) → ⊥
neither answer other (inl e) same ok limit = ok (sym e ∙ same)
neither answer other (inr e) same ok limit = limit (sym e ∙ same)

pub status_of_text : (request : Request) (answer : Status) (text : List ℕ) → IsText request answer text → (answer ≡ status.Ok) ⊎ (answer ≡ status.NodeLimit)
status_of_text (Eliminate limit) answer text is = absurd is
status_of_text (Make number) answer text is = inl is.0
status_of_text (Summary limit number) answer text (inl is) = inl is.0
status_of_text (Summary limit number) answer text (inr is) = inr is.0
status_of_text Nothing answer text is = absurd is

-- the words do not ask for elimination
module _ (run : Run) (answer : Status) (none : ReadsNothing run.words) where
  by_usage : AsksNothing run.words → answer ≡ status.Usage → Wrote run usage_line → Causes run answer
  by_usage nothing is wrote = record {
    ok = λ e. absurd (cc);
    usage = λ e. (nothing, wrote);
    read_fault = λ e. absurd (cc);
    input_too_long = λ e. absurd (cc);
    bad_input = λ e. absurd (cc);
    too_large = λ e. absurd (cc);
    degree_excess = λ e. absurd (cc);
    overflow = λ e. absurd (cc);
    term_limit = λ e. absurd (cc);
    node_limit = λ e. absurd (cc);
    write_fault = λ e. absurd (cc);
    complete = λ limit asks. absurd (none limit asks);
  }

  by_text : (request : Request) → Asks run.words request → (text : List ℕ) → IsText request answer text → Wrote run text → (answer ≡ status.Ok) ⊎ (answer ≡ status.NodeLimit) → Causes run answer
  by_text request asks text is wrote which = record {
    ok = λ e. inr (request, asks, (text, subst (λ s. IsText request s text) e is, wrote));
    usage = λ e. absurd (neither answer status.Usage which e (λ c. cc) (λ c. cc));
    read_fault = λ e. absurd (neither answer status.ReadFault which e (λ c. cc) (λ c. cc));
    input_too_long = λ e. absurd (neither answer status.InputTooLong which e (λ c. cc) (λ c. cc));
    bad_input = λ e. absurd (neither answer status.BadInput which e (λ c. cc) (λ c. cc));
    too_large = λ e. absurd (neither answer status.TooLarge which e (λ c. cc) (λ c. cc));
    degree_excess = λ e. absurd (neither answer status.DegreeExcess which e (λ c. cc) (λ c. cc));
    overflow = λ e. absurd (neither answer status.Overflow which e (λ c. cc) (λ c. cc));
    term_limit = λ e. absurd (neither answer status.TermLimit which e (λ c. cc) (λ c. cc));
    node_limit = λ e. inr (request, asks, (text, subst (λ s. IsText request s text) e is, wrote));
    write_fault = λ e. absurd (neither answer status.WriteFault which e (λ c. cc) (λ c. cc));
    complete = λ limit asks. absurd (none limit asks);
  }

  by_fault_alone : answer ≡ status.WriteFault → Rose run.write_faults run.write_faults_after → WroteFront run → Causes run answer
  by_fault_alone is rose front = record {
    ok = λ e. absurd (cc);
    usage = λ e. absurd (cc);
    read_fault = λ e. absurd (cc);
    input_too_long = λ e. absurd (cc);
    bad_input = λ e. absurd (cc);
    too_large = λ e. absurd (cc);
    degree_excess = λ e. absurd (cc);
    overflow = λ e. absurd (cc);
    term_limit = λ e. absurd (cc);
    node_limit = λ e. absurd (cc);
    write_fault = λ e. (rose, front);
    complete = λ limit asks. absurd (none limit asks);
  }

pub by_memory : (run : Run) (answer : Status) → answer ≡ status.OutOfMemory → Causes run answer
by_memory run answer is = record {
  ok = λ e. absurd (cc);
  usage = λ e. absurd (cc);
  read_fault = λ e. absurd (cc);
  input_too_long = λ e. absurd (cc);
  bad_input = λ e. absurd (cc);
  too_large = λ e. absurd (cc);
  degree_excess = λ e. absurd (cc);
  overflow = λ e. absurd (cc);
  term_limit = λ e. absurd (cc);
  node_limit = λ e. absurd (cc);
  write_fault = λ e. absurd (cc);
  complete = λ limit asks. always_told run.left _ (λ bytes few i r w. inr is);
}

-- words that ask for elimination ask for one limit
pub one_limit : (words : List (List ℕ)) (limit : ℕ) → ((other : Request) → Asks words other → other ≡ Eliminate limit) → (other : ℕ) → Asks words (Eliminate other) → other ≡ limit
one_limit words limit only = λ other asks. let same : Eliminate other ≡ Eliminate limit = only (Eliminate other) asks in cc

-- the words ask for elimination with this limit, and no other
module _ (run : Run) (answer : Status) (limit : ℕ) (asks : Asks run.words (Eliminate limit)) (only : (other : ℕ) → Asks run.words (Eliminate other) → other ≡ limit) where
  by_ok : answer ≡ status.Ok → IfSome run.left (λ bytes. IsWithin bytes × (run.left_after ≡ Some [])) → Causes run answer
  by_ok is ended = record {
    ok = λ e. inl (limit, asks, ended);
    usage = λ e. absurd (cc);
    read_fault = λ e. absurd (cc);
    input_too_long = λ e. absurd (cc);
    bad_input = λ e. absurd (cc);
    too_large = λ e. absurd (cc);
    degree_excess = λ e. absurd (cc);
    overflow = λ e. absurd (cc);
    term_limit = λ e. absurd (cc);
    node_limit = λ e. absurd (cc);
    write_fault = λ e. absurd (cc);
    complete = λ other asks. always_told run.left _ (λ bytes few i r w. inl is);
  }

  by_read_fault : answer ≡ status.ReadFault → Rose run.read_faults run.read_faults_after → Causes run answer
  by_read_fault is rose = record {
    ok = λ e. absurd (cc);
    usage = λ e. absurd (cc);
    read_fault = λ e. (limit, asks, rose);
    input_too_long = λ e. absurd (cc);
    bad_input = λ e. absurd (cc);
    too_large = λ e. absurd (cc);
    degree_excess = λ e. absurd (cc);
    overflow = λ e. absurd (cc);
    term_limit = λ e. absurd (cc);
    node_limit = λ e. absurd (cc);
    write_fault = λ e. absurd (cc);
    complete = λ other asks. always_told run.left _ (λ bytes few i r w. absurd (r rose));
  }

  by_too_long : answer ≡ status.InputTooLong → HasMoreThan 1048576 run.left → Wrote run too_long_line → Causes run answer
  by_too_long is many wrote = record {
    ok = λ e. absurd (cc);
    usage = λ e. absurd (cc);
    read_fault = λ e. absurd (cc);
    input_too_long = λ e. (limit, asks, (many, wrote));
    bad_input = λ e. absurd (cc);
    too_large = λ e. absurd (cc);
    degree_excess = λ e. absurd (cc);
    overflow = λ e. absurd (cc);
    term_limit = λ e. absurd (cc);
    node_limit = λ e. absurd (cc);
    write_fault = λ e. absurd (cc);
    complete = λ other asks. where_told run.left _ _ (λ bytes more few i r w. absurd (omega arith)) many;
  }

  by_refusal : WroteRefusal run answer limit → IfSome run.left (λ bytes. IsAnswered limit bytes → ⊥) → Causes run answer
  by_refusal refused none = record {
    ok = λ e. absurd (no_refusal answer status.Ok refused.why refused.status_is refl e);
    usage = λ e. absurd (no_refusal answer status.Usage refused.why refused.status_is refl e);
    read_fault = λ e. absurd (no_refusal answer status.ReadFault refused.why refused.status_is refl e);
    input_too_long = λ e. absurd (no_refusal answer status.InputTooLong refused.why refused.status_is refl e);
    bad_input = refusal_of status.BadInput;
    too_large = refusal_of status.TooLarge;
    degree_excess = refusal_of status.DegreeExcess;
    overflow = refusal_of status.Overflow;
    term_limit = refusal_of status.TermLimit;
    node_limit = λ e. inl (refusal_of status.NodeLimit e);
    write_fault = λ e. absurd (no_refusal answer status.WriteFault refused.why refused.status_is refl e);
    complete = λ other asks. where_told run.left _ _ (λ bytes none few i r w. absurd (none (subst (λ l. IsAnswered l bytes) (only other asks) i))) none;
  }
    where
      refusal_of : (s : Status) → answer ≡ s → Refused run s
      refusal_of s same = (limit, asks, subst (λ s. WroteRefusal run s limit) same refused)

  by_write_fault : answer ≡ status.WriteFault → Rose run.write_faults run.write_faults_after → WroteFront run → Causes run answer
  by_write_fault is rose front = record {
    ok = λ e. absurd (cc);
    usage = λ e. absurd (cc);
    read_fault = λ e. absurd (cc);
    input_too_long = λ e. absurd (cc);
    bad_input = λ e. absurd (cc);
    too_large = λ e. absurd (cc);
    degree_excess = λ e. absurd (cc);
    overflow = λ e. absurd (cc);
    term_limit = λ e. absurd (cc);
    node_limit = λ e. absurd (cc);
    write_fault = λ e. (rose, front);
    complete = λ other asks. always_told run.left _ (λ bytes few i r w. absurd (w rose));
  }

-- words that ask for nothing do not end in status 0
pub not_ok : (run : Run) (answer : Status) → Causes run answer → AsksNothing run.words → answer ≡ status.Ok → ⊥
not_ok run answer causes nothing is =
    elim (causes.ok is) [
      | inl asked ↦ nothing_read run.words nothing asked.0 asked.1
      | inr asked ↦ subst (λ r. IsText r status.Ok asked.2.0) (nothing asked.0 asked.1) asked.2.1
    ]

-- ---- what delivering a reply comes to

-- the front of a text that was cut off
front : (run : Run) (text : List ℕ) → IsOutput run text → ((rest : List ℕ) × AppendsUpTo run.taken run.taken_after text rest) → WroteFront run
front run text output cut = record { text = text; is_output = output; rest = cut.0; wrote = cut.1 }

abbrev Delivered : Run → Result Reply AllocError → Status → Type 0
Delivered run reply answer = Delivers reply answer run.taken run.taken_after run.write_faults run.write_faults_after

-- the line for words that ask for nothing
pub refused_words : (run : Run) (reply : Result Reply AllocError) (answer : Status) → AsksNothing run.words → IfOk reply (Says status.Usage usage_line) → Delivered run reply answer → Causes run answer
refused_words run (Err e) answer nothing is d = by_memory run answer d
refused_words run (Ok reply) answer nothing is d =
    elim d [
      | inl whole ↦ by_usage run answer (nothing_read run.words nothing) nothing (whole.0 ∙ is.0) (subst (λ text. Wrote run text) is.1 whole.1)
      | inr cut ↦ by_fault_alone run answer (nothing_read run.words nothing) cut.0 cut.1 (front run reply.text.items (inl (nothing, is.1)) cut.2)
    ]

-- a text for which nothing is read
pub text_alone : (run : Run) (request : Request) (reply : Result Reply AllocError) (answer : Status) → ReadsNothing run.words → AsksOnly run.words request
    → IfOk reply (λ r. IsText request r.status r.text.items) → Delivered run reply answer → Causes run answer
text_alone run request (Err e) answer none asked is d = by_memory run answer d
text_alone run request (Ok reply) answer none asked is d =
    elim d [
      | inl whole ↦
          let here : IsText request answer reply.text.items = subst (λ s. IsText request s reply.text.items) (sym whole.0) is in
          by_text run answer none request asked.0 reply.text.items here whole.1 (status_of_text request answer reply.text.items here)
      | inr cut ↦ by_fault_alone run answer none cut.0 cut.1 (front run reply.text.items (inr (inr (reply.status, (request, asked.0, (reply.text.items, is, refl))))) cut.2)
    ]

module _ (run : Run) (limit : ℕ) (asked : AsksOnly run.words (Eliminate limit)) (answer : Status) where
  asks : Asks run.words (Eliminate limit)
  asks = asked.0

  only : (other : ℕ) → Asks run.words (Eliminate other) → other ≡ limit
  only = one_limit run.words limit asked.1

  -- a reply to bytes that is cut off
  reply_cut : (reply : Reply) → IfSome run.left (λ bytes. IsReply limit bytes reply.text.items) → (answer ≡ status.WriteFault) × Rose run.write_faults run.write_faults_after × ((rest : List ℕ) × AppendsUpTo run.taken run.taken_after reply.text.items rest) → Causes run answer
  reply_cut reply is cut = by_write_fault run answer limit asks only cut.0 cut.1 (front run reply.text.items (inr (inl (limit, asks, is))) cut.2)

  -- the reply to bytes that were read to the end
  pub answered : (bytes : List ℕ) (reply : Result Reply AllocError) → LosesAll run.left run.left_after bytes → IsWithin bytes → IfOk reply (Replies limit bytes) → Delivered run reply answer → Causes run answer
  answered bytes (Err e) all few replies d = by_memory run answer d
  answered bytes (Ok reply) all few replies d =
      elim replies [
        | inl good ↦ elim d [
          | inl whole ↦ by_ok run answer limit asks only (whole.0 ∙ good.0) (where_told run.left _ _ (λ told h. (subst IsWithin h.0 few, h.1)) all)
          | inr cut ↦ reply_cut reply (where_told run.left _ _ (λ told h. inl (subst IsWithin h.0 few, inl (subst (λ b. Answers limit b reply.text.items) h.0 good.1))) all) cut
        ]
        | inr bad ↦ elim d [
          | inl whole ↦ by_refusal run answer limit asks only
              (record {
                why = bad.0.why;
                reason = bad.0.reason;
                is_so = where_told run.left _ _ (λ told h. (subst IsWithin h.0 few, subst (λ b. IsSo limit b bad.0.why) h.0 bad.0.is_so)) all;
                status_is = whole.0 ∙ bad.0.status_is;
                wrote = subst (λ text. Wrote run text) bad.0.written whole.1;
              })
              (where_told run.left _ _ (λ told h. subst (λ b. IsAnswered limit b → ⊥) h.0 bad.1) all)
          | inr cut ↦ reply_cut reply (where_told run.left _ _ (λ told h. inl (subst IsWithin h.0 few, inr (reply.status, subst (λ b. IsRefusal limit b reply.text.items reply.status) h.0 bad.0))) all) cut
        ]
      ]

  -- the reply to bytes that were too many
  pub too_many : (reply : Result Reply AllocError) → HasMoreThan 1048576 run.left → IfOk reply (Says status.InputTooLong too_long_line) → Delivered run reply answer → Causes run answer
  too_many (Err e) many is d = by_memory run answer d
  too_many (Ok reply) many is d =
      elim d [
        | inl whole ↦ by_too_long run answer limit asks only (whole.0 ∙ is.0) many (subst (λ text. Wrote run text) is.1 whole.1)
        | inr cut ↦ reply_cut reply (where_told run.left _ _ (λ told more. inr (more, is.1)) many) cut
      ]
