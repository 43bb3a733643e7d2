-- What status 0 says, clause by clause; and that a call without a text leaves the sink as it was.
use Rattle.std.proofs.Common.{ℕ, ◌≡◌, ◌∙◌, ◌⊎◌, sym, refl, subst, inl, inr, List, Option, Result, Ok, Err}
use Rattle.std.specs.Prelude.{IfOk, IsErr}
use Rattle.std.specs.declared.alloc.AllocError.{AllocError}
use Rattle.qe_base.specs.Source.{LosesAll}
use Rattle.qe_program.specs.declared.reply.Reply.{Reply}
use Rattle.qe_program.specs.declared.status.Status.{Status}
use Rattle.qe_program.specs.declared.status.Status.TheVariants as status
use Rattle.qe_program.specs.Headline.{Headline, Writes}
use Rattle.qe_program.specs.Exact.{Exact, Constructive, Answers}
use Rattle.qe_program.specs.Made.{IsText, IsDone}
use Rattle.qe_program.specs.declared.asked.Request.{Request}
use Rattle.qe_program.specs.Asked.{Asks}
use Rattle.qe_program.specs.Reply.{Replies, Delivers}
use Rattle.qe_program.proofs.Caused.{where_told, no_refusal, status_of_text}

module _ (left taken taken_after : Option (List ℕ)) (limit : ℕ) where
  -- what is written where the status is Ok
  pub answers : (left_after : Option (List ℕ)) (faults faults_after : ℕ) (bytes items : List ℕ) (reply : Result Reply AllocError) (answer : Status) → bytes ≡ items → LosesAll left left_after items → IfOk reply (Replies limit bytes)
      → Delivers reply answer taken taken_after faults faults_after → answer ≡ status.Ok → Writes left taken taken_after (Answers limit)
  answers left_after faults faults_after bytes items (Err e) answer same all replies d is = absurd (cc)
  answers left_after faults faults_after bytes items (Ok reply) answer same all replies d is =
      elim d [
        | inl whole ↦ elim replies [
          | inl good ↦ where_told left _ _ (λ told h. (reply.text.items, subst (λ b. Answers limit b reply.text.items) (same ∙ h.0) good.1, whole.1)) all
          | inr bad ↦ absurd (no_refusal reply.status status.Ok bad.0.why bad.0.status_is refl (sym whole.0 ∙ is))
        ]
        | inr cut ↦ let fault = cut.0 in absurd (cc)
      ]

  pub headline : Writes left taken taken_after (Answers limit) → Writes left taken taken_after Headline
  headline h = where_told left _ _ (λ bytes w. let a = w.1 in (w.0, record { formula = a.formula; names = a.names; is_input = a.is_input; holds = a.holds.constructive.is_answer }, w.2)) h

  pub exact : (other : ℕ) → other ≡ limit → Writes left taken taken_after (Answers limit) → Writes left taken taken_after (Exact other)
  exact other same h = subst (λ l. Writes left taken taken_after (Exact l)) (sym same) (where_told left _ _ (λ bytes w. let a = w.1 in (w.0, record { formula = a.formula; names = a.names; is_input = a.is_input; holds = a.holds.exact }, w.2)) h)

  pub constructive : Writes left taken taken_after (Answers limit) → Writes left taken taken_after Constructive
  constructive h = where_told left _ _ (λ bytes w. let a = w.1 in (w.0, record { formula = a.formula; names = a.names; is_input = a.is_input; holds = a.holds.constructive }, w.2)) h

-- ---- a text for which nothing is read

pub is_done : (request other : Request) (taken taken_after : Option (List ℕ)) (faults faults_after : ℕ) (reply : Result Reply AllocError) (answer : Status) → other ≡ request → IfOk reply (λ r. IsText request r.status r.text.items)
    → Delivers reply answer taken taken_after faults faults_after → IsDone other answer taken taken_after
is_done request other taken taken_after faults faults_after (Err e) answer same is d = inr (inr d)
is_done request other taken taken_after faults faults_after (Ok reply) answer same is d =
    elim d [
      | inl whole ↦ inl (reply.text.items, subst (λ r. IsText r answer reply.text.items) (sym same) (subst (λ s. IsText request s reply.text.items) (sym whole.0) is), whole.1)
      | inr cut ↦ inr (inl cut.0)
    ]

-- words that ask for one thing do not ask for another
pub none_for : {A : Type 0} (words : List (List ℕ)) (request other : Request) → ((r : Request) → Asks words r → r ≡ request) → (other ≡ request → ⊥) → Asks words other → A
none_for words request other only differs asks = absurd (differs (only other asks))

-- ---- a call without a text

abbrev IsSilent : Status → Type 0
IsSilent answer = (answer ≡ status.ReadFault) ⊎ (answer ≡ status.OutOfMemory)

silent : (answer other : Status) → IsSilent answer → answer ≡ other → (status.ReadFault ≡ other → ⊥) → (status.OutOfMemory ≡ other → ⊥) → ⊥
silent answer other (inl e) same read memory = read (sym e ∙ same)
silent answer other (inr e) same read memory = memory (sym e ∙ same)

-- a text that is not written is none
kept : {A : Type 0} (taken taken_after : Option (List ℕ)) (faults faults_after : ℕ) (reply : Result Reply AllocError) (answer : Status) → IfOk reply (λ r. IsSilent r.status → ⊥)
    → Delivers reply answer taken taken_after faults faults_after → (IsErr reply → A) → IsSilent answer → A
kept taken taken_after faults faults_after (Err e) answer texts d unwritten is = unwritten refl
kept taken taken_after faults faults_after (Ok reply) answer texts d unwritten is =
    elim d [
      | inl whole ↦ absurd (texts (subst IsSilent whole.0 is))
      | inr cut ↦ absurd (silent answer status.WriteFault is cut.0 (λ e. cc) (λ e. cc))
    ]

pub kept_reply : {A : Type 0} (taken taken_after : Option (List ℕ)) (faults faults_after : ℕ) (limit : ℕ) (bytes : List ℕ) (reply : Result Reply AllocError) (answer : Status) → IfOk reply (Replies limit bytes)
    → Delivers reply answer taken taken_after faults faults_after → (IsErr reply → A) → IsSilent answer → A
kept_reply taken taken_after faults faults_after limit bytes (Err e) answer replies d unwritten is = kept taken taken_after faults faults_after (Err e) answer tt d unwritten is
kept_reply taken taken_after faults faults_after limit bytes (Ok reply) answer replies d unwritten is =
    kept taken taken_after faults faults_after (Ok reply) answer loud d unwritten is
  where
    loud : IsSilent reply.status → ⊥
    loud s = elim replies [
      | inl good ↦ silent reply.status status.Ok s good.0 (λ e. cc) (λ e. cc)
      | inr bad ↦ elim s [
        | inl e ↦ no_refusal reply.status status.ReadFault bad.0.why bad.0.status_is refl e
        | inr e ↦ no_refusal reply.status status.OutOfMemory bad.0.why bad.0.status_is refl e
      ]
    ]

pub kept_text : {A : Type 0} (request : Request) (taken taken_after : Option (List ℕ)) (faults faults_after : ℕ) (reply : Result Reply AllocError) (answer : Status) → IfOk reply (λ r. IsText request r.status r.text.items)
    → Delivers reply answer taken taken_after faults faults_after → (IsErr reply → A) → IsSilent answer → A
kept_text request taken taken_after faults faults_after (Err e) answer is d unwritten silence = kept taken taken_after faults faults_after (Err e) answer tt d unwritten silence
kept_text request taken taken_after faults faults_after (Ok reply) answer is d unwritten silence =
    kept taken taken_after faults faults_after (Ok reply) answer (loud (status_of_text request reply.status reply.text.items is)) d unwritten silence
  where
    loud : (reply.status ≡ status.Ok) ⊎ (reply.status ≡ status.NodeLimit) → IsSilent reply.status → ⊥
    loud (inl e) s = silent reply.status status.Ok s e (λ c. cc) (λ c. cc)
    loud (inr e) s = silent reply.status status.NodeLimit s e (λ c. cc) (λ c. cc)
