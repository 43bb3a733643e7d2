-- What a job asks for is what its words ask for, and nothing else.
use Rattle.std.proofs.Common.{ℕ, ◌≡◌, ◌∙◌, ◌≤◌, sym, refl, ap, subst, List, Result, Ok, Err}
use Rattle.qe_words.specs.declared.job.Mode.{Mode}
use Rattle.qe_words.specs.declared.job.Mode.TheVariants as mode
use Rattle.qe_words.specs.declared.job.Job.{Job}
use Rattle.qe_words.specs.declared.job.WordsStop.{WordsStop}
use Rattle.qe_words.specs.declared.job.WordsStop.TheVariants.{Usage}
use Rattle.qe_words.specs.Line.{GivesJob}
use Rattle.qe_words.specs.Parsed.{IsParsedAs}
use Rattle.qe_program.specs.declared.asked.Request.{Request}
use Rattle.qe_program.specs.Asked.{request_in, request_of, AsksNothing, AsksOnly, IsAsked}

-- words that are answered by a job give it and no other
abbrev OnlyJob : List (List ℕ) → Result Job WordsStop → Type 0
OnlyJob words result = (job : Job) → GivesJob words job → IsParsedAs job result

in_range : (words : List (List ℕ)) (m : Mode) (nodes number : ℕ) → AsksOnly words (request_in m nodes number) → 1 ≤ nodes → number ≤ 999999 → IsAsked words (Ok (request_in m nodes number))
in_range words mode.Eliminate nodes number only some six = (only, some)
in_range words mode.Make nodes number only some six = (only, six)
in_range words mode.Answers nodes number only some six = only.1
in_range words mode.Summary nodes number only some six = (only, some, six)

pub request_given : (words : List (List ℕ)) (job : Job) (request : Request) → request ≡ request_of job → GivesJob words job → OnlyJob words (Ok job) → 1 ≤ job.nodes → job.number ≤ 999999 → IsAsked words (Ok request)
request_given words job request e gives only some six =
    let asked : AsksOnly words (request_of job) = (
      record { job = job; gives = gives; is_of = refl },
      λ other asks. asks.is_of ∙ ap request_of (sym (only asks.job asks.gives)),
    ) in
    subst (λ r. IsAsked words (Ok r)) (sym e) (in_range words job.mode job.nodes job.number asked some six)

pub nothing_given : (words : List (List ℕ)) (result : Result Job WordsStop) → result ≡ Err Usage → OnlyJob words result → AsksNothing words
nothing_given words result e only = λ request asks. absurd (subst (IsParsedAs asks.job) e (only asks.job asks.gives))
