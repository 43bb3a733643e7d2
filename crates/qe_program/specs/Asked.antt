-- What the words ask for.
use Rattle.std.specs.Prelude.{ℕ, ◌≡◌, ◌≤◌, List, Result, Ok, Err}
use Rattle.std.specs.declared.alloc.AllocError.{AllocError}
use Rattle.qe_words.specs.declared.job.Mode.{Mode}
use Rattle.qe_words.specs.declared.job.Mode.TheVariants as mode
use Rattle.qe_words.specs.declared.job.Job.{Job}
use Rattle.qe_words.specs.Line.{GivesJob}
use Rattle.qe_program.specs.declared.asked.Request.{Request}
use Rattle.qe_program.specs.declared.asked.Request.TheVariants.{Eliminate, Make, Summary, Nothing}

-- what a job of this mode asks for; one mode is not served so far
abbrev pub request_in : Mode → (nodes number : ℕ) → Request
request_in mode.Eliminate nodes number = Eliminate nodes
request_in mode.Make nodes number = Make number
request_in mode.Answers nodes number = Nothing
request_in mode.Summary nodes number = Summary nodes number

abbrev pub request_of : Job → Request
request_of job = request_in job.mode job.nodes job.number

-- the words give a job that asks for this
pub record Asks (words : List (List ℕ)) (request : Request) : Type 0 where
  pub job : Job
  pub gives : GivesJob words job
  pub is_of : request ≡ request_of job

-- the words give no job, or one that is not served
abbrev pub AsksNothing : List (List ℕ) → Type 0
AsksNothing words = (request : Request) → Asks words request → request ≡ Nothing

-- the words do not ask for elimination, so nothing is to be read
abbrev pub ReadsNothing : List (List ℕ) → Type 0
ReadsNothing words = (limit : ℕ) → Asks words (Eliminate limit) → ⊥

-- the words ask for this and for nothing else
abbrev pub AsksOnly : List (List ℕ) → Request → Type 0
AsksOnly words request = Asks words request × ((other : Request) → Asks words other → other ≡ request)

-- what the words ask for, with its number in its range; out of memory may come in its place
abbrev pub IsAsked : List (List ℕ) → Result Request AllocError → Type 0
IsAsked words (Ok (Eliminate limit)) = AsksOnly words (Eliminate limit) × (1 ≤ limit)
IsAsked words (Ok (Make number)) = AsksOnly words (Make number) × (number ≤ 999999)
IsAsked words (Ok (Summary limit number)) = AsksOnly words (Summary limit number) × (1 ≤ limit) × (number ≤ 999999)
IsAsked words (Ok Nothing) = AsksNothing words
IsAsked words (Err e) = Unit {0}
