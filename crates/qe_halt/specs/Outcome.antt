-- What a call answers that may meet a limit or run out of memory.
use Rattle.std.specs.Prelude.{MatchOption, List, [], ◌∷◌, Option, None, Some, Result, Ok, Err, ◌≡◌}
use Rattle.qe_halt.specs.declared.halt.Halt.{Halt}
use Rattle.qe_halt.specs.declared.halt.Halt.TheVariants.{Limit, OutOfMemory}

-- the first limit, and where there is none the second
abbrev pub or_else : {L : Type 0} → Option L → Option L → Option L
or_else (Some limit) rest = Some limit
or_else None rest = rest

-- the first limit of steps in their order
abbrev pub first : {L : Type 0} → List (Option L) → Option L
first [] = None
first (limit ∷ limits) = or_else limit (first limits)

-- the stop is that limit; out of memory may come in place of any
abbrev pub IsStop : {L : Type 0} → Option L → Halt L → Type 0
IsStop limit (Limit met) = limit ≡ Some met
IsStop limit OutOfMemory = Unit {0}

-- the limit where there is one, and else a result of which P holds; out of memory may come in place of either
abbrev pub IsOutcome : {L A : Type 0} → Option L → (A → Type 0) → Result A (Halt L) → Type 0
IsOutcome limit P (Ok a) = (limit ≡ None) × P a
IsOutcome limit P (Err stop) = IsStop limit stop

-- the limit where there is one, and else the exact result; out of memory may come in place of either
abbrev pub IsAnswer : {L A : Type 0} → Option L → A → Result A (Halt L) → Type 0
IsAnswer limit exact (Ok a) = (limit ≡ None) × (a ≡ exact)
IsAnswer limit exact (Err stop) = IsStop limit stop

-- ---- a callee's limit in the caller's terms

abbrev pub limit_within : {L M : Type 0} → (L → M) → Option L → Option M
limit_within f None = None
limit_within f (Some limit) = Some (f limit)

abbrev pub stop_within : {L M : Type 0} → (L → M) → Halt L → Halt M
stop_within f (Limit met) = Limit (f met)
stop_within f OutOfMemory = OutOfMemory

-- ---- a type of stops with other variants: `told` gives the limit of a stop, and None for out of memory

abbrev pub IsStopBy : {E L : Type 0} → (E → Option L) → Option L → E → Type 0
IsStopBy told limit stop = MatchOption (told stop) (Unit {0}) (λ met. limit ≡ Some met)

abbrev pub IsOutcomeBy : {E L A : Type 0} → (E → Option L) → Option L → (A → Type 0) → Result A E → Type 0
IsOutcomeBy told limit P (Ok a) = (limit ≡ None) × P a
IsOutcomeBy told limit P (Err stop) = IsStopBy told limit stop
