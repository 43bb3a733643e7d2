-- Stops that are handed on.
use Rattle.std.proofs.Common.{Option, Result, Ok, Err, ◌≡◌, IsErr, IsErrAnd, sym, subst}
use Rattle.qe_halt.specs.declared.halt.Halt.{Halt}
use Rattle.qe_halt.specs.Outcome.{IsStop, IsAnswer}

-- by `?`, under the same limit
pub handed_on : {L A : Type 0} (limit : Option L) (exact : A) (result : Result A (Halt L)) (stop : Halt L)
    → IsErr result → IsErrAnd result (λ e. e ≡ stop) → IsStop limit stop → IsAnswer limit exact result
handed_on limit exact (Ok a) stop failed same is_stop = absurd (cc)
handed_on limit exact (Err e) stop failed same is_stop = subst (λ s. IsStop limit s) (sym same) is_stop
