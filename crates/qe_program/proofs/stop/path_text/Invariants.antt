use Rattle.std.proofs.Common.{◌≡◌, ◌++◌, drop}
use Rattle.qe_elim.specs.Search.{steps_of}
use Rattle.qe_program.specs.Output.{path_text, further_text}
use Rattle.qe_program.proofs.stop.path_text.Given as goal

abbrev pub invariant-loop-step : goal.invariant-loop-step
invariant-loop-step l = l.text.items ++ further_text l.names (steps_of (drop l.step-index l.rest)) ≡ path_text l.names (steps_of l.path)
