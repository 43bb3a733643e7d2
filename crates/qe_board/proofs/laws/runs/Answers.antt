use Rattle.qe_board.proofs.Runs.{run_laws}
use Rattle.qe_board.proofs.laws.runs.Goals as goal

pub returns : goal.returns
returns g c = run_laws
