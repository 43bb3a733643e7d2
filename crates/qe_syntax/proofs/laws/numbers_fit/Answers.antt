use Rattle.qe_syntax.proofs.Small.{numbers_fit}
use Rattle.qe_syntax.proofs.laws.numbers_fit.Goals as goal

pub returns : goal.returns
returns c = numbers_fit
