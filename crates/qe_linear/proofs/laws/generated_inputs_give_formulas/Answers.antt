use Rattle.qe_linear.proofs.Generated.{size_is}
use Rattle.qe_linear.proofs.Inputs.{input_gives}
use Rattle.qe_linear.proofs.laws.generated_inputs_give_formulas.Goals as goal

pub returns-clause-size : goal.returns-clause-size
returns-clause-size c = size_is

pub returns-clause-gives : goal.returns-clause-gives
returns-clause-gives c = input_gives
