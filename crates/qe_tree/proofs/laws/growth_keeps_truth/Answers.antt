use Rattle.qe_tree.proofs.Growth.{growth_keeps_truth}
use Rattle.qe_tree.proofs.laws.growth_keeps_truth.Goals as goal

pub returns : goal.returns
returns g c vars f good x parts e p valid = growth_keeps_truth g.G.Grows.good g.G.Grows.expand g.G.Grows.sound vars f good x parts e p valid
