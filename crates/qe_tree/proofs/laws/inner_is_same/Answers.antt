use Rattle.qe_tree.specs.Variables.{under_ex}
use Rattle.qe_tree.proofs.Stands.{stands_same}
use Rattle.qe_tree.proofs.Blocks.{inner_stands}
use Rattle.qe_tree.proofs.laws.inner_is_same.Goals as goal

pub returns : goal.returns
returns g c vars f h good e = let w = inner_stands g.G.Grows.good g.G.Grows.expand g.G.Grows.sound vars f good h e in (w.fine, stands_same (under_ex vars f) h w.stands)
