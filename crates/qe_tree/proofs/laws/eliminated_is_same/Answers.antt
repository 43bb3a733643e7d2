use Rattle.qe_form.specs.Blocks.{under_blocks}
use Rattle.qe_tree.proofs.Stands.{stands_same}
use Rattle.qe_tree.proofs.Blocks.{eliminated_stands}
use Rattle.qe_tree.proofs.laws.eliminated_is_same.Goals as goal

pub returns : goal.returns
returns g c bs m h fine e = let w = eliminated_stands g.G.Grows.good g.G.Grows.expand g.G.Grows.sound bs m h fine e in (w.fine, stands_same (under_blocks bs m) h w.stands)
