use Rattle.qe_tower.proofs.Stated.{product_laws}
use Rattle.qe_tower.proofs.laws.sign_of_product.Goals as goal

pub returns : goal.returns
returns c = product_laws
