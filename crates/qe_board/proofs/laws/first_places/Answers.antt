use Rattle.qe_board.proofs.Spotted.{place_laws}
use Rattle.qe_board.proofs.laws.first_places.Goals as goal

pub returns : goal.returns
returns g c meaning is_leaf truth height limit = place_laws meaning is_leaf truth height limit
