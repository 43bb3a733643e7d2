use Rattle.qe_poly.proofs.KeptTerms.{eq_shown}
use Rattle.qe_poly.proofs.poly.PolyPartialEq.eq.Goals as goal

pub returns : goal.returns
returns c = eq_shown c.eq.result c.self.inside.terms.items c.other.inside.terms.items c.args.self.now c.args.other.now c.self.view_is c.other.view_is c.eq.ensures
