use Rattle.qe_poly.proofs.KeptTerms.{fed_shown}
use Rattle.qe_poly.proofs.poly.PolyHash.hash.Goals as goal

pub returns : goal.returns
returns g c = fed_shown g.H.Hasher.write c.args.state.now c.hash.new.state c.self.inside.terms.items c.args.self.now c.self.view_is c.hash.ensures
