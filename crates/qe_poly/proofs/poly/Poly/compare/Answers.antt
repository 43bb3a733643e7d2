use Rattle.qe_poly.proofs.KeptTerms.{cmp_shown}
use Rattle.qe_poly.proofs.poly.Poly.compare.Goals as goal

pub returns : goal.returns
returns c =
    cmp_shown c.cmp.result c.as_slice.result.now c.as_slice-2.result.now c.self.inside.terms.items c.other.inside.terms.items c.args.self.now c.args.other.now
    c.as_slice.ensures.value c.as_slice-2.ensures.value c.self.view_is c.other.view_is c.cmp.ensures
