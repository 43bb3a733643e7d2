use Rattle.std.proofs.Common.{◌≡◌, ◌∙◌, sym, ◌<◌, false, option_copied, arith}
use Rattle.qe_poly.specs.Coefficients.{degree_in}
use Rattle.qe_form.specs.Signs.{is_even}
use Rattle.qe_subst.proofs.Derivatives.{degree_over_derivative}
use Rattle.qe_subst.proofs.Made.{near_made}
use Rattle.qe_subst.proofs.root.TestRoot.above.Goals as goal

pub returns : goal.returns
returns c =
    let uneven : is_even c.args.signs ≡ false = sym c.is_even.ensures ∙ c.if-is_even.false in
    let positive : 0 < degree_in c.args.self.now.x.0 c.args.poly.now = omega arith in
    near_made c.args.self.now.x.0 (option_copied c.args.self.now.own) c.args.self.now.root.now c.args.poly.now c.args.signs _ c.near.result uneven (degree_over_derivative c.args.self.now.x.0 c.args.poly.now c.requires.canonical positive) c.near.ensures
