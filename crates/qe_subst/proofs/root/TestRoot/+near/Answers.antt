use Rattle.std.proofs.Common.{◌≡◌, ap, subst, ℕ, ◌<◌, arith, option_copied}
use Rattle.qe_form.specs.Tree.{tree}
use Rattle.qe_poly.specs.Coefficients.{degree_in, derivative}
use Rattle.qe_halt.specs.Outcome.{IsOutcome}
use Rattle.qe_subst.specs.Substituted.{near, near_fault}
use Rattle.qe_subst.proofs.Derivatives.{degree_of_derivative, degree_over_derivative}
use Rattle.qe_subst.proofs.root.TestRoot.+near.Goals as goal

pub near-near_derivative-requires : goal.near-near_derivative-requires
near-near_derivative-requires t c =
    let same : degree_in c.args.self.now.x.0 c.in_ok-derivative.derivative ≡ degree_in c.args.self.now.x.0 (derivative c.args.self.now.x.0 c.args.poly.now) = ap (degree_in c.args.self.now.x.0) c.in_ok-derivative.ensures.1 in
    (omega (arith, same), (omega (arith, same, degree_of_derivative c.args.self.now.x.0 c.args.poly.now c.requires.canonical), c.requires.proper))

pub near_derivative-near-requires : goal.near_derivative-near-requires
near_derivative-near-requires t c =
    let positive : 0 < degree_in c.args.self.now.x.0 c.args.derivative = omega arith in
    (omega (arith, degree_over_derivative c.args.self.now.x.0 c.args.derivative c.degree_in.ensures.canonical positive), (c.degree_in.ensures.canonical, (c.requires.degree, c.requires.proper)))

pub near_derivative-returns : goal.near_derivative-returns
near_derivative-returns t c =
    let positive : 0 < degree_in c.args.self.now.x.0 c.args.derivative = omega arith in
    let Made : ℕ → Type 0 = λ n. IsOutcome (near_fault c.args.self.now.x.0 (option_copied c.args.self.now.own) c.args.self.now.root.now n c.args.derivative c.args.signs)
    (λ f. tree f ≡ near c.args.self.now.x.0 (option_copied c.args.self.now.own) c.args.self.now.root.now n c.args.derivative c.args.signs) c.near.result in
    subst Made (degree_over_derivative c.args.self.now.x.0 c.args.derivative c.degree_in.ensures.canonical positive) c.near.ensures
