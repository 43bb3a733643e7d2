use Rattle.std.proofs.Common.{◌+◌, ◌*◌}
use Rattle.qe_poly.specs.Coefficients.{degree_in, derivative}
use Rattle.qe_subst.proofs.root.TestRoot.+near.Given as goal

abbrev pub decreases-near : goal.decreases-near
decreases-near l = 2 * degree_in l.self.now.x.0 (derivative l.self.now.x.0 l.poly.now) + 2

abbrev pub decreases-near_derivative : goal.decreases-near_derivative
decreases-near_derivative l = 2 * degree_in l.self.now.x.0 l.derivative + 1
