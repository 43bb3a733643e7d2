-- Equality of nodes as a test, and what they feed a hasher.
use Rattle.std.specs.Prelude.{Bool, ◌++◌, eqb}
use Rattle.std.specs.Hash as fed
use Rattle.std.specs.Ordering.{on, eq_of_both, eq_by_cmp}
use Rattle.qe_form.specs.Order.{formula_cmp}
use Rattle.qe_form.specs.Fed.{formula_fed}
use Rattle.qe_node.specs.Node.{Sight}
use lib.Pointwise.{pointwise}

-- the same variables in the same order, and equal formulas
abbrev pub same_sight : Sight → Sight → Bool
same_sight =
    eq_of_both (on (λ n. n.vars) (pointwise eqb)) (on (λ n. n.form) (eq_by_cmp formula_cmp))

-- the number of variables, each of them, and then the formula
abbrev pub sight_fed : Sight → fed.HashWrites
sight_fed n = fed.slice fed.u32 n.vars ++ formula_fed n.form
