use Rattle.std.proofs.Common.{arith, ◌∙◌}
use Rattle.qe_syntax.specs.Code.{tree_of}
use Rattle.qe_read.proofs.Parts.{left_at, left_none, part_size, room, bound_once, bound_none, made_once, made_all}
use Rattle.qe_read.proofs.scope.Context.+formula.Goals as goal

pub formulas-formula-requires : goal.formulas-formula-requires
formulas-formula-requires t c = (omega (arith, part_size c.args.formulas.now c.loop-formula.formula-index c.formula-item.result c.loop-formula-test.true c.formula-item.is), room _ _ _ _ _ _ _ (left_at c.args.formulas.now c.loop-formula.formula-index c.formula-item.result c.loop-formula-test.true c.formula-item.is) c.loop-formula.invariant.bound c.requires)

pub formulas-loop-formula-preserved : goal.formulas-loop-formula-preserved
formulas-loop-formula-preserved t c =
    let one = left_at c.args.formulas.now c.loop-formula.formula-index c.formula-item.result c.loop-formula-test.true c.formula-item.is in record {
      enclosing = c.in_ok-formula.ensures.enclosing ∙ c.loop-formula.invariant.enclosing;
      bound = bound_once _ _ _ _ _ _ one c.in_ok-formula.ensures.bound c.loop-formula.invariant.bound;
      forms = made_once c.args.self.now.text.now c.args.self.now.free.now c.args.scope.now.enclosing.items c.loop-formula.scope.enclosing.items c.loop-formula.scope.bound.items c.formula.new.scope.bound.items c.loop-formula.forms c.push.new.self c.in_ok-formula.field-0 (tree_of c.formula-item.result) _ _ _ one c.in_ok-formula.ensures.bound c.in_ok-push.ensures.ok c.loop-formula.invariant.enclosing c.in_ok-formula.ensures.is c.loop-formula.invariant.forms;
    }

pub formulas-returns : goal.formulas-returns
formulas-returns t c =
    let none = left_none c.args.formulas.now c.loop-formula.formula-index c.loop-formula-test.false in record {
      is = made_all _ _ _ _ _ _ _ none c.loop-formula.invariant.forms;
      enclosing = c.loop-formula.invariant.enclosing;
      bound = bound_none _ _ _ none c.loop-formula.invariant.bound;
    }
