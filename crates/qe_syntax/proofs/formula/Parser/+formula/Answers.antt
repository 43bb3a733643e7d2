use Rattle.std.proofs.Common.{◌≡◌, true, false, Some, None, sym, rules, map}
use Rattle.std.proofs.lemmas.Result.{err_from_is_err_and}
use Rattle.qe_token.specs.declared.token.Token.TheVariants as token
use Rattle.qe_syntax.specs.Code.{tree_of}
use Rattle.std.specs.Prelude.{is_some}
use Rattle.qe_syntax.specs.Grammar.{with_end, quantifier_token, arrow_token}
use Rattle.qe_syntax.specs.Faults.{head}
use Rattle.qe_syntax.specs.Reading.{is_or, is_and, next_name, next_arrow}
use Rattle.qe_syntax.proofs.MadeFormula.{made_not, made_and, made_or, pushed}
use Rattle.qe_syntax.proofs.Terms.{next_is, shorter}
use Rattle.qe_syntax.proofs.Formulas.{quantifier_head, arrow_head, or_head, and_head, not_head, bracket_head, conj_ends, disj_ends, simple_ends, conj_first_err, conj_turn_err, conj_alone, conj_turn, conj_end, conj_read_stops, disj_first_err, disj_turn_err, disj_alone, disj_turn, disj_end, disj_read_stops, left_err, read_alone, right_err, read_joined, second_arrow, name_missing, simple_through, bind_err, scope_err, read_quantified, dot_err, body_through, further_err, inner_err, read_further}
use Rattle.qe_syntax.proofs.Atoms.{not_deep, not_err, read_not, constant_many, constant_operator, read_constant, bracket_deep, bracket_err, close_err, bracket_operator, read_bracket, atom_through}
use Rattle.qe_syntax.proofs.formula.Parser.+formula.Goals as goal

pub formula-returns-in_err-bind : goal.formula-returns-in_err-bind
formula-returns-in_err-bind t c =
    let p = err_from_is_err_and c.from_residual.result c.from_residual.ensures.1 in
    let m = next_is c.args.self.now.cursor c.advance.new.self (quantifier_token c.in-Some.quantifier) c.advance.ensures.rest (quantifier_head (head c.args.self.now.cursor) c.in-Some.quantifier (sym c.in-Some.ensures)) in
    rw (p.1, p.2) (bind_err c.args.depth c.in-Some.quantifier c.in-Some-name.name c.in_err-bind.field-0.0 c.args.self.now.cursor c.advance.new.self c.bind.new.self.cursor c.args.self.now.begun c.bind.new.self.begun m (sym c.in-Some-name.ensures) c.in_err-bind.ensures)

pub formula-returns-in_err-body : goal.formula-returns-in_err-body
formula-returns-in_err-body t c =
    let p = err_from_is_err_and c.from_residual-in_err-body.result c.from_residual-in_err-body.ensures.1 in
    let m = next_is c.args.self.now.cursor c.advance.new.self (quantifier_token c.in-Some.quantifier) c.advance.ensures.rest (quantifier_head (head c.args.self.now.cursor) c.in-Some.quantifier (sym c.in-Some.ensures)) in
    rw (p.1, p.2) (scope_err c.args.depth c.in-Some.quantifier c.in-Some-name.name c.in_err-body.field-0.0 c.args.self.now.cursor c.advance.new.self c.bind.new.self.cursor c.scope.new.self.cursor c.args.self.now.begun c.bind.new.self.begun c.scope.new.self.begun m (sym c.in-Some-name.ensures) c.in_ok-bind.ensures c.in_err-body.ensures)

pub formula-returns-in_default : goal.formula-returns-in_default
formula-returns-in_default t c = search (rules, simple_through)

pub formula-returns-in_default-name : goal.formula-returns-in_default-name
formula-returns-in_default-name t c =
    let m = next_is c.args.self.now.cursor c.advance.new.self (quantifier_token c.in-Some.quantifier) c.advance.ensures.rest (quantifier_head (head c.args.self.now.cursor) c.in-Some.quantifier (sym c.in-Some.ensures)) in
    let n : next_name (head c.advance.new.self) ≡ None = search rules in
    name_missing c.args.depth c.in-Some.quantifier c.args.self.now.cursor c.advance.new.self c.args.self.now.begun m n

pub formula-returns : goal.formula-returns
formula-returns t c = search (rules, read_quantified, next_is, quantifier_head)

pub scope-returns-in_err-expect : goal.scope-returns-in_err-expect
scope-returns-in_err-expect t c =
    let p = err_from_is_err_and c.from_residual.result c.from_residual.ensures.1 in
    let n : next_name (head c.args.self.now.cursor) ≡ None = search rules in
    rw (p.1, p.2) (dot_err c.args.depth c.args.quantifier c.in_err-expect.field-0.0 c.args.self.now.cursor c.expect.new.self c.args.self.now.begun c.args.self.now.begun n c.in_err-expect.ensures)

pub scope-returns-in_default : goal.scope-returns-in_default
scope-returns-in_default t c = search (rules, body_through)

pub scope-returns-in_err-bind : goal.scope-returns-in_err-bind
scope-returns-in_err-bind t c =
    let p = err_from_is_err_and c.from_residual-in_err-bind.result c.from_residual-in_err-bind.ensures.1 in
    rw (p.1, p.2) (further_err c.args.depth c.args.quantifier c.in-Some.name c.in_err-bind.field-0.0 c.args.self.now.cursor c.bind.new.self.cursor c.args.self.now.begun c.bind.new.self.begun (sym c.in-Some.ensures) c.in_err-bind.ensures)

pub scope-returns-in_err-body : goal.scope-returns-in_err-body
scope-returns-in_err-body t c =
    let p = err_from_is_err_and c.from_residual-in_err-body.result c.from_residual-in_err-body.ensures.1 in
    rw (p.1, p.2) (inner_err c.args.depth c.args.quantifier c.in-Some.name c.in_err-body.field-0.0 c.args.self.now.cursor c.bind.new.self.cursor c.scope.new.self.cursor c.args.self.now.begun c.bind.new.self.begun c.scope.new.self.begun (sym c.in-Some.ensures) c.in_ok-bind.ensures c.in_err-body.ensures)

pub scope-returns : goal.scope-returns
scope-returns t c = search (rules, read_further)

pub simple-returns-in_err-left : goal.simple-returns-in_err-left
simple-returns-in_err-left t c = let p = err_from_is_err_and c.from_residual.result c.from_residual.ensures.1 in rw (p.1, p.2) (search (rules, left_err))

pub simple-returns-in_default : goal.simple-returns-in_default
simple-returns-in_default t c = search (rules, read_alone, simple_ends)

pub simple-returns-in_err-right : goal.simple-returns-in_err-right
simple-returns-in_err-right t c =
    let p = err_from_is_err_and c.from_residual-in_err-right.result c.from_residual-in_err-right.ensures.1 in
    let m = next_is c.disj.new.self.cursor c.advance.new.self (arrow_token c.in-Some.arrow) c.advance.ensures.rest (arrow_head (head c.disj.new.self.cursor) c.in-Some.arrow (sym c.in-Some.ensures)) in
    rw (p.1, p.2) (right_err c.args.depth c.in-Some.arrow c.in_err-right.field-0.0 (tree_of c.in_ok-left.left) (with_end c.args.self.now.cursor) (with_end c.disj.new.self.cursor) (with_end c.advance.new.self) (with_end c.disj-2.new.self.cursor) c.args.self.now.begun c.disj.new.self.begun c.disj-2.new.self.begun m c.in_ok-left.ensures c.in_err-right.ensures)

pub simple-returns-then-is_some : goal.simple-returns-then-is_some
simple-returns-then-is_some t c =
    let m = next_is c.disj.new.self.cursor c.advance.new.self (arrow_token c.in-Some.arrow) c.advance.ensures.rest (arrow_head (head c.disj.new.self.cursor) c.in-Some.arrow (sym c.in-Some.ensures)) in
    let h : is_some (next_arrow (head c.disj-2.new.self.cursor)) ≡ true = search rules in
    second_arrow c.args.depth c.in-Some.arrow (tree_of c.in_ok-left.left) (tree_of c.in_ok-right.right) (with_end c.args.self.now.cursor) (with_end c.disj.new.self.cursor) (with_end c.advance.new.self) c.disj-2.new.self.cursor c.args.self.now.begun c.disj.new.self.begun c.disj-2.new.self.begun m c.in_ok-left.ensures c.in_ok-right.ensures h

pub simple-returns : goal.simple-returns
simple-returns t c =
    let m = next_is c.disj.new.self.cursor c.advance.new.self (arrow_token c.in-Some.arrow) c.advance.ensures.rest (arrow_head (head c.disj.new.self.cursor) c.in-Some.arrow (sym c.in-Some.ensures)) in
    let h : is_some (next_arrow (head c.disj-2.new.self.cursor)) ≡ false = search rules in
    read_joined c.args.depth c.in-Some.arrow _ (tree_of c.in_ok-left.left) (tree_of c.in_ok-right.right) (with_end c.args.self.now.cursor) (with_end c.disj.new.self.cursor) (with_end c.advance.new.self) c.disj-2.new.self.cursor c.args.self.now.begun c.disj.new.self.begun c.disj-2.new.self.begun c.in_ok-linked.ensures m c.in_ok-left.ensures c.in_ok-right.ensures h

pub disj-returns-in_err-first : goal.disj-returns-in_err-first
disj-returns-in_err-first t c = let p = err_from_is_err_and c.from_residual.result c.from_residual.ensures.1 in rw (p.1, p.2) (search (rules, disj_first_err))

pub disj-returns-then-not-is_or : goal.disj-returns-then-not-is_or
disj-returns-then-not-is_or t c = search (rules, disj_alone, disj_ends)

pub disj-ors-smaller : goal.disj-ors-smaller
disj-ors-smaller t c = search (rules, shorter)

pub disj-returns-in_err-conj : goal.disj-returns-in_err-conj
disj-returns-in_err-conj t c =
    let p = err_from_is_err_and c.from_residual-in_err-conj.result c.from_residual-in_err-conj.ensures.1 in
    let h : head c.ors.self.cursor ≡ Some token.Or = search (rules, or_head) in
    let m = next_is c.ors.self.cursor c.advance.new.self token.Or c.advance.ensures.rest h in
    rw (p.1, p.2) (disj_turn_err c.args.depth c.in_err-conj.field-0.0 _ _ _ (with_end c.ors.self.cursor) (with_end c.advance.new.self) _ _ _ _ m c.ors.invariant c.in_err-conj.ensures)

pub disj-ors-preserved : goal.disj-ors-preserved
disj-ors-preserved t c =
    let h : head c.ors.self.cursor ≡ Some token.Or = search (rules, or_head) in
    let m = next_is c.ors.self.cursor c.advance.new.self token.Or c.advance.ensures.rest h in
    disj_turn c.args.depth (tree_of c.in_ok-conj.field-0) (map tree_of c.ors.parts) (map tree_of c.push-in-ors.new.self) _ _ _ (with_end c.ors.self.cursor) (with_end c.advance.new.self) _ _ _ _ m
    (pushed c.ors.parts c.push-in-ors.new.self c.in_ok-conj.field-0 c.in_ok-push-2.ensures.ok) c.ors.invariant c.in_ok-conj.ensures

pub disj-returns : goal.disj-returns
disj-returns t c =
    let h : is_or (head c.ors.self.cursor) ≡ false = search rules in
    disj_end c.args.depth _ _ _ _ (with_end c.ors.self.cursor) _ _ (made_or c.ors.parts) h (disj_ends c.ors.self.cursor (disj_read_stops c.args.depth _ _ _ _ _ _ c.ors.invariant) h) c.ors.invariant

pub conj-returns-in_err-first : goal.conj-returns-in_err-first
conj-returns-in_err-first t c = let p = err_from_is_err_and c.from_residual.result c.from_residual.ensures.1 in rw (p.1, p.2) (search (rules, conj_first_err))

pub conj-returns-then-not-is_and : goal.conj-returns-then-not-is_and
conj-returns-then-not-is_and t c = search (rules, conj_alone, conj_ends)

pub conj-ands-smaller : goal.conj-ands-smaller
conj-ands-smaller t c = search (rules, shorter)

pub conj-returns-in_err-unary : goal.conj-returns-in_err-unary
conj-returns-in_err-unary t c =
    let p = err_from_is_err_and c.from_residual-in_err-unary.result c.from_residual-in_err-unary.ensures.1 in
    let h : head c.ands.self.cursor ≡ Some token.And = search (rules, and_head) in
    let m = next_is c.ands.self.cursor c.advance.new.self token.And c.advance.ensures.rest h in
    rw (p.1, p.2) (conj_turn_err c.args.depth c.in_err-unary.field-0.0 _ _ _ (with_end c.ands.self.cursor) (with_end c.advance.new.self) _ _ _ _ m c.ands.invariant c.in_err-unary.ensures)

pub conj-ands-preserved : goal.conj-ands-preserved
conj-ands-preserved t c =
    let h : head c.ands.self.cursor ≡ Some token.And = search (rules, and_head) in
    let m = next_is c.ands.self.cursor c.advance.new.self token.And c.advance.ensures.rest h in
    conj_turn c.args.depth (tree_of c.in_ok-unary.field-0) (map tree_of c.ands.parts) (map tree_of c.push-in-ands.new.self) _ _ _ (with_end c.ands.self.cursor) (with_end c.advance.new.self) _ _ _ _ m
    (pushed c.ands.parts c.push-in-ands.new.self c.in_ok-unary.field-0 c.in_ok-push-2.ensures.ok) c.ands.invariant c.in_ok-unary.ensures

pub conj-returns : goal.conj-returns
conj-returns t c =
    let h : is_and (head c.ands.self.cursor) ≡ false = search rules in
    conj_end c.args.depth _ _ _ _ (with_end c.ands.self.cursor) _ _ (made_and c.ands.parts) h (conj_ends c.ands.self.cursor (conj_read_stops c.args.depth _ _ _ _ _ _ c.ands.invariant) h) c.ands.invariant

pub unary-returns-in_err-check_level : goal.unary-returns-in_err-check_level
unary-returns-in_err-check_level t c = let p = err_from_is_err_and c.from_residual.result c.from_residual.ensures.1 in rw (p.1, p.2) (search (rules, not_deep))

pub unary-returns-in_err-inner : goal.unary-returns-in_err-inner
unary-returns-in_err-inner t c = let p = err_from_is_err_and c.from_residual-in_err-inner.result c.from_residual-in_err-inner.ensures.1 in rw (p.1, p.2) (search (rules, not_err, next_is, not_head))

pub unary-returns-then-is_not : goal.unary-returns-then-is_not
unary-returns-then-is_not t c = search (rules, read_not, made_not, next_is, not_head)

pub unary-returns-in_default : goal.unary-returns-in_default
unary-returns-in_default t c = search (rules, atom_through)

pub unary-returns-in_err-begin : goal.unary-returns-in_err-begin
unary-returns-in_err-begin t c = let p = err_from_is_err_and c.from_residual-in_err-begin.result c.from_residual-in_err-begin.ensures.1 in rw (p.1, p.2) (search (rules, constant_many))

pub unary-returns-in_err-refuse_operator : goal.unary-returns-in_err-refuse_operator
unary-returns-in_err-refuse_operator t c = let p = err_from_is_err_and c.from_residual-in_err-refuse_operator.result c.from_residual-in_err-refuse_operator.ensures.1 in rw (p.1, p.2) (search (rules, constant_operator))

pub unary-returns : goal.unary-returns
unary-returns t c = search (rules, read_constant)

pub bracket-returns-in_err-check_level : goal.bracket-returns-in_err-check_level
bracket-returns-in_err-check_level t c = let p = err_from_is_err_and c.from_residual.result c.from_residual.ensures.1 in rw (p.1, p.2) (search (rules, bracket_deep))

pub bracket-returns-in_err-inner : goal.bracket-returns-in_err-inner
bracket-returns-in_err-inner t c = let p = err_from_is_err_and c.from_residual-in_err-inner.result c.from_residual-in_err-inner.ensures.1 in rw (p.1, p.2) (search (rules, bracket_err, next_is, bracket_head))

pub bracket-returns-in_err-expect : goal.bracket-returns-in_err-expect
bracket-returns-in_err-expect t c = let p = err_from_is_err_and c.from_residual-in_err-expect.result c.from_residual-in_err-expect.ensures.1 in rw (p.1, p.2) (search (rules, close_err, next_is, bracket_head))

pub bracket-returns-in_err-refuse_operator : goal.bracket-returns-in_err-refuse_operator
bracket-returns-in_err-refuse_operator t c = let p = err_from_is_err_and c.from_residual-in_err-refuse_operator.result c.from_residual-in_err-refuse_operator.ensures.1 in rw (p.1, p.2) (search (rules, bracket_operator, next_is, bracket_head))

pub bracket-returns : goal.bracket-returns
bracket-returns t c = search (rules, read_bracket, next_is, bracket_head)
