use Rattle.std.proofs.Common.{◌≡◌, ◌+◌, nat_le, true, false, refl, rules, arith}
use Rattle.std.proofs.lemmas.Result.{err_from_is_err_and}
use Rattle.std.proofs.lemmas.Bool.Decides.{nat_tests}
use Rattle.qe_syntax.specs.Code.{term_of}
use Rattle.qe_syntax.specs.Grammar.{with_end}
use Rattle.qe_syntax.proofs.MadeFormula.{made_atom}
use Rattle.qe_syntax.proofs.Atoms.{at_limit, left_term_err, relation_err, right_term_err, read_atom}
use Rattle.qe_syntax.proofs.formula.Parser.atom.Goals as goal

pub returns-then-self-ge-MOST : goal.returns-then-self-ge-MOST
returns-then-self-ge-MOST c =
    let k : nat_le 65536 c.args.self.now.begun ≡ true = grind (arith, nat_tests) in
    search (rules, at_limit)

pub returns-in_err-left : goal.returns-in_err-left
returns-in_err-left c =
    let k : nat_le 65536 c.args.self.now.begun ≡ false = grind (arith, nat_tests) in
    let p = err_from_is_err_and c.from_residual.result c.from_residual.ensures.1 in
    rw (p.1, p.2) (left_term_err c.args.depth c.in_err-left.field-0.0 (with_end c.args.self.now.cursor) (with_end c.term.new.self) c.args.self.now.begun (c.args.self.now.begun + 1) k c.in_err-left.ensures)

pub returns-in_err-place : goal.returns-in_err-place
returns-in_err-place c =
    let k : nat_le 65536 c.args.self.now.begun ≡ false = grind (arith, nat_tests) in
    let p = err_from_is_err_and c.from_residual-in_err-place.result c.from_residual-in_err-place.ensures.1 in
    rw (p.1, p.2) (
    relation_err c.args.depth c.in_err-place.field-0.0 (term_of c.in_ok-left.left) c.args.self.now.cursor c.term.new.self c.relation.new.self c.args.self.now.begun (c.args.self.now.begun + 1)
    k c.in_ok-left.ensures c.in_err-place.ensures
    )

pub returns-in_err-right : goal.returns-in_err-right
returns-in_err-right c =
    let k : nat_le 65536 c.args.self.now.begun ≡ false = grind (arith, nat_tests) in
    let p = err_from_is_err_and c.from_residual-in_err-right.result c.from_residual-in_err-right.ensures.1 in
    rw (p.1, p.2) (
    right_term_err c.args.depth c.in_ok-place.place c.in_ok-place.relation c.in_err-right.field-0.0 (term_of c.in_ok-left.left) (with_end c.args.self.now.cursor) (with_end c.term.new.self) (with_end c.relation.new.self) (with_end c.term-2.new.self) c.args.self.now.begun (c.args.self.now.begun + 1)
    k c.in_ok-left.ensures c.in_ok-place.ensures c.in_err-right.ensures
    )

pub returns : goal.returns
returns c =
    let k : nat_le 65536 c.args.self.now.begun ≡ false = grind (arith, nat_tests) in
    read_atom c.args.depth c.in_ok-place.place c.in_ok-place.relation _ (term_of c.in_ok-left.left) (term_of c.in_ok-right.right) (with_end c.args.self.now.cursor) (with_end c.term.new.self) (with_end c.relation.new.self) (with_end c.term-2.new.self) c.args.self.now.begun (c.args.self.now.begun + 1)
    (made_atom (record { left = c.in_ok-left.left; place = c.in_ok-place.place; relation = c.in_ok-place.relation; right = c.in_ok-right.right })) refl k c.in_ok-left.ensures c.in_ok-place.ensures c.in_ok-right.ensures
