use Rattle.std.proofs.Common.{◌≡◌, Some, rules, map}
use Rattle.std.proofs.lemmas.Result.{err_from_is_err_and}
use Rattle.qe_syntax.specs.Code.{term_of, addend_of, factor_of}
use Rattle.qe_syntax.specs.Grammar.{with_end, plus_or_minus}
use Rattle.qe_syntax.specs.Faults.{head}
use Rattle.qe_token.specs.declared.token.Token.TheVariants as token
use Rattle.qe_syntax.proofs.Made.{pushed_addend, pushed_factor, made_number, made_name, made_negative, made_power}
use Rattle.qe_syntax.proofs.Terms.{next_is, sign_head, star_head, caret_head, number_head, name_head, parenthesis_head, power_ends, shorter, term_first_err, term_turn_err, term_turn, term_end, sum_ends, product_first_err, product_turn_err, product_turn, product_end, product_ends, negative_err, negative_deep, read_negative, falls_through, base_err, read_base, exponent_err, read_power, second_caret, no_primary, number_wide, group_deep, group_err, close_err, read_number, read_name, read_group}
use Rattle.qe_syntax.proofs.cursor.Cursor.+term.Goals as goal

pub power-returns-in_err-base : goal.power-returns-in_err-base
power-returns-in_err-base t c = let p = err_from_is_err_and c.from_residual.result c.from_residual.ensures.1 in rw (p.1, p.2) (search (rules, base_err))

pub power-returns-in_default : goal.power-returns-in_default
power-returns-in_default t c = search (rules, read_base, power_ends)

pub power-returns-in_err-exponent : goal.power-returns-in_err-exponent
power-returns-in_err-exponent t c = let p = err_from_is_err_and c.from_residual-in_err-exponent.result c.from_residual-in_err-exponent.ensures.1 in rw (p.1, p.2) (search (rules, exponent_err, next_is, caret_head))

pub power-returns : goal.power-returns
power-returns t c = search (rules, made_power, read_power, next_is, caret_head, power_ends)

pub power-returns-then-is_some : goal.power-returns-then-is_some
power-returns-then-is_some t c = search (rules, second_caret, next_is, caret_head)

pub primary-returns-then-not-is_parenthesis : goal.primary-returns-then-not-is_parenthesis
primary-returns-then-not-is_parenthesis t c = search (rules, no_primary)

pub product-returns-in_err-first : goal.product-returns-in_err-first
product-returns-in_err-first t c = let p = err_from_is_err_and c.from_residual.result c.from_residual.ensures.1 in rw (p.1, p.2) (search (rules, product_first_err))

pub product-times-smaller : goal.product-times-smaller
product-times-smaller t c = search (rules, shorter)

pub product-times-preserved : goal.product-times-preserved
product-times-preserved t c =
    let h : head c.times.self ≡ Some (token.Star c.in-Some.place) = search (rules, star_head) in
    let m = next_is c.times.self c.advance.new.self (token.Star c.in-Some.place) c.advance.ensures.rest h in
    product_turn c.args.depth c.in-Some.place _ (term_of c.in_ok-term.term) (map factor_of c.times.factors) (map factor_of c.push.new.self) _ (with_end c.times.self) (with_end c.advance.new.self) _ m
    (pushed_factor c.times.factors c.push.new.self c.in-Some.place c.in_ok-term.term c.in_ok-push.ensures.ok) c.times.invariant c.in_ok-term.ensures

pub product-returns : goal.product-returns
product-returns t c = search (rules, product_end, product_ends)

pub term-returns-in_err-first : goal.term-returns-in_err-first
term-returns-in_err-first t c = let p = err_from_is_err_and c.from_residual.result c.from_residual.ensures.1 in rw (p.1, p.2) (search (rules, term_first_err))

pub term-returns-in_err-term : goal.term-returns-in_err-term
term-returns-in_err-term t c =
    let p = err_from_is_err_and c.from_residual-in_err-term.result c.from_residual-in_err-term.ensures.1 in
    let h : head c.sums.self ≡ Some (plus_or_minus c.in-Some.place c.in-Some.minus) = search (rules, sign_head) in
    let m = next_is c.sums.self c.advance.new.self (plus_or_minus c.in-Some.place c.in-Some.minus) c.advance.ensures.rest h in
    rw (p.1, p.2) (term_turn_err c.args.depth c.in-Some.place c.in-Some.minus c.in_err-term.field-0.0 _ _ _ (with_end c.sums.self) (with_end c.advance.new.self) _ m c.sums.invariant c.in_err-term.ensures)

pub product-returns-in_err-term : goal.product-returns-in_err-term
product-returns-in_err-term t c =
    let p = err_from_is_err_and c.from_residual-in_err-term.result c.from_residual-in_err-term.ensures.1 in
    let h : head c.times.self ≡ Some (token.Star c.in-Some.place) = search (rules, star_head) in
    let m = next_is c.times.self c.advance.new.self (token.Star c.in-Some.place) c.advance.ensures.rest h in
    rw (p.1, p.2) (product_turn_err c.args.depth c.in-Some.place c.in_err-term.field-0.0 _ _ _ (with_end c.times.self) (with_end c.advance.new.self) _ m c.times.invariant c.in_err-term.ensures)

pub term-sums-smaller : goal.term-sums-smaller
term-sums-smaller t c = search (rules, shorter)

pub term-sums-preserved : goal.term-sums-preserved
term-sums-preserved t c =
    let h : head c.sums.self ≡ Some (plus_or_minus c.in-Some.place c.in-Some.minus) = search (rules, sign_head) in
    let m = next_is c.sums.self c.advance.new.self (plus_or_minus c.in-Some.place c.in-Some.minus) c.advance.ensures.rest h in
    term_turn c.args.depth c.in-Some.place c.in-Some.minus _ (term_of c.in_ok-term.term) (map addend_of c.sums.addends) (map addend_of c.push.new.self) _ (with_end c.sums.self) (with_end c.advance.new.self) _ m
    (pushed_addend c.sums.addends c.push.new.self c.in-Some.place c.in-Some.minus c.in_ok-term.term c.in_ok-push.ensures.ok) c.sums.invariant c.in_ok-term.ensures

pub term-returns : goal.term-returns
term-returns t c = search (rules, term_end, sum_ends)

pub signed-returns-then-not-is_minus : goal.signed-returns-then-not-is_minus
signed-returns-then-not-is_minus t c = search (rules, falls_through)

pub signed-returns-in_err-check_level : goal.signed-returns-in_err-check_level
signed-returns-in_err-check_level t c = let p = err_from_is_err_and c.from_residual.result c.from_residual.ensures.1 in rw (p.1, p.2) (search (rules, negative_deep))

pub signed-returns-in_err-inner : goal.signed-returns-in_err-inner
signed-returns-in_err-inner t c = let p = err_from_is_err_and c.from_residual-in_err-inner.result c.from_residual-in_err-inner.ensures.1 in rw (p.1, p.2) (search (rules, negative_err))

pub signed-returns : goal.signed-returns
signed-returns t c = search (rules, made_negative, read_negative)

pub primary-returns-in_err-check_number : goal.primary-returns-in_err-check_number
primary-returns-in_err-check_number t c = let p = err_from_is_err_and c.from_residual.result c.from_residual.ensures.1 in rw (p.1, p.2) (search (rules, number_wide, number_head))

pub primary-returns-in-Some : goal.primary-returns-in-Some
primary-returns-in-Some t c = search (rules, made_number, read_number, next_is, number_head)

pub primary-returns-in-Some-name : goal.primary-returns-in-Some-name
primary-returns-in-Some-name t c = search (rules, made_name, read_name, next_is, name_head)

pub primary-returns-in_err-check_level : goal.primary-returns-in_err-check_level
primary-returns-in_err-check_level t c = let p = err_from_is_err_and c.from_residual-in_err-check_level.result c.from_residual-in_err-check_level.ensures.1 in rw (p.1, p.2) (search (rules, group_deep, parenthesis_head))

pub primary-returns-in_err-inner : goal.primary-returns-in_err-inner
primary-returns-in_err-inner t c = let p = err_from_is_err_and c.from_residual-in_err-inner.result c.from_residual-in_err-inner.ensures.1 in rw (p.1, p.2) (search (rules, group_err, next_is, parenthesis_head))

pub primary-returns-in_err-expect : goal.primary-returns-in_err-expect
primary-returns-in_err-expect t c = let p = err_from_is_err_and c.from_residual-in_err-expect.result c.from_residual-in_err-expect.ensures.1 in rw (p.1, p.2) (search (rules, close_err, next_is, parenthesis_head))

pub primary-returns : goal.primary-returns
primary-returns t c = search (rules, read_group, next_is, parenthesis_head)
