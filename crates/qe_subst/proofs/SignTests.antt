-- Which signs the tests of the substituted formulas allow.
use Rattle.std.proofs.Common.{◌≡◌, ◌∙◌, refl, sym, ap, Bool, true, false, not, ◌&&◌, ◌||◌}
use Rattle.qe_ring.specs.Sign.{Sign, Minus, Zero, Plus, is, opposite}
use Rattle.qe_line.specs.Quadratic.{first_sign}
use Rattle.qe_form.specs.declared.signs.Signs.{Signs}
use Rattle.qe_form.specs.Signs.{mirror, equal, not_equal, strict}
use Rattle.qe_form.specs.Truth.{has_sign}
use Rattle.qe_root.proofs.TestFormulas.{or_last}

-- ---- the first of two signs that is not zero

pub near_test : (s : Signs) (x y : Sign) → (has_sign (strict s) x || (has_sign equal x && has_sign s y)) ≡ has_sign s (first_sign x y)
near_test s Minus y = or_last s.minus
near_test s Zero y = refl
near_test s Plus y = or_last s.plus

pub line_test : (s : Signs) (x y : Sign) → (has_sign (mirror (strict s)) x || (has_sign equal x && has_sign s y)) ≡ has_sign s (first_sign (opposite x) y)
line_test s Minus y = or_last s.plus
line_test s Zero y = refl
line_test s Plus y = or_last s.minus

pub quadratic_test : (s : Signs) (x y z : Sign)
    → (has_sign (strict s) x || ((has_sign equal x && has_sign (mirror (strict s)) y) || (has_sign equal x && (has_sign equal y && has_sign s z))))
    ≡ has_sign s (first_sign x (first_sign (opposite y) z))
quadratic_test s Minus y z = or_last s.minus
quadratic_test s Plus y z = or_last s.plus
quadratic_test s Zero Minus z = or_last s.plus
quadratic_test s Zero Zero z = refl
quadratic_test s Zero Plus z = or_last s.minus

-- ---- zero everywhere

pub equal_test : (t : Sign) → has_sign equal t ≡ is t Zero
equal_test Minus = refl
equal_test Zero = refl
equal_test Plus = refl

pub not_equal_test : (t : Sign) → has_sign not_equal t ≡ not (is t Zero)
not_equal_test Minus = refl
not_equal_test Zero = refl
not_equal_test Plus = refl

some_of_three : (a b c : Bool) → (not a || (not b || not c)) ≡ not (a && (b && c))
some_of_three true true c = refl
some_of_three true false c = refl
some_of_three false b c = refl

-- t is zero only where x, y and z are
pub each_zero : (t x y z : Sign) → is t Zero ≡ (is x Zero && (is y Zero && is z Zero)) → (has_sign equal x && (has_sign equal y && has_sign equal z)) ≡ has_sign equal t
each_zero t x y z same =
    (λ i. equal_test x i && (equal_test y i && equal_test z i)) ∙ (sym same ∙ sym (equal_test t))

pub some_not_zero : (t x y z : Sign) → is t Zero ≡ (is x Zero && (is y Zero && is z Zero))
    → (has_sign not_equal x || (has_sign not_equal y || has_sign not_equal z)) ≡ has_sign not_equal t
some_not_zero t x y z same =
    (λ i. not_equal_test x i || (not_equal_test y i || not_equal_test z i))
    ∙ (some_of_three (is x Zero) (is y Zero) (is z Zero) ∙ (ap not (sym same) ∙ sym (not_equal_test t)))

-- below all numbers
pub zero_below : (x y z : Sign) → is (first_sign x (first_sign (opposite y) z)) Zero ≡ (is x Zero && (is y Zero && is z Zero))
zero_below Minus y z = refl
zero_below Plus y z = refl
zero_below Zero Minus z = refl
zero_below Zero Zero z = refl
zero_below Zero Plus z = refl
