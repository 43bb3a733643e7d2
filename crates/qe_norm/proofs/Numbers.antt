-- The test whether two numbers are equal.
use Rattle.std.proofs.Common.{ℕ, true, false, eqb, ◌≡◌, ◌≢◌, arith}
use Rattle.std.proofs.lemmas.Bool.Decides.{nat_tests}

pub eqb_itself : (i : ℕ) → eqb i i ≡ true
eqb_itself i = grind (arith, nat_tests)

pub eqb_apart : (i j : ℕ) → i ≢ j → eqb i j ≡ false
eqb_apart i j apart = grind (arith, nat_tests)

pub apart_from : (i j : ℕ) → eqb i j ≡ false → i ≢ j
apart_from i j test same = grind (arith, nat_tests)
