use Rattle.std.proofs.Common.{◌*◌, ◌+◌, ◌-◌, ◌^◌, get_or, refl}
use Rattle.std.proofs.Math.Nat.{min-le_right}
use Rattle.qe_token.proofs.Values.{digit_read}
use Rattle.qe_token.proofs.scan.value_of.Goals as goal

pub loop-digit-preserved : goal.loop-digit-preserved
loop-digit-preserved c =
    let digits = c.args.digits.now in
    let value = c.loop-digit.value in
    let i = c.loop-digit.digit-index in
    record {
      value = rw c.grown-value.ensures (digit_read value (2 ^ 127) _ (get_or digits i 0) digits i c.loop-digit-test.true refl c.loop-digit.invariant.value);
      fits = rw c.grown-value.ensures (min-le_right (10 * value + (get_or digits i 0 - 48)) (2 ^ 127));
      digits = c.requires;
    }
