use Rattle.std.proofs.Common.{◌≡◌, ◌≤◌, ◌^◌, min, drop}
use Rattle.std.specs.Prelude.{IsTrue}
use Rattle.std.specs.List.{list_all}
use Rattle.qe_token.specs.Bytes.{is_digit, number_of}
use Rattle.qe_token.proofs.Values.{digits_from}
use Rattle.qe_token.proofs.scan.value_of.Given as goal

abbrev pub invariant-loop-digit : goal.invariant-loop-digit
invariant-loop-digit l = record {
  value : min (digits_from l.value (drop l.digit-index l.digits)) (2 ^ 127) ≡ min (number_of l.digits) (2 ^ 127);
  fits : l.value ≤ 2 ^ 127;
  digits : IsTrue (list_all is_digit l.digits);
}
