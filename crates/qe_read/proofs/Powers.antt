-- One more factor of a power.
use Rattle.std.proofs.Common.{ℕ, suc, ◌+◌, ◌-◌, ◌≡◌, ◌<◌, arith, Ok, refl}
use Rattle.qe_poly.specs.Polynomial.{Polynomial}
use Rattle.qe_read.specs.Value.{repeated, multiplied}

pub repeated_once : (p : ℕ) (a b c : Polynomial) (n turn : ℕ) → turn < n → multiplied p b a ≡ Ok c → repeated p a (n - turn) b ≡ repeated p a (n - (turn + 1)) c
repeated_once p a b c n turn h e =
    let s : n - turn ≡ suc (n - (turn + 1)) = omega arith in
    rw s (rw e refl)
