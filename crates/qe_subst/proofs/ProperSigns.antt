-- Sets of signs that are neither empty nor full.
use Rattle.std.proofs.Common.{◌≡◌, Bool, true, false, lit<}
use Rattle.qe_form.specs.declared.signs.Signs.{Signs}
use Rattle.qe_form.specs.Signs.{IsProper, mirror, equal, is_even, strict}

-- the signs of an inequality without zero, and their mirror
both_proper : (minus zero plus : Bool) → is_even (record { minus = minus; zero = zero; plus = plus }) ≡ false
    → IsProper (record { minus = minus; zero = false; plus = plus }) × IsProper (record { minus = plus; zero = false; plus = minus })
both_proper true zero true uneven = absurd (cc)
both_proper true zero false uneven = ((lit< tt, lit< tt), (lit< tt, lit< tt))
both_proper false zero true uneven = ((lit< tt, lit< tt), (lit< tt, lit< tt))
both_proper false zero false uneven = absurd (cc)

pub strict_proper : (s : Signs) → is_even s ≡ false → IsProper (strict s)
strict_proper s uneven = (both_proper s.minus s.zero s.plus uneven).0

pub mirror_proper : (s : Signs) → is_even s ≡ false → IsProper (mirror (strict s))
mirror_proper s uneven = (both_proper s.minus s.zero s.plus uneven).1

pub equal_proper : IsProper equal
equal_proper = (lit< tt, lit< tt)
