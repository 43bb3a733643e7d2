-- How many begin in a text without a fault; and texts that are to have none.
use Rattle.std.proofs.Common.{ℕ, ◌≡◌, ◌<◌, ◌≤◌, Bool, true, false, List, [], ◌∷◌, arith, refl}
use Rattle.std.proofs.lemmas.Bool.Decides.{nat_tests}
use Rattle.qe_syntax.specs.Grammar.{Occurrence}
use Rattle.qe_syntax.specs.Faults.{is_wide, is_high_exponent, is_deep, counted}
use Rattle.qe_syntax.specs.Reading.{IsClean}
use Rattle.qe_syntax.proofs.Clean.{AllFit, is_full, none_of, of_none}
use Rattle.qe_roundtrip.specs.Laws.{AreShallow}
use Rattle.qe_roundtrip.proofs.Begun.{one_if}

not_full : (b : Bool) (k : ℕ) → is_full b k ≡ false → k ≤ 65536 → one_if b k ≤ 65536
not_full true k h l = let f : k < 65536 = grind (arith, nat_tests) in omega arith
not_full false k h l = l

pub clean_most : (begun : ℕ) (ms : List Occurrence) → IsClean begun ms → begun ≤ 65536 → counted begun ms ≤ 65536
clean_most begun [] h l = l
clean_most begun (m ∷ ms) h l =
    let n = none_of (is_wide m.token m.role) (is_high_exponent m.token m.role) (is_deep m.opens) (is_full m.begins begun) h.0 in
    clean_most (one_if m.begins begun) ms h.1 (not_full m.begins begun n.many l)

grown : (b : Bool) (k : ℕ) → k ≤ one_if b k
grown true k = omega arith
grown false k = omega arith

counts_up : (begun : ℕ) (ms : List Occurrence) → begun ≤ counted begun ms
counts_up begun [] = omega arith
counts_up begun (m ∷ ms) = omega (arith, grown m.begins begun, counts_up (one_if m.begins begun) ms)

room : (b : Bool) (k : ℕ) → one_if b k ≤ 65536 → is_full b k ≡ false
room true k l = let f : k < 65536 = omega arith in grind (arith, nat_tests)
room false k l = refl

pub clean_from : (begun : ℕ) (ms : List Occurrence) → AllFit ms → AreShallow ms → counted begun ms ≤ 65536 → IsClean begun ms
clean_from begun [] f s l = tt
clean_from begun (m ∷ ms) f s l =
    let most : one_if m.begins begun ≤ 65536 = omega (arith, counts_up (one_if m.begins begun) ms, l) in (
      of_none (is_wide m.token m.role) (is_high_exponent m.token m.role) (is_deep m.opens) (is_full m.begins begun) f.0.0 f.0.1 s.0 (room m.begins begun most),
      clean_from (one_if m.begins begun) ms f.1 s.1 l,
    )
