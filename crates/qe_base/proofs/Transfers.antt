-- How what a sink took, and what a source has left, changes over several calls.
use Rattle.std.proofs.Common.{◌≡◌, ◌+◌, ℕ, List, ◌++◌, take, drop, sym, ap, ◌∙◌, append_assoc, length, take-append-drop, take_all, arith}
use Rattle.std.proofs.lemmas.List.{take-append-le, drop-drop}
use Rattle.std.specs.Io.KnownBytes.{Appends, Consumes}
use Rattle.std.proofs.KnownBytes.{Appends-trans, Consumes-trans}
use Rattle.std.specs.declared.option.Option.{Option}
use Rattle.qe_base.specs.Source.{LosesFront}
use Rattle.qe_base.specs.Sink.{AppendsUpTo}

-- the first n bytes of the rest were appended too
pub AppendsUpTo-more : (a b c : Option (List ℕ)) (bytes rest : List ℕ) (n : ℕ) → AppendsUpTo a b bytes rest → Appends b c (take n rest)
    → AppendsUpTo a c bytes (drop n rest)
AppendsUpTo-more a b c bytes rest n before more = record {
  front = before.front ++ take n rest;
  parts = before.parts ∙ ap (λ l. before.front ++ l) (sym (take-append-drop n rest)) ∙ sym (append_assoc before.front (take n rest) (drop n rest));
  grown = Appends-trans a b c before.front (take n rest) before.grown more;
}

-- bytes were taken, and then more of them
pub LosesFront-after : (a b c : Option (List ℕ)) (bytes : List ℕ) → Consumes a b bytes → LosesFront b c → LosesFront a c
LosesFront-after a b c bytes before more = record { taken = bytes ++ more.taken; front = Consumes-trans a b c bytes more.taken before more.front }

-- the bytes that were copied to the front of a buffer, and the bytes behind them, are what was left
pub copied_front : (bytes out left new : List ℕ) (at n : ℕ) → left ≡ drop at bytes → new ≡ take n left → length new ≡ n
    → left ≡ take n (new ++ drop n out) ++ drop (at + n) bytes
copied_front bytes out left new at n is_left copied size =
    let front : take n (new ++ drop n out) ≡ take n left = take-append-le n new (drop n out) (omega arith) ∙ take_all n new (omega arith) ∙ copied in
    let back : drop n left ≡ drop (at + n) bytes = ap (drop n) is_left ∙ drop-drop n at bytes in
    sym (take-append-drop n left) ∙ ap (λ l. l ++ drop n left) (sym front) ∙ ap (λ l. take n (new ++ drop n out) ++ l) back
