-- A value that stops at a limit.
use Rattle.std.proofs.Common.{ℕ, ◌+◌, ◌-◌, ◌*◌, ◌<◌, ◌≤◌, ◌≡◌, ◌⊎◌, inl, inr, ◌∙◌, subst, add-one, Bool, true, List, [], ◌∷◌, length, get_or, drop, min, sym, ap, arith, zero, suc}
use Rattle.std.proofs.Math.Nat.{min-eq_left, min-eq_right}
use Rattle.std.proofs.Math.Seq.{drop-cons}
use Rattle.std.proofs.lemmas.Bool.{and_parts, cases_lt}
use Rattle.std.specs.Prelude.{fold, IsTrue}
use Rattle.std.specs.List.{list_all}

-- the number of digits that come after those of n
abbrev pub digits_from : ℕ → List ℕ → ℕ
digits_from n ds = fold (λ n d. 10 * n + (d - 48)) n ds

grows : (n m : ℕ) (ds : List ℕ) → n ≤ m → n ≤ digits_from m ds
grows n m [] h = h
grows n m (d ∷ ds) h = grows n (10 * m + (d - 48)) ds (omega arith)

stops_by : (n limit : ℕ) (ds : List ℕ) → (limit < n) ⊎ (n ≤ limit) → min (digits_from (min n limit) ds) limit ≡ min (digits_from n ds) limit
stops_by n limit ds (inr h) = ap (λ m. min (digits_from m ds) limit) (min-eq_left h)
stops_by n limit ds (inl h) =
    let le : limit ≤ n = omega arith in
    let least : min n limit ≡ limit = min-eq_right le in
    let here : limit ≤ digits_from (min n limit) ds = grows limit (min n limit) ds (omega (arith, least)) in
    min-eq_right here ∙ sym (min-eq_right (grows limit n ds le))

-- where the value stops, so does the number
pub stops : (n limit : ℕ) (ds : List ℕ) → min (digits_from (min n limit) ds) limit ≡ min (digits_from n ds) limit
stops n limit ds = stops_by n limit ds (cases_lt limit n)

-- one digit is read
pub digit_read : (value limit total digit : ℕ) (ds : List ℕ) (i : ℕ) → i < length ds → digit ≡ get_or ds i 0 → min (digits_from value (drop i ds)) limit ≡ total → min (digits_from (min (10 * value + (digit - 48)) limit) (drop (i + 1) ds)) limit ≡ total
digit_read value limit total digit ds i h e t =
    let front : drop i ds ≡ digit ∷ drop (i + 1) ds = rw (e, add-one) (drop-cons ds i 0 h) in
    stops (10 * value + (digit - 48)) limit (drop (i + 1) ds) ∙ subst (λ l. min (digits_from value l) limit ≡ total) front t

pub digit_at : (test : ℕ → Bool) (ds : List ℕ) (i : ℕ) → i < length ds → IsTrue (list_all test ds) → test (get_or ds i 0) ≡ true
digit_at test [] i h k = absurd (omega arith)
digit_at test (d ∷ ds) zero h k = (and_parts (test d) (list_all test ds) k).0
digit_at test (d ∷ ds) (suc i) h k = digit_at test ds i (omega arith) ((and_parts (test d) (list_all test ds) k).1)
