-- The bytes of a token, and its first ones.
use Rattle.std.proofs.Common.{ℕ, ◌≡◌, ◌⊎◌, inl, inr, ◌∙◌, sym, refl, Bool, true, false, ◌&&◌, ◌||◌, List, [], ◌∷◌, ◌++◌}
use Rattle.std.proofs.lemmas.Bool.{and_parts, and_from, or_cases, or_right, eqb-true}
use Rattle.std.proofs.lemmas.List.Folds.{list_all-append}
use Rattle.std.specs.Prelude.{IsTrue, ◌==◌, codes}
use Rattle.std.specs.List.{list_all}
use Rattle.qe_token.specs.Bytes.{is_blank}
use Rattle.qe_token.specs.Tokens.{extends, makes_relation, goes_on}
use Rattle.qe_token.specs.Scanning.{IsRun}

-- a relation of two bytes
abbrev pub IsPair : List ℕ → Type 0
IsPair word = (word ≡ codes "<=") ⊎ (word ≡ codes "<>") ⊎ (word ≡ codes ">=")

pub run_begins : (b : ℕ) → is_blank b ≡ false → IsRun (b ∷ [])
run_begins b h = (h, inl refl)

pair_first : (a : ℕ) (more : List ℕ) → IsPair (a ∷ more) → (a ≡ 60) ⊎ (a ≡ 62)
pair_first a more (inl e) = inl cc
pair_first a more (inr (inl e)) = inl cc
pair_first a more (inr (inr e)) = inr cc

sign_extends : (a b : ℕ) → (a ≡ 60) ⊎ (a ≡ 62) → extends a b ≡ false
sign_extends a b (inl e) = rw e refl
sign_extends a b (inr e) = rw e refl

-- no letter and no digit begins a relation
pub no_pair : (a b : ℕ) (more : List ℕ) → IsPair (a ∷ more) → extends a b ≡ true → ⊥
no_pair a b more p e = let k = sign_extends a b (pair_first a more p) in absurd (cc)

all_last : (p : ℕ → Bool) (xs : List ℕ) (b : ℕ) → IsTrue (list_all p xs) → p b ≡ true → IsTrue (list_all p (xs ++ b ∷ []))
all_last p xs b h k = list_all-append p xs (b ∷ []) ∙ and_from (list_all p xs) (p b && true) h (and_from (p b) true k refl)

two_by_sign : (a b : ℕ) → ((a == 60) && (b == 61 || b == 62) ≡ true) ⊎ ((a == 62) && (b == 61) ≡ true) → IsPair (a ∷ b ∷ [])
two_by_sign a b (inl h) =
    let parts = and_parts (a == 60) (b == 61 || b == 62) h in
    let first = eqb-true a 60 parts.0 in
    by_second (or_cases (b == 61) (b == 62) parts.1) first
  where
    by_second : ((b == 61) ≡ true) ⊎ ((b == 62) ≡ true) → a ≡ 60 → IsPair (a ∷ b ∷ [])
    by_second (inl k) e = inl (rw (e, eqb-true b 61 k) refl)
    by_second (inr k) e = inr (inl (rw (e, eqb-true b 62 k) refl))
two_by_sign a b (inr h) = let parts = and_parts (a == 62) (b == 61) h in inr (inr (rw (eqb-true a 62 parts.0, eqb-true b 61 parts.1) refl))

two : (a b : ℕ) → (makes_relation a b ≡ true) ⊎ (extends a b ≡ true) → IsTrue (list_all (extends a) (b ∷ [])) ⊎ IsPair (a ∷ b ∷ [])
two a b (inl h) = inr (two_by_sign a b (or_cases ((a == 60) && (b == 61 || b == 62)) ((a == 62) && (b == 61)) h))
two a b (inr h) = inl (and_from (extends a b) true h refl)

more_of : (a b c : ℕ) (word : List ℕ) → IsTrue (list_all (extends a) (c ∷ word)) ⊎ IsPair (a ∷ c ∷ word) → extends a b ≡ true → IsTrue (list_all (extends a) (c ∷ (word ++ b ∷ []))) ⊎ IsPair (a ∷ c ∷ (word ++ b ∷ []))
more_of a b c word (inl h) g = inl (all_last (extends a) (c ∷ word) b h g)
more_of a b c word (inr h) g = absurd (no_pair a b (c ∷ word) h g)

-- a byte that makes the token longer
pub run_grows : (word : List ℕ) (b : ℕ) → IsRun word → goes_on word b ≡ true → IsRun (word ++ b ∷ [])
run_grows [] b r g = absurd cc
run_grows (a ∷ []) b r g = (r.0, two a b (or_cases (makes_relation a b) (extends a b) g))
run_grows (a ∷ c ∷ word) b r g = (r.0, more_of a b c word r.1 g)

all_at : (p : ℕ → Bool) (xs : List ℕ) (b : ℕ) (ys : List ℕ) → IsTrue (list_all p (xs ++ b ∷ ys)) → p b ≡ true
all_at p xs b ys h =
    let split = and_parts (list_all p xs) (list_all p (b ∷ ys)) (sym (list_all-append p xs (b ∷ ys)) ∙ h) in
    (and_parts (p b) (list_all p ys) split.1).0

goes_by_extends : (a : ℕ) (word : List ℕ) (b : ℕ) → extends a b ≡ true → goes_on (a ∷ word) b ≡ true
goes_by_extends a [] b h = or_right (makes_relation a b) (extends a b) h
goes_by_extends a (c ∷ word) b h = h

pair_goes : (a b : ℕ) (more : List ℕ) → IsPair (a ∷ b ∷ more) → goes_on (a ∷ []) b ≡ true
pair_goes a b more (inl e) = let first : a ≡ 60 = cc in let second : b ≡ 61 = cc in rw (first, second) refl
pair_goes a b more (inr (inl e)) = let first : a ≡ 60 = cc in let second : b ≡ 62 = cc in rw (first, second) refl
pair_goes a b more (inr (inr e)) = let first : a ≡ 62 = cc in let second : b ≡ 61 = cc in rw (first, second) refl

not_empty : (xs : List ℕ) (b : ℕ) (ys : List ℕ) → xs ++ b ∷ ys ≡ [] → ⊥
not_empty [] b ys e = absurd cc
not_empty (x ∷ xs) b ys e = absurd cc

pair_is_two : (a c b : ℕ) (word more : List ℕ) → IsPair (a ∷ c ∷ (word ++ b ∷ more)) → ⊥
pair_is_two a c b word more (inl e) = not_empty word b more cc
pair_is_two a c b word more (inr (inl e)) = not_empty word b more cc
pair_is_two a c b word more (inr (inr e)) = not_empty word b more cc

goes_by : (a : ℕ) (word : List ℕ) (b : ℕ) (more : List ℕ) → IsTrue (list_all (extends a) (word ++ b ∷ more)) ⊎ IsPair (a ∷ (word ++ b ∷ more)) → goes_on (a ∷ word) b ≡ true
goes_by a word b more (inl h) = goes_by_extends a word b (all_at (extends a) word b more h)
goes_by a [] b more (inr h) = pair_goes a b more h
goes_by a (c ∷ word) b more (inr h) = absurd (pair_is_two a c b word more h)

-- each byte of a token makes the one that ends before it longer
pub run_goes_on : (a : ℕ) (word : List ℕ) (b : ℕ) (more : List ℕ) → IsRun (a ∷ (word ++ b ∷ more)) → goes_on (a ∷ word) b ≡ true
run_goes_on a word b more r = goes_by a word b more r.1
