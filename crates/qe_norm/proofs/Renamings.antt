-- Renamings in force: where a variable ends, the point that the formula before them sees, and what atoms keep.
use Rattle.std.proofs.Common.{ℕ, suc, ◌<◌, ◌≤◌, Bool, true, false, cond, eqb, ◌≡◌, ◌≢◌, ◌∙◌, ◌⊎◌, inl, inr, refl, sym, ap, List, [], ◌∷◌, ◌++◌, Some, if◌then◌else◌, arith}
use Rattle.std.proofs.lemmas.Bool.{eqb-true}
use Rattle.qe_tower.specs.Number.{Number, sign_of}
use Rattle.qe_tower.specs.Point.{Point, IsPoint, look_up, or_zero, number_at}
use Rattle.qe_poly.specs.Polynomial.{Polynomial}
use Rattle.qe_poly.specs.Renamed.{renamed}
use Rattle.qe_form.specs.Value.{value}
use Rattle.qe_poly.specs.Occurs.{OccursInSome}
use Rattle.qe_form.proofs.Values.{number_at_valid}
use Rattle.qe_poly.proofs.Occurring.{occurs_nowhere}
use Rattle.qe_form.proofs.Renamed.{occurs_renamed, same_sign}
use Rattle.qe_norm.specs.declared.walk.Renaming.{Renaming}
use Rattle.qe_norm.specs.Numbering.{renamed_by}
use Rattle.qe_norm.proofs.Numbers.{eqb_itself, eqb_apart}

-- ---- where a variable ends

abbrev pub image : List Renaming → ℕ → ℕ
image [] z = z
image (r ∷ rs) z = image rs (cond (eqb r.from.0 z) r.to.0 z)

-- the variable is renamed by one of them
abbrev pub IsSource : ℕ → List Renaming → Type 0
IsSource z [] = ⊥
IsSource z (r ∷ rs) = (r.from.0 ≡ z) ⊎ IsSource z rs

-- the new variables rise from n on, and are below m
abbrev pub Rising : ℕ → List Renaming → ℕ → Type 0
Rising n [] m = n ≤ m
Rising n (r ∷ rs) m = (n ≤ r.to.0) × Rising (suc r.to.0) rs m

pub rising_bounds : (n : ℕ) (rs : List Renaming) (m : ℕ) → Rising n rs m → n ≤ m
rising_bounds n [] m h = h
rising_bounds n (r ∷ rs) m h = let k = rising_bounds (suc r.to.0) rs m h.1 in let l = h.0 in omega arith

pub rising_more : (n : ℕ) (rs : List Renaming) (m k : ℕ) → m ≤ k → Rising n rs m → Rising n rs k
rising_more n [] m k less h = omega arith
rising_more n (r ∷ rs) m k less h = (h.0, rising_more (suc r.to.0) rs m k less h.1)

rising_lower : (n k : ℕ) (rs : List Renaming) (m : ℕ) → n ≤ k → Rising k rs m → Rising n rs m
rising_lower n k [] m less h = omega arith
rising_lower n k (r ∷ rs) m less h = ((let l = h.0 in omega arith), h.1)

pub rising_push : (n : ℕ) (rs : List Renaming) (r : Renaming) (m k : ℕ) → r.to.0 ≡ m → m < k → Rising n rs m → Rising n (rs ++ r ∷ []) k
rising_push n [] r m k is less h = ((let e = is in omega arith), (let e = is in omega arith))
rising_push n (e ∷ rs) r m k is less h = (h.0, rising_push (suc e.to.0) rs r m k is less h.1)

pub source_push : (z : ℕ) (rs : List Renaming) (r : Renaming) → IsSource z (rs ++ r ∷ []) → IsSource z rs ⊎ (r.from.0 ≡ z)
source_push z [] r h = elim h [ inl e ↦ inr e | inr n ↦ absurd n ]
source_push z (e ∷ rs) r h = elim h [ inl k ↦ inl (inl k) | inr k ↦ elim (source_push z rs r k) [ inl l ↦ inl (inr l) | inr l ↦ inr l ] ]

-- it stays, or ends among the new variables
pub image_cases : (n : ℕ) (rs : List Renaming) (m z : ℕ) → Rising n rs m → (image rs z ≡ z) ⊎ (n ≤ image rs z)
image_cases n [] m z h = inl refl
image_cases n (r ∷ rs) m z h =
    elim (eqb r.from.0 z) as (λ b. (image rs (cond b r.to.0 z) ≡ z) ⊎ (n ≤ image rs (cond b r.to.0 z))) [
      | true ↦ inr (elim (image_cases (suc r.to.0) rs m r.to.0 h.1) [ inl e ↦ (let l = h.0 in omega (arith, e)) | inr k ↦ (let l = h.0 in omega (arith, k)) ])
      | false ↦ elim (image_cases (suc r.to.0) rs m z h.1) [ inl e ↦ inl e | inr k ↦ inr (let l = h.0 in omega (arith, k)) ]
    ]

-- a variable that is not renamed stays
pub image_stays : (rs : List Renaming) (z : ℕ) → (IsSource z rs → ⊥) → image rs z ≡ z
image_stays [] z none = refl
image_stays (r ∷ rs) z none =
    ap (λ b. image rs (cond b r.to.0 z)) (eqb_apart r.from.0 z (λ e. none (inl e))) ∙ image_stays rs z (λ s. none (inr s))

pub image_push : (rs : List Renaming) (r : Renaming) (z : ℕ) → image (rs ++ r ∷ []) z ≡ cond (eqb r.from.0 (image rs z)) r.to.0 (image rs z)
image_push [] r z = refl
image_push (e ∷ rs) r z = image_push rs r (cond (eqb e.from.0 z) e.to.0 z)

-- ---- the variables of a polynomial

-- no new variable occurs where it comes in
abbrev Fresh : Polynomial → List Renaming → Type 0
Fresh q [] = Unit {0}
Fresh q (r ∷ rs) = (OccursInSome r.to.0 q → ⊥) × Fresh (renamed r.from r.to q) rs

fresh : (q : Polynomial) (n : ℕ) (rs : List Renaming) (m : ℕ) → Rising n rs m → ((z : ℕ) → OccursInSome z q → z < n) → Fresh q rs
fresh q n [] m h small = tt
fresh q n (r ∷ rs) m h small =
    let none : OccursInSome r.to.0 q → ⊥ = λ o. (let k = small r.to.0 o in let l = h.0 in omega arith) in (
      none,
      fresh (renamed r.from r.to q) (suc r.to.0) rs m h.1 (λ z o.
          elim (occurs_renamed r.from r.to z q (occurs_nowhere r.to.0 q none) o) [ inl k ↦ (let e = k.0 in omega arith) | inr k ↦ (let l = small z k.1 in let u = h.0 in omega arith) ]),
    )

-- each variable that occurs comes from one that occurred
pub occurs_from : (q : Polynomial) (n : ℕ) (rs : List Renaming) (m : ℕ) → Rising n rs m → ((z : ℕ) → OccursInSome z q → z < n) → (z : ℕ) → OccursInSome z (renamed_by rs q) → (u : ℕ) × OccursInSome u q × (z ≡ image rs u)
occurs_from q n rs m rising small z o = from q rs (fresh q n rs m rising small) z o
  where
    from : (q : Polynomial) (rs : List Renaming) → Fresh q rs → (z : ℕ) → OccursInSome z (renamed_by rs q) → (u : ℕ) × OccursInSome u q × (z ≡ image rs u)
    from q [] new z o = (z, o, refl)
    from q (r ∷ rs) new z o =
        let h = from (renamed r.from r.to q) rs new.1 z o in
        elim (occurs_renamed r.from r.to h.0 q (occurs_nowhere r.to.0 q new.0) h.1) [
          | inl k ↦ (r.from.0, k.1, h.2 ∙ (ap (image rs) k.0 ∙ ap (λ b. image rs (cond b r.to.0 r.from.0)) (sym (eqb_itself r.from.0))))
          | inr k ↦ (h.0, k.1, h.2 ∙ ap (λ b. image rs (cond b r.to.0 h.0)) (sym (eqb_apart r.from.0 h.0 (λ e. k.0 (sym e)))))
        ]

-- ---- the point that is seen

-- each variable that is renamed counts as its new one
abbrev pub seen : List Renaming → Point → Point
seen [] p = p
seen (r ∷ rs) p = (r.from.0, number_at (seen rs p) r.to.0) ∷ seen rs p

pub seen_valid : (rs : List Renaming) (p : Point) → IsPoint p → IsPoint (seen rs p)
seen_valid [] p valid = valid
seen_valid (r ∷ rs) p valid = let rest = seen_valid rs p valid in (number_at_valid (seen rs p) rest r.to.0, rest)

pub seen_push : (rs : List Renaming) (r : Renaming) (p : Point) → seen (rs ++ r ∷ []) p ≡ seen rs ((r.from.0, number_at p r.to.0) ∷ p)
seen_push [] r p = refl
seen_push (e ∷ rs) r p = ap (λ q. (e.from.0, number_at q e.to.0) ∷ q) (seen_push rs r p)

-- the number with one more variable
abbrev pub with_one : ℕ → Number → Number → ℕ → Number
with_one y v w z = cond (eqb y z) v w

one_more : (y : ℕ) (v : Number) (p : Point) (z : ℕ) → number_at ((y, v) ∷ p) z ≡ with_one y v (number_at p z) z
one_more y v p z = elim (eqb y z) as (λ b. or_zero (if b then Some v else look_up p z) ≡ cond b v (or_zero (look_up p z))) [ true ↦ refl | false ↦ refl ]

-- neither renamed nor new
abbrev pub Avoids : ℕ → List Renaming → Type 0
Avoids y [] = Unit {0}
Avoids y (r ∷ rs) = (y ≢ r.from.0) × (y ≢ r.to.0) × Avoids y rs

-- a variable that the renamings do not touch is seen as it is
pub seen_other : (rs : List Renaming) (y : ℕ) (v : Number) (p : Point) → Avoids y rs → (z : ℕ) → number_at (seen rs ((y, v) ∷ p)) z ≡ with_one y v (number_at (seen rs p) z) z
seen_other [] y v p other z = one_more y v p z
seen_other (r ∷ rs) y v p other z = by_test (seen_other rs y v p other.2) (eqb r.from.0 z) refl
  where
    by_test : ((z : ℕ) → number_at (seen rs ((y, v) ∷ p)) z ≡ with_one y v (number_at (seen rs p) z) z) → (b : Bool) → eqb r.from.0 z ≡ b
        → or_zero (if b then Some (number_at (seen rs ((y, v) ∷ p)) r.to.0) else look_up (seen rs ((y, v) ∷ p)) z)
        ≡ with_one y v (or_zero (if b then Some (number_at (seen rs p) r.to.0) else look_up (seen rs p) z)) z
    by_test again true same =
        again r.to.0
        ∙ (ap (λ c. cond c v (number_at (seen rs p) r.to.0)) (eqb_apart y r.to.0 other.1)
        ∙ ap (λ c. cond c v (number_at (seen rs p) r.to.0)) (sym (eqb_apart y z (λ e. other.0 (e ∙ sym (eqb-true r.from.0 z same))))))
    by_test again false apart = again z

-- what stands above all is not touched
pub avoids_above : (n : ℕ) (rs : List Renaming) (m y : ℕ) → Rising n rs m → m ≤ y → ((z : ℕ) → IsSource z rs → z < y) → Avoids y rs
avoids_above n [] m y h less small = tt
avoids_above n (r ∷ rs) m y h less small = (
  λ e. (let k = small r.from.0 (inl refl) in let d = e in omega arith),
  λ e. (let k = rising_bounds (suc r.to.0) rs m h.1 in let d = e in omega arith),
  avoids_above (suc r.to.0) rs m y h.1 less (λ z s. small z (inr s)),
)

-- what stands below the new ones and is not renamed is not touched
pub avoids_below : (n : ℕ) (rs : List Renaming) (m y : ℕ) → Rising n rs m → y < n → (IsSource y rs → ⊥) → Avoids y rs
avoids_below n [] m y h less none = tt
avoids_below n (r ∷ rs) m y h less none = (
  λ e. none (inl (sym e)),
  λ e. (let k = h.0 in let d = e in omega arith),
  avoids_below (suc r.to.0) rs m y h.1 (let k = h.0 in omega arith) (λ s. none (inr s)),
)

-- ---- atoms

-- the sign of a renamed polynomial is that of the polynomial where it is seen
pub seen_sign : (q : Polynomial) (n : ℕ) (rs : List Renaming) (m : ℕ) → Rising n rs m → ((z : ℕ) → OccursInSome z q → z < n) → (p : Point) → IsPoint p → sign_of (value (renamed_by rs q) p) ≡ sign_of (value q (seen rs p))
seen_sign q n rs m rising small p valid = go q rs (fresh q n rs m rising small)
  where
    go : (q : Polynomial) (rs : List Renaming) → Fresh q rs → sign_of (value (renamed_by rs q) p) ≡ sign_of (value q (seen rs p))
    go q [] new = refl
    go q (r ∷ rs) new = go (renamed r.from r.to q) rs new.1 ∙ same_sign r.from r.to q (seen rs p) (seen_valid rs p valid) (occurs_nowhere r.to.0 q new.0)
