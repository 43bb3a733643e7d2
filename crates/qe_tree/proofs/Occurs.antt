-- Which of the variables of a list are left in a formula.
use Rattle.std.proofs.Common.{ℕ, ◌≡◌, ◌≢◌, ◌∙◌, sym, ap, refl, ◌<◌, ◌≤◌, ◌⊎◌, inl, inr, Bool, true, false, cond, List, [], ◌∷◌, length, filter, arith}
use Rattle.std.proofs.lemmas.Bool.Decides.{eqb_tells}
use Rattle.qe_form.specs.Formula.{Formula}
use Rattle.qe_form.specs.Measures.{Has, occurs}
use Rattle.qe_form.proofs.Occurring.{occurs_is_has}
use Rattle.qe_tree.specs.Variables.{remaining}
use Rattle.qe_tree.specs.Sound.{IsIn}

-- ---- the elements of a list that pass a test

pub filter_in : (p : ℕ → Bool) (x : ℕ) (xs : List ℕ) → IsIn x xs → p x ≡ true → IsIn x (filter p xs)
filter_in p x [] h test = absurd h
filter_in p x (y ∷ ys) h test = elim (p y) as (λ b. p y ≡ b → IsIn x (cond b (y ∷ filter p ys) (filter p ys))) [
  | true ↦ λ e. elim h [ inl same ↦ inl same | inr later ↦ inr (filter_in p x ys later test) ]
  | false ↦ λ e. elim h [ inl same ↦ absurd (let apart = sym test ∙ (ap p same ∙ e) in cc) | inr later ↦ filter_in p x ys later test ]
] refl

pub in_filter : (p : ℕ → Bool) (x : ℕ) (xs : List ℕ) → IsIn x (filter p xs) → IsIn x xs × (p x ≡ true)
in_filter p x [] = λ h. absurd h
in_filter p x (y ∷ ys) = elim (p y) as (λ b. p y ≡ b → IsIn x (cond b (y ∷ filter p ys) (filter p ys)) → IsIn x (y ∷ ys) × (p x ≡ true)) [
  | true ↦ λ e h. elim h [ inl same ↦ (inl same, ap p same ∙ e) | inr later ↦ let w = in_filter p x ys later in (inr w.0, w.1) ]
  | false ↦ λ e h. let w = in_filter p x ys h in (inr w.0, w.1)
] refl

-- what passes the one test passes the other
abbrev pub Implied : (p q : ℕ → Bool) → Type 0
Implied p q = (x : ℕ) → p x ≡ true → q x ≡ true

shorter : (p q : ℕ → Bool) → Implied p q → (xs : List ℕ) → length (filter p xs) ≤ length (filter q xs)
shorter p q implied [] = omega arith
shorter p q implied (x ∷ xs) = by_tests (shorter p q implied xs) (p x) (q x) refl refl
  where
    by_tests : length (filter p xs) ≤ length (filter q xs) → (s t : Bool) → p x ≡ s → q x ≡ t → length (cond s (x ∷ filter p xs) (filter p xs)) ≤ length (cond t (x ∷ filter q xs) (filter q xs))
    by_tests rest true true e k = omega arith
    by_tests rest true false e k = absurd (let yes = implied x e in cc)
    by_tests rest false true e k = omega arith
    by_tests rest false false e k = rest

-- fewer pass where one that passes the other test does not pass this
pub fewer_pass : (p q : ℕ → Bool) → Implied p q → (y : ℕ) → p y ≡ false → (xs : List ℕ) → IsIn y (filter q xs) → length (filter p xs) < length (filter q xs)
fewer_pass p q implied y gone [] = λ h. absurd h
fewer_pass p q implied y gone (x ∷ xs) = by_tests (fewer_pass p q implied y gone xs) (p x) (q x) refl refl
  where
    by_tests : (IsIn y (filter q xs) → length (filter p xs) < length (filter q xs)) → (s t : Bool) → p x ≡ s → q x ≡ t
        → IsIn y (cond t (x ∷ filter q xs) (filter q xs)) → length (cond s (x ∷ filter p xs) (filter p xs)) < length (cond t (x ∷ filter q xs) (filter q xs))
    by_tests rest true true e k h = elim h [ inl same ↦ absurd (let other = sym gone ∙ (ap p same ∙ e) in cc) | inr later ↦ let fewer = rest later in omega arith ]
    by_tests rest true false e k h = absurd (let yes = implied x e in cc)
    by_tests rest false true e k h = let most = shorter p q implied xs in omega arith
    by_tests rest false false e k h = rest h

-- it is settled whether a number is in a list
pub in_or_not : (y : ℕ) (xs : List ℕ) → IsIn y xs ⊎ (IsIn y xs → ⊥)
in_or_not y [] = inr (λ h. h)
in_or_not y (x ∷ xs) = elim (eqb_tells y x) [
  | inl same ↦ inl (inl same.1)
  | inr apart ↦ elim (in_or_not y xs) [ inl h ↦ inl (inr h) | inr beyond ↦ inr (λ h. elim h [ inl e ↦ apart.1 e | inr later ↦ beyond later ]) ]
]

-- ---- what is left of the variables

-- a variable of the list that the formula has is left
pub is_left : (vars : List ℕ) (f : Formula) (y : ℕ) → IsIn y vars → Has y f → IsIn y (remaining vars f)
is_left vars f y h has = filter_in (λ x. occurs x f) y vars h ((occurs_is_has y f).1 has)

pub left_in : (vars : List ℕ) (f : Formula) (y : ℕ) → IsIn y (remaining vars f) → IsIn y vars × Has y f
left_in vars f y h = let w = in_filter (λ x. occurs x f) y vars h in (w.0, (occurs_is_has y f).0 w.1)

-- where g has no further variable, and not the variable x that f has, fewer are left of g
pub fewer_left : (vars : List ℕ) (f g : Formula) (x : ℕ) → IsIn x (remaining vars f) → ((y : ℕ) → Has y g → Has y f × (y ≢ x)) → length (remaining vars g) < length (remaining vars f)
fewer_left vars f g x h fewer = fewer_pass (λ y. occurs y g) (λ y. occurs y f) implied x gone vars h
  where
    implied : (y : ℕ) → occurs y g ≡ true → occurs y f ≡ true
    implied y e = (occurs_is_has y f).1 (fewer y ((occurs_is_has y g).0 e)).0

    gone : occurs x g ≡ false
    gone = elim (occurs x g) as (λ b. occurs x g ≡ b → b ≡ false) [ true ↦ λ e. absurd ((fewer x ((occurs_is_has x g).0 e)).1 refl) | false ↦ λ e. refl ] refl
