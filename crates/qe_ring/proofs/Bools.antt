-- Facts on `Bool`: tests that hold, and tests that tell whether a statement holds.
use Rattle.std.proofs.Common.{ℕ, ◌≡◌, refl, sym, subst, ◌∙◌, ◌⊎◌, inl, inr, ◌↔◌, Bool, true, false, ◌&&◌, ◌||◌, eqb, T}
use Rattle.std.specs.Prelude.{IsTrue}
use Rattle.std.proofs.lemmas.Bool.{eq-eqb, eqb-true}

-- a test that fails does not hold
pub no_way : {A : Type 0} → false ≡ true → A
no_way holds = absurd (subst T (sym holds) tt)

-- where both hold each does
pub both_hold : (a b : Bool) → (a && b) ≡ true → (a ≡ true) × (b ≡ true)
both_hold true b holds = (refl, holds)
both_hold false b holds = no_way holds

-- where not both hold one fails
pub one_fails : (a b : Bool) → (a && b) ≡ false → (a ≡ false) ⊎ (b ≡ false)
one_fails true b fails = inr fails
one_fails false b fails = inl refl

-- where one of two holds, and where neither does
pub one_holds : (a b : Bool) → (a || b) ≡ true → (a ≡ true) ⊎ (b ≡ true)
one_holds true b holds = inl refl
one_holds false b holds = inr holds

pub neither : (a b : Bool) → (a || b) ≡ false → (a ≡ false) × (b ≡ false)
neither true b fails = absurd (cc)
neither false b fails = (refl, fails)

pub both_fail : (a b : Bool) → a ≡ false → b ≡ false → (a || b) ≡ false
both_fail a b first second = (λ i. first i || b) ∙ second

-- the same of tests as statements
pub and_left : (a b : Bool) → T (a && b) → T a
and_left true b h = tt
and_left false b h = h

pub and_right : (a b : Bool) → T (a && b) → T b
and_right true b h = h
and_right false b h = absurd h

-- ---- what a test tells

pub either_tells : (a b : Bool) {A B : Type 0} → IsTrue a ↔ A → IsTrue b ↔ B → IsTrue (a || b) ↔ (A ⊎ B)
either_tells true b first second = ((λ t. inl (first.0 refl)), (λ h. refl))
either_tells false b first second = ((λ t. inr (second.0 t)), (λ h. elim h [ inl x ↦ absurd (let e = first.1 x in cc) | inr y ↦ second.1 y ]))

pub never_tells : IsTrue false ↔ ⊥
never_tells = ((λ t. absurd (cc)), (λ h. absurd h))

pub number_tells : (a b : ℕ) → IsTrue (eqb a b) ↔ (a ≡ b)
number_tells a b = (eqb-true a b, eq-eqb a b)

-- a test of what does not hold fails
pub fails : (a : Bool) {A : Type 0} → IsTrue a ↔ A → (A → ⊥) → a ≡ false
fails true tells none = absurd (none (tells.0 refl))
fails false tells none = refl
