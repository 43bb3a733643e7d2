-- No formula is both true and false at a point; without quantifiers, or where excluded middle holds of truth, it is one of the two.
use Rattle.std.proofs.Common.{Bool, true, false, ◌≡◌, ◌⊎◌, inl, inr, refl, ◌∷◌, arith}
use Rattle.qe_tower.specs.Number.{sign_of}
use Rattle.qe_tower.specs.Point.{Point}
use Rattle.qe_form.specs.Formula.{Formula, Formulas, True, False, Atom, And, Or, Not, Implies, Iff, Ex, All, no_more, more}
use Rattle.qe_form.specs.Value.{value}
use Rattle.qe_form.specs.Truth.{has_sign, Is, EachIs, SomeIs}
use Rattle.qe_form.specs.Same.{HasNoQuantifier, HaveNoQuantifier}
use Rattle.qe_form.specs.Laws.{IsSettled}

true-ne-false : {b : Bool} → b ≡ true → b ≡ false → ⊥
true-ne-false p q = grind arith

mutual
  pub never_both : (f : Formula) (p : Point) → Is f true p → Is f false p → ⊥
  never_both True p t e = grind arith
  never_both False p t e = grind arith
  never_both (Atom a) p t e = true-ne-false t e
  never_both (And fs) p t e = each_clash fs p t e
  never_both (Or fs) p t e = some_clash fs p t e
  never_both (Not f) p t e = never_both f p e t
  never_both (Implies f g) p t e = elim t [ inl x ↦ never_both f p e.0 x | inr y ↦ never_both g p y e.1 ]
  never_both (Iff f g) p t e =
      elim t [
        | inl x ↦ elim e [ inl y ↦ never_both g p x.1 y.1 | inr y ↦ never_both f p x.0 y.0 ]
        | inr x ↦ elim e [ inl y ↦ never_both f p y.0 x.0 | inr y ↦ never_both g p y.1 x.1 ]
      ]
  never_both (Ex x f) p t e = never_both f _ t.2 (e t.0 t.1)
  never_both (All x f) p t e = never_both f _ (t e.0 e.1) e.2

  pub each_clash : (fs : Formulas) (p : Point) → EachIs fs true p → SomeIs fs false p → ⊥
  each_clash no_more p t e = e
  each_clash (more f fs) p t e = elim e [ inl x ↦ never_both f p t.0 x | inr y ↦ each_clash fs p t.1 y ]

  pub some_clash : (fs : Formulas) (p : Point) → SomeIs fs true p → EachIs fs false p → ⊥
  some_clash no_more p t e = t
  some_clash (more f fs) p t e = elim t [ inl x ↦ never_both f p x e.0 | inr y ↦ some_clash fs p y e.1 ]

bool_cases : (b : Bool) → (b ≡ true) ⊎ (b ≡ false)
bool_cases true = inl refl
bool_cases false = inr refl

-- ---- how the sides of a formula follow from those of its parts

abbrev Side : Formula → Point → Type 0
Side f p = Is f true p ⊎ Is f false p

implies_side : (f g : Formula) (p : Point) → Side f p → Side g p → Side (Implies f g) p
implies_side f g p a b =
    elim a [
      | inl x ↦ elim b [ inl y ↦ inl (inr y) | inr y ↦ inr (x, y) ]
      | inr x ↦ inl (inl x)
    ]

iff_side : (f g : Formula) (p : Point) → Side f p → Side g p → Side (Iff f g) p
iff_side f g p a b =
    elim a [
      | inl x ↦ elim b [ inl y ↦ inl (inl (x, y)) | inr y ↦ inr (inl (x, y)) ]
      | inr x ↦ elim b [ inl y ↦ inr (inr (x, y)) | inr y ↦ inl (inr (x, y)) ]
    ]

not_side : (f : Formula) (p : Point) → Side f p → Side (Not f) p
not_side f p a = elim a [ inl x ↦ inr x | inr y ↦ inl y ]

each_side : (f : Formula) (fs : Formulas) (p : Point) → Side f p → EachIs fs true p ⊎ SomeIs fs false p → EachIs (more f fs) true p ⊎ SomeIs (more f fs) false p
each_side f fs p a b =
    elim a [
      | inl x ↦ elim b [ inl y ↦ inl (x, y) | inr y ↦ inr (inr y) ]
      | inr x ↦ inr (inl x)
    ]

some_side : (f : Formula) (fs : Formulas) (p : Point) → Side f p → SomeIs fs true p ⊎ EachIs fs false p → SomeIs (more f fs) true p ⊎ EachIs (more f fs) false p
some_side f fs p a b =
    elim a [
      | inl x ↦ inl (inl x)
      | inr x ↦ elim b [ inl y ↦ inl (inr y) | inr y ↦ inr (x, y) ]
    ]

mutual
  pub decided : (f : Formula) → HasNoQuantifier f → (p : Point) → Is f true p ⊎ Is f false p
  decided True h p = inl refl
  decided False h p = inr refl
  decided (Atom a) h p = bool_cases (has_sign a.signs (sign_of (value a.poly p)))
  decided (And fs) h p = decided_each fs h p
  decided (Or fs) h p = decided_some fs h p
  decided (Not f) h p = not_side f p (decided f h p)
  decided (Implies f g) h p = implies_side f g p (decided f h.0 p) (decided g h.1 p)
  decided (Iff f g) h p = iff_side f g p (decided f h.0 p) (decided g h.1 p)
  decided (Ex x f) h p = absurd h
  decided (All x f) h p = absurd h

  decided_each : (fs : Formulas) → HaveNoQuantifier fs → (p : Point) → EachIs fs true p ⊎ SomeIs fs false p
  decided_each no_more h p = inl tt
  decided_each (more f fs) h p = each_side f fs p (decided f h.0 p) (decided_each fs h.1 p)

  decided_some : (fs : Formulas) → HaveNoQuantifier fs → (p : Point) → SomeIs fs true p ⊎ EachIs fs false p
  decided_some no_more h p = inr tt
  decided_some (more f fs) h p = some_side f fs p (decided f h.0 p) (decided_some fs h.1 p)

module _ (settled : (f : Formula) (p : Point) → IsSettled f p) where
  mutual
    pub classical : (f : Formula) (p : Point) → Is f true p ⊎ Is f false p
    classical True p = inl refl
    classical False p = inr refl
    classical (Atom a) p = bool_cases (has_sign a.signs (sign_of (value a.poly p)))
    classical (And fs) p = classical_each fs p
    classical (Or fs) p = classical_some fs p
    classical (Not f) p = not_side f p (classical f p)
    classical (Implies f g) p = implies_side f g p (classical f p) (classical g p)
    classical (Iff f g) p = iff_side f g p (classical f p) (classical g p)
    classical (Ex x f) p =
        elim (settled (Ex x f) p) [
          | inl t ↦ inl t
          | inr n ↦ inr (λ v k. elim (classical f ((x, v) ∷ p)) [ inl t ↦ absurd (n (v, k, t)) | inr e ↦ e ])
        ]
    classical (All x f) p =
        elim (settled (Ex x (Not f)) p) [
          | inl t ↦ inr t
          | inr n ↦ inl (λ v k. elim (classical f ((x, v) ∷ p)) [ inl t ↦ t | inr e ↦ absurd (n (v, k, e)) ])
        ]

    classical_each : (fs : Formulas) (p : Point) → EachIs fs true p ⊎ SomeIs fs false p
    classical_each no_more p = inl tt
    classical_each (more f fs) p = each_side f fs p (classical f p) (classical_each fs p)

    classical_some : (fs : Formulas) (p : Point) → SomeIs fs true p ⊎ EachIs fs false p
    classical_some no_more p = inr tt
    classical_some (more f fs) p = some_side f fs p (classical f p) (classical_some fs p)
